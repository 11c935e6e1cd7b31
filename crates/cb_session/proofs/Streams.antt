-- A line read byte by byte is the first line of the stream.
use Rattle.std.proofs.Common.{◌≡◌, ◌≢◌, ℕ, suc, ◌+◌, ◌<◌, ◌≤◌, Bool, true, false, cond, not, List}
use Rattle.std.proofs.Common.{[], ◌∷◌, ◌++◌, length, take, drop, Option, Some, None, Result, Ok}
use Rattle.std.proofs.Common.{Err, refl, sym, ap, ◌∙◌, subst, arith, nat_lt, nat_le, min}
use Rattle.std.proofs.Common.{append_assoc, append-nil}
use Rattle.std.proofs.lemmas.Bool.Decides.{nat_tests}
use Rattle.std.specs.Prelude.{IsErrAnd}
use Rattle.std.specs.List.{position_or_len, before_first, after_first}
use Rattle.std.proofs.lemmas.List.{take_all, drop_all, take-append-le, length-append, length-take}
use Rattle.std.proofs.Math.Seq.{take-append_seam, take-length, drop-append_seam, drop-append-add}
use Rattle.std.specs.Io.KnownBytes.{Consumes, IsAtEnd}
use Rattle.cb_desk.specs.declared.change.Refusal.TheVariants.{LineTooLong}
use Rattle.cb_tags.specs.declared.feed.ReadFault.{ReadFault}
use Rattle.cb_tags.specs.declared.feed.Stage.TheVariants.{Failed}
use Rattle.cb_session.specs.declared.input.Fault.{Fault}
use Rattle.cb_session.specs.declared.input.Fault.TheVariants.{LongLine, Read}
use Rattle.cb_session.specs.declared.input.LineRead.{LineRead}
use Rattle.cb_session.specs.declared.input.LineRead.TheVariants.{End, Line, Long}
use Rattle.cb_session.specs.declared.input.TheConstants.{MOST_LINE}
use Rattle.cb_tags.specs.Readers.{Reader, GivesByte, HasRead, WhateverFollows, leaving}
use Rattle.cb_session.specs.Commands.{short_line}
use Rattle.cb_session.specs.Inputs.{is_line_feed, first, with_block, line_asks}
use Rattle.cb_session.specs.Requests.{whole, refused, overlong}
use Rattle.cb_session.specs.steps.Lines.{ReadsLine, line_of_length}
use Rattle.cb_tags.proofs.Follows.{HasRead-trans, Follows-ended, Follows-failed}

-- no line feed is among the bytes
abbrev pub IsPlain : List ℕ → Type 0
IsPlain [] = Unit {0}
IsPlain (b ∷ bs) = (is_line_feed b ≡ false) × IsPlain bs

pub IsPlain-push : (xs : List ℕ) (b : ℕ) → IsPlain xs → is_line_feed b ≡ false
    → IsPlain (xs ++ b ∷ [])
IsPlain-push [] b p q = (q, tt)
IsPlain-push (x ∷ xs) b p q = (p.0, IsPlain-push xs b p.1 q)

-- plain bytes before a line feed, or alone, have it at their end
line_feed_place : (xs rest : List ℕ) → IsPlain xs
    → position_or_len is_line_feed (xs ++ 10 ∷ rest) ≡ length xs
line_feed_place [] rest p = refl
line_feed_place (x ∷ xs) rest p =
    subst (λ b.
    cond (not b) (1 + position_or_len is_line_feed (xs ++ 10 ∷ rest)) 0 ≡ suc (length xs)) (sym p.0)
    (let e = line_feed_place xs rest p.1 in omega (arith, e))

no_line_feed : (xs : List ℕ) → IsPlain xs → position_or_len is_line_feed xs ≡ length xs
no_line_feed [] p = refl
no_line_feed (x ∷ xs) p =
    subst (λ b. cond (not b) (1 + position_or_len is_line_feed xs) 0 ≡ suc (length xs)) (sym p.0)
    (let e = no_line_feed xs p.1 in omega (arith, e))

before_line_feed : (xs rest : List ℕ) → IsPlain xs
    → before_first is_line_feed (xs ++ 10 ∷ rest) ≡ xs
before_line_feed xs rest p =
    ap (λ n. take n (xs ++ 10 ∷ rest)) (line_feed_place xs rest p) ∙ take-append_seam xs (10 ∷ rest)

after_line_feed : (xs rest : List ℕ) → IsPlain xs
    → after_first is_line_feed (xs ++ 10 ∷ rest) ≡ rest
after_line_feed xs rest p =
    ap (λ n. drop (n + 1) (xs ++ 10 ∷ rest)) (line_feed_place xs rest p)
    ∙ drop-append-add xs (10 ∷ rest) 1

-- the first request of a stream that begins with a line, and of one that is a line without its line
-- feed
first_nonempty : (limit : ℕ) (xs : List ℕ) → xs ≢ []
    → first limit xs
    ≡ with_block (line_asks limit (before_first is_line_feed xs)) (after_first is_line_feed xs)
unfolding first
first_nonempty limit [] h = absurd (h refl)
first_nonempty limit (x ∷ xs) h = refl

nonempty : (xs rest : List ℕ) → xs ++ 10 ∷ rest ≢ []
nonempty [] rest = λ e. cc
nonempty (x ∷ xs) rest = λ e. cc

pub first_line : (limit : ℕ) (bytes xs rest : List ℕ) → IsPlain xs → bytes ≡ (xs ++ 10 ∷ []) ++ rest
    → first limit bytes ≡ with_block (line_asks limit xs) rest
first_line limit bytes xs rest p e =
    let same : bytes ≡ xs ++ 10 ∷ rest = e ∙ append_assoc xs (10 ∷ []) rest in
    let parts = first_nonempty limit (xs ++ 10 ∷ rest) (nonempty xs rest) in
    ap (first limit) same ∙ parts
    ∙ ap (λ line. with_block (line_asks limit line) (after_first is_line_feed (xs ++ 10 ∷ rest)))
    (before_line_feed xs rest p)
    ∙ ap (with_block (line_asks limit xs)) (after_line_feed xs rest p)

pub last_line : (limit : ℕ) (xs : List ℕ) → IsPlain xs → xs ≢ []
    → first limit xs ≡ with_block (line_asks limit xs) []
last_line limit xs p h =
    let at = no_line_feed xs p in
    first_nonempty limit xs h
    ∙ ap (λ line. with_block (line_asks limit line) (after_first is_line_feed xs))
    (ap (λ n. take n xs) at ∙ take-length xs)
    ∙ ap (with_block (line_asks limit xs))
    (ap (λ n. drop (n + 1) xs) at ∙ drop_all (length xs + 1) xs (omega arith))

-- so many bytes of a line were read, and as many of them kept as a command may have
pub record Seen (old new : Reader) (line : List ℕ) (read : ℕ) : Type 0 where
  pub bytes : List ℕ
  pub plain : IsPlain bytes
  pub count : length bytes ≡ read
  pub taken : HasRead old new bytes
  pub kept : line ≡ take MOST_LINE bytes

plain_byte : (b : ℕ) → b ≢ 10 → is_line_feed b ≡ false
plain_byte b h = grind (arith, nat_tests)

-- one byte more, which is kept where there is room
kept_byte : (m b : ℕ) (line bytes : List ℕ) → line ≡ take m bytes → length line < m
    → line ++ b ∷ [] ≡ take m (bytes ++ b ∷ [])
kept_byte m b line bytes e h =
    let size : length line ≡ min m (length bytes) = ap length e ∙ length-take m bytes in
    let short : length bytes < m = omega (arith, size) in
    let all : take m bytes ≡ bytes = take_all m bytes (omega arith) in
    let more : take m (bytes ++ b ∷ []) ≡ bytes ++ b ∷ [] =
    take_all m (bytes ++ b ∷ []) (omega (arith, length-append bytes (b ∷ []))) in
    ap (λ l. l ++ b ∷ []) (e ∙ all) ∙ sym more

left_byte : (m b : ℕ) (line bytes : List ℕ) → line ≡ take m bytes → m ≤ length line
    → line ≡ take m (bytes ++ b ∷ [])
left_byte m b line bytes e h =
    let size : length line ≡ min m (length bytes) = ap length e ∙ length-take m bytes in
    e ∙ sym (take-append-le m bytes (b ∷ []) (omega (arith, size)))

Seen-kept : (a b c : Reader) (line next : List ℕ) (read byte : ℕ) → Seen a b line read
    → HasRead b c (byte ∷ []) → byte ≢ 10
    → length line < MOST_LINE → next ≡ line ++ byte ∷ [] → Seen a c next (read + 1)
Seen-kept a b c line next read byte s t p h e = record {
  bytes = s.bytes ++ byte ∷ [];
  plain = IsPlain-push s.bytes byte s.plain (plain_byte byte p);
  count = omega (arith, length-append s.bytes (byte ∷ []), s.count);
  taken = HasRead-trans a b c s.bytes (byte ∷ []) s.taken t;
  kept = e ∙ kept_byte MOST_LINE byte line s.bytes s.kept h;
}

Seen-left : (a b c : Reader) (line : List ℕ) (read byte : ℕ) → Seen a b line read
    → HasRead b c (byte ∷ []) → byte ≢ 10
    → MOST_LINE ≤ length line → Seen a c line (read + 1)
Seen-left a b c line read byte s t p h = record {
  bytes = s.bytes ++ byte ∷ [];
  plain = IsPlain-push s.bytes byte s.plain (plain_byte byte p);
  count = omega (arith, length-append s.bytes (byte ∷ []), s.count);
  taken = HasRead-trans a b c s.bytes (byte ∷ []) s.taken t;
  kept = left_byte MOST_LINE byte line s.bytes s.kept h;
}

-- one byte more, which was kept or left
pub Seen-more : (a b c : Reader) (line next : List ℕ) (read byte : ℕ) → Seen a b line read
    → HasRead b c (byte ∷ []) → byte ≢ 10
    → (length line < MOST_LINE → next ≡ line ++ byte ∷ []) → (MOST_LINE ≤ length line → next ≡ line)
    → Seen a c next (read + 1)
Seen-more a b c line next read byte s t p kept left =
    let Q : Bool → Type 0 = λ v. nat_lt (length line) MOST_LINE ≡ v → Seen a c next (read + 1) in
    let f : (v : Bool) → Q v = λ v. elim v as Q [
      | true ↦ λ q. let h : length line < MOST_LINE = grind (arith, nat_tests) in
          Seen-kept a b c line next read byte s t p h (kept h)
      | false ↦ λ q. let h : MOST_LINE ≤ length line = grind (arith, nat_tests) in
          subst (λ l. Seen a c l (read + 1)) (sym (left h)) (Seen-left a b c line read byte s t p h)
    ] in
    f (nat_lt (length line) MOST_LINE) refl

-- what is answered of a line with so many bytes
answered : (limit : ℕ) (bytes line xs rest : List ℕ) (new : Reader)
    → first limit bytes ≡ with_block (line_asks limit xs) rest → new.bytes ≡ Some rest
    → length xs ≤ limit → line ≡ take MOST_LINE xs
    → ReadsLine limit bytes new line (Ok (line_of_length (length xs)))
answered limit bytes line xs rest new e r h k =
    let within : nat_lt limit (length xs) ≡ false = grind (arith, nat_tests) in
    let Q : Bool → Type 0 = λ b. nat_le (length xs) MOST_LINE ≡ b
    → ReadsLine limit bytes new line (Ok (cond b Line Long)) in
    let f : (b : Bool) → Q b = λ b. elim b as Q [
      | true ↦ λ t.
          let short : length xs ≤ MOST_LINE = grind (arith, nat_tests) in
          let all : line ≡ xs = k ∙ take_all MOST_LINE xs short in
          let test : nat_lt MOST_LINE (length xs) ≡ false = grind (arith, nat_tests) in
          let asks : line_asks limit xs ≡ short_line limit xs =
          ap (λ b. cond b (whole overlong) (cond (nat_lt MOST_LINE (length xs))
          (whole (refused LineTooLong)) (short_line limit xs))) within
          ∙ ap (λ b. cond b (whole (refused LineTooLong)) (short_line limit xs)) test in
          (rest, e ∙ ap (λ l. with_block l rest) (asks ∙ ap (short_line limit) (sym all)), r)
      | false ↦ λ t.
          let test : nat_lt MOST_LINE (length xs) ≡ true = grind (arith, nat_tests) in
          let asks : line_asks limit xs ≡ whole (refused LineTooLong) =
          ap (λ b. cond b (whole overlong) (cond (nat_lt MOST_LINE (length xs))
          (whole (refused LineTooLong)) (short_line limit xs))) within
          ∙ ap (λ b. cond b (whole (refused LineTooLong)) (short_line limit xs)) test in
          (rest, e ∙ ap (λ l. with_block l rest) asks, r)
    ] in
    f (nat_le (length xs) MOST_LINE) refl

-- known bytes that were consumed are a prefix of what was known
Consumes-known : (old new : Option (List ℕ)) (bs xs : List ℕ) → Consumes old new bs → old ≡ Some xs
    → (ys : List ℕ) × (new ≡ Some ys) × (xs ≡ bs ++ ys)
Consumes-known None new bs xs p e = cc
Consumes-known (Some a) None bs xs p e = absurd p
Consumes-known (Some a) (Some b) bs xs p e = (b, refl, cc)

-- a line that its line feed ends
fed : (limit : ℕ) (line rest : List ℕ) (old mid left : Reader) (read : ℕ)
    → (s : Seen old mid line read) → left.bytes ≡ Some rest → read ≤ limit
    → ReadsLine limit ((s.bytes ++ 10 ∷ []) ++ rest) left line (Ok (line_of_length read))
fed limit line rest old mid left read s e h =
    let bytes = (s.bytes ++ 10 ∷ []) ++ rest in
    subst (λ n. ReadsLine limit bytes left line (Ok (line_of_length n))) s.count
    (answered limit bytes line s.bytes rest left
    (first_line limit bytes s.bytes rest s.plain refl) e (omega (arith, s.count)) s.kept)

pub ReadsLine-line_feed : (limit : ℕ) (bytes line : List ℕ) (old mid new : Reader) (read : ℕ)
    → Seen old mid line read → HasRead mid new (10 ∷ [])
    → read ≤ limit → old.bytes ≡ Some bytes
    → ReadsLine limit bytes new line (Ok (line_of_length read))
ReadsLine-line_feed limit bytes line old mid new read s t h e =
    let k = Consumes-known old.bytes new.bytes (s.bytes ++ 10 ∷ []) bytes
    (HasRead-trans old mid new s.bytes (10 ∷ []) s.taken t).0 e in
    subst (λ l. ReadsLine limit l new line (Ok (line_of_length read))) (sym k.2)
    (fed limit line k.0 old mid new read s k.1 h)

pub Follows-line_feed : (limit : ℕ) (line : List ℕ) (old mid new : Reader) (read : ℕ)
    → Seen old mid line read → HasRead mid new (10 ∷ []) → read ≤ limit
    → WhateverFollows old new
    (λ bytes left. ReadsLine limit bytes left line (Ok (line_of_length read)))
Follows-line_feed limit line old mid new read s t h = (
  s.bytes ++ 10 ∷ [],
  HasRead-trans old mid new s.bytes (10 ∷ []) s.taken t,
  λ rest m. fed limit line rest old mid (leaving new rest) read s refl h,
)

-- the bytes that were read up to the end of input are all
all_seen : (bytes line : List ℕ) (old mid : Reader) (read : ℕ) → (s : Seen old mid line read)
    → IsAtEnd mid.bytes → old.bytes ≡ Some bytes → bytes ≡ s.bytes
all_seen bytes line old mid read s t e =
    let k = Consumes-known old.bytes mid.bytes s.bytes bytes s.taken.0 e in
    let none : k.0 ≡ [] = subst IsAtEnd k.1 t in
    k.2 ∙ ap (λ l. s.bytes ++ l) none ∙ append-nil s.bytes

no_bytes : (xs : List ℕ) → length xs ≡ 0 → xs ≡ []
no_bytes [] h = refl
no_bytes (x ∷ xs) h = absurd (omega arith)

-- a line that the end of input ends
unfed : (limit : ℕ) (line : List ℕ) (old mid left : Reader) (read : ℕ)
    → (s : Seen old mid line read) → left.bytes ≡ Some [] → read ≢ 0 → read ≤ limit
    → ReadsLine limit s.bytes left line (Ok (line_of_length read))
unfed limit line old mid left read s e z h =
    let some : s.bytes ≢ [] = λ none. z (sym s.count ∙ ap length none) in
    subst (λ n. ReadsLine limit s.bytes left line (Ok (line_of_length n))) s.count
    (answered limit s.bytes line s.bytes [] left (last_line limit s.bytes s.plain some) e
    (omega (arith, s.count)) s.kept)

pub ReadsLine-end : (limit : ℕ) (bytes line : List ℕ) (old mid new : Reader) (read : ℕ)
    → Seen old mid line read → IsAtEnd mid.bytes
    → new.bytes ≡ Some [] → read ≢ 0 → read ≤ limit → old.bytes ≡ Some bytes
    → ReadsLine limit bytes new line (Ok (line_of_length read))
ReadsLine-end limit bytes line old mid new read s t n z h e =
    subst (λ l. ReadsLine limit l new line (Ok (line_of_length read)))
    (sym (all_seen bytes line old mid read s t e)) (unfed limit line old mid new read s n z h)

pub Follows-line_end : (limit : ℕ) (line : List ℕ) (old mid new : Reader) (read : ℕ)
    → Seen old mid line read → GivesByte mid new (Ok None) → read ≢ 0
    → read ≤ limit → WhateverFollows old new
    (λ bytes left. ReadsLine limit bytes left line (Ok (line_of_length read)))
Follows-line_end limit line old mid new read s k z h =
    Follows-ended old mid new s.bytes (λ bytes left. ReadsLine limit bytes left line
    (Ok (line_of_length read))) s.taken k
    (unfed limit line old mid (leaving new []) read s refl z h)

-- no line, since the input is at its end
pub ReadsLine-none : (limit : ℕ) (bytes line : List ℕ) (old mid new : Reader) (read : ℕ)
    → Seen old mid line read → IsAtEnd mid.bytes
    → new.bytes ≡ Some [] → read ≡ 0 → old.bytes ≡ Some bytes
    → ReadsLine limit bytes new line (Ok End)
unfolding first
ReadsLine-none limit bytes line old mid new read s t n z e =
    (ap (first limit) (all_seen bytes line old mid read s t e ∙ no_bytes s.bytes (s.count ∙ z)), n)

pub Follows-no_line : (limit : ℕ) (line : List ℕ) (old mid new : Reader) (read : ℕ)
    → Seen old mid line read → GivesByte mid new (Ok None) → read ≡ 0
    → WhateverFollows old new (λ bytes left. ReadsLine limit bytes left line (Ok End))
unfolding first
Follows-no_line limit line old mid new read s k z =
    Follows-ended old mid new s.bytes
    (λ bytes left. ReadsLine limit bytes left line (Ok End)) s.taken k
    (ap (first limit) (no_bytes s.bytes (s.count ∙ z)), refl)

-- plain bytes at the start come before the first line feed
plain_prefix : (xs ys : List ℕ) → IsPlain xs → length xs ≤ position_or_len is_line_feed (xs ++ ys)
plain_prefix [] ys p = omega arith
plain_prefix (x ∷ xs) ys p =
    subst (λ b. suc (length xs) ≤ cond (not b) (1 + position_or_len is_line_feed (xs ++ ys)) 0)
    (sym p.0)
    (let e = plain_prefix xs ys p.1 in omega (arith, e))

nonempty_push : (xs ys : List ℕ) (b : ℕ) → (xs ++ b ∷ []) ++ ys ≢ []
nonempty_push [] ys b = λ e. cc
nonempty_push (x ∷ xs) ys b = λ e. cc

-- a line that is too long for the run
over : (limit : ℕ) (line rest : List ℕ) (old mid : Reader) (byte : ℕ)
    → (s : Seen old mid line limit) → byte ≢ 10
    → (first limit ((s.bytes ++ byte ∷ []) ++ rest)).request ≡ overlong
over limit line rest old mid byte s h =
    let seen = s.bytes ++ byte ∷ [] in
    let all = seen ++ rest in
    let at = position_or_len is_line_feed all in
    let plain : IsPlain seen = IsPlain-push s.bytes byte s.plain (plain_byte byte h) in
    let far : length seen ≤ at = plain_prefix seen rest plain in
    let size : length seen ≡ limit + 1 =
    omega (arith, length-append s.bytes (byte ∷ []), s.count) in
    let within : length seen ≤ length all = omega (arith, length-append seen rest) in
    let long : length (take at all) ≡ min at (length all) = length-take at all in
    let over : limit < length (take at all) = omega (arith, far, size, within, long) in
    let test : nat_lt limit (length (take at all)) ≡ true = grind (arith, nat_tests) in
    let parts = first_nonempty limit all (nonempty_push s.bytes rest byte) in
    ap (λ f. f.request) parts
    ∙ ap (λ b. (with_block (cond b (whole overlong)
    (cond (nat_lt MOST_LINE (length (take at all))) (whole (refused LineTooLong))
    (short_line limit (take at all)))) (after_first is_line_feed all)).request) test

pub first_overlong : (limit : ℕ) (bytes line : List ℕ) (old mid new : Reader) (byte : ℕ)
    → Seen old mid line limit → HasRead mid new (byte ∷ []) → byte ≢ 10
    → old.bytes ≡ Some bytes → (first limit bytes).request ≡ overlong
first_overlong limit bytes line old mid new byte s t h e =
    let k = Consumes-known old.bytes new.bytes (s.bytes ++ byte ∷ []) bytes
    (HasRead-trans old mid new s.bytes (byte ∷ []) s.taken t).0 e in
    ap (λ l. (first limit l).request) k.2 ∙ over limit line k.0 old mid byte s h

pub Follows-overlong : (limit : ℕ) (line : List ℕ) (old mid new : Reader) (byte : ℕ)
    → Seen old mid line limit → HasRead mid new (byte ∷ []) → byte ≢ 10
    → WhateverFollows old new (λ bytes left. ReadsLine limit bytes left line (Err LongLine))
Follows-overlong limit line old mid new byte s t h = (
  s.bytes ++ byte ∷ [],
  HasRead-trans old mid new s.bytes (byte ∷ []) s.taken t,
  λ rest m. over limit line rest old mid byte s h,
)

-- a line that a fault of the reader cuts
line_failed : (limit : ℕ) (bytes line : List ℕ) (left : Reader) (r : Result LineRead Fault)
    → IsErrAnd r (λ fault. fault ≡ Read) → left.stage ≡ Failed
    → ReadsLine limit bytes left line r
line_failed limit bytes line left (Ok x) e s = absurd e
line_failed limit bytes line left (Err fault) e s =
    subst (λ k. ReadsLine limit bytes left line (Err k)) (sym e) s

pub Follows-line_failed : (limit : ℕ) (line : List ℕ) (old mid new : Reader) (read : ℕ)
    (fault : ReadFault) (r : Result LineRead Fault) → Seen old mid line read
    → GivesByte mid new (Err fault) → IsErrAnd r (λ fault. fault ≡ Read)
    → WhateverFollows old new (λ bytes left. ReadsLine limit bytes left line r)
Follows-line_failed limit line old mid new read fault r s k e =
    Follows-failed old mid new s.bytes fault
    (λ bytes left. ReadsLine limit bytes left line r) s.taken k
    (λ bytes left failed. line_failed limit bytes line left r e failed)

-- a block that was read
filled : (block rest : List ℕ) (count : ℕ) → length block ≡ count
    → (count ≤ length (block ++ rest)) × (block ≡ take count (block ++ rest))
    × (Some rest ≡ Some (drop count (block ++ rest)))
filled block rest count n =
    let front : take count (block ++ rest) ≡ block =
    subst (λ m. take m (block ++ rest) ≡ block) n (take-append_seam block rest) in
    let after : drop count (block ++ rest) ≡ rest =
    subst (λ m. drop m (block ++ rest) ≡ rest) n (drop-append_seam block rest) in
    (omega (arith, length-append block rest), sym front, ap Some (sym after))

pub ReadsBlock-whole : (old new : Option (List ℕ)) (block bytes : List ℕ) (count : ℕ)
    → Consumes old new block → length block ≡ count → old ≡ Some bytes
    → (count ≤ length bytes) × (block ≡ take count bytes) × (new ≡ Some (drop count bytes))
ReadsBlock-whole old new block bytes count t n e =
    let k = Consumes-known old new block bytes t e in
    let f = filled block k.0 count n in (
      omega (arith, ap length k.2, f.0),
      f.1 ∙ sym (ap (take count) k.2),
      k.1 ∙ f.2 ∙ ap Some (sym (ap (drop count) k.2)),
    )

pub Follows-block : (old new : Reader) (block : List ℕ) (count : ℕ) → HasRead old new block
    → length block ≡ count
    → WhateverFollows old new (λ bytes left. (count ≤ length bytes) × (block ≡ take count bytes)
    × (left.bytes ≡ Some (drop count bytes)))
Follows-block old new block count h n = (block, h, λ rest m. filled block rest count n)

-- a block that the input does not fill
pub ReadsBlock-cut : (old mid : Option (List ℕ)) (block bytes : List ℕ) → Consumes old mid block
    → IsAtEnd mid → old ≡ Some bytes → bytes ≡ block
ReadsBlock-cut old mid block bytes t z e =
    let k = Consumes-known old mid block bytes t e in
    let none : k.0 ≡ [] = subst IsAtEnd k.1 z in
    k.2 ∙ ap (λ l. block ++ l) none ∙ append-nil block

pub Follows-block_end : (old mid new : Reader) (block : List ℕ) (count : ℕ) → HasRead old mid block
    → GivesByte mid new (Ok None) → length block < count
    → WhateverFollows old new (λ bytes left. (length bytes < count) × (left.bytes ≡ Some []))
Follows-block_end old mid new block count h k short =
    Follows-ended old mid new block (λ bytes left. (length bytes < count) × (left.bytes ≡ Some []))
    h k (short, refl)
