-- Texts that begin alike have the same positions there, up to a letter and behind it.
use Rattle.std.proofs.Common.{◌≡◌, ◌≢◌, ◌∙◌, ◌≤◌, ◌<◌, ◌+◌, ◌-◌, ◌==◌, ◌&&◌, ℕ, zero, suc, cond}
use Rattle.std.proofs.Common.{nat_lt, true, false, List, [], ◌∷◌, length, take, drop, refl, sym, ap, subst}
use Rattle.std.proofs.Common.{arith, inl, inr, ⊎_elim, length-drop, get_or-drop, get_or-take, zero-add, take_all}
use Rattle.std.specs.Prelude.{slice_index}
use Rattle.std.proofs.lemmas.Bool.{cond-true, cond-false}
use Rattle.std.proofs.lemmas.Bool.Decides.{eqb_tells, leb_tells}
use Rattle.std.proofs.lemmas.List.{drop-take, length-take, take-take}
use Rattle.std.proofs.lemmas.List.Sums.{sum_by-take-drop}
use Rattle.bstr.specs.Text.{line_len, no_cr, without_terminator}
use Rattle.bstr.specs.Utf8.{decoded, decoded_by}
use Rattle.bstr.proofs.lemmas.LineLemmas.{line_len-bounds}
use Rattle.bstr.proofs.lemmas.PieceLemmas.{decoded_by-cut, piece-bounds, tail-continues}
use Rattle.cb_wire.specs.declared.units.Character.{Character}
use Rattle.cb_wire.specs.declared.units.Encoding.{Encoding}
use Rattle.cb_wire.specs.declared.units.Encoding.TheVariants.{Utf8, Utf16}
use Rattle.cb_wire.specs.Positions.{line_feeds, line_start, place, position, shown_line}
use Rattle.cb_wire.specs.Units.{column, first, sequence}
use Rattle.cb_wire.proofs.Fitting.{first_is, measured-end, measured-step, measured-stop}
use Rattle.cb_wire.proofs.Letters.{IsLetter, high, inner-high, letter-first, letter-place, one-line}
use Rattle.cb_wire.proofs.Letters.{stays-shown}
use Rattle.cb_wire.proofs.Positions.{ended, on_line, place-again, shown-suc, shown-zero, start-suc}

-- ---- characters

-- the same bytes up to a place
pub same-at : (x y : List ℕ) (n i : ℕ) → take n x ≡ take n y → i < n
    → slice_index x i ≡ slice_index y i
same-at x y n i same few =
    sym (get_or-take n x i 0 few) ∙ ap (λ l. slice_index l i) same ∙ get_or-take n y i 0 few

-- a piece before a letter ends there
piece-few : (x : List ℕ) (k : ℕ) → 0 < length x → 0 < k → slice_index x k < 128
    → (decoded x).size ≤ k
piece-few x k some pos low =
    elim (leb_tells (decoded x).size k) as (λ _. (decoded x).size ≤ k)
    [ inl h ↦ h.1 | inr h ↦ absurd (long k pos low h.1) ]
  where
    tails : (2 ≤ (decoded x).size → 128 ≤ slice_index x 1)
        × (3 ≤ (decoded x).size → 128 ≤ slice_index x 2)
        × (4 ≤ (decoded x).size → 128 ≤ slice_index x 3)
    tails =
        let all = tail-continues (length x) (slice_index x 0) (slice_index x 1) (slice_index x 2)
        (slice_index x 3) in (
          λ h. high (slice_index x 1) (all.0 h),
          λ h. high (slice_index x 2) (all.1 h),
          λ h. high (slice_index x 3) (all.2 h),
        )

    long : (k : ℕ) → 0 < k → slice_index x k < 128 → k < (decoded x).size → ⊥
    long zero pos low less = omega arith
    long (suc zero) pos low less = let h = tails.0 (omega arith) in omega arith
    long (suc (suc zero)) pos low less = let h = tails.1 (omega arith) in omega arith
    long (suc (suc (suc zero))) pos low less = let h = tails.2 (omega arith) in omega arith
    long (suc (suc (suc (suc k)))) pos low less =
        let bounds = piece-bounds x some in omega arith

-- lines that are alike up to a letter and with it begin with the same character
module _ (x y : List ℕ) (k : ℕ) (same : take (suc k) x ≡ take (suc k) y) (in-x : k < length x)
    (in-y : k < length y) (low : slice_index x k < 128) where
  low-y : slice_index y k < 128
  low-y = subst (λ b. b < 128) (same-at x y (suc k) k same (omega arith)) low

  cut-at : (l : List ℕ) → take (suc k) x ≡ take (suc k) l → k < length l
      → (decoded l).size ≤ suc k
      → decoded_by (suc k) (slice_index l 0) (slice_index x 1) (slice_index x 2) (slice_index x 3)
      ≡ decoded l
  cut-at l alike inside few =
      decoded_by-cut (suc k) (length l) (slice_index l 0) (slice_index l 1) (slice_index l 2)
      (slice_index l 3) (slice_index x 1) (slice_index x 2) (slice_index x 3) few (omega arith)
      (omega arith) (same-at x l (suc k) 1 alike) (same-at x l (suc k) 2 alike)
      (same-at x l (suc k) 3 alike)

  decoded-same : 0 < k → decoded x ≡ decoded y
  decoded-same pos =
      sym (cut-at x refl in-x (omega (arith, piece-few x k (omega arith) pos low)))
      ∙ ap (λ b. decoded_by (suc k) b (slice_index x 1) (slice_index x 2) (slice_index x 3))
      (same-at x y (suc k) 0 same (omega arith))
      ∙ cut-at y same in-y (omega (arith, piece-few y k (omega arith) pos low-y))

  first-same : (e : Encoding) → 0 < k → first e x ≡ first e y
  first-same Utf8 pos = refl
  first-same Utf16 pos = ap (λ d. sequence d.char d.size) (decoded-same pos)

-- no bytes have no units
column-zero : (e : Encoding) (line : List ℕ) → column e line 0 ≡ 0
column-zero e [] = sym (measured-end (λ c. c.bytes) (λ c. c.units) e [] 0 refl)
column-zero e (b ∷ bs) =
    let is = first_is e (b ∷ bs) (omega arith) in
    sym (measured-stop (λ c. c.bytes) (λ c. c.units) e (b ∷ bs) 0 (first e (b ∷ bs)) refl
    (omega arith) (omega (arith, is.some, is.few)))

-- the column of a letter at the front of a line, and the one behind it
column-first : (e : Encoding) (line : List ℕ) (d : ℕ) → d ≤ 1 → 0 < length line
    → slice_index line 0 < 128 → column e line d ≡ d
column-first e line zero few some low = column-zero e line
column-first e line (suc zero) few some low =
    let c = first e line in
    let is = letter-first line some e low in
    let bytes : c.bytes ≡ 1 = ap (λ (k : Character). k.bytes) is in
    let units : c.units ≡ 1 = ap (λ (k : Character). k.units) is in
    let rest = drop c.bytes line in
    let none : 1 - c.bytes ≡ 0 = omega (arith, bytes) in
    measured-step (λ k. k.bytes) (λ k. k.units) e line 1 c refl some rest refl
    (omega (arith, bytes))
    ∙ ap (λ n. c.units + column e rest n) none ∙ ap (λ n. c.units + n) (column-zero e rest)
    ∙ omega (arith, units)
column-first e line (suc (suc d)) few some low = absurd (omega arith)

-- lines that are alike up to a letter have the same columns up to there, and behind it
column-same : (e : Encoding) (d : ℕ) → d ≤ 1 → (most : ℕ) (x y : List ℕ) (k : ℕ)
    → length x ≤ most → take (suc k) x ≡ take (suc k) y → k < length x → k < length y
    → slice_index x k < 128 → column e x (k + d) ≡ column e y (k + d)
column-same e d few zero x y k small same in-x in-y low = absurd (omega arith)
column-same e d few (suc most) x y zero small same in-x in-y low =
    let low-y = subst (λ b. b < 128) (same-at x y 1 0 same (omega arith)) low in
    let at : 0 + d ≡ d = zero-add d in
    ap (column e x) at ∙ column-first e x d few in-x low
    ∙ sym (ap (column e y) at ∙ column-first e y d few in-y low-y)
column-same e d few (suc most) x y (suc j) small same in-x in-y low =
    let k = suc j in
    let c = first e x in
    let is = first_is e x (omega arith) in
    let twin : c ≡ first e y = first-same x y k same in-x in-y low e (omega arith) in
    let dx = drop c.bytes x in
    let dy = drop c.bytes y in
    elim (leb_tells c.bytes k) as (λ _. column e x (k + d) ≡ column e y (k + d)) [
      | inl h ↦
          let left = k - c.bytes in
          let back : c.bytes + left ≡ k = omega (arith, h.1) in
          let room : k + d - c.bytes ≡ left + d = omega (arith, h.1) in
          let whole : c.bytes + suc left ≡ suc k = omega (arith, h.1) in
          let alike : take (suc left) dx ≡ take (suc left) dy =
          sym (drop-take c.bytes (suc left) x) ∙ ap (λ n. drop c.bytes (take n x)) whole
          ∙ ap (drop c.bytes) same ∙ ap (λ n. drop c.bytes (take n y)) (sym whole)
          ∙ drop-take c.bytes (suc left) y in
          let there : slice_index dx left ≡ slice_index x k =
          get_or-drop c.bytes x left 0 ∙ ap (slice_index x) back in
          measured-step (λ k. k.bytes) (λ k. k.units) e x (k + d) c refl (omega arith) dx refl
          (omega (arith, h.1))
          ∙ ap (λ n. c.units + column e dx n) room
          ∙ ap (λ n. c.units + n) (column-same e d few most dx dy left
          (omega (arith, is.some, is.few, length-drop c.bytes x)) alike
          (omega (arith, h.1, length-drop c.bytes x)) (omega (arith, h.1, length-drop c.bytes y))
          (subst (λ b. b < 128) (sym there) low))
          ∙ ap (λ n. c.units + column e dy n) (sym room)
          ∙ sym (measured-step (λ k. k.bytes) (λ k. k.units) e y (k + d) c twin (omega arith) dy
          refl (omega (arith, h.1)))
      | inr h ↦ absurd (omega (arith, h.1, inner-high x (omega arith) e k (omega arith) h.1))
    ]

-- ---- lines

-- a first line that has no end yet, and one that ends
line-later : (a b : List ℕ) (p : ℕ) → take (suc p) a ≡ take (suc p) b → p < length a
    → p < length b → slice_index a p ≢ 10 → p < line_len a → p < line_len b
unfolding line_len
line-later a b zero same in-a in-b other long =
    let bounds = line_len-bounds b in-b in omega (arith, bounds.0)
line-later [] b (suc q) same in-a in-b other long = absurd (omega arith)
line-later (x ∷ xs) [] (suc q) same in-a in-b other long = absurd (omega arith)
line-later (x ∷ xs) (y ∷ ys) (suc q) same in-a in-b other long =
    let one : x ≡ y = ap (λ l. slice_index l 0) same in
    elim (eqb_tells x 10) as (λ _. suc q < line_len (y ∷ ys)) [
      | inl h ↦ absurd (omega (arith, cond-true (x == 10) 1 (suc (line_len xs)) h.0))
      | inr h ↦
          let rest = line-later xs ys q (ap (drop 1) same) (omega arith) (omega arith) other
          (omega (arith, cond-false (x == 10) 1 (suc (line_len xs)) h.0)) in
          omega (
            arith,
            rest,
            ap (λ b. cond (b == 10) 1 (suc (line_len ys))) (sym one)
                ∙ cond-false (x == 10) 1 (suc (line_len ys)) h.0,
          )
    ]

line-same : (a b : List ℕ) (p : ℕ) → take (suc p) a ≡ take (suc p) b → p < length a
    → p < length b → line_len a ≤ p → line_len a ≡ line_len b
unfolding line_len
line-same a b zero same in-a in-b short =
    let bounds = line_len-bounds a in-a in absurd (omega (arith, bounds.0))
line-same [] b (suc q) same in-a in-b short = absurd (omega arith)
line-same (x ∷ xs) [] (suc q) same in-a in-b short = absurd (omega arith)
line-same (x ∷ xs) (y ∷ ys) (suc q) same in-a in-b short =
    let one : x ≡ y = ap (λ l. slice_index l 0) same in
    elim (eqb_tells x 10) as (λ _. line_len (x ∷ xs) ≡ line_len (y ∷ ys)) [
      | inl h ↦
          cond-true (x == 10) 1 (suc (line_len xs)) h.0
          ∙ sym (ap (λ b. cond (b == 10) 1 (suc (line_len ys))) (sym one)
          ∙ cond-true (x == 10) 1 (suc (line_len ys)) h.0)
      | inr h ↦
          let short-rest : line_len xs ≤ q =
          omega (arith, cond-false (x == 10) 1 (suc (line_len xs)) h.0) in
          cond-false (x == 10) 1 (suc (line_len xs)) h.0
          ∙ ap suc (line-same xs ys q (ap (drop 1) same) (omega arith) (omega arith) short-rest)
          ∙ sym (ap (λ b. cond (b == 10) 1 (suc (line_len ys))) (sym one)
          ∙ cond-false (x == 10) 1 (suc (line_len ys)) h.0)
    ]

-- a line is shown up to a place
abbrev IsFront : (line shown : List ℕ) → Type 0
IsFront line shown = (n : ℕ) × (shown ≡ take n line)

whole-front : (line : List ℕ) → IsFront line line
whole-front line = (length line, sym (take_all (length line) line (omega arith)))

no_cr-front : (line : List ℕ) → IsFront line (no_cr line)
no_cr-front line =
    elim (nat_lt 0 (length line) && slice_index line (length line - 1) == 13) as
    (λ b. IsFront line (cond b (take (length line - 1) line) line))
    [ true ↦ (length line - 1, refl) | false ↦ whole-front line ]

shown-front : (line : List ℕ) → IsFront line (without_terminator line)
shown-front line =
    elim (nat_lt 0 (length line) && slice_index line (length line - 1) == 10) as
    (λ b. IsFront line (cond b (no_cr (take (length line - 1) line)) line)) [
      | true ↦ cut (no_cr-front (take (length line - 1) line))
      | false ↦ whole-front line
    ]
  where
    cut : IsFront (take (length line - 1) line) (no_cr (take (length line - 1) line))
        → IsFront line (no_cr (take (length line - 1) line))
    cut front =
        elim (leb_tells front.0 (length line - 1)) as
        (λ _. IsFront line (no_cr (take (length line - 1) line))) [
          | inl h ↦ (front.0, front.1 ∙ take-take front.0 (length line - 1) line h.1)
          | inr h ↦ (
            length line - 1,
            front.1 ∙ take_all front.0 (take (length line - 1) line)
                (omega (arith, h.1, length-take (length line - 1) line)),
          )
        ]

front-same : (line shown : List ℕ) (k : ℕ) → IsFront line shown → k < length shown
    → take (suc k) shown ≡ take (suc k) line
front-same line shown k front inside =
    ap (take (suc k)) front.1
    ∙ take-take (suc k) front.0 line
    (omega (arith, inside, ap length front.1, length-take front.0 line))

-- ---- texts

-- a letter stands in a shown line of two texts that are alike up to there
pub record Alike (a b : List ℕ) (at : ℕ) : Type 0 where
  pub line : ℕ
  pub inner : ℕ
  pub few-a : line ≤ line_feeds a
  pub few-b : line ≤ line_feeds b
  pub is-a : at ≡ line_start a line + inner
  pub is-b : at ≡ line_start b line + inner
  pub in-a : inner < length (shown_line a line)
  pub in-b : inner < length (shown_line b line)
  pub same : take (suc inner) (shown_line a line) ≡ take (suc inner) (shown_line b line)
  pub low : slice_index (shown_line a line) inner < 128

-- the first line of a text as it is shown, up to a letter
record Begins (a : List ℕ) (at : ℕ) : Type 0 where
  inside : at < length (shown_line a 0)
  front : take (suc at) (shown_line a 0) ≡ take (suc at) a

begins : (a : List ℕ) (at : ℕ) → at < length a → at < line_len a → IsLetter (slice_index a at)
    → Begins a at
begins a at in-a long letter =
    let some : 0 < length a = omega arith in
    let head = take (line_len a) a in
    let here : slice_index head at ≡ slice_index a at = get_or-take (line_len a) a at 0 long in
    let bounds = line_len-bounds a some in
    let short : at < length head = omega (arith, long, bounds.1, length-take (line_len a) a) in
    let stays = stays-shown head at short (subst IsLetter (sym here) letter) in
    let shown = shown-zero a some in
    record {
      inside = omega (arith, stays.0, ap length shown);
      front = ap (take (suc at)) shown
          ∙ front-same head (without_terminator head) at (shown-front head) stays.0
          ∙ take-take (suc at) (line_len a) a (omega (arith, long));
    }

-- how many line feeds the first line and the rest have
feeds-suc : (a : List ℕ) (n : ℕ) → 0 < length a → line_len a < length a
    → n ≤ line_feeds (drop (line_len a) a) → suc n ≤ line_feeds a
feeds-suc a n some more few =
    let head = take (line_len a) a in
    let tail = drop (line_len a) a in
    let feeds : line_feeds a ≡ line_feeds head + line_feeds tail =
    sym (sum_by-take-drop (λ c. cond (c == 10) 1 0) a (line_len a)) in
    ⊎_elim
    (λ e.
    let one : line_feeds head ≡ 1 = ap (λ m. line_feeds (take m a)) e.long ∙ e.feeds in
    omega (arith, feeds, one, few))
    (λ none. absurd (omega (arith, more, one-line a none)))
    (ended a)

alike : (most : ℕ) (a b : List ℕ) (at : ℕ) → length a ≤ most
    → take (suc at) a ≡ take (suc at) b → at < length a → at < length b
    → IsLetter (slice_index a at) → Alike a b at
alike zero a b at small same in-a in-b letter = absurd (omega arith)
alike (suc most) a b at small same in-a in-b letter =
    let some-a : 0 < length a = omega arith in
    let some-b : 0 < length b = omega arith in
    let long = line_len a in
    let bounds = line_len-bounds a some-a in
    let there = same-at a b (suc at) at same (omega arith) in
    elim (leb_tells long at) as (λ _. Alike a b at) [
      | inl h ↦
          let twin : line_len b ≡ long = sym (line-same a b at same in-a in-b h.1) in
          let left = at - long in
          let da = drop long a in
          let db = drop long b in
          let back : long + left ≡ at = omega (arith, h.1) in
          let whole : long + suc left ≡ suc at = omega (arith, h.1) in
          let rest = alike most da db left (omega (arith, bounds.0, length-drop long a))
          (sym (drop-take long (suc left) a) ∙ ap (λ n. drop long (take n a)) whole
          ∙ ap (drop long) same ∙ ap (λ n. drop long (take n b)) (sym whole)
          ∙ drop-take long (suc left) b)
          (omega (arith, h.1, length-drop long a)) (omega (arith, h.1, length-drop long b))
          (subst IsLetter (sym (get_or-drop long a left 0 ∙ ap (slice_index a) back)) letter) in
          let shown-a = shown-suc a some-a rest.line in
          let shown-b = shown-suc b some-b rest.line
          ∙ ap (λ n. shown_line (drop n b) rest.line) twin in
          let start-b = start-suc b some-b rest.line
          ∙ ap (λ n. n + line_start (drop n b) rest.line) twin in
          record {
            line = suc rest.line;
            inner = rest.inner;
            few-a = feeds-suc a rest.line some-a (omega (arith, h.1)) rest.few-a;
            few-b = feeds-suc b rest.line some-b (omega (arith, h.1, twin))
                (subst (λ n. rest.line ≤ line_feeds (drop n b)) (sym twin) rest.few-b);
            is-a = omega (arith, h.1, rest.is-a, start-suc a some-a rest.line);
            is-b = omega (arith, h.1, rest.is-b, start-b);
            in-a = omega (arith, rest.in-a, ap length shown-a);
            in-b = omega (arith, rest.in-b, ap length shown-b);
            same = ap (take (suc rest.inner)) shown-a ∙ rest.same
                ∙ ap (take (suc rest.inner)) (sym shown-b);
            low = subst (λ l. slice_index l rest.inner < 128) (sym shown-a) rest.low;
          }
      | inr h ↦
          let long-b = line-later a b at same in-a in-b letter.no_feed h.1 in
          let letter-b = subst IsLetter there letter in
          let begin-a = begins a at in-a h.1 letter in
          let begin-b = begins b at in-b long-b letter-b in
          let read : slice_index (shown_line a 0) at ≡ slice_index a at =
          same-at (shown_line a 0) a (suc at) at begin-a.front (omega arith) in
          record {
            line = 0;
            inner = at;
            few-a = omega arith;
            few-b = omega arith;
            is-a = sym (zero-add at);
            is-b = sym (zero-add at);
            in-a = begin-a.inside;
            in-b = begin-b.inside;
            same = begin-a.front ∙ same ∙ sym begin-b.front;
            low = subst (λ c. c < 128) (sym read) letter.low;
          }
    ]

-- the position of the letter, and the one behind it
pub position-same : (e : Encoding) (a b : List ℕ) (at d : ℕ) → d ≤ 1
    → take (suc at) a ≡ take (suc at) b → at < length a → at < length b
    → IsLetter (slice_index a at) → position e a (at + d) ≡ position e b (at + d)
position-same e a b at d few same in-a in-b letter =
    let s = alike (length a) a b at (omega arith) same in-a in-b letter in
    let place-a : at + d ≡ line_start a s.line + (s.inner + d) = omega (arith, s.is-a) in
    let place-b : at + d ≡ line_start b s.line + (s.inner + d) = omega (arith, s.is-b) in
    ap (position e a) place-a
    ∙ on_line e a s.line (s.inner + d) s.few-a (omega (arith, s.in-a))
    ∙ ap (λ c. record { line = s.line; character = c })
    (column-same e d few (length (shown_line a s.line)) (shown_line a s.line) (shown_line b s.line)
    s.inner (omega arith) s.same s.in-a s.in-b s.low)
    ∙ sym (on_line e b s.line (s.inner + d) s.few-b (omega (arith, s.in-b)))
    ∙ sym (ap (position e b) place-b)

-- they name the same places: of that position in the other text, before the letter and behind it
pub places-kept : (e : Encoding) (a b : List ℕ) (at n : ℕ) → at < n → n ≤ length a → n ≤ length b
    → take n a ≡ take n b → IsLetter (slice_index a at)
    → (place e b (position e a at) ≡ at) × (place e b (position e a (suc at)) ≡ suc at)
places-kept e a b at n few in-a in-b same letter =
    let same-up : take (suc at) a ≡ take (suc at) b =
    sym (take-take (suc at) n a (omega arith)) ∙ ap (take (suc at)) same
    ∙ take-take (suc at) n b (omega arith) in
    let letter-b = subst IsLetter (same-at a b n at same few) letter in
    let places = letter-place e b at (omega arith) letter-b in
    let here : at + 0 ≡ at = omega arith in
    let next : at + 1 ≡ suc at = omega arith in
    let first = position-same e a b at 0 (omega arith) same-up (omega arith) (omega arith) letter in
    let then = position-same e a b at 1 (omega arith) same-up (omega arith) (omega arith) letter in (
      ap (place e b) (ap (position e a) (sym here) ∙ first ∙ ap (position e b) here)
          ∙ place-again e b at places.0,
      ap (place e b) (ap (position e a) (sym next) ∙ then ∙ ap (position e b) next)
          ∙ place-again e b (suc at) places.1,
    )
