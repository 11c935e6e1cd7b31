-- The place of a position in the bytes of a text and its offset in the units are behind the same
-- characters.
use Rattle.std.proofs.Common.{◌≡◌, ◌∙◌, sym, ap, ap₂, refl, subst, ℕ, zero, suc, ◌+◌}
use Rattle.std.proofs.Common.{true, false, ◌==◌, List, [], ◌∷◌, ◌++◌, length, take, flat_map}
use Rattle.std.proofs.Common.{arith, inl, inr, ⊎_elim, zero-add, append_assoc, slice_index}
use Rattle.std.proofs.Common.{length-append, take_at, get_or-append-add}
use Rattle.std.proofs.lemmas.Bool.{cases_Bool, or_from, true≢false}
use Rattle.std.proofs.lemmas.Bool.Decides.{eqb_tells}
use Rattle.std.proofs.lemmas.Grind.{flat_map-append}
use Rattle.std.proofs.lemmas.List.{get_or_append_left}
use Rattle.cb_scan.proofs.Rising.{all-prefix}
use Rattle.cb_scan.proofs.WithinLemmas.{all-append}
use Rattle.cb_wire.specs.declared.position.Position.{Position}
use Rattle.cb_wire.specs.declared.units.Encoding.{Encoding}
use Rattle.cb_wire.specs.declared.units.Encoding.TheVariants.{Utf8, Utf16}
use Rattle.cb_wire.specs.Offsets.{HasNoLoneReturn, IsText, ends_line, offset, units}
use Rattle.cb_wire.specs.Positions.{line_start, place, shown_line}
use Rattle.cb_wire.specs.Units.{place_in_line}
use Rattle.cb_wire.proofs.CellColumns.{before}
use Rattle.cb_wire.proofs.Cells.{AreCodes, HasNoEnd, IsCode, Reads, bytes_all}
use Rattle.cb_wire.proofs.Cells.{bytes_for, cell, characters-of, units_all, units_for, units-of}
use Rattle.cb_wire.proofs.FirstLines.{IsEnd, Lined, begins, both, feed, last, none-at}
use Rattle.cb_wire.proofs.FirstLines.{offset-suc, offset-zero}

-- ---- characters of which each carriage return stands before a line feed

abbrev pub Paired : List ℕ → Type 0
Paired [] = Unit {0}
Paired (c ∷ cs) = (c ≡ 13 → slice_index cs 0 ≡ 10) × Paired cs

pub paired-back : (xs ys : List ℕ) → Paired (xs ++ ys) → Paired ys
paired-back [] ys p = p
paired-back (x ∷ xs) ys p = paired-back xs ys p.1

-- a line feed is at the front of what has one there
fed : (xs ys : List ℕ) → slice_index xs 0 ≡ 10 → slice_index (xs ++ ys) 0 ≡ 10
fed [] ys h = absurd (omega (arith, h))
fed (x ∷ xs) ys h = h

pub paired-join : (xs ys : List ℕ) → Paired xs → Paired ys → Paired (xs ++ ys)
paired-join [] ys p q = q
paired-join (x ∷ xs) ys p q = (λ h. fed xs ys (p.0 h), paired-join xs ys p.1 q)

pub paired-line : (line : List ℕ) → HasNoEnd line → Paired line
paired-line [] bare = tt
paired-line (c ∷ cs) bare =
    (λ is. absurd (true≢false (ap ends_line (sym is) ∙ bare.0)), paired-line cs bare.1)

-- ---- the first line

record Cut (cs : List ℕ) : Type 0 where
  line : List ℕ
  end : List ℕ
  rest : List ℕ
  lined : Lined cs line end rest
  after : Paired rest

-- a line feed at the front
headed : (cs : List ℕ) → slice_index cs 0 ≡ 10 → (rest : List ℕ) × (cs ≡ 10 ∷ rest)
headed [] h = absurd (omega (arith, h))
headed (c ∷ cs) h = (cs, ap (λ b. b ∷ cs) h)

cut : (cs : List ℕ) → Paired cs → Cut cs
cut [] p = record {
  line = [];
  end = [];
  rest = [];
  lined = record { is = refl; no_end = tt; at_end = last refl refl };
  after = tt;
}
cut (c ∷ cs) p =
    elim (eqb_tells c 10) as (λ _. Cut (c ∷ cs)) [
      | inl h ↦ record {
        line = [];
        end = 10 ∷ [];
        rest = cs;
        lined = record { is = ap (λ b. b ∷ cs) h.1; no_end = tt; at_end = feed refl };
        after = p.1;
      }
      | inr h ↦ elim (eqb_tells c 13) as (λ _. Cut (c ∷ cs)) [
        | inl k ↦
            let more = headed cs (p.0 k.1) in
            record {
              line = [];
              end = 13 ∷ 10 ∷ [];
              rest = more.0;
              lined = record {
                is = ap₂ (λ b l. b ∷ l) k.1 more.1;
                no_end = tt;
                at_end = both refl;
              };
              after = paired-back (10 ∷ []) more.0 (subst Paired more.1 p.1);
            }
        | inr k ↦
            let more = cut cs p.1 in
            record {
              line = c ∷ more.line;
              end = more.end;
              rest = more.rest;
              lined = record {
                is = ap (λ l. c ∷ l) more.lined.is;
                no_end = (or_from (c == 10) (c == 13) h.0 k.0, more.lined.no_end);
                at_end = more.lined.at_end;
              };
              after = more.after;
            }
      ]
    ]

-- in bytes or in units
module _ (e : Encoding) (f : ℕ → List ℕ)
    (ends : (c : ℕ) → IsCode e c → ends_line c ≡ true → f c ≡ c ∷ [])
    (goes_on : (c : ℕ) → IsCode e c → ends_line c ≡ false → HasNoEnd (f c))
    (ten : IsCode e 10) (thirteen : IsCode e 13)
  where
    end-same : (end rest : List ℕ) → IsEnd end rest → flat_map f end ≡ end
    end-same end rest (last s r) = ap (flat_map f) s ∙ sym s
    end-same end rest (feed s) = ap (flat_map f) s ∙ ap (λ l. l ++ []) (ends 10 ten refl) ∙ sym s
    end-same end rest (both s) =
        ap (flat_map f) s
        ∙ ap₂ (λ a b. a ++ (b ++ [])) (ends 13 thirteen refl) (ends 10 ten refl) ∙ sym s

    end-for : (end rest : List ℕ) → IsEnd end rest → IsEnd end (flat_map f rest)
    end-for end rest (last s r) = last s (ap (flat_map f) r)
    end-for end rest (feed s) = feed s
    end-for end rest (both s) = both s

    bare-all : (line : List ℕ) → AreCodes e line → HasNoEnd line → HasNoEnd (flat_map f line)
    bare-all [] codes bare = tt
    bare-all (c ∷ cs) codes bare =
        all-append (λ u. ends_line u ≡ false) (f c) (flat_map f cs) (goes_on c codes.0 bare.0)
        (bare-all cs codes.1 bare.1)

    apart : (line end rest : List ℕ) → IsEnd end rest
        → flat_map f (line ++ (end ++ rest)) ≡ flat_map f line ++ (end ++ flat_map f rest)
    apart line end rest at =
        flat_map-append f line (end ++ rest)
        ∙ ap (λ l. flat_map f line ++ l) (flat_map-append f end rest)
        ∙ ap (λ l. flat_map f line ++ (l ++ flat_map f rest)) (end-same end rest at)

    lined-for : (cs line end rest : List ℕ) → AreCodes e line → Lined cs line end rest
        → Lined (flat_map f cs) (flat_map f line) end (flat_map f rest)
    lined-for cs line end rest codes l = record {
      is = ap (flat_map f) l.is ∙ apart line end rest l.at_end;
      no_end = bare-all line codes l.no_end;
      at_end = end-for end rest l.at_end;
    }

    -- how long a line with its end and more is
    length-for : (line end rest more : List ℕ) → IsEnd end rest
        → length (flat_map f line ++ end) + length (flat_map f more)
        ≡ length (flat_map f ((line ++ end) ++ more))
    length-for line end rest more at =
        sym (ap length (flat_map-append f (line ++ end) more)
        ∙ length-append (flat_map f (line ++ end)) (flat_map f more)
        ∙ ap (λ l. length l + length (flat_map f more))
        (flat_map-append f line end ∙ ap (λ l. flat_map f line ++ l) (end-same end rest at)))

ten-of : (e : Encoding) → IsCode e 10
ten-of Utf8 = omega arith
ten-of Utf16 = refl

thirteen-of : (e : Encoding) → IsCode e 13
thirteen-of Utf8 = omega arith
thirteen-of Utf16 = refl

module _ (e : Encoding) where
  bytes-end : (c : ℕ) → IsCode e c → ends_line c ≡ true → bytes_for e c ≡ c ∷ []
  bytes-end c is h = ((cell e c is).ends h).0

  units-end : (c : ℕ) → IsCode e c → ends_line c ≡ true → units_for e c ≡ c ∷ []
  units-end c is h = ((cell e c is).ends h).1

  bytes-on : (c : ℕ) → IsCode e c → ends_line c ≡ false → HasNoEnd (bytes_for e c)
  bytes-on c is h = ((cell e c is).goes_on h).0

  units-on : (c : ℕ) → IsCode e c → ends_line c ≡ false → HasNoEnd (units_for e c)
  units-on c is h = ((cell e c is).goes_on h).1

-- ---- a position in a text

-- the characters before a position and those behind it
pub record Splits (e : Encoding) (cs : List ℕ) (p : Position) : Type 0 where
  pub front : List ℕ
  pub back : List ℕ
  pub whole : cs ≡ front ++ back
  pub place_is : place e (bytes_all e cs) p ≡ length (bytes_all e front)
  pub offset_is : offset (units_all e cs) p ≡ length (units_all e front)
  pub front_paired : Paired front
  pub back_paired : Paired back

-- behind a line and its end
paired-first : (line end rest more : List ℕ) → HasNoEnd line → IsEnd end rest → Paired more
    → Paired ((line ++ end) ++ more)
paired-first line end rest more bare at p =
    subst Paired (sym (append_assoc line end more))
    (paired-join line (end ++ more) (paired-line line bare) (behind end rest at))
  where
    behind : (end rest : List ℕ) → IsEnd end rest → Paired (end ++ more)
    behind end rest (last s r) = subst (λ l. Paired (l ++ more)) (sym s) p
    behind end rest (feed s) =
        subst (λ l. Paired (l ++ more)) (sym s) (λ h. absurd (omega (arith, h)), p)
    behind end rest (both s) =
        subst (λ l. Paired (l ++ more)) (sym s) (λ h. refl, (λ h. absurd (omega (arith, h)), p))

pub splits : (e : Encoding) (n col : ℕ) (cs : List ℕ) → AreCodes e cs → Paired cs
    → Splits e cs (record { line = n; character = col })
splits e zero col cs codes paired =
    let k = cut cs paired in
    let all = subst (AreCodes e) k.lined.is codes in
    let codes_line = (all-prefix (IsCode e) k.line (k.end ++ k.rest) all).0 in
    let bs = lined-for e (bytes_for e) (bytes-end e) (bytes-on e) (ten-of e) (thirteen-of e) cs
    k.line k.end k.rest codes_line k.lined in
    let us = lined-for e (units_for e) (units-end e) (units-on e) (ten-of e) (thirteen-of e) cs
    k.line k.end k.rest codes_line k.lined in
    let first = begins (bytes_all e cs) (bytes_all e k.line) k.end (bytes_all e k.rest) bs in
    let b = before e k.line codes_line col in
    let whole = k.lined.is ∙ ap (λ l. l ++ (k.end ++ k.rest)) b.whole
    ∙ append_assoc b.front b.back (k.end ++ k.rest) in
    record {
      front = b.front;
      back = b.back ++ (k.end ++ k.rest);
      whole = whole;
      place_is = zero-add (place_in_line e (shown_line (bytes_all e cs) 0) col)
          ∙ ap (λ l. place_in_line e l col) first.shown ∙ b.place_is;
      offset_is = offset-zero (units_all e cs) (units_all e k.line) k.end (units_all e k.rest) us col
          ∙ b.offset_is;
      front_paired = paired-line b.front
          (all-prefix (λ u. ends_line u ≡ false) b.front b.back
          (subst HasNoEnd b.whole k.lined.no_end)).0;
      back_paired = paired-back b.front (b.back ++ (k.end ++ k.rest)) (subst Paired whole paired);
    }
splits e (suc n) col cs codes paired =
    let k = cut cs paired in
    let all = subst (AreCodes e) k.lined.is codes in
    let codes_line = (all-prefix (IsCode e) k.line (k.end ++ k.rest) all).0 in
    let codes_rest =
    (all-prefix (IsCode e) k.end k.rest
    (all-prefix (IsCode e) k.line (k.end ++ k.rest) all).1).1 in
    let bs = lined-for e (bytes_for e) (bytes-end e) (bytes-on e) (ten-of e) (thirteen-of e) cs
    k.line k.end k.rest codes_line k.lined in
    let us = lined-for e (units_for e) (units-end e) (units-on e) (ten-of e) (thirteen-of e) cs
    k.line k.end k.rest codes_line k.lined in
    let first = begins (bytes_all e cs) (bytes_all e k.line) k.end (bytes_all e k.rest) bs in
    let s = splits e n col k.rest codes_rest k.after in
    let size = length (bytes_all e k.line ++ k.end) in
    let rest = bytes_all e k.rest in
    let assoc : size + line_start rest n + place_in_line e (shown_line rest n) col
    ≡ size + place e rest (record { line = n; character = col }) = omega arith in
    record {
      front = (k.line ++ k.end) ++ s.front;
      back = s.back;
      whole = k.lined.is ∙ sym (append_assoc k.line k.end k.rest)
          ∙ ap (λ l. (k.line ++ k.end) ++ l) s.whole
          ∙ sym (append_assoc (k.line ++ k.end) s.front s.back);
      place_is =
          ap₂ (λ (a : ℕ) (l : List ℕ). a + place_in_line e l col) (first.start_later n)
          (first.shown_later n)
          ∙ assoc ∙ ap (λ m. size + m) s.place_is
          ∙ length-for e (bytes_for e) (bytes-end e) (bytes-on e) (ten-of e) (thirteen-of e) k.line
          k.end k.rest s.front k.lined.at_end;
      offset_is =
          offset-suc (units_all e cs) (units_all e k.line) k.end (units_all e k.rest) us n col
          ∙ ap (λ m. length (units_all e k.line ++ k.end) + m) s.offset_is
          ∙ length-for e (units_for e) (units-end e) (units-on e) (ten-of e) (thirteen-of e) k.line
          k.end k.rest s.front k.lined.at_end;
      front_paired =
          paired-first k.line k.end k.rest s.front k.lined.no_end k.lined.at_end s.front_paired;
      back_paired = s.back_paired;
    }

-- ---- the characters of a text without a carriage return alone

later-returns : (xs ys : List ℕ) → HasNoLoneReturn (xs ++ ys) → HasNoLoneReturn ys
later-returns xs ys h i is =
    let next : length xs + i + 1 ≡ length xs + (i + 1) = omega arith in
    sym (get_or-append-add xs ys (i + 1) 0) ∙ ap (slice_index (xs ++ ys)) (sym next)
    ∙ h (length xs + i) (get_or-append-add xs ys i 0 ∙ is)

-- a line feed at the front of the bytes is the first character
fed-first : (e : Encoding) (cs : List ℕ) → AreCodes e cs → slice_index (bytes_all e cs) 0 ≡ 10
    → slice_index cs 0 ≡ 10
fed-first e [] codes h = h
fed-first e (c ∷ cs) codes h =
    let x = cell e c codes.0 in
    let more = bytes_all e cs in
    ⊎_elim
    (λ (yes : ends_line c ≡ true).
    sym (ap (λ l. slice_index (l ++ more) 0) (x.ends yes).0) ∙ h)
    (λ (bare : ends_line c ≡ false).
    absurd (true≢false (ap ends_line (sym h ∙ get_or_append_left (bytes_for e c) more 0 0 x.some)
    ∙ none-at (bytes_for e c) (x.goes_on bare).0 0)))
    (cases_Bool (ends_line c))

pub paired-from : (e : Encoding) (cs : List ℕ) → AreCodes e cs → HasNoLoneReturn (bytes_all e cs)
    → Paired cs
paired-from e [] codes h = tt
paired-from e (c ∷ cs) codes h =
    let x = cell e c codes.0 in
    let more = bytes_all e cs in (
      λ is.
          let alone = (x.ends (ap ends_line is)).0 in
          let here : slice_index (bytes_for e c ++ more) 0 ≡ 13 =
          ap (λ l. slice_index (l ++ more) 0) alone ∙ is in
          fed-first e cs codes.1
          (sym (ap (λ l. slice_index (l ++ more) 1) alone) ∙ h 0 here),
      paired-from e cs codes.1 (later-returns (bytes_for e c) more h),
    )

-- a text, its characters and its units
pub record Text (e : Encoding) (text : List ℕ) : Type 0 where
  pub cs : List ℕ
  pub reads : Reads e text cs
  pub paired : Paired cs

pub text-of : (e : Encoding) (text : List ℕ) → IsText text → Text e text
text-of e text is =
    let found = characters-of e text is.0 in
    record {
      cs = found.0;
      reads = found.1;
      paired = paired-from e found.0 found.1.codes (subst HasNoLoneReturn found.1.bytes is.1);
    }

-- so many units stand before the place of a position
pub offset-units : (e : Encoding) (text : List ℕ) (p : Position) → IsText text
    → offset (units e text) p ≡ length (units e (take (place e text p) text))
offset-units e text p is =
    let t = text-of e text is in
    let s = splits e p.line p.character t.cs t.reads.codes t.paired in
    let codes = (all-prefix (IsCode e) s.front s.back (subst (AreCodes e) s.whole t.reads.codes)).0 in
    let all = t.reads.bytes in
    let before : take (place e text p) text ≡ bytes_all e s.front =
    ap₂ take (ap (λ l. place e l p) all ∙ s.place_is)
    (all ∙ ap (bytes_all e) s.whole ∙ flat_map-append (bytes_for e) s.front s.back)
    ∙ take_at (bytes_all e s.front) (bytes_all e s.back) (length (bytes_all e s.front)) refl in
    ap (λ us. offset us p) (ap (units e) all ∙ units-of e t.cs t.reads.codes) ∙ s.offset_is
    ∙ ap length (sym (units-of e s.front codes)) ∙ ap (λ l. length (units e l)) (sym before)
