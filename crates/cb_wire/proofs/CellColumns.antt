-- The place and the offset of a column in a line are behind the same characters.
use Rattle.std.proofs.Common.{◌≡◌, ◌∙◌, sym, ap, refl, ℕ, zero, suc, ◌+◌, ◌-◌, ◌<◌, ◌≤◌}
use Rattle.std.proofs.Common.{Bool, true, false, cond, min, List, [], ◌∷◌, ◌++◌, length}
use Rattle.std.proofs.Common.{arith, ⊎_elim, slice_index, length-append}
use Rattle.std.proofs.Common.{drop_at, get_or-append-add}
use Rattle.std.specs.Char.Utf16.{is_low_surrogate}
use Rattle.std.proofs.lemmas.Bool.{cases_lt, cond-true, cond-false, true≢false}
use Rattle.cb_wire.specs.declared.units.Character.{Character}
use Rattle.cb_wire.specs.declared.units.Encoding.{Encoding}
use Rattle.cb_wire.specs.Offsets.{column_offset, outside_pairs}
use Rattle.cb_wire.specs.Units.{place_in_line}
use Rattle.cb_wire.proofs.Cells.{AreCodes, AreUnits, IsCode, bytes_all, bytes_for, cell, one, two, units_all}
use Rattle.cb_wire.proofs.Cells.{units_for}
use Rattle.cb_wire.proofs.Fitting.{measured-end, measured-step, measured-stop}

-- ---- offsets in a line

abbrev IsOutside : List ℕ → Type 0
IsOutside us = is_low_surrogate (slice_index us 0) ≡ false

at-first : (us : List ℕ) → IsOutside us → column_offset us 0 ≡ 0
at-first us outside =
    let none : min 0 (length us) ≡ 0 = omega arith in
    ap (outside_pairs us) none ∙ cond-false (is_low_surrogate (slice_index us 0)) (0 - 1) 0 outside

-- behind some units, of which none is cut off
behind : (b : Bool) (n m : ℕ) → (b ≡ true → 0 < m)
    → cond b (n + m - 1) (n + m) ≡ n + cond b (m - 1) m
behind true n m p = let some = p refl in omega (arith, some)
behind false n m p = refl

shift : (xs more : List ℕ) (k : ℕ) → IsOutside more
    → column_offset (xs ++ more) (length xs + k) ≡ length xs + column_offset more k
shift xs more k outside =
    let m = min k (length more) in
    let test = is_low_surrogate (slice_index more m) in
    let size = length-append xs more in
    let both : min (length xs + k) (length (xs ++ more)) ≡ length xs + m = omega (arith, size) in
    let some : test ≡ true → 0 < m = λ yes.
    ⊎_elim
    (λ (h : 0 < m). h)
    (λ (h : m ≤ 0).
    let none : m ≡ 0 = omega (arith, h) in
    absurd (true≢false (sym yes ∙ ap (λ n. is_low_surrogate (slice_index more n)) none ∙ outside)))
    (cases_lt 0 m) in
    ap (outside_pairs (xs ++ more)) both
    ∙ ap (λ u. cond (is_low_surrogate u) (length xs + m - 1) (length xs + m))
    (get_or-append-add xs more m 0)
    ∙ behind test (length xs) m some

-- within the units of a character
within : (xs more : List ℕ) (col : ℕ) → AreUnits xs → col < length xs
    → column_offset (xs ++ more) col ≡ 0
within xs more zero (one u is high) p =
    ap (λ l. column_offset (l ++ more) 0) is ∙ at-first (u ∷ more) high
within xs more (suc col) (one u is high) p = absurd (omega (arith, ap length is))
within xs more zero (two u v is high low) p =
    ap (λ l. column_offset (l ++ more) 0) is ∙ at-first (u ∷ v ∷ more) high
within xs more (suc zero) (two u v is high low) p =
    let inner : min 1 (suc (suc (length more))) ≡ 1 = omega arith in
    ap (λ l. column_offset (l ++ more) 1) is ∙ ap (outside_pairs (u ∷ v ∷ more)) inner
    ∙ cond-true (is_low_surrogate v) (1 - 1) 1 low
within xs more (suc (suc col)) (two u v is high low) p = absurd (omega (arith, ap length is))

outside-units : (xs more : List ℕ) → AreUnits xs → IsOutside (xs ++ more)
outside-units xs more (one u is high) = ap (λ l. is_low_surrogate (slice_index (l ++ more) 0)) is ∙ high
outside-units xs more (two u v is high low) =
    ap (λ l. is_low_surrogate (slice_index (l ++ more) 0)) is ∙ high

outside : (e : Encoding) (cs : List ℕ) → AreCodes e cs → IsOutside (units_all e cs)
outside e [] codes = refl
outside e (c ∷ cs) codes =
    outside-units (units_for e c) (units_all e cs) (cell e c codes.0).is_units

-- ---- the characters before a column

pub record Before (e : Encoding) (line : List ℕ) (col : ℕ) : Type 0 where
  pub front : List ℕ
  pub back : List ℕ
  pub whole : line ≡ front ++ back
  pub place_is : place_in_line e (bytes_all e line) col ≡ length (bytes_all e front)
  pub offset_is : column_offset (units_all e line) col ≡ length (units_all e front)

-- the place behind the first character, or before it
module _ (e : Encoding) (c : ℕ) (is : IsCode e c) (rest : List ℕ) (col : ℕ) where
  abbrev us : List ℕ
  us = units_for e c

  abbrev bs : List ℕ
  bs = bytes_for e c

  abbrev size : Character
  size = record { bytes = length bs; units = length us }

  some : 0 < length (bs ++ rest)
  some = omega (arith, (cell e c is).some, length-append bs rest)

  placed-stop : col < length us → 0 ≡ place_in_line e (bs ++ rest) col
  placed-stop p =
      measured-stop (λ k. k.units) (λ k. k.bytes) e (bs ++ rest) col size
      (sym ((cell e c is).counts rest)) some p

  placed-step : length us ≤ col
      → place_in_line e (bs ++ rest) col ≡ length bs + place_in_line e rest (col - length us)
  placed-step p =
      measured-step (λ k. k.units) (λ k. k.bytes) e (bs ++ rest) col size
      (sym ((cell e c is).counts rest)) some rest (sym (drop_at bs rest (length bs) refl)) p

pub before : (e : Encoding) (line : List ℕ) → AreCodes e line → (col : ℕ) → Before e line col
before e [] codes col = record {
  front = [];
  back = [];
  whole = refl;
  place_is = sym (measured-end (λ k. k.units) (λ k. k.bytes) e [] col refl);
  offset_is = omega arith;
}
before e (c ∷ cs) codes col =
    let us = units_for e c in
    let bs = bytes_for e c in
    let rest = bytes_all e cs in
    ⊎_elim
    (λ (p : col < length us). record {
      front = [];
      back = c ∷ cs;
      whole = refl;
      place_is = sym (placed-stop e c codes.0 rest col p);
      offset_is = within us (units_all e cs) col (cell e c codes.0).is_units p;
    })
    (λ (p : length us ≤ col).
    let more = before e cs codes.1 (col - length us) in
    let all : col ≡ length us + (col - length us) = omega arith in
    record {
      front = c ∷ more.front;
      back = more.back;
      whole = ap (λ l. c ∷ l) more.whole;
      place_is = placed-step e c codes.0 rest col p ∙ ap (λ n. length bs + n) more.place_is
          ∙ sym (length-append bs (bytes_all e more.front));
      offset_is = ap (column_offset (us ++ units_all e cs)) all
          ∙ shift us (units_all e cs) (col - length us) (outside e cs codes.1)
          ∙ ap (λ n. length us + n) more.offset_is
          ∙ sym (length-append us (units_all e more.front));
    })
    (cases_lt col (length us))
