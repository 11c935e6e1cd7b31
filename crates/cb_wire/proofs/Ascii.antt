-- Where a line begins with ASCII, its bytes are its units.
use Rattle.std.proofs.Common.{◌≡◌, ◌∙◌, ◌+◌, ◌-◌, ◌<◌, ◌≤◌, ℕ, zero, suc, List, [], ◌∷◌, length}
use Rattle.std.proofs.Common.{drop, take, zero-add, arith, ap, refl, sym, subst, get_or-take}
use Rattle.std.specs.Prelude.{slice_index, IfSome, IsAscii, Option, None, Some}
use Rattle.std.specs.List.{sum_by}
use Rattle.cb_wire.specs.declared.units.Character.{Character}
use Rattle.cb_wire.specs.declared.units.Encoding.{Encoding}
use Rattle.cb_wire.specs.Units.{characters, column, first, fitting, one_byte, place_in_line}
use Rattle.cb_wire.specs.steps.Runs.{IsRun}
use Rattle.cb_wire.proofs.Fitting.{first_is, measured-end, measured-step, measured-stop}
use Rattle.cb_wire.proofs.Letters.{letter-first}

-- the first bytes are ASCII
abbrev pub BeginsWithAscii : ℕ → List ℕ → Type 0
BeginsWithAscii n line = (i : ℕ) → i < n → slice_index line i < 128

module _ (f g : Character → ℕ) (e : Encoding) (one : f one_byte ≡ 1) (other : g one_byte ≡ 1)
    (some : (line : List ℕ) → 0 < length line → 1 ≤ f (first e line)) where
  plain : (room : ℕ) (line : List ℕ) → BeginsWithAscii room line
      → length (take room line) ≡ sum_by g (fitting f room (characters e line))
  plain zero [] low = measured-end f g e [] 0 refl
  plain (suc room) [] low = measured-end f g e [] (suc room) refl
  plain zero (b ∷ rest) low =
      let line = b ∷ rest in
      measured-stop f g e line 0 (first e line) refl (omega arith)
      (omega (arith, some line (omega arith)))
  plain (suc room) (b ∷ rest) low =
      let line = b ∷ rest in
      let fits : f one_byte ≤ suc room = omega (arith, one) in
      let left : suc room - f one_byte ≡ room = omega (arith, one) in
      let step =
      measured-step f g e line (suc room) one_byte
      (sym (letter-first line (omega arith) e (low 0 (omega arith)))) (omega arith) rest refl fits in
      let more = plain room rest (λ i before. low (suc i) (omega (arith, before))) in
      omega (
        arith,
        step,
        other,
        more,
        ap (λ n. sum_by g (fitting f n (characters e rest))) left,
      )

  -- ASCII at the front, for which there is room
  plain-run : (n room : ℕ) (line : List ℕ) → n ≤ room → n ≤ length line → BeginsWithAscii n line
      → sum_by g (fitting f room (characters e line))
      ≡ n + sum_by g (fitting f (room - n) (characters e (drop n line)))
  plain-run zero room line fits long low = let same : room - 0 ≡ room = omega arith in
      rw same (sym (zero-add _))
  plain-run (suc n) room [] fits long low = absurd (omega arith)
  plain-run (suc n) room (b ∷ rest) fits long low =
      let line = b ∷ rest in
      let one_fits : f one_byte ≤ room = omega (arith, one) in
      let left : room - f one_byte ≡ room - 1 = omega (arith, one) in
      let after : room - 1 - n ≡ room - suc n = omega arith in
      let step =
      measured-step f g e line room one_byte
      (sym (letter-first line (omega arith) e (low 0 (omega arith)))) (omega arith) rest refl one_fits
      in
      let more = plain-run n (room - 1) rest (omega arith) (omega arith)
      (λ i before. low (suc i) (omega (arith, before))) in
      omega (
        arith,
        step,
        other,
        more,
        ap (λ k. sum_by g (fitting f k (characters e rest))) left,
        ap (λ k. sum_by g (fitting f k (characters e (drop n rest)))) after,
      )

begins : (n : ℕ) (line front : List ℕ) → front ≡ take n line → IsAscii front
    → BeginsWithAscii n line
begins n line front is ascii i before =
    subst (λ b. b < 128) (ap (λ l. slice_index l i) is ∙ get_or-take n line i 0 before) (ascii i)

-- the column of a place
pub ascii-column : (e : Encoding) (line front : List ℕ) (place : ℕ) → front ≡ take place line
    → IsAscii front → length front ≡ column e line place
ascii-column e line front place is ascii =
    ap length is
    ∙ plain (λ c. c.bytes) (λ c. c.units) e refl refl
    (λ l more. let c = first_is e l more in omega (arith, c.some, c.few)) place line
    (begins place line front is ascii)

-- the place of a column
pub ascii-place : (e : Encoding) (line front : List ℕ) (col : ℕ) → front ≡ take col line
    → IsAscii front → length front ≡ place_in_line e line col
ascii-place e line front col is ascii =
    ap length is
    ∙ plain (λ c. c.units) (λ c. c.bytes) e refl refl (λ l more. (first_is e l more).some) col line
    (begins col line front is ascii)

-- a block of ASCII is a run
pub ascii-run : (e : Encoding) (line : List ℕ) (n room : ℕ) → n ≤ room → n ≤ length line
    → IsAscii (take n line) → IsRun e line room (record { bytes = n; units = n })
ascii-run e line n room fits long ascii =
    let low = begins n line (take n line) refl ascii in
    record {
      column_in = λ over. absurd (omega (arith, over));
      column_after = λ _. plain-run (λ c. c.bytes) (λ c. c.units) e refl refl
          (λ l more. let c = first_is e l more in omega (arith, c.some, c.few)) n room line fits
          long low;
      place_in = λ over. absurd (omega (arith, over));
      place_after = λ _. plain-run (λ c. c.units) (λ c. c.bytes) e refl refl
          (λ l more. (first_is e l more).some) n room line fits long low;
    }

-- so is the first character
first-run : (e : Encoding) (line : List ℕ) (room : ℕ) (c : Character) → c ≡ first e line
    → 0 < length line → IsRun e line room c
first-run e line room c is some = record {
  column_in = λ over.
      sym (measured-stop (λ c. c.bytes) (λ c. c.units) e line room c is some over);
  column_after = λ fits.
      measured-step (λ c. c.bytes) (λ c. c.units) e line room c is some (drop c.bytes line) refl
      fits;
  place_in = λ over.
      sym (measured-stop (λ c. c.units) (λ c. c.bytes) e line room c is some over);
  place_after = λ fits.
      measured-step (λ c. c.units) (λ c. c.bytes) e line room c is some (drop c.bytes line) refl
      fits;
}

pub run-of : (e : Encoding) (line : List ℕ) (room : ℕ) (o : Option Character)
    → IfSome o (λ c. 0 < length line) → IfSome o (λ c. c ≡ first e line)
    → IfSome o (λ c. IsRun e line room c)
run-of e line room None some is = tt
run-of e line room (Some c) some is = first-run e line room c is some
