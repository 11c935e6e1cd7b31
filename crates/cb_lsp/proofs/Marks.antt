-- A line that was gone through up to a character.
use Rattle.std.proofs.Common.{◌≡◌, ◌∙◌, ◌≤◌, ◌+◌, ◌-◌, ℕ, zero, suc, arith, ap, refl, sym, subst}
use Rattle.std.proofs.Common.{◌<◌, List, [], ◌∷◌, Option, None, Some, drop, length, length-drop}
use Rattle.std.proofs.Common.{inl, inr, true}
use Rattle.std.specs.Prelude.{slice_index}
use Rattle.std.proofs.lemmas.Bool.Decides.{leb_tells, nat_tests}
use Rattle.std.proofs.lemmas.List.{get_or-drop}
use Rattle.bstr.specs.Utf8.{continues, decoded}
use Rattle.bstr.proofs.lemmas.PieceLemmas.{piece-bounds, tail-continues}
use Rattle.cb_wire.specs.declared.units.Encoding.{Encoding}
use Rattle.cb_wire.specs.declared.units.Encoding.TheVariants.{Utf8, Utf16}
use Rattle.cb_wire.specs.Units.{column, first, place_in_line, sequence}
use Rattle.cb_wire.proofs.Fitting.{first_is, measured-end, measured-step}
use Rattle.cb_wire.proofs.Fitting.{measured-stop}
use Rattle.cb_lsp.specs.steps.Columns.{AreOfLine, IsMark, LineColumns}

drop-nil : (n : ℕ) → drop {A = ℕ} n [] ≡ []
drop-nil zero = refl
drop-nil (suc n) = refl

drop-drop : (n m : ℕ) (xs : List ℕ) → drop m (drop n xs) ≡ drop (n + m) xs
drop-drop zero m xs = let same : m ≡ 0 + m = omega arith in ap (λ k. drop k xs) same
drop-drop (suc n) m [] = drop-nil m ∙ sym (drop-nil (suc n + m))
drop-drop (suc n) m (x ∷ xs) =
    let same : suc (n + m) ≡ suc n + m = omega arith in
    drop-drop n m xs ∙ ap (λ k. drop k (x ∷ xs)) same

-- the beginning of a line
pub mark-start : (e : Encoding) (line : List ℕ) → IsMark e line 0 0
mark-start e line =
    record {
      within = omega arith;
      few = omega arith;
      goes_on = λ n.
          let same : 0 + n ≡ n = omega arith in
          let none : column e line n ≡ 0 + column e line n = omega arith in
          ap (column e line) same ∙ none;
    }

-- one mark behind another
pub mark-mark : (e : Encoding) (line : List ℕ) (b u c v : ℕ) → IsMark e line b u
    → IsMark e (drop b line) c v → IsMark e line (b + c) (u + v)
mark-mark e line b u c v one two = record {
  within = omega (arith, one.within, two.within, length-drop b line);
  few = omega (arith, one.few, two.few);
  goes_on = λ n.
      let apart : b + c + n ≡ b + (c + n) = omega arith in
      let together : u + (v + column e (drop c (drop b line)) n)
      ≡ u + v + column e (drop c (drop b line)) n = omega arith in
      ap (column e line) apart ∙ one.goes_on (c + n) ∙ ap (λ m. u + m) (two.goes_on n) ∙ together
      ∙ ap (λ l. u + v + column e l n) (drop-drop b c line);
}

-- the end of the first character
mark-first : (e : Encoding) (line : List ℕ) → 0 < length line
    → IsMark e line (first e line).bytes (first e line).units
mark-first e line some =
    let c = first e line in
    let is = first_is e line some in
    record {
      within = is.within;
      few = is.few;
      goes_on = λ n.
          let rest = drop c.bytes line in
          let behind : c.bytes + n - c.bytes ≡ n = omega arith in
          measured-step (λ k. k.bytes) (λ k. k.units) e line (c.bytes + n) c refl some rest refl
          (omega arith) ∙ ap (λ m. c.units + column e rest m) behind;
    }

-- where the character begins that a place is in, and its column
pub mark-at : (e : Encoding) (most : ℕ) (line : List ℕ) (place : ℕ) → length line ≤ most
    → IsMark e line (place_in_line e line (column e line place)) (column e line place)
mark-at e most [] place few =
    let none : 0 ≡ column e [] place =
    measured-end (λ c. c.bytes) (λ c. c.units) e [] place refl in
    let start : 0 ≡ place_in_line e [] (column e [] place) =
    measured-end (λ c. c.units) (λ c. c.bytes) e [] (column e [] place) refl in
    subst (λ b. IsMark e [] b (column e [] place)) start
    (subst (λ u. IsMark e [] 0 u) none (mark-start e []))
mark-at e zero (x ∷ xs) place few = absurd (omega arith)
mark-at e (suc most) (x ∷ xs) place few =
    let line = x ∷ xs in
    let c = first e line in
    let is = first_is e line (omega arith) in
    let rest = drop c.bytes line in
    elim (leb_tells c.bytes place) as
    (λ _. IsMark e line (place_in_line e line (column e line place)) (column e line place)) [
      | inl h ↦
          let u = column e rest (place - c.bytes) in
          let b = place_in_line e rest u in
          let units : column e line place ≡ c.units + u =
          measured-step (λ k. k.bytes) (λ k. k.units) e line place c refl (omega arith) rest refl
          h.1 in
          let left : c.units + u - c.units ≡ u = omega arith in
          let bytes : place_in_line e line (c.units + u) ≡ c.bytes + b =
          measured-step (λ k. k.units) (λ k. k.bytes) e line (c.units + u) c refl (omega arith) rest
          refl (omega arith) ∙ ap (λ n. c.bytes + place_in_line e rest n) left in
          let one = mark-first e line (omega arith) in
          let two = mark-at e most rest (place - c.bytes)
          (omega (arith, few, is.some, is.few, length-drop c.bytes line)) in
          subst (λ m. IsMark e line (place_in_line e line m) m) (sym units)
          (subst (λ m. IsMark e line m (c.units + u)) (sym bytes)
          (mark-mark e line c.bytes c.units b u one two))
      | inr h ↦
          let none : 0 ≡ column e line place =
          measured-stop (λ k. k.bytes) (λ k. k.units) e line place c refl (omega arith) h.1 in
          let start : 0 ≡ place_in_line e line 0 =
          measured-stop (λ k. k.units) (λ k. k.bytes) e line 0 c refl (omega arith)
          (omega (arith, is.some)) in
          subst (λ m. IsMark e line (place_in_line e line m) m) none
          (subst (λ m. IsMark e line m 0) start (mark-start e line))
    ]

-- a line that is gone through from a mark up to the character of a place
pub marked : (e : Encoding) (line rest : List ℕ) (b u place c v : ℕ) → IsMark e line b u
    → rest ≡ drop b line → v ≡ column e rest place → c ≡ place_in_line e rest v
    → IsMark e line (b + c) (u + v)
marked e line rest b u place c v mark is units bytes =
    mark-mark e line b u c v mark (subst (λ l. IsMark e l c v) is
    (subst (λ m. IsMark e rest m v) (sym bytes)
    (subst (λ m. IsMark e rest (place_in_line e rest m) m) (sym units)
    (mark-at e (length rest) rest place (omega arith)))))

-- ---- backwards

-- no units come before the first byte
column-start : (e : Encoding) (line : List ℕ) → 0 ≡ column e line 0
column-start e [] = measured-end (λ c. c.bytes) (λ c. c.units) e [] 0 refl
column-start e (x ∷ xs) =
    let is = first_is e (x ∷ xs) (omega arith) in
    measured-stop (λ c. c.bytes) (λ c. c.units) e (x ∷ xs) 0 (first e (x ∷ xs)) refl (omega arith)
    (omega (arith, is.some, is.few))

-- each byte of a sequence but the first one continues it
continued : (line : List ℕ) (k : ℕ) → 0 < length line → 0 < k → k < (decoded line).size
    → continues (slice_index line k) ≡ true
continued line zero some pos below = absurd (omega arith)
continued line (suc zero) some pos below =
    (tail-continues (length line) (slice_index line 0) (slice_index line 1) (slice_index line 2)
    (slice_index line 3)).0 (omega arith)
continued line (suc (suc zero)) some pos below =
    (tail-continues (length line) (slice_index line 0) (slice_index line 1) (slice_index line 2)
    (slice_index line 3)).1 (omega arith)
continued line (suc (suc (suc zero))) some pos below =
    (tail-continues (length line) (slice_index line 0) (slice_index line 1) (slice_index line 2)
    (slice_index line 3)).2 (omega arith)
continued line (suc (suc (suc (suc k)))) some pos below =
    let bounds = piece-bounds line some in
    absurd (omega arith)

within-sequence : (o : Option ℕ) (size k : ℕ) → 0 < k → k < (sequence o size).bytes → k < size
within-sequence None size k pos below = absurd (omega arith)
within-sequence (Some c) size k pos below = below

-- no byte of a character but the first one is ASCII
within-first : (e : Encoding) (line : List ℕ) (k : ℕ) → 0 < length line → 0 < k
    → k < (first e line).bytes → 128 ≤ slice_index line k
within-first Utf8 line k some pos below = absurd (omega arith)
within-first Utf16 line k some pos below =
    let more : continues (slice_index line k) ≡ true = continued line k some pos
    (within-sequence (decoded line).char (decoded line).size k pos below) in
    grind (arith, nat_tests)

-- a byte of ASCII begins a character
mark-ascii : (e : Encoding) (most : ℕ) (line : List ℕ) (place : ℕ) → length line ≤ most
    → place < length line → slice_index line place < 128
    → IsMark e line place (column e line place)
mark-ascii e most [] place few within is = absurd (omega arith)
mark-ascii e zero (x ∷ xs) place few within is = absurd (omega arith)
mark-ascii e (suc most) (x ∷ xs) zero few within is =
    subst (λ u. IsMark e (x ∷ xs) 0 u) (column-start e (x ∷ xs)) (mark-start e (x ∷ xs))
mark-ascii e (suc most) (x ∷ xs) (suc k) few within is =
    let line = x ∷ xs in
    let place = suc k in
    let c = first e line in
    let bounds = first_is e line (omega arith) in
    let rest = drop c.bytes line in
    elim (leb_tells c.bytes place) as (λ _. IsMark e line place (column e line place)) [
      | inl h ↦
          let left = place - c.bytes in
          let u = column e rest left in
          let here : c.bytes + left ≡ place = omega (arith, h.1) in
          let units : column e line place ≡ c.units + u =
          measured-step (λ k. k.bytes) (λ k. k.units) e line place c refl (omega arith) rest refl
          h.1 in
          let same : slice_index rest left ≡ slice_index line place =
          get_or-drop c.bytes line left 0 ∙ ap (slice_index line) here in
          let more = mark-ascii e most rest left
          (omega (arith, few, bounds.some, bounds.few, length-drop c.bytes line))
          (omega (arith, within, h.1, length-drop c.bytes line)) (omega (arith, is, same)) in
          subst (λ m. IsMark e line place m) (sym units)
          (subst (λ m. IsMark e line m (c.units + u)) here
          (mark-mark e line c.bytes c.units left u (mark-first e line (omega arith)) more))
      | inr h ↦ absurd (omega (
        arith,
        is,
        within-first e line place (omega arith) (omega arith) h.1,
      ))
    ]

-- the units before a mark are those before a byte of ASCII and those from there on
module _ (e : Encoding) (line rest : List ℕ) (b u place v : ℕ) (mark : IsMark e line b u)
    (before : place < b) (is : slice_index line place < 128) (left : rest ≡ drop place line)
    (units : v ≡ column e rest (b - place))
  where
    here : IsMark e line place (column e line place)
    here = mark-ascii e (length line) line place (omega arith) (omega (arith, before, mark.within)) is

    pub units-before : u ≡ column e line place + v
    units-before =
        let same : place + (b - place) ≡ b + 0 = omega (arith, before) in
        let none : u ≡ u + column e (drop b line) 0 = omega (arith, column-start e (drop b line)) in
        none ∙ sym (mark.goes_on 0) ∙ sym (ap (column e line) same) ∙ here.goes_on (b - place)
        ∙ ap (λ l. column e line place + column e l (b - place)) (sym left)
        ∙ ap (λ n. column e line place + n) (sym units)

    pub marked-before : IsMark e line place (u - v)
    marked-before =
        let same : column e line place ≡ u - v = omega (arith, units-before) in
        subst (λ m. IsMark e line place m) same here

-- columns of no line
pub no-line : (e : Encoding) (text : List ℕ) (c : LineColumns)
    → c ≡ record { encoding = e; line = [] } → AreOfLine e text 0 None c
no-line e text c is = record {
  encoding = ap (λ (l : LineColumns). l.encoding) is;
  shown = ap (λ (l : LineColumns). l.line) is;
  at_end = tt;
}
