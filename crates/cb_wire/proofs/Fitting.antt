-- The characters of a line, one by one and as many as fit.
use Rattle.std.proofs.Common.{◌≡◌, ℕ, zero, suc, ◌+◌, ◌-◌, ◌<◌, ◌≤◌, List}
use Rattle.std.proofs.Common.{[], ◌∷◌, length, take, drop, Option, Some, None, refl, sym, ap, ◌∙◌}
use Rattle.std.proofs.Common.{subst, arith, inl, inr, length-drop}
use Rattle.std.specs.List.{sum_by, AllByRecursion}
use Rattle.std.proofs.lemmas.Bool.Decides.{leb_tells, eqb_tells}
use Rattle.std.proofs.lemmas.List.Sums.{sum_by-cons, sum_by-take-drop}
use Rattle.bstr.specs.Utf8.{decoded}
use Rattle.bstr.proofs.lemmas.PieceLemmas.{piece-bounds}
use Rattle.cb_wire.specs.declared.units.Character.{Character}
use Rattle.cb_wire.specs.declared.units.Encoding.{Encoding}
use Rattle.cb_wire.specs.declared.units.Encoding.TheVariants.{Utf8, Utf16}
use Rattle.cb_wire.specs.Units.{sequence, first, characters_from, characters, fitting, bytes_of}
use Rattle.cb_wire.specs.Units.{IsBoundary, IsColumn, column, place_in_line}

-- a character of at most n bytes
pub record IsCharacter (n : ℕ) (c : Character) : Type 0 where
  pub some : 1 ≤ c.units
  pub few : c.units ≤ c.bytes
  pub within : c.bytes ≤ n

sequence_is : (o : Option ℕ) (size n : ℕ) → 1 ≤ size → size ≤ n → IsCharacter n (sequence o size)
sequence_is None size n p q = record { some = omega arith; few = omega arith; within = omega arith }
sequence_is (Some x) size n p q =
    elim (eqb_tells size 4) as (λ _. IsCharacter n (sequence (Some x) size)) [
      | inl h ↦ record { some = rw h.0 (omega arith); few = rw h.0 (omega arith); within = q }
      | inr h ↦ record { some = rw h.0 (omega arith); few = rw h.0 (omega arith); within = q }
    ]

pub first_is : (e : Encoding) (line : List ℕ) → 0 < length line
    → IsCharacter (length line) (first e line)
first_is Utf8 line p = record { some = omega arith; few = omega arith; within = omega arith }
first_is Utf16 line p =
    let bounds = piece-bounds line p in
    sequence_is (decoded line).char (decoded line).size (length line) bounds.0 bounds.2

-- more fuel than bytes changes nothing
fuel : (e : Encoding) (n m : ℕ) (line : List ℕ) → length line ≤ n → length line ≤ m
    → characters_from e n line ≡ characters_from e m line
unfolding characters_from
fuel e zero zero [] p q = refl
fuel e zero (suc m) [] p q = refl
fuel e (suc n) zero [] p q = refl
fuel e (suc n) (suc m) [] p q = refl
fuel e zero m (b ∷ rest) p q = absurd (omega arith)
fuel e (suc n) zero (b ∷ rest) p q = absurd (omega arith)
fuel e (suc n) (suc m) (b ∷ rest) p q =
    let line = b ∷ rest in
    let c = first e line in
    let is = first_is e line (omega arith) in
    ap (λ l. c ∷ l)
    (fuel e n m (drop c.bytes line) (omega (arith, is.some, is.few, length-drop c.bytes line))
    (omega (arith, is.some, is.few, length-drop c.bytes line)))

pub characters-step : (e : Encoding) (line : List ℕ) → 0 < length line
    → characters e line ≡ first e line ∷ characters e (drop (first e line).bytes line)
unfolding characters_from
characters-step e [] p = absurd (omega arith)
characters-step e (b ∷ rest) p =
    let line = b ∷ rest in
    let c = first e line in
    let is = first_is e line p in
    ap (λ l. c ∷ l)
    (fuel e (length rest) (length (drop c.bytes line)) (drop c.bytes line)
    (omega (arith, is.some, is.few, length-drop c.bytes line)) (omega arith))

pub characters-nil : (e : Encoding) (line : List ℕ) → length line ≡ 0 → characters e line ≡ []
unfolding characters_from
characters-nil e [] p = refl
characters-nil e (b ∷ rest) p = absurd (omega arith)

-- all characters of a line have bytes and units
abbrev pub HasSize : Character → Type 0
HasSize c = (1 ≤ c.units) × (1 ≤ c.bytes)

sized : (e : Encoding) (n : ℕ) (line : List ℕ) → length line ≤ n
    → AllByRecursion HasSize (characters e line)
sized e n [] p = subst (AllByRecursion HasSize) (sym (characters-nil e [] refl)) tt
sized e zero (b ∷ rest) p = absurd (omega arith)
sized e (suc n) (b ∷ rest) p =
    let line = b ∷ rest in
    let c = first e line in
    let is = first_is e line (omega arith) in
    subst (AllByRecursion HasSize) (sym (characters-step e line (omega arith))) (
      (is.some, omega (arith, is.some, is.few)),
      sized e n (drop c.bytes line) (omega (arith, is.some, is.few, length-drop c.bytes line)),
    )

characters-sized : (e : Encoding) (line : List ℕ) → AllByRecursion HasSize (characters e line)
characters-sized e line = sized e (length line) line (omega arith)

-- the first character fits or does not
pub fitting-step : (f : Character → ℕ) (room : ℕ) (c : Character) (cs : List Character)
    → f c ≤ room → fitting f room (c ∷ cs) ≡ c ∷ fitting f (room - f c) cs
fitting-step f room c cs p =
    elim (leb_tells (f c) room) as (λ _. fitting f room (c ∷ cs) ≡ c ∷ fitting f (room - f c) cs)
    [ inl h ↦ rw h.0 refl | inr h ↦ absurd (omega (arith, h.1)) ]

pub fitting-stop : (f : Character → ℕ) (room : ℕ) (c : Character) (cs : List Character)
    → room < f c → fitting f room (c ∷ cs) ≡ []
fitting-stop f room c cs p =
    elim (leb_tells (f c) room) as (λ _. fitting f room (c ∷ cs) ≡ [])
    [ inl h ↦ absurd (omega (arith, h.1)) | inr h ↦ rw h.0 refl ]

-- one measure of as many characters as fit by another
module _ (f g : Character → ℕ) (e : Encoding) (line : List ℕ) (room : ℕ) where
  abbrev measured : List ℕ → ℕ → ℕ
  measured l r = sum_by g (fitting f r (characters e l))

  pub measured-end : length line ≡ 0 → 0 ≡ measured line room
  measured-end p = ap (λ cs. sum_by g (fitting f room cs)) (sym (characters-nil e line p))

  module _ (next : Character) (is : next ≡ first e line) (some : 0 < length line) where
    cut : characters e line ≡ next ∷ characters e (drop next.bytes line)
    cut = subst (λ c. characters e line ≡ c ∷ characters e (drop c.bytes line)) (sym is)
        (characters-step e line some)

    pub measured-stop : room < f next → 0 ≡ measured line room
    measured-stop p =
        sym (ap (λ cs. sum_by g (fitting f room cs)) cut
        ∙ ap (sum_by g) (fitting-stop f room next (characters e (drop next.bytes line)) p))

    pub measured-step : (rest : List ℕ) → rest ≡ drop next.bytes line → f next ≤ room
        → measured line room ≡ g next + measured rest (room - f next)
    measured-step rest same p =
        let more = characters e (drop next.bytes line) in
        ap (λ cs. sum_by g (fitting f room cs)) cut
        ∙ ap (sum_by g) (fitting-step f room next more p)
        ∙ sum_by-cons g next (fitting f (room - f next) more)
        ∙ ap (λ l. g next + measured l (room - f next)) (sym same)

-- what fits is a front
fitting-front : (f : Character → ℕ) (room : ℕ) (cs : List Character)
    → (n : ℕ) × (fitting f room cs ≡ take n cs)
fitting-front f room [] = (0, refl)
fitting-front f room (c ∷ cs) =
    elim (leb_tells (f c) room) as (λ _. (n : ℕ) × (fitting f room (c ∷ cs) ≡ take n (c ∷ cs))) [
      | inl h ↦ let more = fitting-front f (room - f c) cs in
          (suc more.0, fitting-step f room c cs h.1 ∙ ap (λ l. c ∷ l) more.1)
      | inr h ↦ (0, fitting-stop f room c cs h.1)
    ]

-- a front fits into its own size, and no more does
front-fits : (f : Character → ℕ) (n : ℕ) (cs : List Character)
    → AllByRecursion (λ c. 1 ≤ f c) cs → fitting f (sum_by f (take n cs)) cs ≡ take n cs
front-fits f zero [] all = refl
front-fits f (suc n) [] all = refl
front-fits f zero (c ∷ cs) all = fitting-stop f 0 c cs (omega (arith, all.0))
front-fits f (suc n) (c ∷ cs) all =
    let rest = sum_by f (take n cs) in
    let size = sum_by-cons f c (take n cs) in
    let room : f c + rest - f c ≡ rest = omega arith in
    ap (λ r. fitting f r (c ∷ cs)) size ∙ fitting-step f (f c + rest) c cs (omega arith)
    ∙ ap (λ r. c ∷ fitting f r cs) room ∙ ap (λ l. c ∷ l) (front-fits f n cs all.1)

-- measured by one size and back by the other
there_and_back : (f g : Character → ℕ) (n : ℕ) (cs : List Character)
    → AllByRecursion (λ c. 1 ≤ f c) cs → AllByRecursion (λ c. 1 ≤ g c) cs
    → sum_by f (fitting g (sum_by g (fitting f (sum_by f (take n cs)) cs)) cs)
    ≡ sum_by f (take n cs)
there_and_back f g n cs p q =
    ap (λ l. sum_by f (fitting g (sum_by g l) cs)) (front-fits f n cs p)
    ∙ ap (sum_by f) (front-fits g n cs q)

all_bytes : (cs : List Character) → AllByRecursion HasSize cs
    → AllByRecursion (λ c. 1 ≤ c.bytes) cs
all_bytes [] p = tt
all_bytes (c ∷ cs) p = (p.0.1, all_bytes cs p.1)

all_units : (cs : List Character) → AllByRecursion HasSize cs
    → AllByRecursion (λ c. 1 ≤ c.units) cs
all_units [] p = tt
all_units (c ∷ cs) p = (p.0.0, all_units cs p.1)

-- the bytes of all characters are those of the line
bytes-few : (e : Encoding) (n : ℕ) (line : List ℕ) → length line ≤ n
    → bytes_of (characters e line) ≤ length line
bytes-few e n [] p = omega (arith, ap bytes_of (characters-nil e [] refl))
bytes-few e zero (b ∷ rest) p = absurd (omega arith)
bytes-few e (suc n) (b ∷ rest) p =
    let line = b ∷ rest in
    let c = first e line in
    let is = first_is e line (omega arith) in
    let more = bytes-few e n (drop c.bytes line)
    (omega (arith, is.some, is.few, length-drop c.bytes line)) in
    omega (
      arith,
      ap bytes_of (characters-step e line (omega arith)),
      is.within,
      more,
      length-drop c.bytes line,
      sum_by-cons (λ c. c.bytes) c (characters e (drop c.bytes line)),
    )

pub boundary-within : (e : Encoding) (line : List ℕ) (place : ℕ) → IsBoundary e line place
    → place ≤ length line
boundary-within e line place at =
    omega (
      arith,
      at.1,
      bytes-few e (length line) line (omega arith),
      sum_by-take-drop (λ c. c.bytes) (characters e line) at.0,
    )

-- the laws of places and columns in a line
pub place-back : (e : Encoding) (line : List ℕ) (place : ℕ) → IsBoundary e line place
    → place_in_line e line (column e line place) ≡ place
place-back e line place at =
    let cs = characters e line in
    let sized = characters-sized e line in
    ap (λ p. place_in_line e line (column e line p)) at.1
    ∙ there_and_back (λ c. c.bytes) (λ c. c.units) at.0 cs (all_bytes cs sized) (all_units cs sized)
    ∙ sym at.1

pub column-back : (e : Encoding) (line : List ℕ) (col : ℕ) → IsColumn e line col
    → column e line (place_in_line e line col) ≡ col
column-back e line col at =
    let cs = characters e line in
    let sized = characters-sized e line in
    ap (λ n. column e line (place_in_line e line n)) at.1
    ∙ there_and_back (λ c. c.units) (λ c. c.bytes) at.0 cs (all_units cs sized) (all_bytes cs sized)
    ∙ sym at.1

pub names_a_place : (e : Encoding) (line : List ℕ) (col : ℕ)
    → IsBoundary e line (place_in_line e line col)
names_a_place e line col =
    let front = fitting-front (λ c. c.units) col (characters e line) in
    (front.0, ap (sum_by (λ c. c.bytes)) front.1)

pub has_a_column : (e : Encoding) (line : List ℕ) (place : ℕ)
    → IsColumn e line (column e line place)
has_a_column e line place =
    let front = fitting-front (λ c. c.bytes) place (characters e line) in
    (front.0, ap (sum_by (λ c. c.units)) front.1)
