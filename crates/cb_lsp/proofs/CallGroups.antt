-- Calls in the order of their callers, and cut where the caller changes.
use Rattle.std.proofs.Common.{◌≡◌, ◌∙◌, ◌<◌, ◌≤◌, ◌+◌, ◌==◌, ◌&&◌, ℕ, zero, suc, Bool, true, false}
use Rattle.std.proofs.Common.{List, [], ◌∷◌, cond, refl, sym, subst, ap, ap₂, arith, drop, length, map, take}
use Rattle.std.specs.Prelude.{if◌then◌else◌}
use Rattle.std.specs.List.{prefix_len}
use Rattle.std.specs.Str.{bytes_eq}
use Rattle.std.specs.Cmp.{unsigned_Decides}
use Rattle.std.proofs.lemmas.Bool.{and_parts}
use Rattle.std.proofs.lemmas.Slice.Eq.{bytes_eq-Decides}
use Rattle.cb_lsp.specs.Calls.{caller_place, cut_by, have_one_caller, put_first}
use Rattle.cb_lsp.specs.steps.Callers.{FirstCalls, called_in, called_rows}
use Rattle.cb_lsp.specs.declared.callers.CallRow.{CallRow}

pub take-map : {X Y : Type 0} (f : X → Y) (n : ℕ) (xs : List X)
    → map f (take n xs) ≡ take n (map f xs)
take-map f zero xs = refl
take-map f (suc n) [] = refl
take-map f (suc n) (x ∷ xs) = ap (λ l. f x ∷ l) (take-map f n xs)

pub drop-map : {X Y : Type 0} (f : X → Y) (n : ℕ) (xs : List X)
    → map f (drop n xs) ≡ drop n (map f xs)
drop-map f zero xs = refl
drop-map f (suc n) [] = refl
drop-map f (suc n) (x ∷ xs) = drop-map f n xs

pub taken : {X Y : Type 0} (f : X → Y) (n : ℕ) (xs : List X) → n ≤ length xs
    → length (map f (take n xs)) ≡ n
taken f zero xs fits = refl
taken f (suc n) [] fits = grind (arith, fits)
taken f (suc n) (x ∷ xs) fits = ap suc (taken f n xs (omega (arith, fits)))

pub mapped : {X Y : Type 0} (f : X → Y) (xs : List X) → length (map f xs) ≡ length xs
mapped f [] = refl
mapped f (x ∷ xs) = ap suc (mapped f xs)

pub passed : {X Y : Type 0} (f : X → Y) (n : ℕ) (xs : List X) → length xs < n
    → drop n (map f xs) ≡ []
passed f zero xs past = grind (arith, past)
passed f (suc n) [] past = refl
passed f (suc n) (x ∷ xs) past = passed f n xs (omega (arith, past))

-- how many at the front pass a test
front : {X : Type 0} → (X → Bool) → List X → ℕ
front p [] = 0
front p (x ∷ xs) = if p x then suc (front p xs) else 0

front-is : {X Y : Type 0} (f : X → Y) (p : Y → Bool) (xs : List X)
    → prefix_len (λ x. p (f x)) xs ≡ front p (map f xs)
unfolding front
front-is f p [] = refl
front-is f p (x ∷ xs) =
    elim (p (f x)) as (λ b. cond b (1 + prefix_len (λ y. p (f y)) xs) 0
    ≡ (if b then suc (front p (map f xs)) else 0)) [
      | true ↦ omega (arith, front-is f p xs)
      | false ↦ refl
    ]

-- what is alike is alike to the same
abbrev pub IsAlike : {X : Type 0} → (X → X → Bool) → Type 0
IsAlike {X = X} alike = (x y z : X) → alike x y ≡ true → alike x z ≡ alike y z

module _ {X : Type 0} (alike : X → X → Bool) (is : IsAlike alike) where
  behind-same : (x y : X) (zs : List X) → alike x y ≡ true
      → front (alike x) zs ≡ front (alike y) zs
  unfolding front
  behind-same x y [] same = refl
  behind-same x y (z ∷ zs) same =
      ap₂ (λ b n. if b then suc n else 0) (is x y z same) (behind-same x y zs same)

  -- the first group is what is alike at the front, and the others are of the rest
  cut-behind : (x : X) (xs : List X)
      → cut_by alike (x ∷ xs) ≡ (x, x ∷ take (front (alike x) xs) xs)
      ∷ cut_by alike (drop (front (alike x) xs) xs)
  unfolding cut_by front
  cut-behind x [] = refl
  cut-behind x (y ∷ xs) =
      ap (put_first alike x) (cut-behind y xs)
      ∙ (elim (alike x y) as (λ b. alike x y ≡ b
      → (if b then (x, x ∷ y ∷ take (front (alike y) xs) xs)
      ∷ cut_by alike (drop (front (alike y) xs) xs)
      else (x, x ∷ []) ∷ (y, y ∷ take (front (alike y) xs) xs)
      ∷ cut_by alike (drop (front (alike y) xs) xs))
      ≡ (let n = if b then suc (front (alike x) xs) else 0 in
      (x, x ∷ take n (y ∷ xs)) ∷ cut_by alike (drop n (y ∷ xs)))) [
        | true ↦ λ same. ap (λ n. (x, x ∷ y ∷ take n xs) ∷ cut_by alike (drop n xs))
            (sym (behind-same x y xs same))
        | false ↦ λ same. ap (λ gs. (x, x ∷ []) ∷ gs) (sym (cut-behind y xs))
      ]) refl

  -- elements at the front that stand for what is alike are the first group
  pub cut-front : {R : Type 0} (f : R → X) (first : R) (behind : List R) (n : ℕ)
      → n ≡ prefix_len (λ r. alike (f first) (f r)) behind → n ≤ length behind
      → cut_by alike (map f (first ∷ behind))
      ≡ (f first, map f (take (n + 1) (first ∷ behind)))
      ∷ cut_by alike (drop (length (map f (take (n + 1) (first ∷ behind)))) (map f (first ∷ behind)))
  cut-front f first behind n counted fits =
      let x = f first in
      let xs = map f behind in
      let more : suc n ≡ n + 1 = omega arith in
      let size = taken f n behind fits in
      subst (λ k. cut_by alike (x ∷ xs) ≡ (x, map f (take k (first ∷ behind)))
      ∷ cut_by alike (drop (length (map f (take k (first ∷ behind)))) (x ∷ xs))) more
      (subst (λ k. cut_by alike (x ∷ xs) ≡ (x, x ∷ take k xs) ∷ cut_by alike (drop k xs))
      (sym (counted ∙ front-is f (alike x) behind)) (cut-behind x xs)
      ∙ ap₂ (λ ts k. (x, x ∷ ts) ∷ cut_by alike (drop k xs))
      (sym (take-map f n behind)) (sym size))

-- two calls of one caller have it in common with the same ones
one-caller : IsAlike have_one_caller
one-caller c d e is =
    let both = and_parts (bytes_eq c.call.file d.call.file) (caller_place c == caller_place d) is in
    ap₂ (λ f p. bytes_eq f e.call.file && (p == caller_place e))
    ((bytes_eq-Decides c.call.file d.call.file).0 both.0)
    ((unsigned_Decides (caller_place c) (caller_place d)).0 both.1)

-- the rows at the front that have one caller are the first group
pub first-calls : (rows : List CallRow) (first : CallRow) (behind : List CallRow) (n : ℕ)
    → rows ≡ first ∷ behind
    → n ≡ prefix_len (λ r. have_one_caller (called_in first) (called_in r)) behind
    → n ≤ length behind
    → FirstCalls (called_rows rows) (called_in first) (called_rows (take (n + 1) rows))
first-calls rows first behind n is counted fits =
    let size = taken called_in n behind fits in
    let more : suc n ≡ n + 1 = omega arith in
    subst (λ rs. FirstCalls (called_rows rs) (called_in first) (called_rows (take (n + 1) rs)))
    (sym is)
    (record {
      within = subst (λ k. length (called_rows (take k (first ∷ behind)))
          ≤ length (called_rows (first ∷ behind))) more
          (omega (arith, size, mapped called_in behind, fits));
      cut = cut-front have_one_caller one-caller called_in first behind n counted fits;
    })
