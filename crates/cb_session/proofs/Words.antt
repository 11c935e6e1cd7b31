-- A text cut at its spaces, and its digits.
use Rattle.std.proofs.Common.{◌≡◌, ℕ, suc, ◌+◌, ◌*◌, ◌-◌, ◌^◌, ◌<◌, ◌≤◌, Bool, true, false, cond}
use Rattle.std.proofs.Common.{not, List, [], ◌∷◌, length, take, drop, get_or, Option, Some, None}
use Rattle.std.proofs.Common.{refl, ap, ◌∙◌, subst, arith, nat_lt, add-one}
use Rattle.std.proofs.lemmas.Bool.Decides.{nat_tests}
use Rattle.std.specs.Char.{digit_value}
use Rattle.std.specs.List.{list_all}
use Rattle.std.specs.Str.Parse.{digits_value}
use Rattle.std.proofs.lemmas.Int.Digits.{digits_value_more}
use Rattle.std.proofs.lemmas.List.Folds.{list_all_at}
use Rattle.std.proofs.Math.Nat.{pow-suc, pow-le-pow_right}
use denote.Ref.{Bor}
use Rattle.cb_session.specs.Commands.{is_digit, is_space}
use Rattle.cb_session.specs.steps.Words.{words_after, parts_of}
use Rattle.std.specs.List.{slice_split, onto_first, position, position_or_len}
use Rattle.std.proofs.lemmas.List.Splits.{slice_split_first, slice_split-cons_no}

-- a list is cut at the first element that passes
pub split_at : (p : ℕ → Bool) (xs : List ℕ) (at : ℕ) → Some at ≡ position p xs
    → slice_split p xs ≡ take at xs ∷ slice_split p (drop (at + 1) xs)
split_at p xs at =
    let P : Bool → Type 0 = λ b.
    nat_lt (position_or_len p xs) (length xs) ≡ b
    → Some at ≡ cond b (Some (position_or_len p xs)) None
    → slice_split p xs ≡ take at xs ∷ slice_split p (drop (at + 1) xs) in
    let f : (b : Bool) → P b = λ b. elim b as P [
      | true ↦ λ t e.
          let same : position_or_len p xs ≡ at = cc in
          let within : position_or_len p xs < length xs = grind (arith, nat_tests) in
          subst (λ n. slice_split p xs ≡ take n xs ∷ slice_split p (drop (n + 1) xs)) same
          (slice_split_first p xs 0 within)
      | false ↦ λ t e. cc
    ] in
    f (nat_lt (position_or_len p xs) (length xs)) refl

-- a list in which no element passes is one part
unsplit : (p : ℕ → Bool) (xs : List ℕ) → length xs ≤ position_or_len p xs
    → slice_split p xs ≡ xs ∷ []
unsplit p [] h = refl
unsplit p (x ∷ xs) h =
    let P : Bool → Type 0 = λ b.
    p x ≡ b → suc (length xs) ≤ cond (not b) (1 + position_or_len p xs) 0
    → slice_split p (x ∷ xs) ≡ (x ∷ xs) ∷ [] in
    let f : (b : Bool) → P b = λ b. elim b as P [
      | true ↦ λ t e. absurd (omega arith)
      | false ↦ λ t e. slice_split-cons_no p x xs t ∙ ap (onto_first x) (unsplit p xs (omega arith))
    ] in
    f (p x) refl h

pub split_none : (p : ℕ → Bool) (xs : List ℕ) → None ≡ position p xs → slice_split p xs ≡ xs ∷ []
split_none p xs =
    let P : Bool → Type 0 = λ b.
    nat_lt (position_or_len p xs) (length xs) ≡ b → None ≡ cond b (Some (position_or_len p xs)) None
    → slice_split p xs ≡ xs ∷ [] in
    let f : (b : Bool) → P b = λ b. elim b as P [
      | true ↦ λ t e. cc
      | false ↦ λ t e. unsplit p xs (grind (arith, nat_tests))
    ] in
    f (nat_lt (position_or_len p xs) (length xs)) refl

-- each byte of a list of digits is a digit
pub digit_at : (xs : List ℕ) (i : ℕ) → list_all is_digit xs ≡ true → i < length xs
    → (48 ≤ get_or xs i 0) × (get_or xs i 0 ≤ 57)
digit_at xs i all h =
    let P : Bool → Type 0 = λ b.
    is_digit (get_or xs i 0) ≡ b → (48 ≤ get_or xs i 0) × (get_or xs i 0 ≤ 57) in
    let f : (b : Bool) → P b = λ b. elim b as P [
      | true ↦ λ t. (grind (arith, nat_tests), grind (arith, nat_tests))
      | false ↦ λ t. let no : list_all is_digit xs ≡ false = list_all_at is_digit xs i 0 h t in cc
    ] in
    f (is_digit (get_or xs i 0)) refl

-- the value of a digit
pub digit_is : (b : ℕ) → 48 ≤ b → b ≤ 57 → digit_value b ≡ b - 48
digit_is b low high = grind (arith, nat_tests)

-- the number that one digit more writes
pub number_more : (xs : List ℕ) (i n : ℕ) → i < length xs → 48 ≤ get_or xs i 0 → get_or xs i 0 ≤ 57
    → n ≡ digits_value 10 (take i xs)
    → n * 10 + (get_or xs i 0 - 48) ≡ digits_value 10 (take (i + 1) xs)
number_more xs i n h low high e =
    let step = digits_value_more 10 xs i h in
    let digit = digit_is (get_or xs i 0) low high in
    cc

-- it stays below the next power of ten
pub number_small : (i n b : ℕ) → b ≤ 57 → n < 10 ^ i → n * 10 + (b - 48) < 10 ^ (i + 1)
number_small i n b h s =
    let e : 10 ^ (i + 1) ≡ 10 ^ i * 10 = ap (λ k. 10 ^ k) (add-one i) ∙ pow-suc 10 i in
    omega (arith, e)

-- nine digits fit
pub number_fits : (i n b : ℕ) → i < 9 → b ≤ 57 → n < 10 ^ i → n * 10 + (b - 48) < 1000000000
number_fits i n b h q s =
    let below : i + 1 ≤ 9 = omega arith in
    let power : 10 ^ (i + 1) ≤ 10 ^ 9 = pow-le-pow_right {n = 10} (omega arith) below in
    omega (arith, number_small i n b q s, power)

-- a text has a first word
first_word : (more : List ℕ)
    → (word : List ℕ) × (words : List (List ℕ)) × (slice_split is_space more ≡ word ∷ words)
first_word [] = ([], [], refl)
first_word (x ∷ xs) =
    let W : List (List ℕ) → Type 0 = λ ps.
    (word : List ℕ) × (words : List (List ℕ)) × (ps ≡ word ∷ words) in
    let parts : (ps : List (List ℕ)) → W (onto_first x ps) = λ ps.
    elim ps as (λ qs. W (onto_first x qs))
    [ [] ↦ (x ∷ [], [], refl) | q ∷ qs ↦ (x ∷ q, qs, refl) ] in
    elim (is_space x) as
    (λ b. W (cond b ([] ∷ slice_split is_space xs) (onto_first x (slice_split is_space xs)))) [
      | true ↦ ([], slice_split is_space xs, refl)
      | false ↦ parts (slice_split is_space xs)
    ]

-- what is meant where a word stands after a command
pub too_many-0 : {A : Type 0} (f : List (List ℕ) → A) (y : A)
    → ((a : List ℕ) (words : List (List ℕ)) → f (a ∷ words) ≡ y)
    → (after : Option (Bor (List ℕ))) (more : Bor (List ℕ)) → after ≡ Some more
    → f (words_after after) ≡ y
too_many-0 f y h after more e =
    let w = first_word more.now in
    ap (λ b. f (words_after b)) e ∙ ap f w.2 ∙ h w.0 w.1

-- what is meant where a second word stands there
pub too_many-1 : {A : Type 0} (f : List (List ℕ) → A) (y : A)
    → ((a b : List ℕ) (words : List (List ℕ)) → f (a ∷ b ∷ words) ≡ y)
    → (after second : Option (Bor (List ℕ))) (first more : Bor (List ℕ)) (a : List ℕ)
    → after ≡ Some first → slice_split is_space first.now ≡ parts_of a second → second ≡ Some more
    → f (words_after after) ≡ y
too_many-1 f y h after second first more a e cut e' =
    ap (λ b. f (words_after b)) e ∙ ap f cut
    ∙ too_many-0 (λ words. f (a ∷ words)) y (h a) second more e'

-- what is meant where a third word stands there
pub too_many-2 : {A : Type 0} (f : List (List ℕ) → A) (y : A)
    → ((a b c : List ℕ) (words : List (List ℕ)) → f (a ∷ b ∷ c ∷ words) ≡ y)
    → (after second third : Option (Bor (List ℕ))) (first next more : Bor (List ℕ)) (a b : List ℕ)
    → after ≡ Some first → slice_split is_space first.now ≡ parts_of a second
    → second ≡ Some next → slice_split is_space next.now ≡ parts_of b third → third ≡ Some more
    → f (words_after after) ≡ y
too_many-2 f y h after second third first next more a b e cut e' cut' e'' =
    ap (λ o. f (words_after o)) e ∙ ap f cut
    ∙ too_many-1 (λ words. f (a ∷ words)) y (h a) second third next more b e' cut' e''
