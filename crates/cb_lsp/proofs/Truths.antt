-- Truth values, and texts that are equal.
use Rattle.std.proofs.Common.{◌≡◌, ◌∙◌, ◌&&◌, ◌||◌, ℕ, List, Bool, true, false, ap, refl, sym}
use Rattle.std.specs.Str.{bytes_eq}
use Rattle.std.proofs.lemmas.Slice.Eq.{bytes_eq-Decides}

pub impossible : {P : Type 0} → false ≡ true → P
impossible is = absurd cc

pub same_truth : (b c : Bool) → (b ≡ true → c ≡ true) → (c ≡ true → b ≡ true) → b ≡ c
same_truth true c on back = sym (on refl)
same_truth false true on back = back refl
same_truth false false on back = refl

pub or_first : (b c : Bool) → b ≡ true → (b || c) ≡ true
or_first b c is = ap (λ d. d || c) is

pub or_second : (b c : Bool) → c ≡ true → (b || c) ≡ true
or_second true c is = refl
or_second false c is = is

pub and_true : (b c : Bool) → b ≡ true → c ≡ true → (b && c) ≡ true
and_true b c first second = ap (λ d. d && c) first ∙ second

pub and_first : (b c : Bool) → (b && c) ≡ true → b ≡ true
and_first true c is = refl
and_first false c is = is

pub and_second : (b c : Bool) → (b && c) ≡ true → c ≡ true
and_second true c is = is
and_second false c is = impossible is

pub itself : (xs : List ℕ) → bytes_eq xs xs ≡ true
itself xs = (bytes_eq-Decides xs xs).1 refl

pub either_way : (xs ys : List ℕ) → bytes_eq xs ys ≡ bytes_eq ys xs
either_way xs ys =
    same_truth (bytes_eq xs ys) (bytes_eq ys xs)
    (λ is. (bytes_eq-Decides ys xs).1 (sym ((bytes_eq-Decides xs ys).0 is)))
    (λ is. (bytes_eq-Decides xs ys).1 (sym ((bytes_eq-Decides ys xs).0 is)))
