-- Texts in others.
use Rattle.std.proofs.Common.{◌≡◌, ◌∙◌, ◌<◌, ◌==◌, ◌&&◌, ℕ, zero, suc, Bool, List, [], ◌∷◌, length}
use Rattle.std.proofs.Common.{take, true, false, ap, arith, refl}
use Rattle.std.specs.Char.{to_ascii_lowercase}
use Rattle.std.specs.Prelude.{slice_index}
use Rattle.std.specs.Str.{str_eq_ignore_ascii_case}
use Rattle.cb_lsp.specs.Likes.{begins_like, holds_like}

-- what begins with a text holds it
pub holds-begun : (part text : List ℕ) → begins_like part text ≡ true → holds_like part text ≡ true
holds-begun part [] e = e
holds-begun part (b ∷ bs) e = rw e

-- one byte more of two texts
and-true : (a : Bool) → (a && true) ≡ a
and-true true = refl
and-true false = refl

and-and : (a b c : Bool) → (a && (b && c)) ≡ ((a && b) && c)
and-and true b c = refl
and-and false b c = refl

pub alike-more : (i : ℕ) (a b : List ℕ) → i < length a → i < length b
    → str_eq_ignore_ascii_case (take (suc i) a) (take (suc i) b)
    ≡ (str_eq_ignore_ascii_case (take i a) (take i b)
    && to_ascii_lowercase (slice_index a i) == to_ascii_lowercase (slice_index b i))
alike-more i [] b p q = absurd (omega arith)
alike-more i (x ∷ xs) [] p q = absurd (omega arith)
alike-more zero (x ∷ xs) (y ∷ ys) p q = and-true (to_ascii_lowercase x == to_ascii_lowercase y)
alike-more (suc i) (x ∷ xs) (y ∷ ys) p q =
    let one = to_ascii_lowercase x == to_ascii_lowercase y in
    ap (λ t. one && t) (alike-more i xs ys (omega arith) (omega arith))
    ∙ and-and one (str_eq_ignore_ascii_case (take i xs) (take i ys))
    (to_ascii_lowercase (slice_index xs i) == to_ascii_lowercase (slice_index ys i))
