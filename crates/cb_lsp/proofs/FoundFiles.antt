-- The files of definitions, one after another, up to so many.
use Rattle.std.proofs.Common.{◌≡◌, ◌<◌, ◌-◌, ◌∙◌, ◌∷◌, [], List, ℕ, zero, suc, ap, arith}
use Rattle.std.proofs.Common.{fold, refl, take}
use Rattle.cb_lsp.specs.Refresh.{files_of_tags, with_file}
use Rattle.cb_tags.specs.TagLines.{Tag}

-- the first of those that are taken
take-more : {A : Type 0} (n : ℕ) (x : A) (xs : List A) → 0 < n → take n (x ∷ xs) ≡ x ∷ take (n - 1) xs
take-more zero x xs some = absurd (omega (arith, some))
take-more (suc n) x xs some = ap (λ k. x ∷ take k xs) (omega arith)

take-none : (n : ℕ) → take {A = Tag} n [] ≡ []
take-none zero = refl
take-none (suc n) = refl

pub files-more : (n : ℕ) (fs : List (List ℕ)) (t : Tag) (ts all : List Tag) → 0 < n → all ≡ t ∷ ts
    → fold with_file fs (files_of_tags (take n all))
    ≡ fold with_file (with_file fs t.file) (files_of_tags (take (n - 1) ts))
files-more n fs t ts all some is =
    ap (λ xs. fold with_file fs (files_of_tags (take n xs))) is
    ∙ ap (λ xs. fold with_file fs (files_of_tags xs)) (take-more n t ts some)

pub files-end : (n : ℕ) (fs : List (List ℕ)) (all : List Tag) → all ≡ []
    → fold with_file fs (files_of_tags (take n all)) ≡ fs
files-end n fs all is =
    ap (λ xs. fold with_file fs (files_of_tags (take n xs))) is
    ∙ ap (λ xs. fold with_file fs (files_of_tags xs)) (take-none n)
