-- A body whose halves of pairs are read one after another.
use Rattle.std.proofs.Common.{◌≡◌, ◌∙◌, ℕ, zero, suc, ◌-◌, ◌<◌, ◌≤◌, List, [], ◌∷◌, ◌++◌, length}
use Rattle.std.proofs.Common.{drop, refl, sym, ap, arith}
use Rattle.cb_wire.specs.Surrogates.{front_size, front_text, read_after, with_whole_pairs}

after-dropped : (n : ℕ) (text : List ℕ) → read_after n text ≡ read_after 0 (drop n text)
unfolding read_after
after-dropped zero text = refl
after-dropped (suc n) [] = refl
after-dropped (suc n) (b ∷ bs) = after-dropped n bs

drop-more : (n : ℕ) (b : ℕ) (bs : List ℕ) → 1 ≤ n → drop n (b ∷ bs) ≡ drop (n - 1) bs
drop-more zero b bs p = absurd (omega arith)
drop-more (suc n) b bs p = let e : suc n - 1 ≡ n = omega arith in rw e refl

-- what stands for one character, and then the rest
pub pairs-step : (text : List ℕ) → 0 < length text → 1 ≤ front_size text
    → with_whole_pairs text ≡ front_text text ++ with_whole_pairs (drop (front_size text) text)
unfolding read_after
pairs-step [] p q = absurd (omega arith)
pairs-step (b ∷ bs) p q =
    ap (λ l. front_text (b ∷ bs) ++ l)
    (after-dropped (front_size (b ∷ bs) - 1) bs
    ∙ ap (read_after 0) (sym (drop-more (front_size (b ∷ bs)) b bs q)))

pub pairs-nil : (text : List ℕ) → length text ≡ 0 → with_whole_pairs text ≡ []
unfolding read_after
pairs-nil [] p = refl
pairs-nil (b ∷ bs) p = absurd (omega arith)
