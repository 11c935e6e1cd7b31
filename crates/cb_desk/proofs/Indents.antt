-- What stays of a line without its leading blanks.
use Rattle.std.proofs.Common.{◌≡◌, refl, ℕ, ◌+◌, Bool, true, false, ◌||◌, ◌==◌, cond, List, [], ◌∷◌}
use Rattle.std.proofs.Common.{drop, one-add}
use Rattle.std.specs.List.{prefix_len}
use Rattle.cb_desk.specs.Answer.{space, tab, unindented}

abbrev pub is_blank : ℕ → Bool
is_blank b = b == space || b == tab

-- what follows the blanks that a line begins with
pub drop-blanks : (line : List ℕ) → drop (prefix_len is_blank line) line ≡ unindented line
unfolding unindented
drop-blanks [] = refl
drop-blanks (b ∷ bs) =
    elim (is_blank b) as
    (λ t. drop (cond t (1 + prefix_len is_blank bs) 0) (b ∷ bs) ≡ cond t (unindented bs) (b ∷ bs)) [
      | true ↦ rw one-add (drop-blanks bs)
      | false ↦ refl
    ]
