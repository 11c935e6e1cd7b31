use Rattle.std.proofs.Common.{rules, ◌≡◌, subst}
use Rattle.std.proofs.lemmas.Fn.{always_returns_same}
use Rattle.std.specs.Prelude.{nat_lt}
use Rattle.std.specs.List.{IsAllAdjacentAnswer}
use Rattle.cb_index.specs.declared.entry.Shown.{Shown}
use Rattle.cb_index.proofs.NameLemmas.{rising_names}
use Rattle.cb_index.proofs.shown.are_rising.Goals as goal

-- each number is below the next
pub returns : goal.returns
returns c is =
    rising_names c.args.files.now
    (subst (IsAllAdjacentAnswer (λ (s t : Shown) b. b ≡ nat_lt s.name t.name) c.args.files.now) is
    (c.is_sorted_by.ensures.cases (λ s t. nat_lt s.name t.name)
    (always_returns_same _ _ _ (λ x r q k. (search (rules, k), search rules)))))
