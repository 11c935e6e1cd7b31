-- The facts of entries that are given: all, or those that are no repeats.
use Rattle.std.specs.Prelude.{ℕ, Bool, ◌||◌, not, List, filter}
use Rattle.cb_index.specs.Repeats.{is_repeat}
use Rattle.cb_index.specs.steps.Chains.{chain_left}
use Rattle.cb_index.specs.Scanned.{Scanned}
use Rattle.cb_index.specs.declared.items.Chain.{Chain}
use Rattle.cb_index.specs.declared.entry.FactKind.{FactKind}

-- whether an item is given
abbrev pub gives : Bool → FactKind → Scanned → ℕ → Bool
gives all sort text item = all || not (is_repeat sort text item)

-- the items that are still to come and are given
abbrev pub given_left : Bool → Chain → List ℕ
given_left all c = filter (gives all c.sort c.version.now) (chain_left c)
