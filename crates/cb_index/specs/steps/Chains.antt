-- What is left of the items of one key.
use Rattle.std.specs.Prelude.{ℕ, List, [], Option, Some, None}
use Rattle.cb_index.specs.steps.Spread.{items_from}
use Rattle.cb_index.specs.Scanned.{Scanned}
use Rattle.cb_index.specs.declared.items.Chain.{Chain}
use Rattle.cb_index.specs.declared.entry.FactKind.{FactKind}

abbrev pub chained : FactKind → Scanned → Option ℕ → List ℕ
chained sort text None = []
chained sort text (Some item) = items_from sort text item

abbrev pub chain_left : Chain → List ℕ
chain_left c = chained c.sort c.version.now c.next
