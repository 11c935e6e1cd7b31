use Rattle.std.proofs.Common.{◌≡◌}
use Rattle.cb_index.specs.Items.{is_first}
use Rattle.cb_index.proofs.ItemLemmas.{is_first_from}
use Rattle.cb_index.proofs.items.is_first.Given as goal

abbrev pub invariant-loop-before : goal.invariant-loop-before
invariant-loop-before l =
    is_first_from l.sort l.version l.item l.before ≡ is_first l.sort l.version l.item
