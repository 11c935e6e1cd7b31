use Rattle.std.proofs.Common.{◌≡◌, ◌≤◌, ◌++◌, ◌-◌, drop, length}
use Rattle.cb_lsp.specs.Calls.{cut_by}
use Rattle.cb_lsp.specs.Outgoing.{have_one_name}
use Rattle.cb_lsp.specs.steps.Outgoing.{callee_rows, group_rows}
use Rattle.cb_lsp.proofs.outgoing.groups_of.Given as goal

abbrev pub invariant-names : goal.invariant-names
invariant-names l = record {
  within : l.given ≤ length l.rows;
  made : group_rows l.groups.items
      ++ cut_by have_one_name (callee_rows (drop l.given l.rows))
      ≡ cut_by have_one_name (callee_rows l.rows);
}

abbrev pub decreases-names : goal.decreases-names
decreases-names l = length l.rows - l.given
