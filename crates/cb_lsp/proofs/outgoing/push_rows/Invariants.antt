use Rattle.std.proofs.Common.{◌≡◌, ◌≤◌, ◌++◌, length, map}
use Rattle.cb_tags.specs.TagLines.{tag_of}
use Rattle.cb_lsp.specs.steps.Outgoing.{called_rows, callee_rows}
use Rattle.cb_lsp.proofs.outgoing.push_rows.Given as goal

abbrev pub invariant-rows : goal.invariant-rows
invariant-rows l = record {
  all : called_rows l.called.items
      ++ map (λ t. (t, callee_rows l.calls)) (map tag_of l.left)
      ≡ called_rows l.initial.called.items
      ++ map (λ t. (t, callee_rows l.calls)) (map tag_of l.rows);
  few : length l.called.items ≤ 1000;
}

abbrev pub decreases-rows : goal.decreases-rows
decreases-rows l = length l.left
