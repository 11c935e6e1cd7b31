use Rattle.std.proofs.Common.{◌≡◌, take}
use Rattle.std.specs.List.{flat_map}
use Rattle.cb_lsp.specs.Outgoing.{called_as}
use Rattle.cb_lsp.specs.steps.Nearby.{IsKnown}
use Rattle.cb_lsp.specs.steps.Outgoing.{called_rows, group_in}
use Rattle.cb_lsp.proofs.outgoing.called_of.Given as goal

abbrev pub invariant-names : goal.invariant-names
invariant-names l = record {
  called : called_rows l.called.items
      ≡ take 1000 (flat_map (λ g. called_as l.desk.timeline.present l.file (group_in g))
      (take l.group-index l.groups));
  desk : l.viewer.desk.now ≡ l.desk;
  from : l.viewer.from.now ≡ l.file;
  known : IsKnown l.viewer;
}
