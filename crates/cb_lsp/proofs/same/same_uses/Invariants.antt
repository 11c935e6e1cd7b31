-- What is left decides, and the judge knows its file.
use Rattle.std.proofs.Common.{◌≡◌, ◌++◌, length, map}
use Rattle.cb_index.specs.steps.Left.{fact_of_spot}
use Rattle.cb_lsp.specs.Same.{same_uses}
use Rattle.cb_lsp.specs.steps.References.{references_left}
use Rattle.cb_lsp.specs.steps.Same.{IsTold}
use Rattle.cb_lsp.proofs.same.same_uses.Given as goal

abbrev pub invariant-uses : goal.invariant-uses
invariant-uses l = record {
  told : IsTold l.judge;
  desk : l.judge.desk.now ≡ l.fn.desk;
  sort : l.judge.sort ≡ l.fn.sort;
  name : l.judge.name.now ≡ l.fn.name;
  found : map fact_of_spot l.found.items
      ++ same_uses l.fn.desk.timeline.present l.fn.sort l.fn.name (references_left l.left)
      ≡ same_uses l.fn.desk.timeline.present l.fn.sort l.fn.name (references_left l.fn.uses);
}

abbrev pub decreases-uses : goal.decreases-uses
decreases-uses l = length (references_left l.left)
