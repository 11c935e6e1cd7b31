-- The first uses are counted.
use Rattle.std.proofs.Common.{◌≡◌, ◌≤◌, take}
use Rattle.std.specs.Prelude.{count_by}
use Rattle.cb_lsp.specs.LocalRenames.{is_use_in}
use Rattle.cb_lsp.proofs.renamed_text.uses_in.Given as goal

abbrev pub invariant-loop-i : goal.invariant-loop-i
invariant-loop-i l = record {
  counted : l.count ≡ count_by (is_use_in l.source l.extent l.name) (take l.i l.uses);
  few : l.count ≤ l.i;
}
