-- The first spans are counted.
use Rattle.std.proofs.Common.{◌≡◌, ◌≤◌, take}
use Rattle.std.specs.Prelude.{count_by}
use Rattle.cb_lsp.specs.LocalRenames.{is_named}
use Rattle.cb_lsp.proofs.renamed_text.named_among.Given as goal

abbrev pub invariant-loop-i : goal.invariant-loop-i
invariant-loop-i l = record {
  counted : l.count ≡ count_by (is_named l.source l.name) (take l.i l.spans);
  few : l.count ≤ l.i;
}
