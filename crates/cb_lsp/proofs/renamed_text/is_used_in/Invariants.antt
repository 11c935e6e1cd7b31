-- None of the first uses has the name.
use Rattle.std.proofs.Common.{◌≡◌, false, take}
use Rattle.std.specs.List.{list_any}
use Rattle.cb_lsp.specs.LocalRenames.{is_use_in}
use Rattle.cb_lsp.proofs.renamed_text.is_used_in.Given as goal

abbrev pub invariant-loop-i : goal.invariant-loop-i
invariant-loop-i l = list_any (is_use_in l.source l.extent l.name) (take l.i l.uses) ≡ false
