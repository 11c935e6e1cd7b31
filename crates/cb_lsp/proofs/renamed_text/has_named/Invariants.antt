-- None of the first spans has the name.
use Rattle.std.proofs.Common.{◌≡◌, false, take}
use Rattle.std.specs.List.{list_any}
use Rattle.cb_lsp.specs.LocalRenames.{is_named}
use Rattle.cb_lsp.proofs.renamed_text.has_named.Given as goal

abbrev pub invariant-loop-i : goal.invariant-loop-i
invariant-loop-i l = list_any (is_named l.source l.name) (take l.i l.spans) ≡ false
