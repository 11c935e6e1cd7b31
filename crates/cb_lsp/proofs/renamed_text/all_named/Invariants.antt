-- The first spans are looked at.
use Rattle.std.proofs.Common.{◌≡◌, filter, take}
use Rattle.cb_lsp.specs.LocalRenames.{is_named}
use Rattle.cb_lsp.proofs.renamed_text.all_named.Given as goal

abbrev pub invariant-loop-i : goal.invariant-loop-i
invariant-loop-i l = l.found.items ≡ filter (is_named l.source l.name) (take l.i l.spans)
