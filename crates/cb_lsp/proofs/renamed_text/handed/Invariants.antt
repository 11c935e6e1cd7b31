-- The first spans are looked at.
use Rattle.std.proofs.Common.{◌≡◌, filter, take}
use Rattle.cb_lsp.specs.LocalRenames.{is_handed}
use Rattle.cb_lsp.proofs.renamed_text.handed.Given as goal

abbrev pub invariant-loop-i : goal.invariant-loop-i
invariant-loop-i l = l.found.items ≡ filter (is_handed l.desk.timeline.present l.source) (take l.i l.spans)
