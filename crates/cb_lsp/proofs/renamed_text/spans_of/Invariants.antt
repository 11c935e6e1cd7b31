-- The first uses are read.
use Rattle.std.proofs.Common.{◌≡◌, map, take}
use Rattle.cb_names.specs.declared.local.LocalUse.{LocalUse}
use Rattle.cb_lsp.proofs.renamed_text.spans_of.Given as goal

abbrev pub invariant-loop-i : goal.invariant-loop-i
invariant-loop-i l = l.found.items ≡ map (λ (u : LocalUse). u.name) (take l.i l.uses)
