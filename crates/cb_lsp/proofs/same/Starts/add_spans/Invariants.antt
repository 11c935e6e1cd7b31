-- The first tokens are added.
use Rattle.std.proofs.Common.{take}
use Rattle.cb_lsp.specs.steps.Same.{Adds}
use Rattle.cb_lsp.proofs.SameStarts.{begin_there}
use Rattle.cb_lsp.proofs.same.Starts.add_spans.Given as goal

abbrev pub invariant-loop-span : goal.invariant-loop-span
invariant-loop-span l = Adds (begin_there (take l.span-index l.spans)) l.fn.self l.self
