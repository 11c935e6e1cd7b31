-- The first tokens are added, if they are listed.
use Rattle.std.proofs.Common.{take}
use Rattle.cb_lsp.specs.Same.{listed_names}
use Rattle.cb_lsp.specs.steps.Same.{Adds}
use Rattle.cb_lsp.proofs.SameStarts.{begin_there}
use Rattle.cb_lsp.proofs.same.Starts.add_names.Given as goal

abbrev pub invariant-loop-one : goal.invariant-loop-one
invariant-loop-one l =
    Adds (begin_there (listed_names l.sort (take l.one-index l.names))) l.fn.self l.self
