-- What the first definitions list is added.
use Rattle.std.proofs.Common.{take}
use Rattle.std.specs.List.{flat_map}
use Rattle.cb_lsp.specs.Same.{listed_by}
use Rattle.cb_lsp.specs.steps.Same.{Adds}
use Rattle.cb_lsp.proofs.SameStarts.{begin_there}
use Rattle.cb_lsp.proofs.same.Starts.add_defs.Given as goal

abbrev pub invariant-loop-def : goal.invariant-loop-def
invariant-loop-def l =
    Adds (begin_there (flat_map (listed_by l.sort l.source l.name) (take l.def-index l.defs)))
    l.fn.self l.self
