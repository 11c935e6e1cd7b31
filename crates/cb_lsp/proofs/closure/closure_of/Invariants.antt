use Rattle.cb_lsp.specs.steps.Closures.{ahead, names_of}
use Rattle.cb_lsp.proofs.ClosureSearch.{Closes}
use Rattle.cb_lsp.proofs.closure.closure_of.Given as goal

abbrev pub invariant-files : goal.invariant-files
invariant-files l = Closes l.desk.timeline.present l.from l.search

abbrev pub decreases-files : goal.decreases-files
decreases-files l = ahead (names_of l.desk.timeline.present.files) l.search
