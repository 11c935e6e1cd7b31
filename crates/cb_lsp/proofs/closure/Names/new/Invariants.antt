use Rattle.std.proofs.Common.{◌≡◌, ◌++◌, filter, length, List, ℕ}
use Rattle.cb_lsp.specs.steps.Closures.{has_last, listed, names_of}
use Rattle.cb_lsp.proofs.closure.Names.new.Given as goal

abbrev pub invariant-files : goal.invariant-files
invariant-files l =
    (last : List ℕ) → listed l.lasts last ++ filter (has_last last) (names_of l.files)
    ≡ filter (has_last last) (names_of l.desk.timeline.present.files)

abbrev pub decreases-files : goal.decreases-files
decreases-files l = length l.files
