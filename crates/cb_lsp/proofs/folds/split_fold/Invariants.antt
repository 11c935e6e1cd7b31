use Rattle.std.proofs.Common.{◌≡◌, length}
use Rattle.cb_lsp.specs.Folds.{folded}
use Rattle.cb_lsp.proofs.folds.split_fold.Given as goal

abbrev pub invariant-functions : goal.invariant-functions
invariant-functions l = folded l.source l.rest ≡ folded l.source l.fn.ranges

abbrev pub decreases-functions : goal.decreases-functions
decreases-functions l = length l.rest
