-- What is left of both keys is ordered as they are.
use Rattle.std.proofs.Common.{◌≡◌, length}
use Rattle.std.specs.Cmp.Lexicographic.{slice_cmp}
use Rattle.std.specs.Ordering.{nat_cmp}
use Rattle.cb_index.proofs.archive.compare_by_words.Given as goal

abbrev pub invariant-words : goal.invariant-words
invariant-words l =
    slice_cmp nat_cmp l.left l.right ≡ slice_cmp nat_cmp l.fn.a l.fn.b

abbrev pub decreases-words : goal.decreases-words
decreases-words l = length l.left
