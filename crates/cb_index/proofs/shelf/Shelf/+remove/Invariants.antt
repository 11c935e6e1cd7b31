use Rattle.std.proofs.Common.{length}
use Rattle.cb_index.proofs.shelf.Shelf.+remove.Given as goal

abbrev pub decreases-remove : goal.decreases-remove
decreases-remove l = length l.self.now.shown
