use Rattle.std.proofs.Common.{◌≡◌, filter, length}
use Rattle.cb_index.specs.Files.{AreAscending}
use Rattle.cb_index.specs.steps.ShownIn.{shown_in}
use Rattle.cb_desk.specs.World as world
use Rattle.cb_desk.specs.steps.Replaced.{has_mark, places_in}
use Rattle.cb_desk.proofs.present.marked_files.first_marked.Given as goal

abbrev pub invariant-loop-mark : goal.invariant-loop-mark
invariant-loop-mark l = record {
  same : filter (has_mark l.archive l.marks) (shown_in l.files)
      ≡ filter (has_mark l.archive l.left) (shown_in l.rest);
  files : AreAscending l.archive (shown_in l.rest);
  marks : world.AreAscending (places_in l.archive l.left);
}

abbrev pub decreases-loop-mark : goal.decreases-loop-mark
decreases-loop-mark l = length l.left
