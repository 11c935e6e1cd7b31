use Rattle.std.proofs.Common.{◌≡◌, length, slice_get}
use Rattle.std.specs.List.{AllByRecursion}
use Rattle.cb_index.specs.Files.{IsThere}
use Rattle.cb_index.specs.steps.ShownIn.{shown_in}
use Rattle.cb_desk.specs.Places.{nth}
use Rattle.cb_desk.specs.steps.Records.{held_numbers}
use Rattle.cb_desk.proofs.present.places.nth_held.Given as goal

abbrev pub invariant-loop-file : goal.invariant-loop-file
invariant-loop-file l = record {
  goes : nth l.fn.n (held_numbers l.archive l.text (shown_in l.shown))
      ≡ slice_get (held_numbers l.archive l.text (shown_in l.rest)) l.passed;
  there : AllByRecursion (IsThere l.archive) (shown_in l.rest);
}

abbrev pub decreases-loop-file : goal.decreases-loop-file
decreases-loop-file l = length (shown_in l.rest)
