use Rattle.std.proofs.Common.{◌≡◌, length}
use Rattle.cb_index.specs.Compact.{shows_version}
use Rattle.cb_index.specs.steps.Compact.{IsAmong}
use Rattle.cb_index.specs.steps.ShownIn.{shown_in}
use Rattle.cb_index.specs.declared.entry.Shown.{Shown}
use Rattle.cb_index.proofs.files.ShownFiles.with_version.Given as goal

abbrev pub invariant-loop-one : goal.invariant-loop-one
invariant-loop-one l = record {
  shows : shows_version l.version (shown_in l.left) ≡ shows_version l.version (shown_in l.self);
  among : (s : Shown) → IsAmong (shown_in l.left) s → IsAmong (shown_in l.self) s;
}

abbrev pub decreases-loop-one : goal.decreases-loop-one
decreases-loop-one l = length (shown_in l.left)
