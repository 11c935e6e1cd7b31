use Rattle.std.proofs.Common.{◌≡◌, take}
use Rattle.cb_desk.specs.steps.Replaced.{files_then, staying}
use Rattle.cb_desk.proofs.present.replaced.Replacing.staying.Given as goal

abbrev pub invariant-loop-place : goal.invariant-loop-place
invariant-loop-place l =
    l.kept.items ≡ staying l.self.archive.now
    (files_then l.self.archive.now l.self.marks.now l.self.old.now l.self.new.now l.changed)
    (take l.place-index l.places)
