use Rattle.std.proofs.Common.{◌≡◌, ◌≤◌, ◌+◌, ◌++◌, length, map}
use Rattle.std.specs.List.{AllByRecursion}
use Rattle.std.specs.Vec.Iter.{into_iter_items}
use Rattle.cb_index.specs.Scanned.{Scanned}
use Rattle.cb_index.specs.Shelved.{KeepsRoom}
use Rattle.cb_desk.specs.steps.Plans.{IsOf}
use Rattle.cb_desk.proofs.plan.NewVersions.keep_in.Given as goal

abbrev pub invariant-loop-version : goal.invariant-loop-version
invariant-loop-version l = record {
  texts : l.shelf.archive.texts
      ++ map (λ (v : Scanned). v.bytes) (into_iter_items l.version-iterator)
      ≡ l.initial.shelf.archive.texts ++ l.fn.self.texts;
  fits : length l.shelf.archive.texts + length (into_iter_items l.version-iterator)
      ≤ l.shelf.archive.version_room;
  left : AllByRecursion (IsOf l.shelf.archive.profile) (into_iter_items l.version-iterator);
  profile : l.shelf.archive.profile ≡ l.initial.shelf.archive.profile;
  names : l.shelf.archive.names ≡ l.initial.shelf.archive.names;
  shown : l.shelf.shown ≡ l.initial.shelf.shown;
  turns : l.shelf.turns ≡ l.initial.shelf.turns;
  room : KeepsRoom l.initial.shelf l.shelf;
}
