use Rattle.std.proofs.Common.{◌≡◌, ◌≤◌, ◌+◌, ◌++◌, length, map}
use Rattle.std.specs.Vec.Iter.{into_iter_items}
use Rattle.cb_index.specs.Shelved.{KeepsRoom}
use Rattle.cb_desk.proofs.present.keep_names.Given as goal

abbrev pub invariant-loop-name : goal.invariant-loop-name
invariant-loop-name l = record {
  names : l.shelf.archive.names ++ map (λ n. n.items) (into_iter_items l.name-iterator)
      ≡ l.initial.shelf.archive.names ++ map (λ n. n.items) l.fn.names.items;
  fits : length l.shelf.archive.names + length (into_iter_items l.name-iterator)
      ≤ l.shelf.archive.name_room;
  profile : l.shelf.archive.profile ≡ l.initial.shelf.archive.profile;
  texts : l.shelf.archive.texts ≡ l.initial.shelf.archive.texts;
  shown : l.shelf.shown ≡ l.initial.shelf.shown;
  turns : l.shelf.turns ≡ l.initial.shelf.turns;
  room : KeepsRoom l.initial.shelf l.shelf;
}
