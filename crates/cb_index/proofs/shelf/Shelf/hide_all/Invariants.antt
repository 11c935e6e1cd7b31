use Rattle.std.proofs.Common.{◌≡◌, ◌+◌, ◌-◌, ◌^◌, drop, filter}
use Rattle.std.specs.Prelude.{min, not}
use Rattle.cb_index.specs.Names.{is_among, names_of}
use Rattle.cb_index.specs.Shelved.{KeepsRoom}
use Rattle.cb_index.specs.declared.entry.Shown.{Shown}
use Rattle.cb_index.proofs.shelf.Shelf.hide_all.Given as goal

abbrev pub invariant-loop-file : goal.invariant-loop-file
invariant-loop-file l = record {
  shown : filter (λ (s : Shown). not (is_among (names_of (drop l.file-index l.files)) s.name))
      l.self.shown
      ≡ filter (λ (s : Shown). not (is_among (names_of l.files) s.name)) l.initial.self.shown;
  archive : l.self.archive ≡ l.initial.self.archive;
  turns : l.self.turns ≡ min (l.initial.self.turns + l.file-index) (2 ^ 64 - 1);
  room : KeepsRoom l.initial.self l.self;
}
