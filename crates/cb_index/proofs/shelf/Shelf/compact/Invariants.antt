use Rattle.std.proofs.Common.{◌≡◌, ◌≤◌, ◌<◌, ◌-◌, ℕ, true, length}
use Rattle.cb_index.specs.Compact.{ShowsSame, shows_version}
use Rattle.cb_index.specs.Shelved.{KeepsRoom}
use Rattle.cb_index.proofs.shelf.Shelf.compact.Given as goal

abbrev pub invariant-loop-version : goal.invariant-loop-version
invariant-loop-version l = record {
  same : ShowsSame l.initial.self l.self;
  shown : (u : ℕ) → u < l.version → shows_version u l.self.shown ≡ true;
  fewer : length l.self.archive.texts ≤ length l.initial.self.archive.texts;
  turns : l.self.turns ≡ l.initial.self.turns;
  room : KeepsRoom l.initial.self l.self;
}

abbrev pub decreases-loop-version : goal.decreases-loop-version
decreases-loop-version l = length l.self.archive.texts - l.version
