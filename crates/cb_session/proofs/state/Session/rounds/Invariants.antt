use Rattle.std.proofs.Common.{◌≡◌, ◌-◌, List, ℕ, Some, None}
use Rattle.cb_tags.specs.Readers.{WhateverFollows}
use Rattle.cb_session.specs.Serving.{Tells}
use Rattle.cb_session.proofs.CutShort.{Answered}
use Rattle.cb_session.proofs.Rounds.{Rounds}
use Rattle.cb_session.proofs.state.Session.rounds.Given as goal

abbrev pub invariant-rounds : goal.invariant-rounds
invariant-rounds g l = record {
  output : (bytes : List ℕ) → l.fn.feed.bytes ≡ Some bytes
      → Rounds l.limits.lines l.limits.line bytes l.fn.self l.fn.out
      (l.limits.lines - l._round) l.self l.feed l.out;
  every_input : WhateverFollows l.fn.feed l.feed (λ bytes left. Rounds l.limits.lines l.limits.line
      bytes l.fn.self l.fn.out (l.limits.lines - l._round) l.self left l.out);
  answered : Answered l.limits.lines l.limits.line l.fn.self l.fn.out (l.limits.lines - l._round)
      l.self l.fn.feed l.feed l.out;
  told : Tells l.fn.feed l.feed l.fn.out l.out None;
}
