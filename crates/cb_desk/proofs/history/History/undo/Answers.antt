use Rattle.std.proofs.Common.{◌≡◌, ◌∙◌, ◌<◌, ◌+◌, ◌-◌, ◌≤◌, ap, sym, subst, ℕ, refl, arith}
use Rattle.cb_desk.specs.steps.Walks.{IsRecorded, Recorded, timeline_in}
use Rattle.cb_desk.specs.Timeline.{undone}
use Rattle.cb_desk.specs.Turns.{AreTurnsOf}
use Rattle.cb_desk.specs.steps.Records.{IsTurn, world_in}
use Rattle.cb_desk.proofs.TurnsCounted.{turn_counted}
use Rattle.cb_desk.proofs.WalkLemmas.{undo_turn, undo_kept, undo_is, undo_recorded, undo_nothing}
use Rattle.cb_desk.proofs.history.History.undo.Goals as goal

pub returns-then-self-eq0-clause-timeline : goal.returns-then-self-eq0-clause-timeline
returns-then-self-eq0-clause-timeline c = (
  undo_nothing c.args.self.now
      (sym (ap (λ (h : Recorded). h.done) c.self.view_is) ∙ c.if-self-eq0.true),
  refl,
)

one_more : (done : ℕ) → 1 ≤ done → done ≡ done - 1 + 1
one_more done some = omega (arith, some)

below : (done many : ℕ) → 1 ≤ done → done ≤ many → done - 1 < many
below done many some within = omega (arith, some, within)

pub turn-requires-clause-turn : goal.turn-requires-clause-turn
turn-requires-clause-turn c =
    let some : 1 ≤ c.self.inside.done = grind (arith, c.if-self-eq0.false) in
    undo_turn c.self.inside.present c.self.inside.records.items
    (c.self.inside.done - 1) c.index_mut.result.now
    (below c.self.inside.done _ some c.self.invariant.within) c.index_mut.ensures.value
    (rw (← one_more c.self.inside.done some) c.self.invariant)

pub turn-requires-clause-there : goal.turn-requires-clause-there
turn-requires-clause-there c =
    let some : 1 ≤ c.self.inside.done = grind (arith, c.if-self-eq0.false) in
    (undo_kept c.self.inside.present c.self.inside.records.items
    (c.self.inside.done - 1) c.index_mut.result.now
    (below c.self.inside.done _ some c.self.invariant.within) c.index_mut.ensures.value
    (rw (← one_more c.self.inside.done some) c.self.invariant)).there

pub turn-requires-clause-room : goal.turn-requires-clause-room
turn-requires-clause-room c =
    let some : 1 ≤ c.self.inside.done = grind (arith, c.if-self-eq0.false) in
    (undo_kept c.self.inside.present c.self.inside.records.items
    (c.self.inside.done - 1) c.index_mut.result.now
    (below c.self.inside.done _ some c.self.invariant.within) c.index_mut.ensures.value
    (rw (← one_more c.self.inside.done some) c.self.invariant)).fits

pub invariant_of-self : goal.invariant_of-self
invariant_of-self c =
    let some : 1 ≤ c.self.inside.done = grind (arith, c.if-self-eq0.false) in
    undo_recorded c.self.inside.present c.self.inside.records.items
    (c.self.inside.done - 1) c.index_mut.result.now
    (below c.self.inside.done _ some c.self.invariant.within) c.index_mut.ensures.value
    c.turn.new.self c.turn.new.way
    c.turn.ensures.archive c.turn.ensures.now c.turn.ensures.way c.turn.ensures.rooms
    (rw (← one_more c.self.inside.done some) c.self.invariant)

pub returns-clause-timeline : goal.returns-clause-timeline
returns-clause-timeline c =
    let some : 1 ≤ c.self.inside.done = grind (arith, c.if-self-eq0.false) in
    let from : IsRecorded (record {
      kept = c.self.inside.present;
      records = c.self.inside.records.items;
      done = c.self.inside.done - 1 + 1;
    }) =
    rw (← one_more c.self.inside.done some) c.self.invariant in
    ap (λ h. undone (timeline_in h)) (sym c.self.view_is)
    ∙ ap (λ n. undone (timeline_in
    (record { kept = c.self.inside.present; records = c.self.inside.records.items; done = n })))
    (one_more c.self.inside.done some)
    ∙ undo_is c.self.inside.present c.self.inside.records.items
    (c.self.inside.done - 1) c.index_mut.result.now
    (below c.self.inside.done _ some c.self.invariant.within) c.index_mut.ensures.value
    c.turn.new.self c.turn.new.way
    c.turn.ensures.archive c.turn.ensures.now c.turn.ensures.way c.turn.ensures.rooms from

pub returns-clause-turns : goal.returns-clause-turns
returns-clause-turns c =
    let some : 1 ≤ c.self.inside.done = grind (arith, c.if-self-eq0.false) in
    let turn : IsTurn c.self.inside.present.archive c.index_mut.result.now
    c.self.inside.present.now =
    undo_turn c.self.inside.present c.self.inside.records.items
    (c.self.inside.done - 1) c.index_mut.result.now
    (below c.self.inside.done _ some c.self.invariant.within) c.index_mut.ensures.value
    (rw (← one_more c.self.inside.done some) c.self.invariant) in
    subst (λ (h : Recorded). AreTurnsOf (timeline_in h).present
    (world_in c.turn.new.self.archive c.turn.new.self.now) h.kept.turns c.turn.new.self.turns)
    c.self.view_is
    (turn_counted c.self.inside.present c.turn.new.self c.index_mut.result.now turn
    c.turn.ensures.archive c.turn.ensures.now c.turn.ensures.turns
    c.turn.ensures.rise)
