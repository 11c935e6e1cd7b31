use Rattle.std.proofs.Common.{rules, ◌≡◌, ◌∙◌, ap, sym, subst, length, refl}
use Rattle.cb_desk.specs.Timeline.{redone}
use Rattle.cb_desk.specs.Desk.{counted}
use Rattle.cb_desk.specs.steps.Walks.{Recorded, next_moves, timeline_in, turns_on}
use Rattle.cb_desk.specs.Turns.{AreTurnsOf}
use Rattle.cb_desk.specs.steps.Records.{IsTurn, world_in}
use Rattle.cb_desk.proofs.TurnsCounted.{turn_counted}
use Rattle.cb_desk.proofs.WalkLemmas.{on_first, redo_turn, redo_kept, redo_is, redo_recorded}
use Rattle.cb_desk.proofs.WalkLemmas.{redo_nothing}
use Rattle.cb_desk.proofs.history.History.redo.Goals as goal

pub returns-then-self-len-clause-timeline : goal.returns-then-self-len-clause-timeline
returns-then-self-len-clause-timeline c =
    let all : c.self.inside.done ≡ length c.self.inside.records.items = search rules in (
      ap (λ h. redone (timeline_in h)) (sym c.self.view_is)
          ∙ redo_nothing (record {
            kept = c.self.inside.present;
            records = c.self.inside.records.items;
            done = c.self.inside.done;
          }) all,
      refl,
    )

pub turn-requires-clause-turn : goal.turn-requires-clause-turn
turn-requires-clause-turn c =
    redo_turn c.self.inside.present c.self.inside.records.items c.self.inside.done
    c.index_mut.result.now (search rules)
    c.index_mut.ensures.value c.self.invariant

pub turn-requires-clause-there : goal.turn-requires-clause-there
turn-requires-clause-there c =
    (redo_kept c.self.inside.present c.self.inside.records.items c.self.inside.done
    c.index_mut.result.now (search rules)
    c.index_mut.ensures.value c.self.invariant).there

pub turn-requires-clause-room : goal.turn-requires-clause-room
turn-requires-clause-room c =
    (redo_kept c.self.inside.present c.self.inside.records.items c.self.inside.done
    c.index_mut.result.now (search rules)
    c.index_mut.ensures.value c.self.invariant).fits

pub invariant_of-self : goal.invariant_of-self
invariant_of-self c =
    redo_recorded c.self.inside.present c.self.inside.records.items c.self.inside.done
    c.index_mut.result.now (search rules)
    c.index_mut.ensures.value c.turn.new.self c.turn.new.way c.turn.ensures.archive
    c.turn.ensures.now c.turn.ensures.way
    c.turn.ensures.rooms c.self.invariant

pub returns-clause-timeline : goal.returns-clause-timeline
returns-clause-timeline c =
    ap (λ h. redone (timeline_in h)) (sym c.self.view_is)
    ∙ redo_is c.self.inside.present c.self.inside.records.items c.self.inside.done
    c.index_mut.result.now (search rules)
    c.index_mut.ensures.value c.turn.new.self c.turn.new.way c.turn.ensures.archive
    c.turn.ensures.now c.turn.ensures.way
    c.turn.ensures.rooms c.self.invariant

pub returns-clause-turns : goal.returns-clause-turns
returns-clause-turns c =
    let turn : IsTurn c.self.inside.present.archive c.index_mut.result.now
    c.self.inside.present.now =
    redo_turn c.self.inside.present c.self.inside.records.items c.self.inside.done
    c.index_mut.result.now (search rules)
    c.index_mut.ensures.value c.self.invariant in
    subst (λ (h : Recorded). AreTurnsOf (timeline_in h).present
    (world_in c.turn.new.self.archive c.turn.new.self.now) h.kept.turns c.turn.new.self.turns)
    c.self.view_is
    (turn_counted c.self.inside.present c.turn.new.self c.index_mut.result.now turn
    c.turn.ensures.archive c.turn.ensures.now c.turn.ensures.turns
    c.turn.ensures.rise)

-- the turn that is made is the next one
pub returns-clause-moved : goal.returns-clause-moved
returns-clause-moved c =
    let next =
    on_first c.self.inside.present c.self.inside.records.items c.self.inside.done
    c.index_mut.result.now (search rules) c.index_mut.ensures.value in
    c.turn.ensures.turns
    ∙ ap (λ ts. counted c.self.inside.present.turns (next_moves ts)) (sym next)
    ∙ ap (λ (h : Recorded). counted h.kept.turns (next_moves (turns_on h))) c.self.view_is
