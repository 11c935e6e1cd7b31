use Rattle.std.proofs.Common.{rules, ap}
use Rattle.cb_desk.specs.Timeline.{Timeline}
use Rattle.cb_desk.specs.steps.Walks.{timeline_in}
use Rattle.cb_desk.proofs.PlanLemmas.{redone_next, redone_not_refused, refused_as}
use Rattle.cb_desk.proofs.TurnsCounted.{moved_next, turns_next, turns_refused}
use Rattle.cb_desk.proofs.history.History.go.Goals as goal

pub returns-in_err-set_next-clause-timeline : goal.returns-in_err-set_next-clause-timeline
returns-in_err-set_next-clause-timeline c v plan =
    refused_as _ _ c.from_residual.result c.from_residual.ensures.0
    (c.in_err-set_next.ensures.timeline v plan)

pub unreachable-requires : goal.unreachable-requires
unreachable-requires c =
    let next = c.in_ok-set_next.ensures.timeline c.requires.0 c.requires.1 in
    redone_not_refused (timeline_in c.args.self.now) (timeline_in c.set_next.new.self) c.requires.0
    next (timeline_in c.redo.new.self) c.redo.result
    c.redo.ensures.timeline (search rules)

pub returns-clause-timeline : goal.returns-clause-timeline
returns-clause-timeline c v plan =
    let next = c.in_ok-set_next.ensures.timeline v plan in
    redone_next (timeline_in c.args.self.now) (timeline_in c.set_next.new.self) v next
    (timeline_in c.redo.new.self) c.redo.result
    c.redo.ensures.timeline (search rules)

pub returns-in_err-set_next-clause-turns : goal.returns-in_err-set_next-clause-turns
returns-in_err-set_next-clause-turns c =
    turns_refused _ _ _ _ c.from_residual.result c.from_residual.ensures.0 c.set_next.ensures.turns

pub returns-clause-turns : goal.returns-clause-turns
returns-clause-turns c =
    let next = c.in_ok-set_next.ensures.timeline c.requires.0 c.requires.1 in
    turns_next _ _ _ _ _ _ c.redo.result (ap (λ (t : Timeline). t.present) next)
    c.set_next.ensures.turns (search rules) c.redo.ensures.turns

pub returns-clause-moved : goal.returns-clause-moved
returns-clause-moved c =
    moved_next _ _ _ _ _ c.redo.result c.set_next.ensures.turns c.in_ok-set_next.ensures.next
    (search rules) c.redo.ensures.moved
