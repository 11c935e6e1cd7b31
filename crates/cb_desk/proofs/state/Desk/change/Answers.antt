use Rattle.std.proofs.Common.{rules, ◌≡◌, ◌≤◌, ◌<◌, ◌-◌, ◌^◌, ◌∙◌, ap, length, nat_le, refl}
use Rattle.std.proofs.Common.{subst, sym, Err}
use Rattle.cb_desk.specs.declared.change.Refusal.TheVariants.{HistoryFull, OutOfMemory}
use Rattle.cb_desk.specs.Desk.{Counts, DeskState, scanned}
use Rattle.cb_desk.specs.Models.{step_of}
use Rattle.cb_desk.specs.Step.{after}
use Rattle.cb_desk.specs.Timeline.{Changes, IsValidTimeline, Timeline, moved_on}
use Rattle.cb_desk.specs.World.{IsValidWorld, World}
use Rattle.cb_desk.specs.steps.Plans.{IsPlan}
use Rattle.cb_desk.specs.steps.Records.{Kept, world_in}
use Rattle.cb_desk.specs.steps.Walks.{timeline_in}
use Rattle.cb_desk.proofs.Counted.{refused_after, refused_between, refused_counts}
use Rattle.cb_desk.proofs.Moves.{below_most, refused, full, moved_on-valid, no-memory, valid-after, done}
use Rattle.cb_desk.proofs.StepsValid.{after-bounds, after-profile}
use Rattle.cb_desk.proofs.TurnsCounted.{load_turns}
use Rattle.cb_desk.proofs.state.Desk.change.Goals as goal

abbrev world_of : Kept → World
world_of k = world_in k.archive k.now

pub returns-in-Some-clause-timeline : goal.returns-in-Some-clause-timeline
returns-in-Some-clause-timeline c =
    let same =
    ap world_of c.present-present.ensures.value
    ∙ ap (λ (t : Timeline). t.present) c.place_of-place.ensures.still.timeline
    ∙ ap (λ (d : DeskState). d.timeline.present) c.self.view_is in
    let stays =
    c.place_of-place.ensures.still.timeline ∙ ap (λ (d : DeskState). d.timeline) c.self.view_is in
    subst (λ t. Changes (step_of c.args.change) c.args.self.now.timeline t (Err c.in-Some.refusal))
    (sym stays)
    (refused c.args.self.now.timeline (step_of c.args.change) _ same _ c.refusal_of.ensures
    c.in-Some.refusal c.in-Some.is)

pub returns-in-Some-clause-meter : goal.returns-in-Some-clause-meter
returns-in-Some-clause-meter c =
    let fits : c.self.inside.meter ≤ 2 ^ 64 - 1 = search rules in
    let same : c.self.inside.meter ≡ c.args.self.now.meter =
    ap (λ (d : DeskState). d.meter) c.self.view_is in
    subst (λ n. Counts {A = Unit {0}} (scanned c.args.self.now.timeline.present
    (step_of c.args.change)) c.args.self.now.meter n (Err c.in-Some.refusal)) (sym same)
    (refused_counts c.args.self.now.meter (subst (λ n. n ≤ 2 ^ 64 - 1) same fits)
    (scanned c.args.self.now.timeline.present (step_of c.args.change)) c.in-Some.refusal)

pub returns-then-is_full-clause-timeline : goal.returns-then-is_full-clause-timeline
returns-then-is_full-clause-timeline c =
    let same =
    ap world_of c.present-present.ensures.value
    ∙ ap (λ (t : Timeline). t.present) c.place_of-place.ensures.still.timeline
    ∙ ap (λ (d : DeskState). d.timeline.present) c.self.view_is in
    let long =
    c.is_full.ensures ∙ ap (λ (t : Timeline). nat_le t.present.bounds.history (length t.past))
    c.place_of-place.ensures.still.timeline
    ∙ ap (λ (d : DeskState). nat_le d.timeline.present.bounds.history
    (length d.timeline.past)) c.self.view_is in
    let stays =
    c.place_of-place.ensures.still.timeline ∙ ap (λ (d : DeskState). d.timeline) c.self.view_is in
    subst (λ t. Changes (step_of c.args.change) c.args.self.now.timeline t (Err HistoryFull))
    (sym stays)
    (full c.args.self.now.timeline (step_of c.args.change) _ same _ c.refusal_of.ensures
    c.in_default.not-Some
    _ long c.if-is_full.true)

pub returns-in_err-plan-clause-timeline : goal.returns-in_err-plan-clause-timeline
returns-in_err-plan-clause-timeline c =
    let same =
    ap world_of c.present-present.ensures.value
    ∙ ap (λ (t : Timeline). t.present) c.place_of-place.ensures.still.timeline
    ∙ ap (λ (d : DeskState). d.timeline.present) c.self.view_is in
    let long =
    c.is_full.ensures ∙ ap (λ (t : Timeline). nat_le t.present.bounds.history (length t.past))
    c.place_of-place.ensures.still.timeline
    ∙ ap (λ (d : DeskState). nat_le d.timeline.present.bounds.history
    (length d.timeline.past)) c.self.view_is in
    let err : c.from_residual.result ≡ Err OutOfMemory = search rules in
    no-memory c.args.self.now.timeline (step_of c.args.change) _ same _ c.refusal_of.ensures
    c.in_default.not-Some
    _ long c.if-is_full.false _ (c.place_of-place.ensures.still.timeline
    ∙ ap (λ (d : DeskState). d.timeline) c.self.view_is) _ err

pub returns-in_err-plan-clause-meter : goal.returns-in_err-plan-clause-meter
returns-in_err-plan-clause-meter c =
    let same : world_of c.present-present.result.now ≡ c.args.self.now.timeline.present =
    ap world_of c.present-present.ensures.value
    ∙ ap (λ (t : Timeline). t.present) c.place_of-place.ensures.still.timeline
    ∙ ap (λ (d : DeskState). d.timeline.present) c.self.view_is in
    let err : c.from_residual.result ≡ Err OutOfMemory = search rules in
    let meter : c.self.inside.meter ≡ c.args.self.now.meter =
    ap (λ (d : DeskState). d.meter) c.self.view_is in
    rw (← meter, ← same)
    (refused_between _ _ _ c.from_residual.result err c.in_err-plan.ensures.meter)

pub go-requires : goal.go-requires
go-requires c =
    let h = c.place_of-place.new.self in
    let w = world_of c.present-present.result.now in
    let s = step_of c.args.change in
    let own : w ≡ world_of h.kept = ap world_of c.present-present.ensures.value in
    let same =
    own ∙ ap (λ (t : Timeline). t.present) c.place_of-place.ensures.still.timeline
    ∙ ap (λ (d : DeskState). d.timeline.present) c.self.view_is in
    let valid : IsValidWorld w = subst IsValidWorld (sym own) c.present-present.ensures.valid.now in
    let short = c.is_full.ensures in
    let no = c.if-is_full.false in (
      after w s,
      subst (λ (k : Kept). IsPlan k c.in_ok-plan.plan (after w s)) c.present-present.ensures.value
          c.in_ok-plan.ensures.plan,
      valid-after c.args.self.now.timeline s w same _ c.refusal_of.ensures c.in_default.not-Some
          (after w s) valid refl,
      below_most _ _ (sym short ∙ no),
    )

pub returns-in_err-go-clause-timeline : goal.returns-in_err-go-clause-timeline
returns-in_err-go-clause-timeline c =
    let same =
    ap world_of c.present-present.ensures.value
    ∙ ap (λ (t : Timeline). t.present) c.place_of-place.ensures.still.timeline
    ∙ ap (λ (d : DeskState). d.timeline.present) c.self.view_is in
    let long =
    c.is_full.ensures ∙ ap (λ (t : Timeline). nat_le t.present.bounds.history (length t.past))
    c.place_of-place.ensures.still.timeline
    ∙ ap (λ (d : DeskState). nat_le d.timeline.present.bounds.history
    (length d.timeline.past)) c.self.view_is in
    let err : c.from_residual-in_err-go.result ≡ Err OutOfMemory = search rules in
    let w = world_of c.present-present.result.now in
    let s = step_of c.args.change in
    let plan =
    subst (λ (k : Kept). IsPlan k c.in_ok-plan.plan (after w s)) c.present-present.ensures.value
    c.in_ok-plan.ensures.plan in
    no-memory c.args.self.now.timeline s _ same _ c.refusal_of.ensures c.in_default.not-Some
    _ long c.if-is_full.false _
    (c.in_err-go.ensures.timeline (after w s) plan ∙ c.place_of-place.ensures.still.timeline
    ∙ ap (λ (d : DeskState). d.timeline) c.self.view_is) _ err

pub returns-in_err-go-clause-meter : goal.returns-in_err-go-clause-meter
returns-in_err-go-clause-meter c =
    let same : world_of c.present-present.result.now ≡ c.args.self.now.timeline.present =
    ap world_of c.present-present.ensures.value
    ∙ ap (λ (t : Timeline). t.present) c.place_of-place.ensures.still.timeline
    ∙ ap (λ (d : DeskState). d.timeline.present) c.self.view_is in
    let err : c.from_residual-in_err-go.result ≡ Err OutOfMemory = search rules in
    let fits : c.self.inside.meter ≤ 2 ^ 64 - 1 = search rules in
    let meter : c.self.inside.meter ≡ c.args.self.now.meter =
    ap (λ (d : DeskState). d.meter) c.self.view_is in
    rw (← meter, ← same)
    (refused_after _ _ _ c.from_residual-in_err-go.result err fits c.in_ok-plan.ensures.meter)

pub returns-clause-timeline : goal.returns-clause-timeline
returns-clause-timeline c =
    let same =
    ap world_of c.present-present.ensures.value
    ∙ ap (λ (t : Timeline). t.present) c.place_of-place.ensures.still.timeline
    ∙ ap (λ (d : DeskState). d.timeline.present) c.self.view_is in
    let long =
    c.is_full.ensures ∙ ap (λ (t : Timeline). nat_le t.present.bounds.history (length t.past))
    c.place_of-place.ensures.still.timeline
    ∙ ap (λ (d : DeskState). nat_le d.timeline.present.bounds.history
    (length d.timeline.past)) c.self.view_is in
    let w = world_of c.present-present.result.now in
    let s = step_of c.args.change in
    let plan =
    subst (λ (k : Kept). IsPlan k c.in_ok-plan.plan (after w s)) c.present-present.ensures.value
    c.in_ok-plan.ensures.plan in
    done c.args.self.now.timeline s _ same _ c.refusal_of.ensures c.in_default.not-Some
    _ long c.if-is_full.false _ (after w s) refl
    (c.in_ok-go.ensures.timeline (after w s) plan
    ∙ ap (λ (t : Timeline). moved_on t (after w s)) c.place_of-place.ensures.still.timeline
    ∙ ap (λ (d : DeskState). moved_on d.timeline (after w s)) c.self.view_is)

pub returns-clause-meter : goal.returns-clause-meter
returns-clause-meter c =
    let same : world_of c.present-present.result.now ≡ c.args.self.now.timeline.present =
    ap world_of c.present-present.ensures.value
    ∙ ap (λ (t : Timeline). t.present) c.place_of-place.ensures.still.timeline
    ∙ ap (λ (d : DeskState). d.timeline.present) c.self.view_is in
    let meter : c.self.inside.meter ≡ c.args.self.now.meter =
    ap (λ (d : DeskState). d.meter) c.self.view_is in
    rw (← meter, ← same) c.in_ok-plan.ensures.meter

pub invariant_of-self-in_err-go : goal.invariant_of-self-in_err-go
invariant_of-self-in_err-go c =
    let w = world_of c.present-present.result.now in
    let s = step_of c.args.change in
    let plan =
    subst (λ (k : Kept). IsPlan k c.in_ok-plan.plan (after w s)) c.present-present.ensures.value
    c.in_ok-plan.ensures.plan in
    subst IsValidTimeline
    (sym (c.in_err-go.ensures.timeline (after w s) plan ∙ c.place_of-place.ensures.still.timeline))
    c.self.invariant

pub invariant_of-self-2 : goal.invariant_of-self-2
invariant_of-self-2 c =
    let h = c.place_of-place.new.self in
    let w = world_of c.present-present.result.now in
    let s = step_of c.args.change in
    let own : w ≡ world_of h.kept = ap world_of c.present-present.ensures.value in
    let same =
    own ∙ ap (λ (t : Timeline). t.present) c.place_of-place.ensures.still.timeline
    ∙ ap (λ (d : DeskState). d.timeline.present) c.self.view_is in
    let plan =
    subst (λ (k : Kept). IsPlan k c.in_ok-plan.plan (after w s)) c.present-present.ensures.value
    c.in_ok-plan.ensures.plan in
    let valid : IsValidWorld w = subst IsValidWorld (sym own) c.present-present.ensures.valid.now in
    let next =
    valid-after c.args.self.now.timeline s w same _ c.refusal_of.ensures c.in_default.not-Some
    (after w s) valid refl in
    let long = c.is_full.ensures in
    let is_short = c.if-is_full.false in
    let short : length (timeline_in h).past < h.kept.now.bounds.history =
    below_most _ _ (sym long ∙ is_short) in
    subst IsValidTimeline (sym (c.in_ok-go.ensures.timeline (after w s) plan))
    (moved_on-valid (timeline_in h) (after w s)
    (subst IsValidTimeline (sym c.place_of-place.ensures.still.timeline) c.self.invariant)
    next (
      after-profile w s ∙ ap (λ (x : World). x.profile) own,
      after-bounds w s ∙ ap (λ (x : World). x.bounds) own,
    )
    short)

pub returns-clause-load : goal.returns-clause-load
returns-clause-load c =
    load_turns (step_of c.args.change) c.in_ok-plan.plan.turn _ _ _
    (c.place_of-place.ensures.still.turns ∙ ap (λ (d : DeskState). d.turns) c.self.view_is)
    c.in_ok-go.ensures.moved c.in_ok-plan.ensures.one
