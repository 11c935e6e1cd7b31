use Rattle.std.proofs.Common.{rules, ◌≡◌, ◌∙◌, ◌++◌, ◌∷◌, [], ap, sym, subst, take, length, ◌<◌}
use Rattle.cb_desk.specs.Timeline.{Timeline}
use Rattle.cb_desk.specs.steps.Plans.{IsPlan, Keeps, Planned}
use Rattle.cb_desk.specs.steps.Walks.{IsRecorded, Recorded, timeline_in, turns_on}
use Rattle.cb_desk.proofs.ArchiveMoves.{same_recorded, same_timeline}
use Rattle.cb_desk.proofs.PlanLemmas.{next_is, next_recorded, on_is, plan_moved, refused_as}
use Rattle.cb_desk.proofs.PlanLemmas.{room_moved}
use Rattle.cb_desk.proofs.WalkLemmas.{kept_back}
use Rattle.cb_desk.proofs.history.History.set_next.Goals as goal

pub reserve_for-requires-clause-there : goal.reserve_for-requires-clause-there
reserve_for-requires-clause-there c = (kept_back _ _ _ _ c.self.invariant.back).there

-- the new versions have the profile of the archive
pub reserve_for-requires-clause-profile : goal.reserve_for-requires-clause-profile
reserve_for-requires-clause-profile c =
    c.requires.1.0 ∙ sym (ap (λ (h : Recorded). h.kept.archive.profile) c.self.view_is)

pub keep-requires-clause-profile : goal.keep-requires-clause-profile
keep-requires-clause-profile c =
    ap (λ (p : Planned). p.profile) c.plan.view_is ∙ c.requires.1.0
    ∙ sym (ap (λ (h : Recorded). h.kept.archive.profile) c.self.view_is)
    ∙ sym c.reserve_for.ensures.same_profile

pub invariant_of-self-in_err-reserve_for : goal.invariant_of-self-in_err-reserve_for
invariant_of-self-in_err-reserve_for c =
    subst (λ ts.
    IsRecorded (record { kept = c.reserve_for.new.self; records = ts; done = c.self.inside.done }))
    (sym c.reserve.ensures.items)
    (same_recorded c.self.inside.present c.reserve_for.new.self c.self.inside.records.items
    c.self.inside.done c.reserve_for.ensures.now
    c.reserve_for.ensures.same_profile c.reserve_for.ensures.same_names
    c.reserve_for.ensures.same_texts c.reserve_for.ensures.rooms
    c.self.invariant)

pub returns-in_err-reserve_for-clause-timeline : goal.returns-in_err-reserve_for-clause-timeline
returns-in_err-reserve_for-clause-timeline c v plan =
    refused_as _ _ c.from_residual-in_err-reserve_for.result
    c.from_residual-in_err-reserve_for.ensures.0
    (ap (λ ts.
    timeline_in (record { kept = c.reserve_for.new.self; records = ts; done = c.self.inside.done }))
    c.reserve.ensures.items
    ∙ same_timeline c.self.inside.present c.reserve_for.new.self c.self.inside.records.items
    c.self.inside.done c.reserve_for.ensures.now
    c.reserve_for.ensures.same_profile c.reserve_for.ensures.same_names
    c.reserve_for.ensures.same_texts c.reserve_for.ensures.rooms
    c.self.invariant
    ∙ ap timeline_in c.self.view_is)

pub keep-requires-clause-there : goal.keep-requires-clause-there
keep-requires-clause-there c =
    (kept_back _ _ _ _ (same_recorded c.self.inside.present c.reserve_for.new.self
    c.self.inside.records.items c.self.inside.done c.reserve_for.ensures.now
    c.reserve_for.ensures.same_profile c.reserve_for.ensures.same_names
    c.reserve_for.ensures.same_texts c.reserve_for.ensures.rooms
    c.self.invariant).back).there

pub invariant_of-self-2 : goal.invariant_of-self-2
invariant_of-self-2 c =
    let k = c.self.inside.present in
    let m = c.reserve_for.new.self in
    let records = c.self.inside.records.items in
    let done = c.self.inside.done in
    let is : IsRecorded (record { kept = m; records = records; done = done }) =
    same_recorded k m records done c.reserve_for.ensures.now c.reserve_for.ensures.same_profile
    c.reserve_for.ensures.same_names
    c.reserve_for.ensures.same_texts
    c.reserve_for.ensures.rooms c.self.invariant in
    let same =
    same_timeline k m records done c.reserve_for.ensures.now c.reserve_for.ensures.same_profile
    c.reserve_for.ensures.same_names
    c.reserve_for.ensures.same_texts
    c.reserve_for.ensures.rooms c.self.invariant ∙ ap timeline_in c.self.view_is in
    let keeps : Keeps m.archive m.now c.args.plan c.keep.new.self.archive =
    record { profile = search rules; names = search rules; texts = search rules } in
    let items : c.push.new.self.items ≡ take done records ++ c.args.plan.turn ∷ [] = search rules in
    let plan : IsPlan m c.args.plan c.requires.0 =
    plan_moved k m c.args.plan c.requires.0 c.reserve_for.ensures.now
    c.reserve_for.ensures.same_profile c.reserve_for.ensures.same_names
    c.reserve_for.ensures.same_texts
    (subst (λ (h : Recorded). IsPlan h.kept c.args.plan c.requires.0)
    (sym c.self.view_is) c.requires.1) in
    subst (λ ts. IsRecorded (record { kept = c.keep.new.self; records = ts; done = done }))
    (sym items)
    (next_recorded m c.keep.new.self records done c.args.plan c.self.invariant.within keeps
    c.keep.ensures.now c.keep.ensures.rooms is
    c.requires.0 plan
    (room_moved k m c.args.plan c.reserve_for.ensures.now c.reserve_for.ensures.same_profile
    c.reserve_for.ensures.same_names
    c.reserve_for.ensures.same_texts (search rules))
    c.requires.2 (subst (λ (t : Timeline). length t.past < t.present.bounds.history) (sym same)
    c.requires.3))

pub returns-clause-timeline : goal.returns-clause-timeline
returns-clause-timeline c v leads =
    let k = c.self.inside.present in
    let m = c.reserve_for.new.self in
    let records = c.self.inside.records.items in
    let done = c.self.inside.done in
    let is : IsRecorded (record { kept = m; records = records; done = done }) =
    same_recorded k m records done c.reserve_for.ensures.now c.reserve_for.ensures.same_profile
    c.reserve_for.ensures.same_names
    c.reserve_for.ensures.same_texts
    c.reserve_for.ensures.rooms c.self.invariant in
    let same =
    same_timeline k m records done c.reserve_for.ensures.now c.reserve_for.ensures.same_profile
    c.reserve_for.ensures.same_names
    c.reserve_for.ensures.same_texts
    c.reserve_for.ensures.rooms c.self.invariant ∙ ap timeline_in c.self.view_is in
    let keeps : Keeps m.archive m.now c.args.plan c.keep.new.self.archive =
    record { profile = search rules; names = search rules; texts = search rules } in
    let items : c.push.new.self.items ≡ take done records ++ c.args.plan.turn ∷ [] = search rules in
    let plan : IsPlan m c.args.plan v =
    plan_moved k m c.args.plan v c.reserve_for.ensures.now c.reserve_for.ensures.same_profile
    c.reserve_for.ensures.same_names
    c.reserve_for.ensures.same_texts
    (subst (λ (h : Recorded). IsPlan h.kept c.args.plan v) (sym c.self.view_is) leads) in
    ap (λ ts. timeline_in (record { kept = c.keep.new.self; records = ts; done = done })) items
    ∙ next_is m c.keep.new.self records done c.args.plan c.self.invariant.within keeps
    c.keep.ensures.now c.keep.ensures.rooms is v plan
    ∙ ap {A = Timeline} (λ t. record t { future = v ∷ [] }) same

-- no other turn is to come
pub returns-clause-next : goal.returns-clause-next
returns-clause-next c =
    let m = c.reserve_for.new.self in
    let records = c.self.inside.records.items in
    let done = c.self.inside.done in
    let keeps : Keeps m.archive m.now c.args.plan c.keep.new.self.archive =
    record { profile = search rules; names = search rules; texts = search rules } in
    let items : c.push.new.self.items ≡ take done records ++ c.args.plan.turn ∷ [] = search rules in
    ap (λ ts. turns_on (record { kept = c.keep.new.self; records = ts; done = done })) items
    ∙ on_is m c.keep.new.self records done c.args.plan c.self.invariant.within keeps
    c.keep.ensures.now c.keep.ensures.rooms
