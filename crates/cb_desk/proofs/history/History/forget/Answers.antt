use Rattle.std.proofs.Common.{rules, ◌∙◌, [], ap, subst}
use Rattle.cb_desk.specs.Timeline.{forgotten}
use Rattle.cb_desk.specs.steps.Walks.{IsRecorded, Recorded, timeline_in}
use Rattle.cb_desk.proofs.Compacted.{forgotten_recorded, forgotten_timeline}
use Rattle.cb_desk.proofs.WalkLemmas.{kept_back}
use Rattle.cb_desk.proofs.history.History.forget.Goals as goal

pub compact-requires : goal.compact-requires
compact-requires c = kept_back _ _ _ _ c.self.invariant.back

pub invariant_of-self : goal.invariant_of-self
invariant_of-self c =
    subst (λ ts. IsRecorded (record { kept = c.compact.new.self; records = ts; done = 0 }))
    (search rules)
    (forgotten_recorded (record {
      kept = c.self.inside.present;
      records = c.self.inside.records.items;
      done = c.self.inside.done;
    }) c.compact.new.self c.self.invariant c.compact.ensures)

pub returns-clause-timeline : goal.returns-clause-timeline
returns-clause-timeline c =
    ap (λ ts. timeline_in (record { kept = c.compact.new.self; records = ts; done = 0 })) {y = []}
    (search rules)
    ∙ forgotten_timeline (record {
      kept = c.self.inside.present;
      records = c.self.inside.records.items;
      done = c.self.inside.done;
    }) c.compact.new.self c.compact.ensures
    ∙ ap (λ (h : Recorded). forgotten (timeline_in h)) c.self.view_is
