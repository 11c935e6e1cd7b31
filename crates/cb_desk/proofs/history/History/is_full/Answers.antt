use Rattle.std.proofs.Common.{◌∙◌, ap, sym, length, nat_le}
use Rattle.cb_desk.specs.World.{WorldBounds}
use Rattle.cb_desk.specs.steps.Walks.{Recorded, timeline_in}
use Rattle.cb_desk.proofs.WalkLemmas.{past_length}
use Rattle.cb_desk.proofs.history.History.is_full.Goals as goal

pub returns : goal.returns
returns c =
    ap (λ n. nat_le n c.self.inside.done)
    (c.history.ensures ∙ ap (λ (b : WorldBounds). b.history) c.bounds.ensures)
    ∙ sym (ap (nat_le c.self.inside.present.now.bounds.history) (past_length (record {
      kept = c.self.inside.present;
      records = c.self.inside.records.items;
      done = c.self.inside.done;
    }) c.self.invariant.within))
    ∙ ap (λ (h : Recorded). nat_le h.kept.now.bounds.history (length (timeline_in h).past))
    c.self.view_is
