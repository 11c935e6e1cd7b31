use Rattle.std.proofs.Common.{subst}
use Rattle.cb_desk.specs.steps.Walks.{IsKept, Recorded}
use Rattle.cb_desk.proofs.WalkLemmas.{kept_back}
use Rattle.cb_desk.proofs.history.History.present.Goals as goal

pub returns-clause-kept : goal.returns-clause-kept
returns-clause-kept c =
    subst (λ (h : Recorded). IsKept h.kept.rooms h.kept.archive h.kept.now) c.self.view_is
    (kept_back _ _ _ _ c.self.invariant.back)
