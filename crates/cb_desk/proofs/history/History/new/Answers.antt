use Rattle.std.proofs.Common.{sym, subst}
use Rattle.cb_desk.specs.steps.Walks.{IsRecorded}
use Rattle.cb_desk.proofs.WalkLemmas.{nothing_recorded}
use Rattle.cb_desk.proofs.history.History.new.Goals as goal

pub invariant_of-result : goal.invariant_of-result
invariant_of-result c =
    subst (λ ts. IsRecorded (record { kept = c.new.result; records = ts; done = 0 }))
    (sym c.new-2.ensures.items)
    (nothing_recorded c.args.bounds c.files-files.ensures.within c.new.result
    c.new.ensures.now c.new.ensures.names c.new.ensures.texts)
