use Rattle.std.proofs.Common.{sym, subst}
use Rattle.cb_index.specs.Columns.{AreFlagged}
use Rattle.cb_index.proofs.SignatureLemmas.{kept_all, set_each}
use Rattle.cb_index.proofs.columns.set_all_flags.Goals as goal

pub returns-clause-uses : goal.returns-clause-uses
returns-clause-uses c =
    let first = c.set_flags.new.flags in
    let second = c.set_flags-2.new.flags in
    subst (λ l. AreFlagged l c.args.uses.now) (sym c.set_flags-3.ensures.flags)
    (kept_all c.args.callers.now c.args.uses.now second
    (subst (λ l. AreFlagged l c.args.uses.now) (sym c.set_flags-2.ensures.flags)
    (kept_all c.args.callees.now c.args.uses.now first
    (subst (λ l. AreFlagged l c.args.uses.now) (sym c.set_flags.ensures.flags)
    (set_each c.args.uses.now c.args.flags.now)))))

pub returns-clause-callees : goal.returns-clause-callees
returns-clause-callees c =
    let first = c.set_flags.new.flags in
    let second = c.set_flags-2.new.flags in
    subst (λ l. AreFlagged l c.args.callees.now) (sym c.set_flags-3.ensures.flags)
    (kept_all c.args.callers.now c.args.callees.now second
    (subst (λ l. AreFlagged l c.args.callees.now) (sym c.set_flags-2.ensures.flags)
    (set_each c.args.callees.now first)))

pub returns-clause-callers : goal.returns-clause-callers
returns-clause-callers c =
    subst (λ l. AreFlagged l c.args.callers.now) (sym c.set_flags-3.ensures.flags)
    (set_each c.args.callers.now c.set_flags-2.new.flags)
