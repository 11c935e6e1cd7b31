use Rattle.std.proofs.Common.{◌≡◌, ◌+◌, suc, slice_set, subst, arith}
use Rattle.cb_index.specs.Held.{Indexed}
use Rattle.cb_index.specs.steps.Moves.{LetsGoAll}
use Rattle.cb_index.specs.Names.{names_of}
use Rattle.cb_index.proofs.EachLemmas.{Upto, upto_done, upto_next}
use Rattle.cb_index.proofs.index.take_names_from_each.Goals as goal

pub loop-index-preserved : goal.loop-index-preserved
loop-index-preserved c =
    let i = c.loop-index.index-index in
    let way : Indexed → Indexed → Type 0 = LetsGoAll (names_of c.args.files.now) in
    let step : suc i ≡ i + 1 = omega arith in
    subst (λ n.
    Upto way n c.args.indexes.now (slice_set c.loop-index.indexes i c.take_names.new.self)) step
    (upto_next way i c.args.indexes.now c.loop-index.indexes c.take_names.new.self
    c.index-item.result (omega (arith, c.loop-index-test.true, c.loop-index.auto.indexes))
    c.loop-index.invariant c.take_names.ensures)

pub returns : goal.returns
returns c =
    upto_done (LetsGoAll (names_of c.args.files.now)) c.loop-index.index-index c.args.indexes.now
    c.loop-index.indexes
    (omega (arith, c.loop-index-test.false, c.loop-index.auto.indexes)) c.loop-index.invariant
