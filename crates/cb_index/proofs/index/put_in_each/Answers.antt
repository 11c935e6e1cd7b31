use Rattle.std.proofs.Common.{◌≡◌, ◌+◌, suc, slice_set, subst, arith}
use Rattle.cb_index.specs.Held.{Indexed}
use Rattle.cb_index.specs.steps.Moves.{CanTakeIn, TakesIn}
use Rattle.cb_index.proofs.EachLemmas.{Upto, upto_all, upto_done, upto_next}
use Rattle.cb_index.proofs.index.put_in_each.Goals as goal

pub put-requires : goal.put-requires
put-requires c =
    upto_all (TakesIn c.args.news.now) (CanTakeIn c.args.news.now) c.loop-index.index-index
    c.args.indexes.now c.loop-index.indexes c.index-item.result
    (omega (arith, c.loop-index-test.true, c.loop-index.auto.indexes))
    c.loop-index.invariant c.requires

pub loop-index-preserved : goal.loop-index-preserved
loop-index-preserved c =
    let i = c.loop-index.index-index in
    let way : Indexed → Indexed → Type 0 = TakesIn c.args.news.now in
    let step : suc i ≡ i + 1 = omega arith in
    subst (λ n. Upto way n c.args.indexes.now (slice_set c.loop-index.indexes i c.put.new.self))
    step
    (upto_next way i c.args.indexes.now c.loop-index.indexes c.put.new.self c.index-item.result
    (omega (arith, c.loop-index-test.true, c.loop-index.auto.indexes))
    c.loop-index.invariant c.put.ensures)

pub returns : goal.returns
returns c =
    upto_done (TakesIn c.args.news.now) c.loop-index.index-index c.args.indexes.now
    c.loop-index.indexes
    (omega (arith, c.loop-index-test.false, c.loop-index.auto.indexes)) c.loop-index.invariant
