use Rattle.std.proofs.Common.{◌≡◌, ◌+◌, suc, slice_set, subst, arith}
use Rattle.cb_index.specs.Held.{Indexed}
use Rattle.cb_index.specs.steps.Moves.{LetsGo}
use Rattle.cb_index.specs.Shelved.{IsIndex}
use Rattle.cb_index.proofs.EachLemmas.{Upto, upto_all, upto_done, upto_next}
use Rattle.cb_index.proofs.index.take_from_each.Goals as goal

pub take-requires : goal.take-requires
take-requires c = (
  c.requires.0,
  upto_all (LetsGo c.args.archive.now c.args.one) (IsIndex c.args.archive.now c.requires.0)
      c.loop-index.index-index c.args.indexes.now c.loop-index.indexes c.index-item.result
      (omega (arith, c.loop-index-test.true, c.loop-index.auto.indexes))
      c.loop-index.invariant c.requires.1,
  c.requires.2,
)

pub loop-index-preserved : goal.loop-index-preserved
loop-index-preserved c =
    let i = c.loop-index.index-index in
    let way : Indexed → Indexed → Type 0 = LetsGo c.args.archive.now c.args.one in
    let step : suc i ≡ i + 1 = omega arith in
    subst (λ n. Upto way n c.args.indexes.now (slice_set c.loop-index.indexes i c.take.new.self))
    step
    (upto_next way i c.args.indexes.now c.loop-index.indexes c.take.new.self c.index-item.result
    (omega (arith, c.loop-index-test.true, c.loop-index.auto.indexes))
    c.loop-index.invariant c.take.ensures)

pub returns : goal.returns
returns c =
    upto_done (LetsGo c.args.archive.now c.args.one) c.loop-index.index-index c.args.indexes.now
    c.loop-index.indexes
    (omega (arith, c.loop-index-test.false, c.loop-index.auto.indexes)) c.loop-index.invariant
