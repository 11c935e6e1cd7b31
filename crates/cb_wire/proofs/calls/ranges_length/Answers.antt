use Rattle.std.proofs.Common.{◌∙◌, arith}
use Rattle.cb_wire.proofs.CallItems.{ranges-length}
use Rattle.cb_wire.proofs.calls.ranges_length.Goals as goal

pub returns-clause-value : goal.returns-clause-value
returns-clause-value g c =
    c.saturating_sub.ensures
    ∙ ranges-length g.R.Ranged.range c.args.calls.now c.loop-call.total c.loop-call.call-index
    (omega (arith, c.loop-call-test.false)) c.loop-call.invariant.value
