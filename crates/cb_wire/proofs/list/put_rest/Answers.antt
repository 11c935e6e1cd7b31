use Rattle.std.proofs.Common.{ap}
use Rattle.cb_tags.proofs.Prefixes.{Puts-fault}
use Rattle.cb_wire.specs.Lists.{with_separators}
use Rattle.cb_wire.proofs.Lists.{left-all, left-fault, left-more, left-none}
use Rattle.cb_wire.proofs.list.put_rest.Goals as goal

pub elements-init : goal.elements-init
elements-init g c = left-none c.args.out.now _

pub returns-in_err-put_behind : goal.returns-in_err-put_behind
returns-in_err-put_behind g c =
    Puts-fault _ _ _ _ _ c.from_residual.ensures.1
    (left-fault _ _ _ _ _ _ _
    (ap (with_separators c.args.between.now) c.in-Some.ensures) c.elements.invariant
    c.in_err-put_behind.ensures)

pub elements-preserved : goal.elements-preserved
elements-preserved g c =
    left-more _ _ _ _ _ _ _ (ap (with_separators c.args.between.now) c.in-Some.ensures)
    c.elements.invariant c.in_ok-put_behind.ensures

pub returns : goal.returns
returns g c =
    left-all _ _ _ _ (ap (with_separators c.args.between.now) c.in_default.ensures)
    c.elements.invariant
