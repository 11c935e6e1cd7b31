use Rattle.std.proofs.Common.{subst, sym, ap}
use Rattle.cb_tags.specs.Writing.{Puts}
use Rattle.cb_tags.proofs.Prefixes.{Puts-after, Puts-fault, PutsPrefix-more}
use Rattle.cb_wire.specs.Lists.{joined}
use Rattle.cb_wire.proofs.list.put_elements.Goals as goal

pub returns-in_err-put-in-Some : goal.returns-in_err-put-in-Some
returns-in_err-put-in-Some g c =
    subst (Puts c.args.out.now c.put.new.out c.from_residual.result)
    (sym (ap (joined c.args.between.now) c.in-Some.ensures))
    (Puts-fault _ _ _ _ _ c.from_residual.ensures.1
    (PutsPrefix-more _ _ _ _ c.in_err-put-in-Some.ensures))

pub returns-in_ok-put-in-Some : goal.returns-in_ok-put-in-Some
returns-in_ok-put-in-Some g c =
    subst (Puts c.args.out.now c.put_rest.new.out c.put_rest.result)
    (sym (ap (joined c.args.between.now) c.in-Some.ensures))
    (Puts-after _ _ _ _ _ _ c.in_ok-put-in-Some.ensures c.put_rest.ensures)
