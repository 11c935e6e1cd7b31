use Rattle.std.proofs.Common.{subst}
use Rattle.cb_tags.specs.Writing.{PutsAll, PutsPrefix}
use Rattle.cb_tags.proofs.Prefixes.{Puts-fault, PutsAll-none, PutsAll-element, PutsPrefix-element}
use Rattle.cb_wire.specs.Texts.{part_text}
use Rattle.cb_wire.proofs.part.put_parts.Goals as goal

pub returns-in_err-put_part : goal.returns-in_err-put_part
returns-in_err-put_part g c =
    let part = c.part-item.result in
    Puts-fault _ _ _ _ _ c.from_residual.ensures.1
    (PutsPrefix-element part_text _ _ _ _ c.loop-part.part-index part c.loop-part-test.true
    c.loop-part.invariant
    (subst (λ p. PutsPrefix c.loop-part.out c.put_part.new.out (part_text p)) c.part-item.is
    c.in_err-put_part.ensures))

pub loop-part-init : goal.loop-part-init
loop-part-init g c = PutsAll-none c.args.out.now

pub loop-part-preserved : goal.loop-part-preserved
loop-part-preserved g c =
    let part = c.part-item.result in
    PutsAll-element part_text _ _ _ _ c.loop-part.part-index part c.loop-part-test.true
    c.loop-part.invariant
    (subst (λ p. PutsAll c.loop-part.out c.put_part.new.out (part_text p)) c.part-item.is
    c.in_ok-put_part.ensures)
