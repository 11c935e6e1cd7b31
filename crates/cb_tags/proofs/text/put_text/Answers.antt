use Rattle.std.proofs.Common.{arith, length-drop}
use Rattle.std.proofs.lemmas.List.{take_rest}
use Rattle.cb_tags.proofs.Prefixes.{Puts-fault, PutsPrefix-stopped, PutsAll-none, PutsAll-next}
use Rattle.cb_tags.proofs.text.put_text.Goals as goal

pub returns-in_err-at : goal.returns-in_err-at
returns-in_err-at g c =
    Puts-fault _ _ _ _ _ c.from_residual.ensures.1
    (PutsPrefix-stopped _ _ _ _ c.loop-at.at c.loop-at.invariant.written c.in_err-at.ensures)

pub loop-at-init : goal.loop-at-init
loop-at-init g c = record { within = omega arith; written = PutsAll-none c.args.out.now }

pub loop-at-preserved : goal.loop-at-preserved
loop-at-preserved g c =
    let k = rw (take_rest c.args.text.now c.loop-at.at) at c.in_ok-at.ensures in
    record {
      within = omega (arith, k.3, length-drop c.loop-at.at c.args.text.now);
      written = PutsAll-next _ _ _ _ c.loop-at.at c.in_ok-at.field-0 c.loop-at.invariant.written k;
    }
