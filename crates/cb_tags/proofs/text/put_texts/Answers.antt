use Rattle.cb_tags.proofs.Prefixes.{Puts-fault, PutsAll-none, PutsAll-element, PutsPrefix-element}
use Rattle.cb_tags.proofs.text.put_texts.Goals as goal

pub returns-in_err-put_text : goal.returns-in_err-put_text
returns-in_err-put_text g c =
    Puts-fault _ _ _ _ _ c.from_residual.ensures.1
    (PutsPrefix-element (λ text. text.now) _ _ _ _ c.loop-text.text-index _ c.loop-text-test.true
    c.loop-text.invariant c.in_err-put_text.ensures)

pub loop-text-init : goal.loop-text-init
loop-text-init g c = PutsAll-none c.args.out.now

pub loop-text-preserved : goal.loop-text-preserved
loop-text-preserved g c =
    PutsAll-element (λ text. text.now) _ _ _ _ c.loop-text.text-index _ c.loop-text-test.true
    c.loop-text.invariant c.in_ok-put_text.ensures
