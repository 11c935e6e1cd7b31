use Rattle.std.proofs.Common.{◌≡◌, ◌∙◌, ap, arith, flat_map, subst}
use Rattle.std.proofs.lemmas.List.{take_all}
use Rattle.cb_tags.specs.Writing.{PutsAll, PutsPrefix}
use Rattle.cb_tags.proofs.Prefixes.{Puts-fault, PutsAll-element, PutsPrefix-element}
use Rattle.cb_lsp.specs.steps.Told.{lost_text}
use Rattle.cb_lsp.proofs.Dropped.{named-text}
use Rattle.cb_lsp.proofs.documents.Documents.put_lost.Goals as goal

pub returns-in_err-put_lost : goal.returns-in_err-put_lost
returns-in_err-put_lost g c =
    let ds = c.deref-document-items.result.now in
    let same : ds ≡ c.args.self.now = c.deref-document-items.ensures.value ∙ c.self.view_is in
    Puts-fault _ _ _ _ _ c.from_residual.ensures.1
    (subst (PutsPrefix c.args.out.now c.put_lost.new.out)
    (ap (flat_map lost_text) same ∙ named-text c.args.self.now)
    (PutsPrefix-element lost_text _ _ _ ds c.loop-document.document-index c.document-item.result
    c.loop-document-test.true c.loop-document.invariant
    (rw (← c.document-item.is) c.in_err-put_lost.ensures)))

pub loop-document-preserved : goal.loop-document-preserved
loop-document-preserved g c =
    PutsAll-element lost_text _ _ _ c.deref-document-items.result.now
    c.loop-document.document-index c.document-item.result c.loop-document-test.true
    c.loop-document.invariant (rw (← c.document-item.is) c.in_ok-put_lost.ensures)

pub returns : goal.returns
returns g c =
    let ds = c.deref-document-items.result.now in
    let same : ds ≡ c.args.self.now = c.deref-document-items.ensures.value ∙ c.self.view_is in
    subst (PutsAll c.args.out.now c.loop-document.out)
    (ap (flat_map lost_text) (take_all c.loop-document.document-index ds
    (omega (arith, c.loop-document-test.false)) ∙ same) ∙ named-text c.args.self.now)
    c.loop-document.invariant
