use Rattle.std.proofs.Common.{◌∙◌, ap, refl, subst, sym}
use Rattle.cb_scan.proofs.InOrder.{facts_in_order}
use Rattle.cb_scan.specs.Order.{AreOrdered, IsDefBefore}
use Rattle.cb_scan.specs.TextFacts.{TextFacts}
use Rattle.cb_lsp.proofs.Asked.{facts-there}
use Rattle.cb_lsp.proofs.callers.kind_in.Goals as goal

pub kind_at-requires : goal.kind_at-requires
kind_at-requires c =
    let w = c.args.desk.now.timeline.present in
    let text = c.in-Some._source.now in
    let facts = facts-there w w w c.args.file.now
    (record { bytes = text; facts = c.in-Some.facts.now }) c.in-Some.ensures refl refl in
    subst (AreOrdered IsDefBefore)
    (sym (c.defs.ensures.value ∙ ap (λ (f : TextFacts). f.defs) facts))
    (facts_in_order w.profile text).defs
