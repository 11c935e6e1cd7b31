use Rattle.std.proofs.Common.{◌∙◌, ap}
use Rattle.cb_names.specs.steps.Pairing.{answer}
use Rattle.cb_names.proofs.ShapeLemmas.{partner_answer, partner_within}
use Rattle.cb_names.proofs.shape.Shape.partner.Goals as goal

pub returns-clause-value : goal.returns-clause-value
returns-clause-value c =
    let s = c.args.self.now in
    c.answer.ensures ∙ ap (λ t. answer t c.args.index) c.as_slice.ensures.value
    ∙ partner_answer s.items.items s.pairs.partner.items c.requires.partner c.args.index

pub returns-clause-within : goal.returns-clause-within
returns-clause-within c =
    let s = c.args.self.now in
    partner_within s.items.items c.args.index _
    (c.answer.ensures ∙ ap (λ t. answer t c.args.index) c.as_slice.ensures.value
    ∙ partner_answer s.items.items s.pairs.partner.items c.requires.partner c.args.index)
