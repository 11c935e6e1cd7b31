use Rattle.std.proofs.Common.{◌∙◌, None, ap}
use Rattle.cb_names.specs.steps.Pairing.{answer}
use Rattle.cb_names.specs.steps.Scoping.{level_by}
use Rattle.cb_names.proofs.ScopeLemmas.{level_is}
use Rattle.cb_names.proofs.scopes.level_of.Goals as goal

pub returns : goal.returns
returns c =
    let s = c.args.shape.now in
    let k = c.args.index in
    let is = c.requires.shape in
    let pair = c.answer-pair.ensures ∙ ap (λ t. answer t k) c.as_slice.ensures.value ∙ is.partner.at k None c.requires.within in
    c.level_by.ensures
    ∙ (λ i. level_by (c.as_slice-2.ensures.value i) (c.as_slice-around.ensures.value i) (pair i) k)
    ∙ level_is s.items.items s.pairs.around.items k c.requires.within is.around
