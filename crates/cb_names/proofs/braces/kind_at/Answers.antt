use Rattle.std.proofs.Common.{◌∙◌, ◌==◌, None, sym, ap}
use Rattle.cb_names.specs.Braces.{kind_by}
use Rattle.cb_names.specs.steps.Pairing.{answer}
use Rattle.cb_names.proofs.BraceLemmas.{kind_is}
use Rattle.cb_names.proofs.braces.kind_at.Goals as goal

pub returns-then-sign-eq123 : goal.returns-then-sign-eq123
returns-then-sign-eq123 c =
    let xs = c.args.items.now in
    let k = c.args.at in
    let around = c.answer.ensures ∙ ap (λ t. answer t k) c.as_slice.ensures.value
    ∙ c.requires.around.at k None c.requires.within in
    c.kind_by.ensures
    ∙ ap (kind_by xs c.args.body k) c.is_in_value-inside.ensures
    ∙ kind_is xs c.args.body k _ c.requires.kinds _ around
    (ap (λ n. n == 123) (sym c.sign.ensures ∙ c.if-sign-eq123.true))
