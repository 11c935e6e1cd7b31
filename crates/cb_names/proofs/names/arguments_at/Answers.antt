use Rattle.std.proofs.Common.{◌∙◌, ◌+◌, ap, add-one}
use Rattle.std.specs.Prelude.{unwrap_or}
use Rattle.cb_names.specs.Functions.{start}
use Rattle.cb_names.specs.Pairs.{at, partner}
use Rattle.cb_names.proofs.ShapeLemmas.{partner_answer}
use Rattle.cb_names.proofs.names.arguments_at.Goals as goal

pub returns : goal.returns
returns c =
    let xs = c.args.items.now in
    let end_is = c.unwrap_or-end.ensures
    ∙ ap (λ p. unwrap_or p 0) (c.answer.ensures
    ∙ partner_answer xs c.args.partners.now c.requires.partners (c.args.at + 1)
    ∙ ap (partner xs) (add-one c.args.at)) in
    (λ i. record {
      name = c.span_at.ensures i;
      end = (c.start_at.ensures ∙ ap (λ e. start (at xs e)) end_is) i;
    })
