use Rattle.std.proofs.Common.{◌∙◌, None, ap}
use Rattle.cb_names.specs.steps.Pairing.{answer}
use Rattle.cb_names.proofs.shape.Shape.around.Goals as goal

pub returns : goal.returns
returns c =
    c.answer.ensures ∙ ap (λ t. answer t c.args.index) c.as_slice.ensures.value
    ∙ c.requires.shape.around.at c.args.index None c.requires.within
