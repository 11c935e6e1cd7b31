use Rattle.std.proofs.Common.{◌∙◌, ap}
use Rattle.cb_names.specs.HardAttributes.{without_hard}
use Rattle.cb_names.specs.SpaceAt.{space_at, space_in}
use Rattle.cb_names.proofs.code.Code.space_at.Goals as goal

pub returns : goal.returns
returns c =
    let place = c.args.place in
    c.space_in.ensures
    ∙ ap (λ l. space_in l place)
    (c.as_slice-2.ensures.value ∙ c.in_ok-kept.ensures.value
    ∙ ap without_hard (c.as_slice.ensures.value ∙ c.self.invariant.items))
    ∙ ap (λ t. space_at t place) c.self.view_is
