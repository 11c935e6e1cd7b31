use Rattle.std.proofs.Common.{rules, ◌≡◌, ◌∙◌, sym}
use Rattle.std.proofs.lemmas.Slice.Eq.{slice_eq-Decides}
use Rattle.cb_desk.proofs.SamePlaces.{same_place}
use Rattle.cb_desk.specs.steps.Edits.{renamed}
use Rattle.cb_desk.proofs.renaming.Renaming.leads.Goals as goal

pub returns : goal.returns
returns c =
    let made : c.as_slice.result.now ≡ renamed c.args.self c.args.old.now = search rules in
    let is =
    slice_eq-Decides same_place c.as_slice.result.now c.args.new.now c.eq.result c.eq.ensures in
    (λ same. sym made ∙ is.0 same, λ led. is.1 (made ∙ led))
