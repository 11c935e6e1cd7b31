use Rattle.std.proofs.Common.{◌∙◌, ap, map}
use Rattle.cb_names.specs.declared.local.LocalUse.{LocalUse}
use Rattle.cb_lsp.specs.LocalRenames.{callers, unless_arguments}
use Rattle.cb_lsp.proofs.rename.Renaming.unless_held.Goals as goal

pub returns-in-Ok : goal.returns-in-Ok
returns-in-Ok c =
    let f = c.args.self.now in
    let spans = c.as_slice.ensures.value ∙ c.in_ok-touched.ensures
    ∙ ap (map (λ (u : LocalUse). u.name)) (c.uses.ensures ∙ (λ i. (c.local.ensures i).uses)) in
    c.in-Ok.ensures
    ∙ ap (unless_arguments f.asked.desk.now.timeline.present f.asked.source.now)
    (c.as_slice-2.ensures.value ∙ c.in_ok-callers.ensures
    ∙ (λ i. callers (spans i) (c.arguments.ensures i)))
