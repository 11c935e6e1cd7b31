use Rattle.std.proofs.Common.{◌∙◌, Some, ap, fold, sym}
use Rattle.std.specs.Cow.{cow_slice_items}
use Rattle.std.specs.Option.{option_map}
use Rattle.cb_wire.specs.Uris.{name_below, path_of}
use Rattle.cb_lsp.specs.Refresh.{files_called_in, with_file}
use Rattle.cb_lsp.specs.steps.Located.{client_in}
use Rattle.cb_lsp.proofs.refresh.FileNames.add_called.Goals as goal

pub returns-in-Ok : goal.returns-in-Ok
returns-in-Ok c =
    let root = c.args.forms.root.now.path in
    let path = sym (ap (option_map cow_slice_items) c.in-Some.is) ∙ c.in_ok-path.ensures
    ∙ ap path_of c.as_bytes.ensures.value in
    let file = c.name-file.ensures ∙ ap (name_below root) c.as_slice.ensures.value in
    c.in-Ok.ensures
    ∙ ap (λ f. fold with_file c.args.self.now (files_called_in (client_in c.args.forms)
    c.args.desk.now.timeline.present c.args.name.now c.args.position f))
    (ap Some file ∙ ap (option_map (name_below root)) path)
