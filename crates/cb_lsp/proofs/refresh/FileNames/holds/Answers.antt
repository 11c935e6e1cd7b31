use Rattle.std.proofs.Common.{◌∙◌, ap, sym}
use Rattle.std.specs.List.{list_any}
use Rattle.std.specs.Str.{bytes_eq}
use Rattle.cb_desk.proofs.Placed.{list_any-map}
use Rattle.cb_lsp.proofs.refresh.FileNames.holds.Goals as goal

pub returns : goal.returns
returns c =
    let file = c.args.file.now in
    c.is_among.ensures
    ∙ ap (list_any (λ name. bytes_eq name.items file)) c.as_slice.ensures.value
    ∙ sym (list_any-map (λ other. bytes_eq other file) (λ name. name.items)
    c.self.inside.names.items)
    ∙ ap (list_any (λ other. bytes_eq other file)) c.self.view_is
