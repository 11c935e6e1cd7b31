use Rattle.std.proofs.Common.{◌∙◌, ap, sym, ◌∷◌, []}
use Rattle.std.specs.Option.{option_copied}
use Rattle.std.specs.Prelude.{is_some}
use Rattle.json.specs.Value.{items_view}
use Rattle.cb_lsp.specs.Changes.{text_by}
use Rattle.cb_lsp.specs.Params.{changes_among}
use Rattle.cb_lsp.proofs.Closed.{change-made, change-unmade}
use Rattle.cb_lsp.proofs.workspace.Workspace.change_by.Goals as goal

pub returns-in-Ok : goal.returns-in-Ok
returns-in-Ok c =
    let cs = changes_among (items_view c.args.changes.now) in
    let made = c.in-Ok.ensures.ok
    ∙ ap (λ t. text_by c.args.encoding t cs) c.text_before.ensures in
    let done = c.change_to.ensures in (
      done.0 ∷ [],
      done.1 ∙ change-made c.args.encoding done.0 c.args.self.now c.args.name.now cs _
          c.requires.open made,
    )

pub returns-in-Err : goal.returns-in-Err
returns-in-Err c =
    let cs = changes_among (items_view c.args.changes.now) in
    let some = c.in-Err.ensures.err in
    let made = ap (λ t. is_some (text_by c.args.encoding t cs)) c.text_before.ensures in
    change-unmade c.args.encoding c.args.self.now c.lose.new.self c.args.name.now
    c.text.result.now (option_copied c.lose.result) cs c.requires.open c.lose.ensures.world
    c.lose.ensures.documents c.lose.ensures.told (sym made ∙ some) c.text.ensures
