use Rattle.std.proofs.Common.{◌≡◌, ◌∙◌, false, sym, ap}
use Rattle.cb_index.specs.Columns.{is_near}
use Rattle.cb_index.specs.Hash.{hash}
use Rattle.cb_index.specs.Items.{item_count, item_key}
use Rattle.cb_index.proofs.ColumnLemmas.{far_key}
use Rattle.cb_index.proofs.items.has_key_of.Goals as goal

pub returns-else-is_near : goal.returns-else-is_near
returns-else-is_near c =
    let sort = c.args.sort in
    let text = c.args.version.now in
    let key = item_key sort text c.args.item in
    let cells = c.column.result.now in
    let far : is_near cells c.args.other (hash key) ≡ false =
    sym (c.is_near.ensures ∙ ap (λ h. is_near cells c.args.other h) c.requires)
    ∙ c.if-is_near.false in
    c.if-is_near.false
    ∙ sym (far_key sort text cells (item_count sort text) c.args.other key c.column.ensures far)
