use Rattle.std.proofs.Common.{◌≡◌, ◌∙◌, [], false, sym, ap}
use Rattle.std.specs.Prelude.{◌&&◌}
use Rattle.cb_index.specs.Columns.{is_near}
use Rattle.cb_index.specs.Counts.{same_row}
use Rattle.cb_index.specs.Hash.{hash}
use Rattle.cb_index.specs.Items.{item_key}
use Rattle.cb_index.specs.steps.Found.{fact_at}
use Rattle.cb_index.proofs.ColumnLemmas.{far_key}
use Rattle.cb_index.proofs.RepeatLemmas.{and_false}
use Rattle.cb_index.proofs.repeats.has_row_of.Goals as goal

-- another key, so another row
pub returns-else-is_near : goal.returns-else-is_near
returns-else-is_near c =
    let sort = c.args.sort in
    let text = c.args.text.now in
    let key = item_key sort text c.args.item in
    let cells = c.args.cells.now in
    let rows =
    same_row sort (fact_at sort [] text c.args.other) (fact_at sort [] text c.args.item) in
    let far : is_near cells c.args.other (hash key) ≡ false =
    sym (c.is_near.ensures ∙ ap (λ h. is_near cells c.args.other h) c.requires.hash)
    ∙ c.if-is_near.false in
    c.if-is_near.false ∙ sym (and_false rows)
    ∙ ap (λ b. rows && b)
    (sym (far_key sort text cells c.requires.cells.0 c.args.other key c.requires.cells.1 far))
