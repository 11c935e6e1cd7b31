use Rattle.std.proofs.Common.{◌∙◌, ap}
use Rattle.cb_index.specs.Cells.{Cell}
use Rattle.cb_index.proofs.ColumnLemmas.{cell_is}
use Rattle.cb_index.proofs.repeats.is_repeat.Goals as goal

pub returns-in-Some : goal.returns-in-Some
returns-in-Some c =
    let found = c.in-Some.ensures.lookup in
    c.repeat.ensures
    ∙ ap (λ (l : Cell). l.repeat)
    (cell_is c.args.sort c.args.version.now c.column-column.result.now c.args.item
    c.in-Some.cell.now c.column-column.ensures found.3.0 found.1)
