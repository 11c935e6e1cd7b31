use Rattle.cb_lsp.proofs.Marks.{marked}
use Rattle.cb_lsp.proofs.columns.Columns.column.Goals as goal

pub invariant_of-self : goal.invariant_of-self
invariant_of-self c =
    marked c.self.inside.encoding c.self.inside.line.now c.split_at.result.1.now
    c.mark_up_to-mark.result.bytes c.mark_up_to-mark.result.units _ _ _ c.mark_up_to-mark.ensures.mark c.split_at.ensures.back
    c.column_of_place-units.ensures.value c.place_of_column-bytes.ensures.value
