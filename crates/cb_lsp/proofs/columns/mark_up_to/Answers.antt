use Rattle.std.proofs.Common.{◌∙◌, arith, sym}
use Rattle.std.proofs.lemmas.Bool.{ltb-true}
use Rattle.cb_lsp.proofs.Marks.{marked-before, units-before}
use Rattle.cb_lsp.proofs.columns.mark_up_to.Goals as goal

pub overflow_sub-result : goal.overflow_sub-result
overflow_sub-result c =
    omega (
      arith,
      units-before c.args.encoding c.args.line.now c.split_at.result.1.now c.args.mark.bytes
          c.args.mark.units c.args.place c.column_of_place-units.result c.requires
          (omega (arith, c.if-mark-place.false)) (ltb-true _ 128 (sym c.is_ascii.ensures ∙ c.if-not-is_ascii.false))
          c.split_at.ensures.back c.column_of_place-units.ensures.value,
    )

pub returns-clause-mark : goal.returns-clause-mark
returns-clause-mark c =
    marked-before c.args.encoding c.args.line.now c.split_at.result.1.now c.args.mark.bytes
    c.args.mark.units c.args.place c.column_of_place-units.result c.requires
    (omega (arith, c.if-mark-place.false)) (ltb-true _ 128 (sym c.is_ascii.ensures ∙ c.if-not-is_ascii.false))
    c.split_at.ensures.back c.column_of_place-units.ensures.value
