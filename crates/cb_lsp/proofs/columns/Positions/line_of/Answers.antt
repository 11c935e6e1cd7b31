use Rattle.std.proofs.Common.{◌≡◌, arith, subst}
use Rattle.cb_scan.specs.Lines.{line_of}
use Rattle.cb_lsp.specs.steps.Columns.{SourceColumns}
use Rattle.cb_lsp.proofs.SameLines.{on-line}
use Rattle.cb_lsp.proofs.columns.Positions.line_of.Goals as goal

pub returns-then-place-line_start : goal.returns-then-place-line_start
returns-then-place-line_start c =
    let line = c.self.inside.line in
    subst (λ (s : SourceColumns). line ≡ line_of s.text c.args.place) c.self.view_is
    (on-line c.self.inside.source.now line c.args.place (omega (arith, c.if-line-gt0.true))
    (omega (arith, c.line_start.ensures.value, c.if-line_start-place.true))
    (omega (
      arith,
      c.line_start-then-line_start-place.ensures.value,
      c.if-place-line_start.true,
    )))
