use Rattle.std.proofs.Common.{◌≡◌, ◌+◌, ◌∙◌, ap, length, arith}
use Rattle.std.proofs.lemmas.List.{length-map}
use Rattle.bstr.specs.Text.{lines_of, without_terminator}
use Rattle.cb_scan.specs.Lines.{lines}
use Rattle.cb_scan.proofs.LineTable.{line_starts-length, lines-few}
use Rattle.cb_scan.proofs.source.Source.line_count.Goals as goal
use Rattle.cb_scan.proofs.source.Source.line_count.Goals.{After-as_slice}

-- the table has one entry more than there are lines
entries : (c : After-as_slice) → length c.as_slice.result.now ≡ length (lines c.args.self.now) + 1
entries c =
    ap length (c.as_slice.ensures.value ∙ c.self.invariant.1)
    ∙ line_starts-length c.self.inside.bytes.items
    ∙ ap (λ t. length (lines t) + 1) c.self.view_is

pub overflow_sub-result : goal.overflow_sub-result
overflow_sub-result c = omega (arith, entries c)

pub overflow_cast-result : goal.overflow_cast-result
overflow_cast-result c =
    omega (
      arith,
      entries c,
      lines-few c.args.self.now,
      length-map (lines_of c.args.self.now) without_terminator,
      c.self.invariant.0,
      ap length c.self.view_is,
    )

pub returns : goal.returns
returns c = omega (arith, entries c)
