use Rattle.std.proofs.Common.{◌∙◌, ap, length, get_or, arith}
use Rattle.cb_scan.specs.steps.LineStarts.{line_starts}
use Rattle.cb_scan.proofs.LinePlaces.{line_start-within, start_ends, start_reads}
use Rattle.cb_scan.proofs.source.Source.line_start.Goals as goal

pub returns-then-index-starts-clause-value : goal.returns-then-index-starts-clause-value
returns-then-index-starts-clause-value c =
    let table = c.as_slice-starts.ensures.value ∙ c.self.invariant.1 ∙ ap line_starts c.self.view_is in
    let starts = c.as_slice-starts.result.now in
    let index = c.saturating_sub-index.ensures in
    ap (λ k. get_or starts k 0) index
    ∙ start_reads c.args.self.now starts table c.args.n (omega (arith, index, c.if-index-starts.true))

pub returns-then-index-starts-clause-within : goal.returns-then-index-starts-clause-within
returns-then-index-starts-clause-within c =
    omega (
      arith,
      returns-then-index-starts-clause-value c,
      line_start-within c.args.self.now c.args.n,
    )

pub returns-else-index-starts-clause-value : goal.returns-else-index-starts-clause-value
returns-else-index-starts-clause-value c =
    let table = c.as_slice-starts.ensures.value ∙ c.self.invariant.1 ∙ ap line_starts c.self.view_is in
    omega (
      arith,
      ap length c.bytes.ensures.value,
      start_ends c.args.self.now c.as_slice-starts.result.now table c.args.n
          (omega (arith, c.saturating_sub-index.ensures, c.if-index-starts.false)),
    )
