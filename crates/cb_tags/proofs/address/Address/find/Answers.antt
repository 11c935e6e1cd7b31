use Rattle.std.proofs.Common.{◌≡◌, ◌∙◌, ◌+◌, ◌-◌, ℕ, sym, ap, length, find, arith}
use Rattle.std.specs.List.{range_with_len}
use Rattle.std.specs.Str.{bytes_eq}
use Rattle.cb_scan.specs.Lines.{lines, line_text}
use Rattle.cb_tags.proofs.Places.{find-next}
use Rattle.cb_tags.proofs.address.Address.find.Goals as goal

pub loop-index-preserved : goal.loop-index-preserved
loop-index-preserved c =
    let reads = λ (n : ℕ). bytes_eq c.args.self.now (line_text c.args.source.now n) in
    let i = c.loop-index.index in
    let left = length (lines c.args.source.now) - i in
    let count = c.line_count-index-end.ensures in
    let less : length (lines c.args.source.now) - (i + 1) ≡ left - 1 = omega arith in
    ap (λ n. find reads (range_with_len (i + 1 + 1) n)) less
    ∙ sym (find-next reads (i + 1) left (omega (arith, count, c.loop-index-test.true))
    (sym c.is_at.ensures ∙ c.if-is_at.false))
    ∙ c.loop-index.invariant
