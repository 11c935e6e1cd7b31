use Rattle.std.proofs.Common.{◌≡◌, ◌∙◌, ◌++◌, length, ap, zero-add}
use Rattle.bstr.specs.Text.{lines_of}
use Rattle.cb_scan.specs.steps.LineStarts.{starts_from, line_starts}
use Rattle.cb_scan.proofs.LineTable.{joined, lines-whole}
use Rattle.cb_scan.proofs.source.line_starts.Goals as goal

-- all lines are still to come
pub loop-line-init : goal.loop-line-init
unfolding line_starts
loop-line-init c =
    let source : c.into_iter-line-iterator.result ≡ lines_of c.args.text.now =
    c.into_iter-line-iterator.ensures.into_iter_gives ∙ c.lines_with_terminator-line-items.ensures.value in
    record {
      table = λ i. c.new-starts.ensures.items i ++ starts_from 0 (source i);
      room = zero-add (length (joined c.into_iter-line-iterator.result)) ∙ ap (λ ls. length (joined ls)) source
          ∙ ap length (lines-whole c.args.text.now);
    }
