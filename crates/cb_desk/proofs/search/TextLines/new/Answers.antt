use Rattle.std.proofs.Common.{◌∙◌, sym, ap, length, arith}
use Rattle.cb_scan.specs.Lines.{lines}
use Rattle.cb_desk.specs.steps.Search.{found_from}
use Rattle.cb_desk.proofs.TextLines.{lines_with-found, found-few}
use Rattle.cb_desk.proofs.search.TextLines.new.Goals as goal

pub returns-clause-value : goal.returns-clause-value
returns-clause-value c =
    let line = c.new.ensures.line in
    let text = c.new.ensures.text in
    (λ i. found_from c.args.finder.now (line i) (lines (text i)))
    ∙ sym (lines_with-found c.args.finder.now c.args.source.now)

pub returns-clause-len : goal.returns-clause-len
returns-clause-len c =
    let found =
    ap length (returns-clause-value c ∙ lines_with-found c.args.finder.now c.args.source.now) in
    let few = found-few c.args.finder.now 1 (lines c.args.source.now) in
    let long = c.new.ensures.len in
    omega arith
