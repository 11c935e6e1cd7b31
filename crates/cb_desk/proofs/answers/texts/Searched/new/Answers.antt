use Rattle.std.proofs.Common.{◌∙◌, sym, ap, map}
use Rattle.cb_scan.specs.Lines.{lines}
use Rattle.cb_desk.specs.Answer.{line_row}
use Rattle.cb_desk.specs.steps.Search.{found_from}
use Rattle.cb_desk.proofs.TextLines.{lines_with-found}
use Rattle.cb_desk.proofs.answers.texts.Searched.new.Goals as goal

pub returns-clause-rows : goal.returns-clause-rows
returns-clause-rows c =
    let line = c.new.ensures.line in
    let text = c.new.ensures.text in
    ap (map (line_row c.args.name.now c.args.source.now))
    ((λ i. found_from c.args.finder.now (line i) (lines (text i)))
    ∙ sym (lines_with-found c.args.finder.now c.args.source.now))
