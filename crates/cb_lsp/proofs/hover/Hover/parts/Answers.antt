use Rattle.std.proofs.Common.{◌∙◌, ◌++◌, [], ap, arith, decimal}
use Rattle.std.specs.Prelude.{codes}
use Rattle.json.specs.Print.{escape}
use Rattle.cb_wire.specs.Texts.{readable}
use Rattle.cb_desk.specs.Answer.{unindented}
use Rattle.cb_lsp.specs.Hovers.{cut_line}
use Rattle.cb_lsp.proofs.HoverTexts.{hover-parts}
use Rattle.cb_lsp.proofs.hover.Hover.parts.Goals as goal

pub returns : goal.returns
returns c =
    let h = c.args.self.now in
    ap (λ text. escape (readable h.file.now) ++ (codes ":" ++ (decimal h.line ++ (codes "\\n"
    ++ (escape (readable text) ++ []))))) (c.cut_line.ensures ∙ ap cut_line c.unindented.ensures)
    ∙ hover-parts h.file.now (cut_line (unindented h.text.now)) h.line (omega arith)
