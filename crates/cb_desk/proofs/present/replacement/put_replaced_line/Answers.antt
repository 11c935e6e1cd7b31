use Rattle.std.proofs.Common.{◌∙◌, refl, ◌++◌, length}
use Rattle.std.proofs.lemmas.List.{take_rest}
use Rattle.cb_desk.proofs.ReplacedLines.{line-made}
use Rattle.cb_desk.proofs.present.replacement.put_replaced_line.Goals as goal

pub returns : goal.returns
returns c =
    let line = c.args.line.now in
    let text = c.shown-text.result.now in
    let made =
    line-made c.args.old.now c.args.new.now line text c.args.made.now.items
    c.shown-text.ensures.value in
    let replaced = c.in_ok-replace_into.ensures.ok refl in
    let end = take_rest line (length text) in
    c.in_ok-extend_from_slice.ensures.items ∙ (λ i. replaced i ++ end i) ∙ made
