use Rattle.std.proofs.Common.{◌∙◌, ap, sym, ◌++◌, append-nil}
use Rattle.std.specs.Prelude.{codes}
use Rattle.cb_wire.specs.Values.{range_tree, value_text}
use Rattle.cb_wire.proofs.Locations.{highlight-text}
use Rattle.cb_wire.proofs.location.Highlight.parts.Goals as goal

pub returns : goal.returns
returns c =
    let h = c.args.self.now in
    ap (λ t. codes "{\"range\":" ++ (value_text (range_tree h.range) ++ t))
    (append-nil c.highlight_end.result.now ∙ c.highlight_end.ensures)
    ∙ sym (highlight-text h.range h.kind)
