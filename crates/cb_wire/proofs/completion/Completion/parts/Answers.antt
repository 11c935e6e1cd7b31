use Rattle.std.proofs.Common.{◌∙◌, ◌++◌, ap, codes, decimal, sym}
use Rattle.json.specs.Print.{escape}
use Rattle.cb_wire.specs.Texts.{readable}
use Rattle.cb_wire.proofs.Completions.{item-text}
use Rattle.cb_wire.proofs.completion.Completion.parts.Goals as goal

pub returns : goal.returns
returns c =
    let one = c.args.self.now in
    let name = escape (readable one.label.now) in
    ap (λ digit. codes "{\"label\":\"" ++ (name ++ (codes "\",\"kind\":" ++ (decimal one.kind
    ++ (codes ",\"sortText\":\"" ++ (digit ++ (name ++ codes "\"}"))))))) c.rank_digit.ensures
    ∙ sym (item-text one.label.now one.kind one.rank)
