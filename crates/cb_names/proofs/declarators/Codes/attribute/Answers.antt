use Rattle.std.proofs.Common.{◌≡◌, ◌∙◌, ap, arith, length}
use Rattle.std.proofs.lemmas.List.{drop-map, length-map}
use Rattle.std.specs.Prelude.{drop}
use Rattle.cb_scan.specs.CodeTokens.{first_attribute}
use Rattle.cb_names.specs.declared.word.Item.{Item}
use Rattle.cb_names.proofs.declarators.Codes.attribute.Goals as goal

pub returns-clause-value : goal.returns-clause-value
returns-clause-value c =
    let items = c.args.self.now.shape.now.items.items in
    c.attribute_at.ensures.value
    ∙ ap first_attribute (ap (drop c.args.index) c.requires.codes ∙ drop-map (λ (x : Item). x.token) c.args.index items)

pub returns-clause-within : goal.returns-clause-within
returns-clause-within c =
    let items = c.args.self.now.shape.now.items.items in
    let len : length c.args.self.now.codes.now ≡ length items =
    ap length c.requires.codes ∙ length-map items (λ (x : Item). x.token) in
    omega (arith, c.attribute_at.ensures.within, len)
