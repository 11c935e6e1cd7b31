-- A function whose tokens are known, with and without what the word of each is.
use Rattle.std.specs.Prelude.{◌≡◌, map}
use Rattle.cb_names.specs.Shapes.{IsShape}
use Rattle.cb_names.specs.declared.declarators.Codes.{Codes}
use Rattle.cb_names.specs.declared.word.Item.{Item}

pub record IsCodes (c : Codes) : Type 0 where
  pub shape : IsShape c.shape.now
  pub codes : c.codes.now ≡ map (λ (x : Item). x.token) c.shape.now.items.items
