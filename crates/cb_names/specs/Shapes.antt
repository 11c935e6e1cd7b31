-- What is known of the tokens of a function.
use Rattle.std.specs.Prelude.{◌<◌, ◌^◌, length}
use Rattle.cb_names.specs.Braces.{kind_at}
use Rattle.cb_names.specs.Pairs.{innermost, partner}
use Rattle.cb_names.specs.Tables.{IsTable}
use Rattle.cb_names.specs.declared.shape.Shape.{Shape}

-- the brackets are those of the tokens, and so is what each `{` opens
pub record IsShape (s : Shape) : Type 0 where
  pub few : length s.items.items < 2 ^ 32
  pub around : IsTable (innermost s.items.items) (length s.items.items) s.pairs.around.items
  pub partner : IsTable (partner s.items.items) (length s.items.items) s.pairs.partner.items
  pub kinds : IsTable (kind_at s.items.items s.body) (length s.items.items) s.kinds.items
