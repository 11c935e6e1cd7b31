-- What a client takes.
use Rattle.std.specs.Prelude.{Bool}
use Rattle.cb_wire.specs.declared.units.Encoding.{Encoding}
use Rattle.cb_wire.specs.Uris.{Below}

-- the folder of its files, what its columns count, and whether the symbols of a document form a
-- tree
pub record Client : Type 0 where
  pub root : Below
  pub encoding : Encoding
  pub tree : Bool
