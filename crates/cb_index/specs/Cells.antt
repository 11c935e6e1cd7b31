-- What a version keeps of a use or a call.
use Rattle.std.specs.Prelude.{ℕ, Bool}

-- a hash of its key, and whether an item before it has its key and its row
pub record Cell : Type 0 where
  pub hash : ℕ
  pub repeat : Bool
