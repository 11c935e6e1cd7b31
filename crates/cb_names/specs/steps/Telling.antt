-- What is known of a function before its declarations are sought.
use Rattle.std.specs.Prelude.{◌≡◌, ℕ, Bool, true, List, [], ◌∷◌, if◌then◌else◌, length}
use Rattle.std.specs.Prelude.{nat_lt, slice_set}
use Rattle.cb_names.specs.Scoped.{follows_enum, is_old}
use Rattle.cb_names.specs.Shapes.{IsShape}
use Rattle.cb_names.specs.Statements.{starts}
use Rattle.cb_names.specs.Tables.{IsTable}
use Rattle.cb_names.specs.declared.declared.Told.{Told}

pub record IsTold (t : Told) : Type 0 where
  pub shape : IsShape t.shape.now
  pub starts : IsTable (starts t.shape.now.items.items t.shape.now.body)
      (length t.shape.now.items.items) t.starts.now
  pub enums : IsTable (follows_enum t.shape.now.items.items) (length t.shape.now.items.items)
      t.enums.now
  pub old : t.is_old ≡ is_old t.shape.now.items.items t.own t.shape.now.body

-- a flag that is set, if there is one
abbrev pub set_one : List Bool → ℕ → List Bool
set_one flags k = if nat_lt k (length flags) then slice_set flags k true else flags

unfoldable pub set_all : List Bool → List ℕ → List Bool
set_all flags [] = flags
set_all flags (k ∷ ks) = set_all (set_one flags k) ks
