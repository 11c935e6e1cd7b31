-- A function of which it is known what it declares, and in which scopes.
use Rattle.std.specs.Prelude.{ℕ, Bool, false, ◌&&◌, length, nat_le, slice_index_or}
use Rattle.cb_names.specs.Bindings.{scope_of}
use Rattle.cb_names.specs.Scoped.{declares}
use Rattle.cb_names.specs.Shapes.{IsShape}
use Rattle.cb_names.specs.Statements.{starts}
use Rattle.cb_names.specs.Tables.{IsTable}
use Rattle.cb_names.specs.declared.visible.Scoped.{Scoped}
use Rattle.cb_names.specs.steps.Binding.{scope_by}
use Rattle.cb_names.specs.steps.Naming.{is_ordinary_by}

pub record IsScoped (s : Scoped) : Type 0 where
  pub shape : IsShape s.shape.now
  pub starts : IsTable (starts s.shape.now.items.items s.shape.now.body)
      (length s.shape.now.items.items) s.starts.now
  pub declares : IsTable (declares s.shape.now.items.items s.name s.shape.now.body)
      (length s.shape.now.items.items) s.declares.now
  pub scopes : IsTable (scope_of s.shape.now.items.items s.name s.shape.now.body)
      (length s.shape.now.items.items) s.scopes.now

-- index d declares an ordinary name, and a later index k sees the declaration
abbrev pub is_visible_by : Scoped → (k d : ℕ) → Bool
is_visible_by s k d =
    is_ordinary_by s.shape.now.items.items s.starts.now d
    && (slice_index_or s.declares.now d false && nat_le k (scope_by s.scopes.now d).last)
