-- The tokens of a function of which it is asked which are a name.
use Rattle.std.specs.Prelude.{ℕ, Bool, false, ◌&&◌, ◌||◌, List, slice_index_or}
use Rattle.std.specs.List.{AllByRecursion}
use Rattle.cb_scan.specs.declared.lex.piece.Span.{Span}
use Rattle.cb_names.specs.Functions.{IsItemOf}
use Rattle.cb_names.specs.Labels.{is_spelled, span}
use Rattle.cb_names.specs.OwnNames.{is_bound}
use Rattle.cb_names.specs.Pairs.{at}
use Rattle.cb_names.specs.Shapes.{IsShape}
use Rattle.cb_names.specs.Tables.{those_where}
use Rattle.cb_names.specs.declared.bindings.Named.{Named}
use Rattle.cb_names.specs.steps.Binding.{declares_by, named_by, scope_by}
use Rattle.cb_names.specs.steps.Labelling.{names_label_by}

-- they lie in the text
pub record IsNamed (n : Named) : Type 0 where
  pub shape : IsShape n.shape.now
  pub within : AllByRecursion (IsItemOf n.text.now) n.shape.now.items.items

-- index k is the name; it declares it
abbrev pub named_of : Named → ℕ → Bool
named_of n k = named_by n.text.now n.shape.now.items.items n.starts.now n.name.now k

abbrev pub declares_of : Named → ℕ → Bool
declares_of n k = declares_by n.text.now n.shape.now.items.items n.starts.now n.declares.now n.name.now k

-- index k has the bytes and names a label; or it is bound to a declaration
abbrev pub is_label_of : Named → ℕ → Bool
is_label_of n k =
    names_label_by n.shape.now.items.items (slice_index_or n.starts.now k false) k
    && is_spelled n.text.now n.shape.now.items.items k n.name.now

abbrev pub is_own_of : Named → ℕ → Bool
is_own_of n k =
    is_label_of n k
    || (named_of n k && is_bound (declares_of n) (scope_by n.scopes.now) k)

-- those of the first l tokens
abbrev pub own_by : Named → ℕ → List Span
own_by n l = those_where (λ k. span (at n.shape.now.items.items k)) (is_own_of n) l
