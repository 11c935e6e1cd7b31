-- To which declaration a name is bound (ISO C 2011, 6.2.1, found in tokens by this project's profile).
-- A test tells which indices declare the name, and each of these has a scope.
use Rattle.std.specs.Prelude.{ℕ, zero, suc, Bool, false, ◌&&◌, ◌==◌, nat_le, List, length}
use Rattle.std.specs.Prelude.{if◌then◌else◌, Option, None, Some}
use Rattle.std.specs.Option.{option_map, option_map_or}
use Rattle.std.specs.Str.{bytes_eq}
use Rattle.cb_scan.specs.lex.Tokens.{bytes_of}
use Rattle.cb_names.specs.Accesses.{access}
use Rattle.cb_names.specs.Labels.{span}
use Rattle.cb_names.specs.Locals.{LocalName, uses_where}
use Rattle.cb_names.specs.Pairs.{at}
use Rattle.cb_names.specs.Scoped.{declares, is_list}
use Rattle.cb_names.specs.Scopes.{scope_at}
use Rattle.cb_names.specs.Spaces.{is_ordinary}
use Rattle.cb_names.specs.declared.local.LocalUse.{LocalUse}
use Rattle.cb_names.specs.declared.scopes.Scope.{Scope}
use Rattle.cb_names.specs.declared.word.Item.{Item}

-- ---- bindings

-- index k sees the declaration at index d, which is not behind it: its scope goes on there
abbrev pub sees : (ℕ → Bool) → (ℕ → Scope) → (k d : ℕ) → Bool
sees declares scope k d = declares d && nat_le k (scope d).last

-- of two declarations, the second of which is later: that in the inner scope, or the later one
abbrev pub inner : (ℕ → Scope) → Option ℕ → ℕ → ℕ
inner scope before d =
    option_map_or (λ e. if nat_le (scope e).first (scope d).first then d else e) before d

-- of the declarations before index n that index k sees, the last one in the innermost scope
unfoldable pub seen_before : (ℕ → Bool) → (ℕ → Scope) → (k n : ℕ) → Option ℕ
seen_before declares scope k zero = None
seen_before declares scope k (suc d) =
    if sees declares scope k d then Some (inner scope (seen_before declares scope k d) d)
    else seen_before declares scope k d

-- the declaration to which the name is bound at index k
abbrev pub binding : (ℕ → Bool) → (ℕ → Scope) → ℕ → Option ℕ
binding declares scope k = seen_before declares scope k (suc k)

-- at index k it is bound in the scope that begins at an index
abbrev pub is_bound_in : (ℕ → Bool) → (ℕ → Scope) → (first k : ℕ) → Bool
is_bound_in declares scope first k =
    option_map_or (λ d. (scope d).first == first) (binding declares scope k) false

-- ---- the uses of a local

-- index k declares the name in that scope
abbrev pub declares_in : (ℕ → Bool) → (ℕ → Scope) → (first k : ℕ) → Bool
declares_in declares scope first k = declares k && (scope k).first == first

abbrev pub use_of : List Item → (ℕ → Bool) → (ℕ → Scope) → (first k : ℕ) → LocalUse
use_of xs declares scope first k = record {
  name = span (at xs k);
  access = access xs (declares_in declares scope first k) k;
  declares = declares_in declares scope first k;
}

-- the local that is declared at index d: its uses are the names that are bound in its scope
abbrev pub variable_of : List Item → (named declares : ℕ → Bool) → (ℕ → Scope) → ℕ → LocalName
variable_of xs named declares scope d = record {
  definition = Some (span (at xs d));
  uses = uses_where (use_of xs declares scope (scope d).first)
      (λ k. named k && is_bound_in declares scope (scope d).first k) (length xs);
  is_label = false;
}

-- the local that index k names, if it names one
abbrev pub variable_by : List Item → (named declares : ℕ → Bool) → (ℕ → Scope) → ℕ → Option LocalName
variable_by xs named declares scope k =
    option_map (variable_of xs named declares scope) (binding declares scope k)

-- ---- in a function, whose name has index m, and whose body begins at index b

-- index k is an ordinary name with these bytes; it declares the name
abbrev pub is_named : List ℕ → List Item → (b : ℕ) → List ℕ → ℕ → Bool
is_named text xs b name k = is_ordinary xs b k && bytes_eq (bytes_of text (span (at xs k))) name

abbrev pub declares_name : List ℕ → List Item → (m b : ℕ) → List ℕ → ℕ → Bool
declares_name text xs m b name k = is_named text xs b name k && declares xs m b k

-- the scope of what it declares
abbrev pub scope_of : List Item → (m b : ℕ) → ℕ → Scope
scope_of xs m b k = scope_at (is_list xs m b) xs b k

-- the local that index k names, if it names one
abbrev pub variable_at : List ℕ → List Item → (m b : ℕ) → ℕ → Option LocalName
variable_at text xs m b k =
    let name = bytes_of text (span (at xs k)) in
    if is_ordinary xs b k
    then variable_by xs (is_named text xs b name) (declares_name text xs m b name) (scope_of xs m b) k
    else None
