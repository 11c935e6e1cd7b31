-- Which tokens of a text with the same bytes mean something in their function alone: labels, local
-- variables and parameters (ISO C 2011, 6.2.1, found in tokens by this project's profile).
use Rattle.std.specs.Prelude.{ℕ, Bool, true, false, ◌&&◌, ◌||◌, List, length}
use Rattle.std.specs.List.{flat_map}
use Rattle.std.specs.Option.{option_map_or}
use Rattle.cb_scan.specs.Profiles.{ranges_in}
use Rattle.cb_scan.specs.declared.lex.piece.Span.{Span}
use Rattle.cb_scan.specs.declared.profile.Rules.TheVariants.{Wide}
use Rattle.cb_scan.specs.declared.rules.scope.Range.{Range}
use Rattle.cb_names.specs.Bindings.{binding, declares_name, is_named, scope_of}
use Rattle.cb_names.specs.Functions.{before, body_of, items, own_items}
use Rattle.cb_names.specs.Labels.{is_spelled, names_label, span}
use Rattle.cb_names.specs.Pairs.{at}
use Rattle.cb_names.specs.Tables.{those_where}
use Rattle.cb_names.specs.declared.scopes.Scope.{Scope}
use Rattle.cb_names.specs.declared.word.Item.{Item}

-- index k is bound to a declaration
abbrev pub is_bound : (ℕ → Bool) → (ℕ → Scope) → ℕ → Bool
is_bound declares scope k = option_map_or (λ d. true) (binding declares scope k) false

-- index k has these bytes, and names a label, a local variable or a parameter of a function, whose
-- name has index m, and whose body begins at index b
abbrev pub is_own : (text : List ℕ) → List Item → (m b : ℕ) → (name : List ℕ) → ℕ → Bool
is_own text xs m b name k =
    (names_label xs b k && is_spelled text xs k name)
    || (is_named text xs b name k
    && is_bound (declares_name text xs m b name) (scope_of xs m b) k)

abbrev pub own_in : (text : List ℕ) → List Item → (m b : ℕ) → (name : List ℕ) → List Span
own_in text xs m b name =
    those_where (λ k. span (at xs k)) (is_own text xs m b name) (length xs)

-- those of a function, by all tokens
abbrev pub own_of : (text : List ℕ) → List Item → (name : List ℕ) → Range → List Span
own_of text ys name r =
    let xs = own_items ys r in
    own_in text xs (before r.name.start xs) (body_of xs r) name

-- those of all functions
abbrev pub own_names : (text name : List ℕ) → List Span
own_names text name = flat_map (own_of text (items text) name) (ranges_in Wide text)
