-- The names that a function declares and that are visible at a place of it (ISO C 2011, 6.2.1, found
-- in tokens by this project's profile).
use Rattle.std.specs.Prelude.{ℕ, Bool, true, false, ◌&&◌, List, []}
use Rattle.std.specs.List.{list_any}
use Rattle.std.specs.Option.{option_map_or}
use Rattle.std.specs.Str.{bytes_eq}
use Rattle.cb_scan.specs.declared.lex.piece.Span.{Span}
use Rattle.cb_scan.specs.declared.rules.scope.Range.{Range}
use Rattle.cb_scan.specs.lex.Tokens.{bytes_of}
use Rattle.cb_names.specs.Bindings.{declares_name, scope_of, seen_before, sees}
use Rattle.cb_names.specs.Functions.{before, body_of, function_at, items, own_items}
use Rattle.cb_names.specs.Labels.{span}
use Rattle.cb_names.specs.Pairs.{at}
use Rattle.cb_names.specs.Scoped.{declares}
use Rattle.cb_names.specs.Spaces.{is_ordinary}
use Rattle.cb_names.specs.Tables.{those_where}
use Rattle.cb_names.specs.declared.word.Item.{Item}

-- in a function whose name has index m, and whose body begins at index b, index d declares an
-- ordinary name, and a later index k sees the declaration
abbrev pub is_visible : List Item → (m b : ℕ) → (k d : ℕ) → Bool
is_visible xs m b k d = is_ordinary xs b d && sees (declares xs m b) (scope_of xs m b) k d

-- the declarations before index k that are visible there
abbrev pub visible_in : List Item → (m b : ℕ) → (k : ℕ) → List Span
visible_in xs m b k = those_where (λ d. span (at xs d)) (is_visible xs m b k) k

-- the declarations that begin before a place of a text and are visible there, in the function around
-- the place; outside of functions there are none
abbrev pub visible_names : (text : List ℕ) → (place : ℕ) → List Span
visible_names text place =
    option_map_or (λ (r : Range). let xs = own_items (items text) r in
    visible_in xs (before r.name.start xs) (body_of xs r) (before place xs))
    (function_at text place) []

-- at index k a declaration of a name before it is seen: a token with the name that is put there is
-- bound to one
abbrev pub is_seen : (text : List ℕ) → List Item → (m b : ℕ) → (name : List ℕ) → ℕ → Bool
is_seen text xs m b name k =
    option_map_or (λ _. true)
    (seen_before (declares_name text xs m b name) (scope_of xs m b) k k) false

-- one of some tokens has a name
abbrev pub has_spelled : (text : List ℕ) → List Span → (name : List ℕ) → Bool
has_spelled text spans name = list_any (λ s. bytes_eq (bytes_of text s) name) spans
