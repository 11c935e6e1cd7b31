-- The name of a part that declares a function (ISO C 2011, 6.7.6.3, found in tokens by this
-- project's profile).
use Rattle.std.specs.Prelude.{ℕ, zero, suc, Bool, false, ◌&&◌, ◌||◌, ◌==◌, not, List, [], ◌∷◌}
use Rattle.std.specs.Prelude.{drop, slice_get, Option, None, Some, if◌then◌else◌}
use Rattle.std.specs.List.{flat_map}
use Rattle.std.specs.Option.{option_map_or}
use Rattle.cb_scan.specs.declared.rules.wide.token.WideToken.{WideToken}
use Rattle.cb_scan.specs.rules.wide.Declarations.{Part, has_value}
use Rattle.cb_scan.specs.rules.wide.Levels.{Numbered, is_byte, is_outer}
use Rattle.cb_scan.specs.rules.wide.Levels.{numbered_at}
use Rattle.cb_scan.specs.rules.wide.Names.{after_pointer, begins_with, called_name, first_of}
use Rattle.cb_scan.specs.rules.wide.Names.{follows, from_free_name, is_trailing, is_typed, is_word}
use Rattle.cb_scan.specs.rules.wide.Names.{names, precedes, tail}
use Rattle.cb_scan.specs.rules.wide.Words.{is_specifier}
use Rattle.cb_scan.specs.Bytes.{close_paren, open_paren, star}

-- the pointer that begins with these tokens, if `(` directly follows its name
abbrev pub called_pointer : List Numbered → Option WideToken
called_pointer xs = if begins_with open_paren (drop 1 xs) then first_of xs else None

-- the list begins with `(`, a name, `)` and `(`
abbrev pub begins_in_parentheses : List Numbered → Bool
begins_in_parentheses (a ∷ b ∷ c ∷ d ∷ xs) =
    is_byte open_paren a && names b && is_byte close_paren c && is_byte open_paren d
begins_in_parentheses _ = false

-- the token at index k begins a name in parentheses that is called
abbrev pub is_enclosed : Bool → List Numbered → ℕ → Bool
is_enclosed first xs k =
    is_outer (numbered_at xs k) && is_typed first xs k && begins_in_parentheses (drop k xs)

-- a `*`, or a word that is no specifier: it may be the end of a type
abbrev pub ends_type : Numbered → Bool
ends_type x = is_byte star x || (is_word x && not (is_specifier x.item.role))

-- the token at index k is a typed name that is called, and begins its part or follows a type
abbrev pub is_called : Bool → List Numbered → ℕ → Bool
is_called first xs k =
    is_outer (numbered_at xs k) && names (numbered_at xs k) && is_typed first xs k
    && precedes open_paren xs k && not (is_trailing first xs k)
    && not (begins_in_parentheses (drop (suc k) xs))
    && (k == 0 || follows ends_type xs k)

-- the token at index k follows a name, and double parentheses follow it: it is a macro around the
-- parameters of that name
abbrev pub wraps_parameters : List Numbered → ℕ → Bool
wraps_parameters xs k =
    follows names xs k && (precedes open_paren xs k && precedes open_paren xs (suc k))

-- the name of a function that is declared by a name called at index k
abbrev pub called_at : List Numbered → ℕ → WideToken
called_at xs zero = (numbered_at xs zero).item
called_at xs (suc k) =
    if wraps_parameters xs (suc k) then (numbered_at xs k).item else (numbered_at xs (suc k)).item

-- the name of a function that is declared at index k
abbrev pub declared_at : Bool → List Numbered → ℕ → List WideToken
declared_at first xs k =
    if is_enclosed first xs k then (numbered_at xs (suc k)).item ∷ []
    else (if is_called first xs k then called_at xs k ∷ [] else [])

-- the first of them in the tail
abbrev pub tail_prototype : Bool → List Numbered → Option WideToken
tail_prototype first xs = slice_get (flat_map (declared_at first xs) (tail xs)) 0

-- the pointer's name of a part, and what follows it
abbrev pub pointer_from : List Numbered → List Numbered
pointer_from xs = option_map_or from_free_name (after_pointer xs) []

-- the name of a function where no name is called in parentheses
abbrev pub uncalled_prototype : Bool → List Numbered → Option WideToken
uncalled_prototype first xs =
    option_map_or (λ name. called_pointer (pointer_from xs)) (first_of (pointer_from xs))
    (tail_prototype first xs)

-- the name of a function in some tokens of a part, which have no value
abbrev pub prototype_in : Bool → List Numbered → Option WideToken
prototype_in first xs =
    option_map_or (λ called. if called.starred then None else Some called.name) (called_name xs)
    (uncalled_prototype first xs)

-- the name of the function that a part declares, if it declares one
abbrev pub prototype_name : Part → Option WideToken
prototype_name p = if has_value p.tokens then None else prototype_in p.first p.tokens
