-- What the name at a place means in its function alone: a label, a local variable or a parameter
-- (ISO C 2011, 6.2.1, found in tokens by this project's profile).
use Rattle.std.specs.Prelude.{ℕ, List, nat_lt, if◌then◌else◌, length, Option, None}
use Rattle.std.specs.Option.{option_map_or, option_or}
use Rattle.cb_scan.specs.declared.rules.scope.Range.{Range}
use Rattle.cb_names.specs.Bindings.{variable_at}
use Rattle.cb_names.specs.Functions.{before, body_of, function_at, items, own_items}
use Rattle.cb_names.specs.Labels.{index_at, label_named}
use Rattle.cb_names.specs.Locals.{LocalName}
use Rattle.cb_names.specs.declared.word.Item.{Item}

-- what index k of a function names, whose name has index m, and whose body begins at index b
abbrev pub local_named : List ℕ → List Item → (m b : ℕ) → ℕ → Option LocalName
local_named text xs m b k =
    if nat_lt k (length xs) then option_or (label_named text xs b k) (variable_at text xs m b k)
    else None

-- what is named at a place of the function
abbrev pub local_in : List ℕ → List Item → (m b : ℕ) → (place : ℕ) → Option LocalName
local_in text xs m b place = local_named text xs m b (index_at place xs)

-- what the name at a place of a text means in its function alone
abbrev pub local_at : List ℕ → ℕ → Option LocalName
local_at text place =
    option_map_or (λ (r : Range). let xs = own_items (items text) r in
    local_in text xs (before r.name.start xs) (body_of xs r) place) (function_at text place) None
