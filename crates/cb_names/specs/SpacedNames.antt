-- In which name spaces the tokens with the same bytes are, in the code of a text and in the lines of
-- its macros (ISO C 2011, 6.2.3 and 6.10.3, found in tokens by this project's profile).
use Rattle.std.specs.Prelude.{ℕ, Bool, ◌&&◌, List, length, nat_lt, if◌then◌else◌, Option, None, Some}
use Rattle.std.specs.List.{list_any, range_with_len}
use Rattle.cb_names.specs.Braces.{is_name_at}
use Rattle.cb_names.specs.Directives.{space_of_text}
use Rattle.cb_names.specs.Functions.{items}
use Rattle.cb_names.specs.HardAttributes.{without_hard}
use Rattle.cb_names.specs.Labels.{is_spelled, span}
use Rattle.cb_names.specs.Pairs.{at}
use Rattle.cb_names.specs.Parameters.{line_items, list_end, takes_arguments}
use Rattle.cb_names.specs.SpaceAt.{space_of}
use Rattle.cb_names.specs.Spaces.{follows_accessor}
use Rattle.cb_names.specs.Tables.{those_where}
use Rattle.cb_names.specs.declared.space.Space.{Space}
use Rattle.cb_names.specs.declared.space.Space.TheVariants.{Member}
use Rattle.cb_names.specs.declared.spaced.SpacedName.{SpacedName}
use Rattle.cb_names.specs.declared.word.Item.{Item}

-- ---- in the code

-- index k is a name with these bytes
abbrev pub is_name_spelled : (text : List ℕ) → List Item → (name : List ℕ) → ℕ → Bool
is_name_spelled text xs name k = is_name_at xs k && is_spelled text xs k name

abbrev pub spaced_at : List Item → ℕ → SpacedName
spaced_at xs k = record { name = span (at xs k); space = Some (space_of xs k) }

abbrev pub spaced_in : (text : List ℕ) → List Item → (name : List ℕ) → List SpacedName
spaced_in text xs name = those_where (spaced_at xs) (is_name_spelled text xs name) (length xs)

-- those of the code of a text, without the attributes that are left out everywhere
abbrev pub spaced_names : (text name : List ℕ) → List SpacedName
spaced_names text name = spaced_in text (without_hard (items text)) name

-- ---- in the line of a macro, from its name on

-- index k is a name with these bytes behind that of the macro
abbrev pub is_behind_name : (text : List ℕ) → List Item → (name : List ℕ) → ℕ → Bool
is_behind_name text xs name k = nat_lt 0 k && is_name_spelled text xs name k

-- the macro has a parameter with these bytes
abbrev pub has_parameter : (text : List ℕ) → List Item → (name : List ℕ) → Bool
has_parameter text xs name =
    takes_arguments xs
    && list_any (λ j. is_behind_name text xs name j && nat_lt j (list_end xs))
    (range_with_len 0 (length xs))

-- the space of index k behind the name of the macro; none, if it is a parameter
abbrev pub space_behind : (text : List ℕ) → List Item → (parameter : Bool) → ℕ → Option Space
space_behind text xs parameter k =
    if parameter then None
    else (if follows_accessor xs k then Some Member else Some (space_of_text text xs k))

abbrev pub behind_at : (text : List ℕ) → List Item → (parameter : Bool) → ℕ → SpacedName
behind_at text xs parameter k = record {
  name = span (at xs k);
  space = space_behind text xs parameter k;
}

-- those of the line of a macro whose name begins at place n
abbrev pub macro_names : (text : List ℕ) → (n : ℕ) → (name : List ℕ) → List SpacedName
macro_names text n name =
    let xs = line_items text n in
    those_where (behind_at text xs (has_parameter text xs name)) (is_behind_name text xs name)
    (length xs)
