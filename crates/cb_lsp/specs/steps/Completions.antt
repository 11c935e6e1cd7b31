-- How the names that complete a word are read from the definitions, one after another.
use Rattle.std.specs.Prelude.{ℕ, Bool, false, nat_eq, not, List, [], ◌∷◌, ◌++◌, filter, map, Option}
use Rattle.std.specs.Prelude.{None, Some, if◌then◌else◌}
use Rattle.std.specs.BTreeSet.{BTreeSet}
use Rattle.std.specs.Borrow.{Bor}
use Rattle.std.specs.List.{starts_with}
use Rattle.std.specs.Option.{option_copied}
use Rattle.std.specs.Str.{bytes_eq}
use Rattle.cb_tags.specs.TagLines.{Tag}
use Rattle.json.specs.Json.{Json}
use Rattle.cb_wire.specs.Values.{value_text}
use Rattle.cb_lsp.specs.Completions.{local_item, session_item}
use Rattle.cb_lsp.specs.declared.completion.Completions.{Completions}
use Rattle.cb_lsp.specs.declared.completion.Names.{Names}
use Rattle.cb_lsp.specs.steps.Closures.{has_name}

-- a name is the last one
abbrev pub is_last : (last : Option (List ℕ)) → (name : List ℕ) → Bool
is_last None name = false
is_last (Some last) name = bytes_eq name last

-- the first definitions of their names behind the last name, up to a name that does not begin with
-- the word
unfoldable pub names_behind : (word : List ℕ) → (last : Option (List ℕ)) → List Tag → List Tag
names_behind word last [] = []
names_behind word last (t ∷ ts) =
    if is_last last t.name then names_behind word last ts
    else (if starts_with nat_eq t.name word then t ∷ names_behind word (Some t.name) ts else [])

-- those that are left
abbrev pub names_left : Names → List Tag
names_left c = names_behind c.word.now (option_copied c.last) c.rest

-- the names of a set
abbrev pub names_in : BTreeSet (Bor (List ℕ)) → List (List ℕ)
names_in names = map (λ (name : Bor (List ℕ)). name.now) names.keys

-- the definitions that are left whose names are none of the function
abbrev pub others_left : Completions → List Tag
others_left c = filter (λ (t : Tag). not (has_name c.all.now t.name)) (names_left c.names)

-- all names that are left
abbrev pub completions_left : Completions → List Json
completions_left c =
    map (λ (name : Bor (List ℕ)). local_item name.now) c.own ++ map session_item (others_left c)

abbrev pub texts_left : Completions → List (List ℕ)
texts_left c = map value_text (completions_left c)
