-- The names that complete a word.
use Rattle.std.specs.Prelude.{ℕ, ◌-◌, true, not, nat_eq, nat_lt, List, [], ◌∷◌, ◌++◌, filter, fold}
use Rattle.std.specs.Prelude.{length, map, take, drop}
use Rattle.std.specs.BTreeSet.{insert_key}
use Rattle.std.specs.Cmp.Lexicographic.{slice_cmp}
use Rattle.std.specs.List.{list_any, starts_with, suffix_len}
use Rattle.std.specs.Ordering.{nat_cmp}
use Rattle.std.specs.Str.{bytes_eq}
use Rattle.json.specs.Json.{Json}
use Rattle.cb_desk.specs.World.{World}
use Rattle.cb_index.specs.Rows.{tags_by_name}
use Rattle.cb_names.specs.Visible.{visible_names}
use Rattle.cb_scan.specs.declared.facts.Kind.{Kind}
use Rattle.cb_scan.specs.declared.facts.Kind.TheVariants as kind
use Rattle.cb_scan.specs.lex.Lexeme.{is_word}
use Rattle.cb_scan.specs.lex.Tokens.{bytes_of}
use Rattle.cb_tags.specs.TagLines.{Tag}
use Rattle.cb_wire.specs.Completions.{completion_item, completion_list}
use Rattle.cb_wire.specs.declared.completion.Rank.TheVariants.{Local, Session}
use Rattle.cb_lsp.specs.declared.completion.TheConstants.{MOST_COMPLETIONS}

-- where the word before a place begins: the longest run of letters, digits and `_` that ends there
abbrev pub word_start : (text : List ℕ) → ℕ → ℕ
word_start text place = place - suffix_len is_word (take place text)

-- the word before a place
abbrev pub word_before : (text : List ℕ) → ℕ → List ℕ
word_before text place = drop (word_start text place) (take place text)

-- ---- the names of a function

-- some names in the order of their bytes, each once: one after another comes to its place in the
-- order, unless it is there
abbrev pub in_name_order : List (List ℕ) → List (List ℕ)
in_name_order names = fold (insert_key (slice_cmp nat_cmp)) [] names

-- the names that a function declares, that are visible where a word begins, and that begin with it
abbrev pub own_names : (text : List ℕ) → (start : ℕ) → (word : List ℕ) → List (List ℕ)
own_names text start word =
    in_name_order (filter (λ name. starts_with nat_eq name word)
    (map (bytes_of text) (visible_names text start)))

-- ---- the names of definitions

-- of some definitions those whose names begin with a word
abbrev pub begin_with : (word : List ℕ) → List Tag → List Tag
begin_with word ts = filter (λ (t : Tag). starts_with nat_eq t.name word) ts

-- of the definitions of one name only the first one
abbrev pub first_of_each : List Tag → List Tag
first_of_each [] = []
first_of_each (t ∷ ts) = t ∷ filter (λ (u : Tag). not (bytes_eq u.name t.name)) (first_of_each ts)

-- the names of definitions that begin with a word, each with its first definition, in the order of
-- their bytes
abbrev pub defined_names : World → (word : List ℕ) → List Tag
defined_names w word = first_of_each (begin_with word (tags_by_name w.profile w.files))

-- of some definitions those whose names are none of these
abbrev pub with_other_names : List (List ℕ) → List Tag → List Tag
with_other_names own ts = filter (λ (t : Tag). not (list_any (bytes_eq t.name) own)) ts

-- ---- what completes a word

-- the number of a kind (`CompletionItemKind`): Function, Constant, Class, Struct, Enum, EnumMember,
-- Field, Variable
abbrev pub completion_kind : Kind → ℕ
completion_kind kind.Function = 3
completion_kind kind.Macro = 21
completion_kind kind.Typedef = 7
completion_kind kind.Struct = 22
completion_kind kind.Union = 22
completion_kind kind.Enum = 13
completion_kind kind.Enumerator = 20
completion_kind kind.Member = 5
completion_kind kind.Variable = 6
completion_kind kind.External = 6
completion_kind kind.Prototype = 3

-- a name of a function; a name of definitions, by the first one
abbrev pub local_item : List ℕ → Json
local_item name = completion_item name (completion_kind kind.Variable) Local

abbrev pub session_item : Tag → Json
session_item t = completion_item t.name (completion_kind t.kind) Session

-- the names that complete a word: those of the function, and behind these all others
abbrev pub completing : World → (own : List (List ℕ)) → (word : List ℕ) → List Json
completing w own word =
    map local_item own ++ map session_item (with_other_names own (defined_names w word))

-- the first of some names, and whether there are more
abbrev pub completions_of : List Json → Json
completions_of js =
    completion_list (nat_lt MOST_COMPLETIONS (length js)) (take MOST_COMPLETIONS js)

-- what completes a word, where these names of the function do. The empty word is completed by no
-- name yet, and more of it may be typed
abbrev pub completions_before : World → (own : List (List ℕ)) → (word : List ℕ) → Json
completions_before w own [] = completion_list true []
completions_before w own (b ∷ bs) = completions_of (completing w own (b ∷ bs))

-- what completes the word before a place of a text
abbrev pub completions_at : World → (text : List ℕ) → ℕ → Json
completions_at w text place =
    let word = word_before text place in
    completions_before w (own_names text (word_start text place) word) word
