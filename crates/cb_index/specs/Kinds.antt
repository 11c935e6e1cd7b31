-- What each of the five indexes is ordered by, and what its entries are.
use Rattle.std.specs.Prelude.{ℕ, Bool, true, false, List, [], ◌∷◌, Option, Some, None}
use Rattle.cb_scan.specs.Keys.{key_prefix}
use Rattle.cb_index.specs.Entries.{Keyer}
use Rattle.cb_index.specs.Held.{Lister}
use Rattle.cb_index.specs.Orders.{def_key, defs_listed, firsts_in, item_keyer, tag_key}
use Rattle.cb_index.specs.Orders.{tag_key_prefix, tags_listed}
use Rattle.cb_index.specs.declared.entry.FactKind.{FactKind}
use Rattle.cb_index.specs.declared.entry.IndexKind.{IndexKind}
use Rattle.cb_index.specs.declared.entry.IndexKind.TheVariants.{DefsByName, DefsByTagName, Facts}

-- the kinds of the indexes of a shelf, in their order
abbrev pub all_kinds : List IndexKind
all_kinds = DefsByName ∷ DefsByTagName ∷ []

-- the key of an entry
abbrev pub keyer_of : IndexKind → Keyer
keyer_of DefsByName = def_key
keyer_of DefsByTagName = tag_key
keyer_of (Facts kind) = item_keyer kind

-- the items of a text that have entries
abbrev pub lister_of : IndexKind → Lister
lister_of DefsByName = defs_listed
lister_of DefsByTagName = tags_listed
lister_of (Facts kind) = firsts_in kind

-- the prefix of the entries that have a key
abbrev pub prefix_of : IndexKind → List ℕ → ℕ
prefix_of DefsByName = key_prefix
prefix_of DefsByTagName = tag_key_prefix
prefix_of (Facts kind) = key_prefix

-- the facts of which the first of each key is an entry; none where each definition is one
abbrev pub fact_kind : IndexKind → Option FactKind
fact_kind DefsByName = None
fact_kind DefsByTagName = None
fact_kind (Facts kind) = Some kind

-- definitions by tag name, or by name
abbrev pub def_kind : Bool → IndexKind
def_kind false = DefsByName
def_kind true = DefsByTagName
