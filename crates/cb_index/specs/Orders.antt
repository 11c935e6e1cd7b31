-- The five orders.
use Rattle.std.specs.Prelude.{ℕ, suc, Bool, true, false, List, [], ◌∷◌, map, codes, nat_eq, Option}
use Rattle.std.specs.Prelude.{Some, None}
use Rattle.std.specs.Prelude.{slice_get, if◌then◌else◌}
use Rattle.std.specs.Option.{option_map}
use Rattle.cb_scan.specs.declared.facts.Def.{Def}
use Rattle.cb_scan.specs.declared.lex.piece.Span.{Span}
use Rattle.cb_scan.specs.Keys.{key_prefix}
use Rattle.cb_scan.specs.TextFacts.{TextFacts}
use Rattle.cb_tags.specs.TagNames.{tag_name}
use Rattle.cb_index.specs.Bytes.{bytes_at, cut}
use Rattle.cb_index.specs.Entries.{Keyer}
use Rattle.cb_index.specs.Firsts.{firsts}
use Rattle.cb_index.specs.Held.{Listed, Lister, entry_of}
use Rattle.cb_index.specs.Items.{item_key}
use Rattle.cb_index.specs.Scanned.{Scanned, facts_of}
use Rattle.cb_index.specs.declared.entry.Posting.{Posting}
use Rattle.cb_index.specs.declared.entry.Shown.{Shown}
use Rattle.cb_index.specs.declared.entry.FactKind.{FactKind}

-- the name of a definition, if it is there
abbrev pub def_span : TextFacts → ℕ → Option Span
def_span f item = option_map (λ (d : Def). d.name) (slice_get f.defs item)

-- ---- uses and calls: an entry is the first item of a key

-- the key of an item of a text, if that is there
abbrev pub key_in : FactKind → Option Scanned → ℕ → List ℕ
key_in sort None item = []
key_in sort (Some text) item = item_key sort text item

abbrev pub item_keyer : FactKind → Keyer
item_keyer sort text file item = key_in sort text item

abbrev pub firsts_in : FactKind → Lister
firsts_in sort None = []
firsts_in sort (Some text) = firsts sort text

-- ---- definitions by name: an entry is a definition
abbrev pub name_in : Option Scanned → ℕ → List ℕ
name_in None number = []
name_in (Some text) number = bytes_at text.bytes (def_span (facts_of text) number)

abbrev pub def_key : Keyer
def_key text file number = name_in text number

unfoldable pub def_prefix : List ℕ → Def → ℕ
def_prefix text d = key_prefix (cut text d.name)

-- items with these prefixes, numbered from a number on; each has one row
abbrev pub numbered : ℕ → List ℕ → List Listed
numbered number [] = []
numbered number (p ∷ ps) =
    record { number = number; prefix = p; rows = 1 } ∷ numbered (suc number) ps

abbrev pub defs_listed : Lister
defs_listed None = []
defs_listed (Some text) = numbered 0 (map (def_prefix text.bytes) (facts_of text).defs)

-- ---- definitions by tag name: an entry is a definition
abbrev pub tag_key : Keyer
tag_key text file number = tag_name (def_key text file number) file

-- what the prefix of a tag name is made of: the tag name, but only the `M` of one that begins with
-- it. So a `main`, which has another tag name in each file, has one prefix in all of them
unfoldable pub tag_front : List ℕ → List ℕ
tag_front [] = []
tag_front (b ∷ bs) = if nat_eq b 77 then codes "M" else b ∷ bs

abbrev pub tag_key_prefix : List ℕ → ℕ
tag_key_prefix key = key_prefix (tag_front key)

unfoldable pub tag_prefix : List ℕ → Def → ℕ
tag_prefix text d = tag_key_prefix (tag_name (cut text d.name) [])

-- the prefixes of names, or of tag names
abbrev pub prefixed : Bool → List ℕ → Def → ℕ
prefixed false = def_prefix
prefixed true = tag_prefix

-- the entry of a definition of a version under a name
abbrev pub def_entry : Bool → List ℕ → Shown → ℕ → Def → Posting
def_entry by_tag_name text s number d =
    entry_of s (record { number = number; prefix = prefixed by_tag_name text d; rows = 1 })

abbrev pub tags_listed : Lister
tags_listed None = []
tags_listed (Some text) = numbered 0 (map (tag_prefix text.bytes) (facts_of text).defs)
