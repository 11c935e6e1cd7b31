-- Entries and their order.
use Rattle.std.specs.Prelude.{ℕ, suc, Bool, ◌&&◌, not, nat_eq, List, [], ◌∷◌, ◌++◌, map, Option}
use Rattle.std.specs.Cmp.Lexicographic.{slice_cmp}
use Rattle.std.specs.Ordering.{is_gt, nat_cmp, ordering_then}
use Rattle.std.specs.Str.{bytes_eq}
use Rattle.std.specs.declared.cmp.Ordering.{Ordering}
use Rattle.cb_index.specs.Archived.{Archived, name_of, text_at}
use Rattle.cb_index.specs.Scanned.{Scanned}
use Rattle.cb_index.specs.declared.entry.Posting.{Posting}

-- what an order reads of an entry: from the text of its version (if it is there), the name of its
-- file and its number, its key
abbrev pub Keyer : Type 0
Keyer = Option Scanned → List ℕ → ℕ → List ℕ

-- the key of an entry
abbrev pub key_of : Keyer → Archived → Posting → List ℕ
key_of keyer a e = keyer (text_at a e.version) (name_of a e.name) e.number

-- the numbers of an entry; of one version its own numbers go by place
abbrev pub numbers : Posting → List ℕ
numbers e = e.name ∷ e.version ∷ e.number ∷ e.rows ∷ []

-- what orders entries of one key: the file name, then the numbers of the entry. A 0 ends the name,
-- and no byte is 0 in it
abbrev pub file_key : Archived → Posting → List ℕ
file_key a e = map suc (name_of a e.name) ++ 0 ∷ numbers e

-- those of one prefix: the key goes before
abbrev pub bytes_key : Keyer → Archived → Posting → List ℕ
bytes_key keyer a e = map suc (key_of keyer a e) ++ 0 ∷ file_key a e

-- what entries are compared by, number by number
unfoldable pub sort_key : Keyer → Archived → Posting → List ℕ
sort_key keyer a e = e.prefix ∷ bytes_key keyer a e

-- a key with its prefix against an entry
abbrev pub key_cmp : Keyer → Archived → ℕ → List ℕ → Posting → Ordering
key_cmp keyer a prefix key e =
    ordering_then (nat_cmp prefix e.prefix) (slice_cmp nat_cmp key (key_of keyer a e))

-- whether an entry has the key
abbrev pub has_key : Keyer → Archived → ℕ → List ℕ → Posting → Bool
has_key keyer a prefix key e = nat_eq prefix e.prefix && bytes_eq key (key_of keyer a e)

-- whether the key of an entry is not less than a key with its prefix
abbrev pub has_key_from : Keyer → Archived → ℕ → List ℕ → Posting → Bool
has_key_from keyer a prefix key e = not (is_gt (key_cmp keyer a prefix key e))

-- whether an entry is one of the version under the name
abbrev pub is_of : ℕ → ℕ → Posting → Bool
is_of name version e = nat_eq e.name name && nat_eq e.version version
