-- Entries that are sorted by their prefixes, and by the words of their keys.
use Rattle.std.specs.Prelude.{ℕ, ◌≡◌, ◌≤◌, ◌<◌, ◌++◌, List, length, take, drop}
use Rattle.std.specs.List.{AllByRecursion}
use Rattle.cb_scan.specs.Keys.{key_prefix}
use Rattle.cb_index.specs.Archived.{Archived}
use Rattle.cb_index.specs.Entries.{Keyer, key_of}
use Rattle.cb_index.specs.declared.entry.Posting.{Posting}

abbrev pub prefix_of : Posting → ℕ
prefix_of e = e.prefix

-- an entry with another prefix
abbrev pub with_prefix : ℕ → Posting → Posting
with_prefix prefix e = record {
  prefix = prefix;
  name = e.name;
  version = e.version;
  number = e.number;
  rows = e.rows;
}

-- the key of an entry begins with these bytes, and its prefix is made of those that follow
abbrev pub IsDeep : Keyer → Archived → List ℕ → Posting → Type 0
IsDeep keyer a front e =
    (rest : List ℕ) × (key_of keyer a e ≡ front ++ rest) × AllByRecursion (λ b. b < 256) rest
    × (e.prefix ≡ key_prefix rest)

-- the prefixes ahead of a place are below all those behind it
abbrev pub IsBoundary : List Posting → ℕ → Type 0
IsBoundary es n =
    (n ≤ length es) × ((p : ℕ) × AllByRecursion (λ (e : Posting). e.prefix < p) (take n es)
    × AllByRecursion (λ (e : Posting). p ≤ e.prefix) (drop n es))
