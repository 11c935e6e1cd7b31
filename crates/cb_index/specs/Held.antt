-- What an index holds.
use Rattle.std.specs.Prelude.{ℕ, ◌<◌, List, Option, map}
use Rattle.std.specs.List.{flat_map}
use Rattle.cb_scan.specs.Order.{AreOrdered}
use Rattle.cb_index.specs.Archived.{Archived, text_at}
use Rattle.cb_index.specs.Scanned.{Scanned}
use Rattle.cb_index.specs.declared.entry.Posting.{Posting}
use Rattle.cb_index.specs.declared.entry.Shown.{Shown}
use Rattle.cb_index.specs.declared.entry.IndexKind.{IndexKind}

-- the entries in order, and for how many there is room
pub record Held : Type 0 where
  pub entries : List Posting
  pub room : ℕ

-- an index of a kind: the entries that it holds in order, the versions whose entries are pending,
-- and for how many entries and versions there is room
pub record Indexed : Type 0 where
  pub kind : IndexKind
  pub held : List Posting
  pub pending : List Shown
  pub room : ℕ
  pub version_room : ℕ

-- an item of a text that has an entry: its number, the prefix of its key, and how many rows the
-- entry stands for
pub record Listed : Type 0 where
  pub number : ℕ
  pub prefix : ℕ
  pub rows : ℕ

-- these items ascend by number
abbrev pub AreRising : List Listed → Type 0
AreRising items = AreOrdered (λ (i j : Listed). i.number < j.number) items

-- the items of a text that have entries, if it is there
abbrev pub Lister : Type 0
Lister = Option Scanned → List Listed

-- those of a version
abbrev pub listed_of : Lister → Archived → ℕ → List Listed
listed_of lister a version = lister (text_at a version)

-- the entry of an item of a version under a name
abbrev pub entry_of : Shown → Listed → Posting
entry_of s item = record {
  prefix = item.prefix;
  name = s.name;
  version = s.version;
  number = item.number;
  rows = item.rows;
}

-- the entries of a version under a name
abbrev pub entries_of : Lister → Archived → Shown → List Posting
entries_of lister a s = map (entry_of s) (listed_of lister a s.version)

-- the entries of all versions that are shown
abbrev pub all_entries : Lister → Archived → List Shown → List Posting
all_entries lister a shown = flat_map (entries_of lister a) shown
