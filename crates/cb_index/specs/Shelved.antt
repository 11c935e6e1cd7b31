-- What a shelf keeps and shows.
use Rattle.std.specs.Prelude.{ℕ, ◌≡◌, ◌≤◌, ◌+◌, ◌^◌, ◌⊎◌, ◌++◌, Bool, false, true, List, length, map}
use Rattle.std.specs.Prelude.{max}
use Rattle.std.specs.List.{AllByRecursion, list_any}
use Rattle.cb_scan.specs.declared.profile.Profile.{Profile}
use Rattle.cb_scan.specs.Profiles.{facts_in}
use Rattle.cb_scan.specs.Order.{in_order}
use Rattle.cb_scan.specs.TextFacts.{TextFacts}
use Rattle.cb_index.specs.Archived.{Archived}
use Rattle.cb_index.specs.Entries.{Keyer, sort_key}
use Rattle.cb_index.specs.Files.{AreApart, AreAscending, File, IsThere, call_count, def_count}
use Rattle.cb_index.specs.Files.{files_of, is_shown, shown_name, total, use_count}
use Rattle.cb_index.specs.Held.{Indexed, Lister, all_entries}
use Rattle.cb_index.specs.Kinds.{all_kinds, keyer_of, lister_of}
use Rattle.cb_index.specs.declared.entry.Posting.{Posting}
use Rattle.cb_index.specs.declared.entry.Shown.{Shown}
use Rattle.cb_index.specs.declared.entry.FactKind.TheVariants.{Uses, Callees, Callers}
use Rattle.cb_index.specs.declared.entry.IndexKind.{IndexKind}
use Rattle.cb_index.specs.declared.entry.IndexKind.TheVariants.{DefsByName, DefsByTagName, Facts}
use Rattle.cb_index.specs.declared.shelf.Room.{Room}
use Rattle.cb_index.specs.declared.totals.Totals.{Totals}

-- the archive, what is shown of it, by file name, how often it changed, and for how many entries,
-- definitions, uses and calls there is room
pub record Shelved : Type 0 where
  pub archive : Archived
  pub shown : List Shown
  pub turns : ℕ
  pub entry_room : ℕ
  pub def_room : ℕ
  pub use_room : ℕ
  pub call_room : ℕ

-- the files that are shown, by name
abbrev pub files : Shelved → List File
files s = files_of s.archive s.shown

-- a file that is shown, and what a profile finds in it
pub record ShownFile : Type 0 where
  pub name : List ℕ
  pub bytes : List ℕ
  pub facts : TextFacts

abbrev pub with_facts : Profile → File → ShownFile
with_facts p f = record { name = f.name; bytes = f.bytes; facts = facts_in p f.bytes }

-- versions can be shown together: their numbers are there, no two of them have one file name, no
-- file of such a name is shown, and there is room for all
pub record CanShow (s : Shelved) (news : List Shown) : Type 0 where
  pub there : AllByRecursion (IsThere s.archive) news
  pub apart : AreApart s.archive news
  pub other : list_any (is_shown s.archive s.shown) news ≡ false
  pub entries : length s.shown + length news ≤ s.entry_room
  pub defs : total def_count s.archive s.shown + total def_count s.archive news ≤ s.def_room
  pub uses : total use_count s.archive s.shown + total use_count s.archive news ≤ s.use_room
  pub calls : total call_count s.archive s.shown + total call_count s.archive news ≤ s.call_room

-- the room is as large as before
pub record KeepsRoom (old new : Shelved) : Type 0 where
  pub names : old.archive.name_room ≤ new.archive.name_room
  pub versions : old.archive.version_room ≤ new.archive.version_room
  pub entries : old.entry_room ≤ new.entry_room
  pub defs : old.def_room ≤ new.def_room
  pub uses : old.use_room ≤ new.use_room
  pub calls : old.call_room ≤ new.call_room

-- an index holds the entries of all that is shown, in order
abbrev pub IsIndexOf : Keyer → Lister → Archived → List Shown → List Posting → Type 0
IsIndexOf keyer lister a shown es =
    es ≡ in_order (sort_key keyer a) (all_entries lister a shown)

-- an index is one of what is shown: it holds the entries of some versions in order, the others are
-- pending, and no two of all these have one file name
pub record Covers (keyer : Keyer) (lister : Lister) (a : Archived) (shown : List Shown)
    (x : Indexed) : Type 0 where
  pub sorted : List Shown
  pub held : IsIndexOf keyer lister a sorted x.held
  pub all : shown ≡ in_order (shown_name a) (sorted ++ x.pending)
  pub apart : AreApart a (sorted ++ x.pending)

-- an index of its kind of what is shown
abbrev pub IsIndex : Archived → List Shown → Indexed → Type 0
IsIndex a shown x = Covers (keyer_of x.kind) (lister_of x.kind) a shown x

-- the two indexes are those of what is shown, whose numbers are there, by file name
pub record AreKept (a : Archived) (shown : List Shown) (xs : List Indexed) : Type 0 where
  pub there : AllByRecursion (IsThere a) shown
  pub ascending : AreAscending a shown
  pub kinds : map (λ (x : Indexed). x.kind) xs ≡ all_kinds
  pub each : AllByRecursion (IsIndex a shown) xs

-- how many entries of a kind there is room for
abbrev pub room_for : IndexKind → Room → ℕ
room_for DefsByName room = room.defs
room_for DefsByTagName room = room.defs
room_for (Facts Uses) room = room.uses
room_for (Facts Callees) room = room.calls
room_for (Facts Callers) room = room.calls

-- the place of an index of definitions: by tag name, or by name
abbrev pub def_place : Bool → ℕ
def_place false = 0
def_place true = 1

-- the greater room of each
abbrev pub larger_room : Room → Room → Room
larger_room r s = record {
  versions = max r.versions s.versions;
  names = max r.names s.names;
  entries = max r.entries s.entries;
  defs = max r.defs s.defs;
  uses = max r.uses s.uses;
  calls = max r.calls s.calls;
}

-- how many facts of a kind there are
abbrev pub total_for : IndexKind → Totals → ℕ
total_for DefsByName n = n.defs
total_for DefsByTagName n = n.defs
total_for (Facts Uses) n = n.uses
total_for (Facts Callees) n = n.calls
total_for (Facts Callers) n = n.calls

-- an index has the room that is promised
abbrev pub HasRoom : Room → Indexed → Type 0
HasRoom room x = (room_for x.kind room ≤ x.room) × (room.entries ≤ x.version_room)

-- what is shown is within the room, and the list of it and each index have that room
pub record AreWithin (shown : List Shown) (capacity : ℕ) (n : Totals) (room : Room)
    (xs : List Indexed) : Type 0 where
  pub entries : length shown ≤ room.entries
  pub defs : n.defs ≤ room.defs
  pub uses : n.uses ≤ room.uses
  pub calls : n.calls ≤ room.calls
  pub listed : room.entries ≤ capacity
  pub each : AllByRecursion (HasRoom room) xs

-- all that is shown has so many facts of each kind
pub record AreTotals (a : Archived) (shown : List Shown) (n : Totals) : Type 0 where
  pub defs : n.defs ≡ total def_count a shown
  pub uses : n.uses ≡ total use_count a shown
  pub calls : n.calls ≡ total call_count a shown

-- facts of one kind are too many to be counted
abbrev pub AreTooMany : Archived → List Shown → Type 0
AreTooMany a shown =
    (2 ^ 64 ≤ total def_count a shown)
    ⊎ ((2 ^ 64 ≤ total use_count a shown) ⊎ (2 ^ 64 ≤ total call_count a shown))
