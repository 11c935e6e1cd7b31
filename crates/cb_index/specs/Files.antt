-- The files that are shown.
use Rattle.std.specs.Prelude.{ℕ, suc, Bool, false, ◌≡◌, ◌<◌, ◌+◌, List, [], ◌∷◌, ◌++◌, Option, Some}
use Rattle.std.specs.Prelude.{None, length, map, nat_eq, if◌then◌else◌}
use Rattle.std.specs.Cmp.Lexicographic.{slice_cmp}
use Rattle.std.specs.List.{list_any}
use Rattle.std.specs.Ordering.{nat_cmp}
use Rattle.std.specs.Str.{bytes_eq}
use Rattle.std.specs.declared.cmp.Ordering.TheVariants.{Less}
use Rattle.cb_scan.specs.Order.{AreOrdered}
use Rattle.cb_index.specs.Archived.{Archived, name_of, text_at, text_of}
use Rattle.cb_index.specs.Scanned.{Scanned, facts_of}
use Rattle.cb_index.specs.declared.entry.Shown.{Shown}
use Rattle.cb_index.specs.declared.entry.FactKind.TheVariants.{Uses, Callees, Callers}
use Rattle.cb_index.specs.declared.entry.IndexKind.{IndexKind}
use Rattle.cb_index.specs.declared.entry.IndexKind.TheVariants.{DefsByName, DefsByTagName, Facts}

-- a file: its name and its bytes
pub record File : Type 0 where
  pub name : List ℕ
  pub bytes : List ℕ

-- the file that a version under a name is
abbrev pub file_of : Archived → Shown → File
file_of a s = record { name = name_of a s.name; bytes = (text_of a s.version).bytes }

-- the files of these versions under these names
abbrev pub files_of : Archived → List Shown → List File
files_of a shown = map (file_of a) shown

-- the name and the version are there
abbrev pub IsThere : Archived → Shown → Type 0
IsThere a s = (s.name < length a.names) × (s.version < length a.texts)

-- the file names ascend strictly in the order of their bytes
abbrev pub AreAscending : Archived → List Shown → Type 0
AreAscending a shown =
    AreOrdered
    (λ (s t : Shown). slice_cmp nat_cmp (name_of a s.name) (name_of a t.name) ≡ Less) shown

-- no two of these have one file name
abbrev pub AreApart : Archived → List Shown → Type 0
AreApart a shown =
    AreOrdered (λ (s t : Shown). bytes_eq (name_of a s.name) (name_of a t.name) ≡ false) shown

-- whether a file of the name of this version is among those that are shown
abbrev pub is_shown : Archived → List Shown → Shown → Bool
is_shown a shown s = list_any (λ (t : Shown). bytes_eq (name_of a s.name) (name_of a t.name)) shown

-- what is shown under the number of a name
abbrev pub shown_under : ℕ → List Shown → Option Shown
shown_under name [] = None
shown_under name (s ∷ shown) = if nat_eq s.name name then Some s else shown_under name shown

-- the name by which a version is shown
abbrev pub shown_name : Archived → Shown → List ℕ
shown_name a s = name_of a s.name

-- the same with the numbers of the version behind. A 0 ends the name, and no byte is 0 in it
abbrev pub shown_key : Archived → Shown → List ℕ
shown_key a s = map suc (name_of a s.name) ++ 0 ∷ s.name ∷ s.version ∷ []

-- ---- how many facts there are

-- the definitions, uses and calls of a text, if it is there
abbrev pub def_count : Option Scanned → ℕ
def_count None = 0
def_count (Some text) = length (facts_of text).defs

abbrev pub use_count : Option Scanned → ℕ
use_count None = 0
use_count (Some text) = length (facts_of text).uses

abbrev pub call_count : Option Scanned → ℕ
call_count None = 0
call_count (Some text) = length (facts_of text).calls

-- the facts of a text to which an index leads
abbrev pub count_for : IndexKind → Option Scanned → ℕ
count_for DefsByName = def_count
count_for DefsByTagName = def_count
count_for (Facts Uses) = use_count
count_for (Facts Callees) = call_count
count_for (Facts Callers) = call_count

-- the number of facts that are shown
abbrev pub total : (Option Scanned → ℕ) → Archived → List Shown → ℕ
total count a [] = 0
total count a (s ∷ shown) = count (text_at a s.version) + total count a shown
