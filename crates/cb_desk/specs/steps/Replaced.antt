-- The replacement of a text on marked lines, in the numbers of an archive.
use Rattle.std.specs.Prelude.{◌+◌, ℕ, Bool, true, List, [], ◌∷◌, filter, map}
use Rattle.std.specs.Prelude.{if◌then◌else◌}
use Rattle.cb_index.specs.Archived.{Archived}
use Rattle.cb_index.specs.Files.{file_of}
use Rattle.cb_index.specs.declared.entry.Shown.{Shown}
use Rattle.cb_desk.specs.declared.present.replace.Renewal.{Renewal}
use Rattle.cb_desk.specs.declared.places.FileLine.{FileLine}
use Rattle.cb_desk.specs.Desk.{is_marked}
use Rattle.cb_desk.specs.Marks.{replaced_file}
use Rattle.cb_desk.specs.Places.{is_place_of}
use Rattle.cb_desk.specs.World.{File, Place, has_file}
use Rattle.cb_desk.specs.steps.Records.{place_in}

-- the places of marks
abbrev pub places_in : Archived → List FileLine → List Place
places_in a marks = map (place_in a) marks

-- a file that is shown has a mark
abbrev pub has_mark : Archived → List FileLine → Shown → Bool
has_mark a marks s = is_marked (places_in a marks) (file_of a s)

-- a file that is shown, with the old text replaced on its marked lines
abbrev pub file_then : Archived → List FileLine → (old new : List ℕ) → Shown → File
file_then a marks old new s = replaced_file old new (places_in a marks) (file_of a s)

-- all files that are shown, those with a mark changed
abbrev pub files_then : Archived → List FileLine → (old new : List ℕ) → List Shown → List File
files_then a marks old new shown = map (file_then a marks old new) shown

-- those with a mark alone
abbrev pub files_changed : Archived → List FileLine → (old new : List ℕ)
    → List Shown → List File
files_changed a marks old new shown =
    map (file_then a marks old new) (filter (has_mark a marks) shown)

-- the texts of files
abbrev pub texts_of : List File → List (List ℕ)
texts_of files = map (λ (f : File). f.bytes) files

-- files get new versions, with numbers from one on
abbrev pub renewals : ℕ → List Shown → List Renewal
renewals first [] = []
renewals first (s ∷ shown) =
    record { name = s.name; old = s.version; new = first } ∷ renewals (first + 1) shown

-- what is shown of a renewal before it and after it
abbrev pub old_of : Renewal → Shown
old_of r = record { name = r.name; version = r.old }

abbrev pub new_of : Renewal → Shown
new_of r = record { name = r.name; version = r.new }

-- a place that is a line stays one where these files change
abbrev pub stays_in : List File → Place → Bool
stays_in changed p = if has_file changed p.file then is_place_of changed p else true

-- the places that do
abbrev pub staying : Archived → List File → List FileLine → List FileLine
staying a changed places = filter (λ p. stays_in changed (place_in a p)) places

-- the places of lines that are there
abbrev pub remaining : Archived → List File → List FileLine → List FileLine
remaining a files places = filter (λ p. is_place_of files (place_in a p)) places
