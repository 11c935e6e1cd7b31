-- Changes of the files: load, reload, unload and rename.
use Rattle.std.specs.Prelude.{ℕ, Bool, nat_le, nat_lt, List, ◌∷◌, ◌++◌, length, Option, None, Some}
use Rattle.std.specs.Prelude.{if◌then◌else◌, filter, not}
use Rattle.std.specs.Ordering.{nat_cmp, is_lt}
use Rattle.std.specs.Cmp.Lexicographic.{slice_cmp}
use Rattle.cb_tags.specs.Names.{is_file_name}
use Rattle.cb_desk.specs.declared.change.Refusal.{Refusal}
use Rattle.cb_desk.specs.declared.change.Refusal.TheVariants.{BadName, NoSuchFile, FileExists}
use Rattle.cb_desk.specs.declared.change.Refusal.TheVariants.{TooLarge, TooManyFiles}
use Rattle.cb_scan.specs.Order.{in_order}
use Rattle.cb_desk.specs.Places.{without_places, renamed_places}
use Rattle.cb_desk.specs.World.{World, File, is_named, has_file, text_of_file, place_key}

-- the second file comes before the first by the bytes of their names
abbrev pub is_before : File → File → Bool
is_before f g = is_lt (slice_cmp nat_cmp g.name f.name)

-- the files with one more at its place
abbrev pub with_file : File → List File → List File
with_file f files = filter (is_before f) files ++ f ∷ filter (λ g. not (is_before f g)) files

-- the files without that of a name
abbrev pub without_file : List ℕ → List File → List File
without_file name files = filter (λ f. not (is_named name f)) files

-- ---- load

-- why a file can't be loaded: the lowest refusal that applies
abbrev pub load_refusal : World → List ℕ → List ℕ → Option Refusal
load_refusal w name bytes =
    if not (is_file_name name) then Some BadName
    else (if has_file w.files name then Some FileExists
    else (if nat_lt w.bounds.file_bytes (length bytes) then Some TooLarge
    else (if nat_le w.bounds.files (length w.files) then Some TooManyFiles
    else None)))

-- the world with one more file
abbrev pub loaded : World → List ℕ → List ℕ → World
loaded w name bytes = record w { files = with_file (record { name = name; bytes = bytes }) w.files }

-- ---- reload

-- why a file can't have other bytes: the lowest refusal that applies
abbrev pub reload_refusal : World → List ℕ → List ℕ → Option Refusal
reload_refusal w name bytes =
    if not (has_file w.files name) then Some NoSuchFile
    else (if nat_lt w.bounds.file_bytes (length bytes) then Some TooLarge
    else None)

-- the world in which the file has these bytes, without its marks and its frames
abbrev pub reloaded : World → List ℕ → List ℕ → World
reloaded w name bytes = record w {
  files = with_file (record { name = name; bytes = bytes }) (without_file name w.files);
  marks = without_places name w.marks;
  frames = without_places name w.frames;
}

-- ---- unload

-- why a file can't be taken away
abbrev pub unload_refusal : World → List ℕ → Option Refusal
unload_refusal w name = if has_file w.files name then None else Some NoSuchFile

-- the world without that file, its marks and its frames
abbrev pub unloaded : World → List ℕ → World
unloaded w name = record w {
  files = without_file name w.files;
  marks = without_places name w.marks;
  frames = without_places name w.frames;
}

-- ---- rename

-- why a file can't have another name: the lowest refusal that applies
abbrev pub rename_refusal : World → List ℕ → List ℕ → Option Refusal
rename_refusal w old new =
    if not (is_file_name new) then Some BadName
    else (if not (has_file w.files old) then Some NoSuchFile
    else (if has_file w.files new then Some FileExists
    else None))

-- the world in which the file, its marks and its frames have the new name; the marks are sorted
-- anew, and the frames keep their places in the stack
abbrev pub renamed : World → List ℕ → List ℕ → World
renamed w old new = record w {
  files = with_file (record { name = new; bytes = text_of_file w.files old })
      (without_file old w.files);
  marks = in_order place_key (renamed_places old new w.marks);
  frames = renamed_places old new w.frames;
}
