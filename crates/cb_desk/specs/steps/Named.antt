-- Files by their names.
use Rattle.std.specs.Prelude.{◌≡◌, ℕ, true, false, List, [], ◌∷◌, Option, Some, None}
use Rattle.std.specs.Prelude.{if◌then◌else◌}
use Rattle.cb_index.specs.Archived.{Archived}
use Rattle.cb_index.specs.Files.{file_of}
use Rattle.cb_index.specs.declared.entry.Shown.{Shown}
use Rattle.cb_desk.specs.World.{File, has_file, is_named, text_of_file}

-- the file of that name, if there is one
abbrev pub file_named : List File → List ℕ → Option File
file_named files name =
    if has_file files name
    then Some (record { name = name; bytes = text_of_file files name }) else None

-- files begin with one of that name, and go on with others
abbrev pub IsFirst : Archived → List ℕ → Shown → (more files : List Shown) → Type 0
IsFirst a name s more files = (files ≡ s ∷ more) × (is_named name (file_of a s) ≡ true)

-- the first of some files, if there is one, has another name
abbrev pub IsNotFirst : Archived → List ℕ → List Shown → Type 0
IsNotFirst a name [] = Unit {0}
IsNotFirst a name (s ∷ more) = is_named name (file_of a s) ≡ false
