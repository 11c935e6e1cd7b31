-- The file that a header means where a file includes it, and what a file includes by way of others
-- (ISO C 2011, 6.10.2, where the places that are searched are this project's profile).
use Rattle.std.specs.Prelude.{ℕ, ◌++◌, ◌-◌, ◌||◌, ◌&&◌, Bool, false, nat_le, nat_lt, List, [], ◌∷◌}
use Rattle.std.specs.Prelude.{codes, fold, length, take, Option, None, Some, if◌then◌else◌}
use Rattle.std.specs.List.{list_any}
use Rattle.std.specs.Option.{option_map_or, option_or}
use Rattle.std.specs.Str.{bytes_eq}
use Rattle.cb_desk.specs.Scanned.{ScannedText, scanned_named}
use Rattle.cb_desk.specs.World.{File, World, has_file}
use Rattle.cb_scan.specs.declared.facts.Include.{Include}
use Rattle.cb_scan.specs.lex.Tokens.{bytes_of}
use Rattle.cb_lsp.specs.Headers.{files_named, folder_of, without_dots}
use Rattle.cb_lsp.specs.Nearest.{apart}

-- ---- the file that a header means

-- the folder around a folder, with its slash; none is around the root and the first one
abbrev pub folder_around : (folder : List ℕ) → Option (List ℕ)
folder_around folder =
    if nat_le (length folder) 1 then None else Some (folder_of (take (length folder - 1) folder))

-- the folder to which `./` and `../` at the front of a header lead from a folder
unfoldable pub folder_from : (header folder : List ℕ) → Option (List ℕ)
folder_from [] folder = Some folder
folder_from (a ∷ []) folder = Some folder
folder_from (a ∷ b ∷ []) folder = Some folder
folder_from (a ∷ b ∷ c ∷ rest) folder =
    if bytes_eq (a ∷ b ∷ []) (codes "./") then folder_from (c ∷ rest) folder
    else (if bytes_eq (a ∷ b ∷ c ∷ []) (codes "../")
    then option_map_or (folder_from rest) (folder_around folder) None
    else Some folder)

-- a file of this name, if it is there
abbrev pub if_there : List File → (name : List ℕ) → Option (List ℕ)
if_there fs name = if has_file fs name then Some name else None

-- the file of a header where that is named from a folder
abbrev pub beside : List File → (folder header : List ℕ) → Option (List ℕ)
beside fs folder header =
    option_map_or (λ (base : List ℕ). if_there fs (base ++ without_dots header))
    (folder_from header folder) None

-- the nearer of two files; the first one, where none is
abbrev pub nearer : (from one other : List ℕ) → List ℕ
nearer from one other = if nat_lt (apart from other) (apart from one) then other else one

-- the nearest of some files, and of these the first
abbrev pub nearest_of : (from : List ℕ) → List (List ℕ) → Option (List ℕ)
nearest_of from [] = None
nearest_of from (name ∷ names) = Some (fold (nearer from) name names)

-- the file that a header means in a file: the one of its name beside that, else the nearest one that
-- is called so
abbrev pub meant : List File → (from header : List ℕ) → Option (List ℕ)
meant fs from header =
    option_or (beside fs (folder_of from) header) (nearest_of from (files_named (without_dots header) fs))

-- ---- what a file includes

abbrev pub means : List File → (from : List ℕ) → (text name : List ℕ) → Include → Bool
means fs from text name i =
    option_map_or (bytes_eq name) (meant fs from (bytes_of text i.header)) false

-- a header of a file means this one
abbrev pub includes : World → (from name : List ℕ) → Bool
includes w from name =
    option_map_or (λ (s : ScannedText). list_any (means w.files from s.bytes name) s.facts.includes)
    (scanned_named w.profile w.files from) false

-- it is the file itself or is included there, or so by way of some others
unfoldable pub includes_by : World → List File → (from name : List ℕ) → Bool
includes_by w [] from name = bytes_eq from name || includes w from name
includes_by w (f ∷ fs) from name =
    includes_by w fs from name || (includes_by w fs from f.name && includes_by w fs f.name name)

-- the closure of a file: itself, and what it includes by way of any files
abbrev pub is_in_closure : World → (from name : List ℕ) → Bool
is_in_closure w from name = includes_by w w.files from name
