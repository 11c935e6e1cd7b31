-- Headers of includes, and the files that they mean.
use Rattle.std.specs.Prelude.{ℕ, Bool, ◌&&◌, ◌++◌, ◌-◌, ◌==◌, not, nat_le, List, [], ◌∷◌}
use Rattle.std.specs.Prelude.{codes, length, take, Option, None, Some, if◌then◌else◌}
use Rattle.std.specs.List.{suffix_len}
use Rattle.std.specs.Str.{bytes_eq}
use Rattle.cb_desk.specs.Answer.{is_header}
use Rattle.cb_desk.specs.World.{File, has_file}
use Rattle.cb_scan.specs.declared.facts.Include.{Include}
use Rattle.cb_scan.specs.declared.lex.piece.Span.{Span}

-- a place is in a span, or at its end
abbrev pub holds : Span → ℕ → Bool
holds s place = nat_le s.start place && nat_le place s.end

-- the first header that holds a place
abbrev pub header_at : List Include → ℕ → Option Span
header_at [] place = None
header_at (i ∷ is) place = if holds i.header place then Some i.header else header_at is place

-- the folder of a file, with its slash
abbrev pub folder_length : List ℕ → ℕ
folder_length name = length name - suffix_len (λ b. not (b == 47)) name

abbrev pub folder_of : List ℕ → List ℕ
folder_of name = take (folder_length name) name

-- a file is the one of a header in a folder
abbrev pub is_in_folder : (folder header name : List ℕ) → Bool
is_in_folder folder header name = bytes_eq name (folder ++ header)

-- what stands behind a `./` or a `../` at the front of a header
abbrev pub after_dots : List ℕ → Option (List ℕ)
after_dots [] = None
after_dots (a ∷ []) = None
after_dots (a ∷ b ∷ []) = if bytes_eq (a ∷ b ∷ []) (codes "./") then Some [] else None
after_dots (a ∷ b ∷ c ∷ rest) =
    if bytes_eq (a ∷ b ∷ []) (codes "./") then Some (c ∷ rest)
    else (if bytes_eq (a ∷ b ∷ c ∷ []) (codes "../") then Some rest else None)

-- a header without each `./` and `../` before it
unfoldable pub without_dots : List ℕ → List ℕ
without_dots [] = []
without_dots (a ∷ []) = a ∷ []
without_dots (a ∷ b ∷ []) = if bytes_eq (a ∷ b ∷ []) (codes "./") then [] else (a ∷ b ∷ [])
without_dots (a ∷ b ∷ c ∷ rest) =
    if bytes_eq (a ∷ b ∷ []) (codes "./") then without_dots (c ∷ rest)
    else (if bytes_eq (a ∷ b ∷ c ∷ []) (codes "../") then without_dots rest
    else (a ∷ b ∷ c ∷ rest))

-- the files whose name is a header, or ends in a slash and that
abbrev pub files_named : List ℕ → List File → List (List ℕ)
files_named header [] = []
files_named header (f ∷ fs) =
    if is_header header f.name then f.name ∷ files_named header fs else files_named header fs

-- the files that a header means in a file: the one in the folder of that file, if it is there, or
-- else those whose name is the header without dots, or ends so
abbrev pub header_files : List File → (from header : List ℕ) → List (List ℕ)
header_files fs from header =
    if has_file fs (folder_of from ++ header) then (folder_of from ++ header) ∷ []
    else files_named (without_dots header) fs
