-- The files of a session at one moment, by a profile and within bounds, the text that is wanted
-- with the lines
-- that are marked for a change, and the tag stack.
use Rattle.std.specs.Prelude.{◌≡◌, ℕ, suc, ◌≤◌, ◌-◌, ◌^◌, ◌==◌, Bool, ◌&&◌, not, nat_le, List, []}
use Rattle.std.specs.Prelude.{◌∷◌, ◌++◌, length, map, IsTrue, Option, None, Some, if◌then◌else◌}
use Rattle.std.specs.List.{list_any, AllByRecursion}
use Rattle.std.specs.List.Sorted.{IsStrictlySortedBy}
use Rattle.std.specs.Str.{bytes_eq}
use Rattle.std.specs.Ordering.{nat_cmp}
use Rattle.std.specs.Cmp.Lexicographic.{slice_cmp}
use Rattle.cb_scan.specs.declared.profile.Profile.{Profile}
use Rattle.cb_scan.specs.Bytes.{line_feed}
use Rattle.cb_scan.specs.Lines.{IsLineOf, line_text}
use Rattle.cb_index.specs.Files.{File as IndexFile}
use Rattle.cb_tags.specs.Names.{is_file_name}
use Rattle.cb_desk.specs.declared.bounds.TheConstants.{MOST_BYTES, MOST_FILES, MOST_TEXT}
use Rattle.cb_desk.specs.Search.{holds}

-- a file: its name and its text
abbrev pub File : Type 0
File = IndexFile

-- a line of a file, from 1: a mark, or a frame of the tag stack
pub record Place : Type 0 where
  pub file : List ℕ
  pub line : ℕ

-- the most files of a world, the most bytes of each, and the most worlds of a past
pub record WorldBounds : Type 0 where
  pub files : ℕ
  pub file_bytes : ℕ
  pub history : ℕ

-- the widest bounds, within which no number wraps
abbrev pub widest_bounds : WorldBounds
widest_bounds = record { files = MOST_FILES; file_bytes = MOST_BYTES; history = 2 ^ 32 - 1 }

-- bounds are no wider
pub record AreBounds (b : WorldBounds) : Type 0 where
  pub files : b.files ≤ widest_bounds.files
  pub file_bytes : b.file_bytes ≤ widest_bounds.file_bytes
  pub history : b.history ≤ widest_bounds.history

-- the bounds of a session that is given none
abbrev pub standard_bounds : WorldBounds
standard_bounds = record { files = 4096; file_bytes = 1000000; history = 65536 }

-- the profile by which its files are scanned; its bounds; the files, ascending by the bytes of
-- their
-- names; the wanted text, and the marks, ascending by file and line; the frames of the tag stack,
-- bottom first
pub record World : Type 0 where
  pub profile : Profile
  pub bounds : WorldBounds
  pub files : List File
  pub wanted : Option (List ℕ)
  pub marks : List Place
  pub frames : List Place

-- the world without a file
abbrev pub empty_world : Profile → WorldBounds → World
empty_world p b =
    record { profile = p; bounds = b; files = []; wanted = None; marks = []; frames = [] }

-- a file has that name
abbrev pub is_named : List ℕ → File → Bool
is_named name f = bytes_eq f.name name

-- one of the files has that name
abbrev pub has_file : List File → List ℕ → Bool
has_file files name = list_any (is_named name) files

-- the text of the file of that name; no bytes where there is none
unfoldable pub text_of_file : List File → List ℕ → List ℕ
text_of_file [] name = []
text_of_file (f ∷ files) name = if is_named name f then f.bytes else text_of_file files name

-- the text of the file of that name, if there is one
abbrev pub text_named : List File → List ℕ → Option (List ℕ)
text_named files name = if has_file files name then Some (text_of_file files name) else None

-- files ascend by the bytes of their names, each name once
abbrev pub IsAscending : List File → Type 0
IsAscending = IsStrictlySortedBy (λ (f g : File). slice_cmp nat_cmp f.name g.name)

-- files keep bounds by their sizes and their number, and the rules of names and of their order
pub record AreValidFiles (b : WorldBounds) (files : List File) : Type 0 where
  pub names : AllByRecursion (λ (f : File). IsTrue (is_file_name f.name)) files
  pub sizes : AllByRecursion (λ (f : File). length f.bytes ≤ b.file_bytes) files
  pub count : length files ≤ b.files
  pub ascending : IsAscending files

-- a place is a line that is there
abbrev pub IsPlaceOf : List File → Place → Type 0
IsPlaceOf files p = IsLineOf (text_of_file files p.file) p.line

-- what places are ordered by: the bytes of the file's name, and then the line; each byte is raised
-- by one, so that the 0 after a name is below all of them
abbrev pub place_key : Place → List ℕ
place_key p = map suc p.file ++ 0 ∷ p.line ∷ []

-- places ascend by file and line, each place once
abbrev pub AreAscending : List Place → Type 0
AreAscending = IsStrictlySortedBy (λ (p q : Place). slice_cmp nat_cmp (place_key p) (place_key q))

-- a text keeps the limit and lies in one line
abbrev pub is_short : List ℕ → Bool
is_short text = nat_le (length text) MOST_TEXT && not (list_any (λ b. b == line_feed) text)

-- a mark for a text is on a line that is there and that holds it
abbrev pub IsMarkIn : (wanted text : List ℕ) → ℕ → Type 0
IsMarkIn wanted text line = IsLineOf text line × IsTrue (holds wanted (line_text text line))

-- the marks for a wanted text
pub record AreMarksFor (files : List File) (wanted : List ℕ) (marks : List Place) : Type 0 where
  pub short : IsTrue (is_short wanted)
  pub some : 1 ≤ length wanted
  pub held : AllByRecursion
      (λ (p : Place). IsMarkIn wanted (text_of_file files p.file) p.line) marks
  pub ascending : AreAscending marks

-- the marks are those for the wanted text; where none is wanted there is no mark
abbrev pub AreValidMarks : List File → Option (List ℕ) → List Place → Type 0
AreValidMarks files None marks = marks ≡ []
AreValidMarks files (Some wanted) marks = AreMarksFor files wanted marks

-- the bounds and the files are valid, and so are the marks and each frame
pub record IsValidWorld (w : World) : Type 0 where
  pub bounds : AreBounds w.bounds
  pub files : AreValidFiles w.bounds w.files
  pub marks : AreValidMarks w.files w.wanted w.marks
  pub frames : AllByRecursion (IsPlaceOf w.files) w.frames
