-- What is renamed: the uses of a name in its reach, where the editor has the text of each of their
-- files.
use Rattle.std.specs.Prelude.{ℕ, Bool, true, false, ◌&&◌, ◌||◌, ◌++◌, ◌==◌, not, List, [], ◌∷◌}
use Rattle.std.specs.Prelude.{codes, decimal, filter, map, length, ◌+◌, take, Option, None, Some, Result, Ok}
use Rattle.std.specs.Prelude.{Err, if◌then◌else◌}
use Rattle.std.specs.List.{list_all, list_any}
use Rattle.std.specs.Str.{bytes_eq}
use Rattle.json.specs.Json.{Json, null}
use Rattle.cb_desk.specs.World.{File, World, text_of_file}
use Rattle.cb_index.specs.Rows.{Fact, tags_named}
use Rattle.cb_scan.specs.declared.facts.Use.{Use}
use Rattle.cb_scan.specs.declared.lex.piece.Span.{Span}
use Rattle.cb_scan.specs.lex.Tokens.{bytes_of}
use Rattle.cb_scan.specs.Profiles.{facts_in}
use Rattle.cb_tags.specs.TagLines.{Tag}
use Rattle.cb_wire.specs.declared.list.TheConstants.{MOST_ELEMENTS}
use Rattle.cb_wire.specs.Edits.{FileEdits, edit_of, edits_of}
use Rattle.cb_wire.specs.Uris.{path_below, uri_of}
use Rattle.cb_wire.specs.Values.{range_tree}
use Rattle.cb_lsp.specs.Clients.{Client}
use Rattle.cb_lsp.specs.Documents.{Document, Looked, Oracle, Reading, Work, behind_reading}
use Rattle.cb_lsp.specs.Documents.{document_of, first_found, first_refusal, holds, is_open}
use Rattle.cb_lsp.specs.Documents.{linked, looked_by, no_room, was_lost}
use Rattle.cb_lsp.specs.Alike.{is_counted_alike}
use Rattle.cb_lsp.specs.Names.{is_outside}
use Rattle.cb_lsp.specs.Places.{range_of}

-- ---- the word

-- a use stands exactly at a span
abbrev pub is_at : Span → Use → Bool
is_at s u = u.name.start == s.start && u.name.end == s.end

-- a word of a file is a use, and its name has a definition
abbrev pub is_some_tag : List Tag → Bool
is_some_tag [] = false
is_some_tag (t ∷ ts) = true

abbrev pub may_be_renamed : World → (text : List ℕ) → Span → Bool
may_be_renamed w text word =
    list_any (is_at word) (facts_in w.profile text).uses
    && is_some_tag (tags_named w.profile (bytes_of text word) w.files)

abbrev pub if_renamable : World → (text : List ℕ) → Option Span → Option Span
if_renamable w text None = None
if_renamable w text (Some word) = if may_be_renamed w text word then Some word else None

-- its range
abbrev pub prepared : Client → (text : List ℕ) → Option Span → Json
prepared c text None = null
prepared c text (Some word) = range_tree (range_of c.encoding text word.start word.end)

-- ---- why it is not renamed

pub data Unrenamed : Type 0 where
  -- no such word stands there; the new name is no name; it has a use somewhere
  no_definition : Unrenamed
  bad_name : Unrenamed
  used_already : Unrenamed
  -- a file would have to be edited whose text the editor may not have
  not_open : (file : List ℕ) → Unrenamed
  -- one that is open may be another one of the files, which the editor would edit twice
  second_name : (file : List ℕ) → Unrenamed
  -- memory was refused where a file was read again
  no_memory : Unrenamed
  -- a macro or a typedef has the old name or the new one
  macro_or_type : Unrenamed
  -- a macro that the function names leads to one of them; or it stands in a directive
  in_macro : (name : List ℕ) → Unrenamed
  -- a macro may make something else of arguments that hold it
  in_arguments : (name : List ℕ) → Unrenamed
  -- a file is included in the function
  from_outside : (header : List ℕ) → Unrenamed
  -- a byte beside a use may be one of a name, or the file is not counted alike by all editors
  odd_bytes : (file : List ℕ) → (line : ℕ) → Unrenamed
  not_text : (file : List ℕ) → Unrenamed
  -- the member there may be that of several types
  unknown_type : (file : List ℕ) → (line : ℕ) → Unrenamed

abbrev pub unrenamed_text : Unrenamed → List ℕ
unrenamed_text no_definition = codes "no such definition"
unrenamed_text bad_name = codes "bad name"
unrenamed_text used_already = codes "name is used already"
unrenamed_text (not_open file) = codes "not open: " ++ file
unrenamed_text (second_name file) = codes "open under a second name: " ++ file
unrenamed_text no_memory = codes "out of memory"
unrenamed_text macro_or_type = codes "a macro or type has this name"
unrenamed_text (in_macro name) = codes "used in a macro: " ++ name
unrenamed_text (in_arguments name) = codes "in the arguments of a macro: " ++ name
unrenamed_text (from_outside header) = codes "used from outside: " ++ header
unrenamed_text (odd_bytes file line) = codes "odd bytes: " ++ (file ++ (codes ":" ++ decimal line))
unrenamed_text (not_text file) = codes "not text: " ++ file
unrenamed_text (unknown_type file line) =
    codes "type is not known: " ++ (file ++ (codes ":" ++ decimal line))

-- ---- their edits

-- the files of some uses, each once, in the order of their first uses
unfoldable pub files_of : List Fact → List (List ℕ)
files_of [] = []
files_of (u ∷ us) = u.file ∷ filter (λ file. not (bytes_eq file u.file)) (files_of us)

-- the uses in a file
abbrev pub uses_in : (file : List ℕ) → List Fact → List Fact
uses_in file us = filter (λ (u : Fact). bytes_eq u.file file) us

-- a new name in the place of a use
abbrev pub use_edit : Client → List File → (new : List ℕ) → Fact → Json
use_edit c files new u =
    edit_of (range_of c.encoding (text_of_file files u.file) u.place (u.place + length u.name)) new

abbrev pub file_edits : Client → List File → (new : List ℕ) → List Fact → (file : List ℕ)
    → FileEdits
file_edits c files new us file = record {
  uri = uri_of c.root file;
  edits = map (use_edit c files new) (uses_in file us);
}

-- a new name in the place of each use, by file; of the first 2^48, which no memory holds
abbrev pub all_edits : Client → List File → (new : List ℕ) → List Fact → Json
all_edits c files new us =
    let first = take MOST_ELEMENTS us in
    edits_of (map (file_edits c files new first) (files_of first))

-- ---- the files that are edited

-- a file outside the root is never edited, and no document that is out of date
abbrev pub is_never_edited : List Document → (file : List ℕ) → Bool
is_never_edited ds file = is_outside file || was_lost (document_of ds file)

-- why a file of this text is not edited that is not open, if so, by what is found of it: a second
-- name, another text or none, or memory is refused to its bytes
abbrev pub unless_found : (file text : List ℕ) → Reading → Option Unrenamed
unless_found file text no_room = Some no_memory
unless_found file text (holds found) =
    if bytes_eq found text && is_counted_alike text then None else Some (not_open file)
unless_found file text _ = Some (not_open file)

-- why one that is open is not, if so: it is found under a second name, or memory is refused
abbrev pub unless_linked : (file : List ℕ) → Reading → Option Unrenamed
unless_linked file no_room = Some no_memory
unless_linked file linked = Some (second_name file)
unless_linked file _ = None

-- a file is looked at: why it is not edited, if so, and what was read for that
pub record Check : Type 0 where
  pub why : Option Unrenamed
  pub read : List Looked

-- it is read at a path, where it has no other name: an editor would make the edits of both names in
-- one text. Memory may be refused to the path
abbrev pub check_read : Oracle → Work → (path file : List ℕ) → Check
check_read o w path file =
    let found = first_found o.found in
    if first_refusal o.refusals then record { why = Some no_memory; read = [] }
    else record {
      why =
          if is_open w.documents file then unless_linked file found
          else unless_found file (text_of_file w.world.files file) found;
      read = looked_by (length file) w.world path found ∷ [];
    }

-- where all files are open, none is read
abbrev pub check : Oracle → Client → Work → (all_open : Bool) → (file : List ℕ) → Check
check o c w all_open file =
    if is_never_edited w.documents file then record { why = Some (not_open file); read = [] }
    else (if all_open then record { why = None; read = [] }
    else check_read o w (path_below c.root.path file) file)

-- files one after another, up to the first one that is not edited
abbrev pub check_more : (read : List Looked) → Option Unrenamed → Check → Check
check_more read None more = record { why = more.why; read = read ++ more.read }
check_more read (Some why) more = record { why = Some why; read = read }

abbrev pub then_check : Check → Check → Check
then_check first more = check_more first.read first.why more

-- for each of them it is decided what is found, whether it is read or not
unfoldable pub checks : Oracle → Client → Work → (all_open : Bool) → List (List ℕ) → Check
checks o c w all_open [] = record { why = None; read = [] }
checks o c w all_open (file ∷ files) =
    then_check (check o c w all_open file) (checks (behind_reading o) c w all_open files)

-- the files of uses
abbrev pub are_open : List Document → List Fact → Bool
are_open ds us = list_all (λ (u : Fact). is_open ds u.file) us

abbrev pub checked : Oracle → Client → Work → List Fact → Check
checked o c w us = checks o c w (are_open w.documents us) (files_of us)

-- ---- all of it

-- an answer, unless there is a reason against it
abbrev pub ok_unless : Json → Option Unrenamed → Result Json Unrenamed
ok_unless j None = Ok j
ok_unless j (Some why) = Err why

-- an answer, or why there is none, and what was read for it
pub record Answered : Type 0 where
  pub answer : Result Json Unrenamed
  pub read : List Looked

-- an answer for which nothing was read
abbrev pub without_reading : Result Json Unrenamed → Answered
without_reading answer = record { answer = answer; read = [] }

-- the edits, where each file is edited, or why one is not; and what was read
abbrev pub renamed_if : Client → List File → (new : List ℕ) → List Fact → Check → Answered
renamed_if c files new us k = record {
  answer = ok_unless (all_edits c files new us) k.why;
  read = k.read;
}

abbrev pub renamed_all : Oracle → Client → Work → (new : List ℕ) → List Fact → Answered
renamed_all o c w new us = renamed_if c w.world.files new us (checked o c w us)

abbrev pub is_some_use : List Fact → Bool
is_some_use [] = false
is_some_use (u ∷ us) = true
