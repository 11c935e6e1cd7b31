-- How the uses that are renamed are told, one after another.
use Rattle.std.specs.Prelude.{ℕ, Bool, true, not, List, [], ◌∷◌, take, Option, None}
use Rattle.std.specs.Prelude.{◌≡◌, if◌then◌else◌}
use Rattle.std.specs.List.{AllByRecursion}
use Rattle.std.specs.Option.{option_map}
use Rattle.std.specs.Str.{bytes_eq}
use Rattle.cb_desk.specs.World.{File}
use Rattle.cb_index.specs.Rows.{Fact}
use Rattle.cb_wire.specs.Edits.{edit_text}
use Rattle.cb_wire.specs.Uris.{uri_of}
use Rattle.cb_lsp.specs.Clients.{Client}
use Rattle.cb_lsp.specs.Documents.{Looked, Oracle, Work, behind_reading}
use Rattle.cb_lsp.specs.Renames.{Check, Unrenamed, bad_name, check, from_outside, in_arguments}
use Rattle.cb_lsp.specs.Renames.{in_macro, macro_or_type, no_memory, not_open, not_text, odd_bytes}
use Rattle.cb_lsp.specs.Renames.{second_name, then_check, unknown_type, use_edit, used_already}
use Rattle.cb_lsp.specs.declared.rename.Renaming.{Renaming}
use Rattle.cb_lsp.specs.declared.rename.Unedited.{Unedited}
use Rattle.cb_lsp.specs.declared.rename.Unedited.TheVariants.{BadName, FromOutside, InArguments}
use Rattle.cb_lsp.specs.declared.rename.Unedited.TheVariants.{InMacro, MacroOrType, NoMemory}
use Rattle.cb_lsp.specs.declared.rename.Unedited.TheVariants.{NotOpen, NotText, OddBytes, SecondName}
use Rattle.cb_lsp.specs.declared.rename.Unedited.TheVariants.{UnknownType, UsedAlready}
use Rattle.cb_lsp.specs.declared.rename.UseEdits.{UseEdits}
use Rattle.cb_lsp.specs.steps.Same.{spots_left}

-- a use is the last one of its file
abbrev pub is_last_of : (file : List ℕ) → List Fact → Bool
is_last_of file [] = true
is_last_of file (u ∷ us) = not (bytes_eq u.file file)

-- edits of uses, of which the first may be the first one of its file
unfoldable pub texts_of_uses : Client → List File → (new : List ℕ) → (opens : Bool) → List Fact
    → List (List ℕ)
texts_of_uses c files new opens [] = []
texts_of_uses c files new opens (u ∷ us) =
    edit_text opens (is_last_of u.file us) (uri_of c.root u.file) (use_edit c files new u)
    ∷ texts_of_uses c files new (is_last_of u.file us) us

-- those that are left
abbrev pub edits_left : UseEdits → List (List ℕ)
edits_left e =
    texts_of_uses e.places.client e.places.files e.new_name.now e.opens
    (take e.most (spots_left e.rest))

-- the files and documents in which a name is changed
abbrev pub work_in : Renaming → Work
work_in r = record {
  world = r.asked.desk.now.timeline.present;
  documents = r.documents.now;
}

-- ---- files that are not edited

-- a reason is what it is called in the definitions
abbrev pub reason_of : Unedited → Unrenamed
reason_of (NotOpen file) = not_open file.now
reason_of (SecondName file) = second_name file.now
reason_of NoMemory = no_memory
reason_of BadName = bad_name
reason_of UsedAlready = used_already
reason_of MacroOrType = macro_or_type
reason_of (InMacro name) = in_macro name.now
reason_of (InArguments name) = in_arguments name.now
reason_of (FromOutside header) = from_outside header.now
reason_of (OddBytes file line) = odd_bytes file.now line
reason_of (NotText file) = not_text file.now
reason_of (UnknownType file line) = unknown_type file.now line

-- a check comes to this result, and what was read for it is what is found there
abbrev pub ComesTo : (finds : Looked → Type 0) → Check → Option Unedited → Type 0
ComesTo finds k result = (option_map reason_of result ≡ k.why) × AllByRecursion finds k.read

-- the file of a use is looked at, and what is decided behind it: only the first use of a file,
-- which opens it, counts
abbrev pub check_if : (opens : Bool) → Oracle → Client → Work → (all_open : Bool)
    → (file : List ℕ) → Check
check_if opens o c w all_open file =
    if opens then check o c w all_open file else record { why = None; read = [] }

abbrev pub behind_if : (opens : Bool) → Oracle → Oracle
behind_if opens o = if opens then behind_reading o else o

-- the files of uses, use by use, up to the first one that is not edited
unfoldable pub checks_of_uses : Oracle → Client → Work → (all_open opens : Bool) → List Fact
    → Check
checks_of_uses o c w all_open opens [] = record { why = None; read = [] }
checks_of_uses o c w all_open opens (u ∷ us) =
    then_check (check_if opens o c w all_open u.file)
    (checks_of_uses (behind_if opens o) c w all_open (is_last_of u.file us) us)
