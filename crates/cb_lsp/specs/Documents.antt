-- The files of a server and the documents that the editor has open, and what the editor tells of
-- them.
use Rattle.std.specs.Prelude.{ℕ, Bool, true, false, not, ◌&&◌, ◌||◌, ◌+◌, List, [], ◌∷◌}
use Rattle.std.specs.Prelude.{codes, map, Option, None, Some, Result, Ok, Err, if◌then◌else◌}
use Rattle.std.specs.List.{list_any}
use Rattle.std.specs.Str.{bytes_eq}
use Rattle.cb_desk.specs.declared.change.Refusal.{Refusal}
use Rattle.cb_desk.specs.declared.change.Refusal.TheVariants.{OutOfMemory}
use Rattle.cb_desk.specs.Refusals.{text_of}
use Rattle.cb_desk.specs.Step.{Step, load, reload, step, unload}
use Rattle.cb_desk.specs.World.{File, World, WorldBounds, has_file, text_of_file}
use Rattle.cb_wire.specs.declared.units.Encoding.{Encoding}
use Rattle.cb_lsp.specs.Changes.{TextChange, text_by}

-- the text that a file has again when its document is closed, where it is not found in the file
-- system: the one that it has then, another one, or the one that it had when the document was opened
-- or saved
pub data Kept : Type 0 where
  nothing : Kept
  present : Kept
  text : List ℕ → Kept

-- a document that is open: the name of its file, what is kept, and whether its last text was
-- refused
pub record Document : Type 0 where
  pub name : List ℕ
  pub kept : Kept
  pub lost : Bool

-- the files, and the documents that are open
pub record Work : Type 0 where
  pub world : World
  pub documents : List Document

-- the files and documents after a message, and what the client is told, if anything
pub record Told : Type 0 where
  pub work : Work
  pub told : Option (List ℕ)

-- what is found where a file is read again: none; one that is reached by a link or has two names,
-- where that will not do; one that cannot be read; one for whose bytes memory is refused; or its bytes
pub data Reading : Type 0 where
  gone : Reading
  linked : Reading
  unreadable : Reading
  no_room : Reading
  holds : List ℕ → Reading

-- a file that was read again: its path, the most bytes that are read of it, how many of the last
-- bytes of the path are a name that has to be the only one of the file in the folder before it, or 0
-- where any name will do, and what is found
pub record Looked : Type 0 where
  pub path : List ℕ
  pub most : ℕ
  pub only : ℕ
  pub found : Reading

-- one byte more than a file may have, so that a larger one is seen to be too large
abbrev pub most_read : WorldBounds → ℕ
most_read b = b.file_bytes + 1

abbrev pub looked_by : (only : ℕ) → World → (path : List ℕ) → Reading → Looked
looked_by only w path found =
    record { path = path; most = most_read w.bounds; only = only; found = found }

-- under any name of it
abbrev pub looked_at : World → (path : List ℕ) → Reading → Looked
looked_at w path found = looked_by 0 w path found

-- what the machine decides while a message is taken: where memory is refused, and what is found
-- where files are read again, each in turn
pub record Oracle : Type 0 where
  pub refusals : List Bool
  pub found : List Reading

-- whether memory was refused first, and what is said of what comes after
abbrev pub first_refusal : List Bool → Bool
first_refusal [] = false
first_refusal (m ∷ ms) = m

abbrev pub later_refusals : List Bool → List Bool
later_refusals [] = []
later_refusals (m ∷ ms) = ms

-- what is found first, and what comes after
abbrev pub first_found : List Reading → Reading
first_found [] = gone
first_found (f ∷ fs) = f

abbrev pub later_found : List Reading → List Reading
later_found [] = []
later_found (f ∷ fs) = fs

-- what is decided behind the first refusal; what behind a reading, which has one of them; and what
-- behind a file event, which has two of them and reads once
abbrev pub later : Oracle → Oracle
later o = record { refusals = later_refusals o.refusals; found = o.found }

abbrev pub behind_reading : Oracle → Oracle
behind_reading o = record {
  refusals = later_refusals o.refusals;
  found = later_found o.found;
}

abbrev pub behind_event : Oracle → Oracle
behind_event o = behind_reading (later o)

-- ---- documents

abbrev pub is_named : List ℕ → Document → Bool
is_named name d = bytes_eq d.name name

abbrev pub is_open : List Document → List ℕ → Bool
is_open ds name = list_any (is_named name) ds

-- the document of a file that is open
unfoldable pub document_of : List Document → List ℕ → Option Document
document_of [] name = None
document_of (d ∷ ds) name = if is_named name d then Some d else document_of ds name

-- a document in place of that of its file, or behind all
unfoldable pub with_document : Document → List Document → List Document
with_document d [] = d ∷ []
with_document d (e ∷ es) = if is_named d.name e then d ∷ es else e ∷ with_document d es

unfoldable pub without_document : List ℕ → List Document → List Document
without_document name [] = []
without_document name (d ∷ ds) =
    if is_named name d then ds else d ∷ without_document name ds

-- ---- texts

abbrev pub unreadable_text : List ℕ
unreadable_text = codes "cannot be read"

-- a file is given a text
abbrev pub text_step : List File → (name bytes : List ℕ) → Step
text_step files name bytes = if has_file files name then reload name bytes else load name bytes

-- the files after it, or why they are as they were
abbrev pub taken : Bool → World → Step → Result World Refusal
taken true w s = Err OutOfMemory
taken false w s = step w s

-- a document is lost; that is told, unless it was lost
abbrev pub told_unless : Bool → List ℕ → Option (List ℕ)
told_unless true why = None
told_unless false why = Some why

abbrev pub was_lost : Option Document → Bool
was_lost None = false
was_lost (Some d) = d.lost

-- a document is opened with a text: it is kept, or it was refused
abbrev pub after_open : Work → (name : List ℕ) → Result World Refusal → Told
after_open w name (Ok next) = record {
  work = record {
    world = next;
    documents = with_document (record { name = name; kept = present; lost = false }) w.documents;
  };
  told = None;
}
after_open w name (Err why) = record {
  work = record w {
    documents = with_document (record { name = name; kept = nothing; lost = true }) w.documents;
  };
  told = told_unless (was_lost (document_of w.documents name)) (text_of why);
}

-- memory is refused to the document, or may be refused to its text
abbrev pub opened_if : Bool → Bool → Work → (name text : List ℕ) → Told
opened_if true no_text w name bytes = record { work = w; told = Some (text_of OutOfMemory) }
opened_if false no_text w name bytes =
    after_open w name (taken no_text w.world (text_step w.world.files name bytes))

-- a document is opened. Memory may be refused to one that was not open
abbrev pub opened : List Bool → Work → (name text : List ℕ) → Told
opened refusals w name bytes =
    opened_if (first_refusal refusals && not (is_open w.documents name))
    (first_refusal (later_refusals refusals)) w name bytes

-- a document is lost
abbrev pub lost : Work → Document → List ℕ → Told
lost w d why = record {
  work = record w { documents = with_document (record d { lost = true }) w.documents };
  told = told_unless d.lost why;
}

-- every document is lost: a message that was dropped may have been a change of any of them
abbrev pub as_lost : Document → Document
as_lost d = record d { lost = true }

abbrev pub lost_all : List Document → List Document
lost_all ds = map as_lost ds

-- what is kept of a document whose file has this text, when the file is given another one
abbrev pub kept_from : List ℕ → Kept → Kept
kept_from before nothing = nothing
kept_from before present = text before
kept_from before (text other) = text other

-- a document is given another text
abbrev pub after_change : Work → Document → Result World Refusal → Told
after_change w d (Ok next) = record {
  work = record {
    world = next;
    documents = with_document (record {
      name = d.name;
      kept = kept_from (text_of_file w.world.files d.name) d.kept;
      lost = false;
    }) w.documents;
  };
  told = None;
}
after_change w d (Err why) = lost w d (text_of why)

abbrev pub changed_into : Bool → Work → Document → Option (List ℕ) → Told
changed_into no_text w d None = record { work = w; told = None }
changed_into no_text w d (Some bytes) =
    after_change w d (taken no_text w.world (text_step w.world.files d.name bytes))

-- the text of a document, unless it is lost
abbrev pub text_unless : (is_lost : Bool) → List ℕ → Option (List ℕ)
text_unless true bytes = None
text_unless false bytes = Some bytes

abbrev pub text_of_document : Work → Document → Option (List ℕ)
text_of_document w d = text_unless d.lost (text_of_file w.world.files d.name)

-- the text that changes lead to, if they do; without changes the document is lost
abbrev pub changed_to : Encoding → Bool → Work → Document → Option (List TextChange) → Told
changed_to e no_text w d None = lost w d (codes "bad parameters")
changed_to e no_text w d (Some cs) =
    changed_into no_text w d (text_by e (text_of_document w d) cs)

-- nothing is done about a document that is not open
abbrev pub if_open : (Document → Told) → Work → Option Document → Told
if_open does w None = record { work = w; told = None }
if_open does w (Some d) = does d

-- a document is changed
abbrev pub changed : Encoding → List Bool → Work → List ℕ → Option (List TextChange) → Told
changed e refusals w name changes =
    if_open (λ d. changed_to e (first_refusal refusals) w d changes) w
    (document_of w.documents name)

-- the present text of a document is kept, unless the document is lost
abbrev pub saved_as : Work → Document → Bool → Told
saved_as w d true = record { work = w; told = None }
saved_as w d false = record {
  work = record w { documents = with_document (record d { kept = present }) w.documents };
  told = None;
}

abbrev pub saved : Work → List ℕ → Told
saved w name = if_open (λ d. saved_as w d d.lost) w (document_of w.documents name)

-- a file is given a text, if there is one
abbrev pub after_step : Work → Result World Refusal → Told
after_step w (Ok next) = record { work = record w { world = next }; told = None }
after_step w (Err why) = record { work = w; told = Some (text_of why) }

abbrev pub given : Bool → Work → (name : List ℕ) → Option (List ℕ) → Told
given no_text w name None = record { work = w; told = None }
given no_text w name (Some new) =
    after_step w (taken no_text w.world (text_step w.world.files name new))

-- a file is given the text that is found; where there is no file, another one, if there is one;
-- where it has two names or cannot be read it stays as it is
abbrev pub given_found : Reading → Bool → Work → (name : List ℕ) → Option (List ℕ) → Told
given_found gone no_text w name other = given no_text w name other
given_found linked no_text w name other = record { work = w; told = None }
given_found unreadable no_text w name other = record { work = w; told = Some unreadable_text }
given_found no_room no_text w name other =
    record { work = w; told = Some (text_of OutOfMemory) }
given_found (holds new) no_text w name other = given no_text w name (Some new)

-- the text that is kept, if it is another one
abbrev pub kept_text : Kept → Option (List ℕ)
kept_text nothing = None
kept_text present = None
kept_text (text other) = Some other

abbrev pub without : List ℕ → Work → Work
without name w = record w { documents = without_document name w.documents }

-- a document is closed: its file becomes what is found, or has the text again that was kept
abbrev pub closed : Oracle → Work → List ℕ → Told
closed o w name =
    if_open (λ d. given_found (first_found o.found) (first_refusal o.refusals) (without name w) name
    (kept_text d.kept)) w (document_of w.documents name)

-- a file that is gone is taken away, unless its document is open or there is no such file
abbrev pub removed : Bool → Work → List ℕ → Told
removed no_memory w name =
    if is_open w.documents name || not (has_file w.world.files name)
    then record { work = w; told = None }
    else after_step w (taken no_memory w.world (unload name))

-- a file that was written is read again, unless its document is open; one that is not there yet is
-- taken in where it may enter
abbrev pub is_renewed : Work → (may_enter : Bool) → List ℕ → Bool
is_renewed w may_enter name =
    not (is_open w.documents name) && (has_file w.world.files name || may_enter)

abbrev pub renewed : Oracle → Work → (may_enter : Bool) → List ℕ → Told
renewed o w may_enter name =
    if is_renewed w may_enter name
    then given_found (first_found o.found) (first_refusal o.refusals) w name None
    else record { work = w; told = None }
