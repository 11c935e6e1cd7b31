-- What the steps of a message leave of the files and the documents.
use Rattle.std.specs.Prelude.{◌≡◌, ◌≤◌, ◌∷◌, ℕ, Bool, false, List, [], Option, None, Some}
use Rattle.std.specs.Prelude.{Result, Ok, Err, if◌then◌else◌}
use Rattle.cb_desk.specs.declared.change.Refusal.{Refusal}
use Rattle.cb_desk.specs.Timeline.{Timeline}
use Rattle.cb_desk.specs.World.{File, World, text_of_file}
use Rattle.cb_lsp.specs.Documents.{Document, Reading, Kept, Oracle, Told, Work, changed_into}
use Rattle.cb_lsp.specs.Documents.{document_of, if_open, text, text_unless, was_lost}
use Rattle.cb_lsp.specs.steps.Noted.{keeps_present, with_noted}

-- what is decided where memory alone may be refused, once; where a file is given one text; and where
-- a file event is taken
abbrev pub only : Bool → Oracle
only no_memory = record { refusals = no_memory ∷ []; found = [] }

abbrev pub one_change : Bool → Reading → Oracle
one_change no_text found = record { refusals = no_text ∷ []; found = found ∷ [] }

abbrev pub one_event : (no_path no_text : Bool) → Reading → Oracle
one_event no_path no_text found = record {
  refusals = no_path ∷ no_text ∷ [];
  found = found ∷ [];
}

-- no past and no future, and room for one change
pub record IsForgotten (t : Timeline) : Type 0 where
  pub past : t.past ≡ []
  pub future : t.future ≡ []
  pub room : 1 ≤ t.present.bounds.history

-- the files go to the world that is meant, or all stays for the reason that is meant
abbrev pub Becomes : Result World Refusal → Work → Work → Result (Unit {0}) Refusal → Type 0
Becomes meant old new (Ok _) = (meant ≡ Ok new.world) × (new.documents ≡ old.documents)
Becomes meant old new (Err why) = (meant ≡ Err why) × (new ≡ old)

-- the text of a file that its document keeps from now on, where it kept the present one
abbrev pub kept_before : List File → List ℕ → Option Document → Option Kept
kept_before files name d =
    if keeps_present d then Some (text (text_of_file files name)) else None

-- the text of the file of a document, unless it is lost
abbrev pub text_at : List File → List ℕ → Option Document → Option (List ℕ)
text_at files name d = text_unless (was_lost d) (text_of_file files name)

-- the document keeps the text before besides
abbrev pub Reloads : Result World Refusal → List ℕ → Work → Work → Result (Unit {0}) Refusal
    → Type 0
Reloads meant name old new (Ok _) = (meant ≡ Ok new.world) × (new.documents
    ≡ with_noted (kept_before old.world.files name (document_of old.documents name)) false name
    old.documents)
Reloads meant name old new (Err why) = (meant ≡ Err why) × (new ≡ old)

-- the document of a name is given another text, if there is one
abbrev pub changed_named : Bool → Work → (name : List ℕ) → Option (List ℕ) → Told
changed_named no_text w name bytes =
    if_open (λ d. changed_into no_text w d bytes) w (document_of w.documents name)
