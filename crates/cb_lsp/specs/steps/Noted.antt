-- What is noted of open documents, step by step.
use Rattle.std.specs.Prelude.{◌++◌, Bool, true, false, List, [], ◌∷◌, ℕ, Option, None, Some}
use Rattle.std.specs.Prelude.{if◌then◌else◌}
use Rattle.std.specs.Option.{option_map}
use Rattle.cb_lsp.specs.Documents.{Document, Kept, document_of, is_open, kept_text, nothing, present}
use Rattle.cb_lsp.specs.Documents.{text, with_document}

-- the document of a file that is opened, before its text is known
abbrev pub new_document : List ℕ → Document
new_document name = record { name = name; kept = nothing; lost = false }

abbrev pub with_opened : List ℕ → List Document → List Document
with_opened name ds = if is_open ds name then ds else ds ++ new_document name ∷ []

-- the present text is kept
abbrev pub is_present : Kept → Bool
is_present nothing = false
is_present present = true
is_present (text bytes) = false

abbrev pub keeps_present : Option Document → Bool
keeps_present None = false
keeps_present (Some d) = is_present d.kept

-- the text that the document of a file keeps, if it is another one
abbrev pub text_again : Option Document → Option (List ℕ)
text_again None = None
text_again (Some d) = kept_text d.kept

-- a document that keeps another text, where there is one, and that is lost or not
abbrev pub noted : Option Kept → Bool → Document → Document
noted None is_lost d = record d { lost = is_lost }
noted (Some k) is_lost d = record { name = d.name; kept = k; lost = is_lost }

-- a document in place of that of its file, where there is one
abbrev pub with_any : Option Document → List Document → List Document
with_any None ds = ds
with_any (Some d) ds = with_document d ds

abbrev pub with_noted : Option Kept → Bool → List ℕ → List Document → List Document
with_noted k is_lost name ds = with_any (option_map (noted k is_lost) (document_of ds name)) ds
