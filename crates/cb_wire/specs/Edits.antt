-- Edits of files, as the protocol names them.
use Rattle.std.specs.Prelude.{Bool, true, false, ◌≢◌, ℕ, List, [], ◌∷◌, ◌++◌, codes}
use Rattle.std.specs.List.{flat_map}
use Rattle.json.specs.Json.{Json, Members, array, string, object, no_members, member}
use Rattle.json.specs.Print.{escape}
use Rattle.cb_wire.specs.declared.edits.FileEdit.{FileEdit}
use Rattle.cb_wire.specs.declared.position.Range.{Range}
use Rattle.cb_wire.specs.Uris.{uri_of}
use Rattle.cb_wire.specs.Values.{items_of, range_tree, value_text}

-- a range, and the text that is put in its place
abbrev pub edit_of : Range → (new : List ℕ) → Json
edit_of range new =
    object (member (codes "range") (range_tree range)
    (member (codes "newText") (string new) no_members))

-- the URI of a file, and its edits
pub record FileEdits : Type 0 where
  pub uri : List ℕ
  pub edits : List Json

-- edits of files, by the URIs of the files
abbrev pub changes_of : List FileEdits → Members
changes_of [] = no_members
changes_of (f ∷ fs) = member f.uri (array (items_of f.edits)) (changes_of fs)

abbrev pub edits_of : List FileEdits → Json
edits_of fs = object (member (codes "changes") (object (changes_of fs)) no_members)

-- ---- as they are written, one after another

-- a file has an edit
abbrev pub HasEdits : FileEdits → Type 0
HasEdits f = f.edits ≢ []

abbrev pub text_if : Bool → List ℕ → List ℕ
text_if false text = []
text_if true text = text

-- what stands before the first edit of a file, and behind the last one
abbrev pub edits_front : (opens : Bool) → (uri : List ℕ) → List ℕ
edits_front opens uri = text_if opens (codes "\"" ++ (escape uri ++ codes "\":["))

abbrev pub edits_end : (closes : Bool) → List ℕ
edits_end closes = text_if closes (codes "]")

-- an edit, which may be the first of its file and the last one
abbrev pub edit_text : (opens closes : Bool) → (uri : List ℕ) → Json → List ℕ
edit_text opens closes uri j = edits_front opens uri ++ (value_text j ++ edits_end closes)

abbrev pub file_edit_text : FileEdit → List ℕ
file_edit_text e =
    edit_text e.opens e.closes (uri_of e.location.root.now e.location.name.now)
    (edit_of e.location.range e.new_text.now)

-- an edit of a file, and those behind it
unfoldable pub texts_from : (opens : Bool) → (uri : List ℕ) → Json → List Json → List (List ℕ)
texts_from opens uri j [] = edit_text opens true uri j ∷ []
texts_from opens uri j (k ∷ ks) = edit_text opens false uri j ∷ texts_from false uri k ks

abbrev pub file_texts : (opens : Bool) → (uri : List ℕ) → List Json → List (List ℕ)
file_texts opens uri [] = []
file_texts opens uri (j ∷ js) = texts_from opens uri j js

-- the edits of all files
abbrev pub edits_texts : List FileEdits → List (List ℕ)
edits_texts fs = flat_map (λ (f : FileEdits). file_texts true f.uri f.edits) fs
