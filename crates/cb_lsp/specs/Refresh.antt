-- The files that are read again before a question is answered, where the client does not tell of
-- files that are written: those that the answer names.
use Rattle.std.specs.Prelude.{ℕ, Bool, true, false, ◌||◌, ◌++◌, nat_le, List, [], ◌∷◌, length}
use Rattle.std.specs.Prelude.{map, fold, Option, None, Some, if◌then◌else◌, option_map}
use Rattle.std.specs.List.{list_any}
use Rattle.std.specs.Str.{bytes_eq}
use Rattle.cb_desk.specs.World.{World, has_file, text_of_file}
use Rattle.cb_index.specs.Rows.{Fact, tags_named, uses_of}
use Rattle.cb_scan.specs.lex.Tokens.{bytes_of}
use Rattle.cb_tags.specs.TagLines.{Tag}
use Rattle.cb_wire.specs.declared.position.Position.{Position}
use Rattle.cb_wire.specs.Positions.{place}
use Rattle.cb_lsp.specs.Answers.{name_of_uri}
use Rattle.cb_lsp.specs.Clients.{Client}
use Rattle.cb_lsp.specs.Documents.{Reading, Told, Work, given, given_found, gone, holds, linked}
use Rattle.cb_lsp.specs.Documents.{no_room, unreadable}
use Rattle.cb_lsp.specs.Questions.{Asked, folds, in_file, incoming, outgoing, rename}
use Rattle.cb_lsp.specs.Questions.{workspace_symbols}
use Rattle.cb_lsp.specs.Outgoing.{files_called}
use Rattle.cb_lsp.specs.Searches.{found_by}
use Rattle.cb_lsp.specs.Words.{word_at}
use Rattle.cb_lsp.specs.declared.question.FileQuestion.{FileQuestion}
use Rattle.cb_lsp.specs.declared.question.FileQuestion.TheVariants.{At}
use Rattle.cb_lsp.specs.declared.question.PlaceQuestion.TheVariants.{Callables, Definition, Hover}
use Rattle.cb_lsp.specs.declared.question.PlaceQuestion.TheVariants.{Declaration, References}

-- ---- what is asked about

-- a name that is asked about, and whether the answer is about its uses, too
pub record Sought : Type 0 where
  pub name : Option (List ℕ)
  pub uses : Bool

-- the word at a position of the file of this name, if there is one
abbrev pub word_there : Client → World → Option (List ℕ) → Position → Option (List ℕ)
word_there c w None p = None
word_there c w (Some name) p =
    let text = text_of_file w.files name in
    if has_file w.files name
    then option_map (bytes_of text) (word_at text (place c.encoding text p)) else None

abbrev pub word_in_uri : Client → World → (uri : List ℕ) → Position → Option (List ℕ)
word_in_uri c w uri p = word_there c w (name_of_uri c uri) p

abbrev pub about : Option (List ℕ) → (uses : Bool) → Sought
about name uses = record { name = name; uses = uses }

abbrev pub sought_at : Client → World → (uri : List ℕ) → FileQuestion → Sought
sought_at c w uri (At p Definition) = about (word_in_uri c w uri p) false
sought_at c w uri (At p Declaration) = about (word_in_uri c w uri p) false
sought_at c w uri (At p Hover) = about (word_in_uri c w uri p) false
sought_at c w uri (At p Callables) = about (word_in_uri c w uri p) false
sought_at c w uri (At p (References declarations)) = about (word_in_uri c w uri p) true
sought_at c w uri _ = about None false

-- of a question whose answer names other files
abbrev pub sought_by : Client → World → Asked → Sought
sought_by c w (in_file uri question) = sought_at c w uri question
sought_by c w (workspace_symbols query) = about None false
sought_by c w (rename uri p new) = about (word_in_uri c w uri p) true
sought_by c w (incoming name uri) = about (Some name) true
sought_by c w (outgoing name uri p) = about (Some name) false
sought_by c w (folds uri) = about None false

-- ---- the files

-- the most that are read again for one answer
abbrev pub most_refreshed : ℕ
most_refreshed = 64

-- files with one more, unless it is among them or they are the most
abbrev pub with_file : List (List ℕ) → (file : List ℕ) → List (List ℕ)
with_file files file =
    if list_any (λ other. bytes_eq other file) files || nat_le most_refreshed (length files)
    then files else files ++ (file ∷ [])

-- those of the uses of a name, where they are asked for
abbrev pub files_of_uses : World → (name : List ℕ) → (uses : Bool) → List (List ℕ)
files_of_uses w name true = map (λ (u : Fact). u.file) (uses_of w.profile name w.files)
files_of_uses w name false = []

-- those of some definitions
abbrev pub files_of_tags : List Tag → List (List ℕ)
files_of_tags ts = map (λ (t : Tag). t.file) ts

-- those of the definitions of a name, and then those of its uses
abbrev pub files_with : World → Option (List ℕ) → (uses : Bool) → List (List ℕ)
files_with w None uses = []
files_with w (Some name) uses =
    files_of_tags (tags_named w.profile name w.files) ++ files_of_uses w name uses

-- those of what is called by what has a name at a position of a file, if there is one
abbrev pub files_called_in : Client → World → (name : List ℕ) → Position → Option (List ℕ)
    → List (List ℕ)
files_called_in c w name p None = []
files_called_in c w name p (Some file) =
    if has_file w.files file then files_called c w file (text_of_file w.files file) name p else []

-- those of what is found besides: the symbols of a query, and what is called
abbrev pub files_besides : Client → World → Asked → List (List ℕ)
files_besides c w (in_file uri question) = []
files_besides c w (workspace_symbols query) = files_of_tags (found_by w query)
files_besides c w (rename uri p new) = []
files_besides c w (incoming name uri) = []
files_besides c w (outgoing name uri p) = files_called_in c w name p (name_of_uri c uri)
files_besides c w (folds uri) = []

-- the files that are read again: each of them once, and no more than the most
abbrev pub files_asked : Client → World → Asked → List (List ℕ)
files_asked c w asked =
    let sought = sought_by c w asked in
    fold with_file [] (files_with w sought.name sought.uses ++ files_besides c w asked)

-- ---- what is found

-- a file stays as it is that is not there, cannot be read or is empty, since another program may be
-- about to write it, and one that has its text; it is given another text
abbrev pub given_anew : Reading → Bool → Work → (name : List ℕ) → Told
given_anew gone no_text w name = record { work = w; told = None }
given_anew linked no_text w name = record { work = w; told = None }
given_anew unreadable no_text w name = record { work = w; told = None }
given_anew no_room no_text w name = given_found no_room no_text w name None
given_anew (holds []) no_text w name = record { work = w; told = None }
given_anew (holds (b ∷ bs)) no_text w name =
    if bytes_eq (b ∷ bs) (text_of_file w.world.files name) then record { work = w; told = None }
    else given no_text w name (Some (b ∷ bs))
