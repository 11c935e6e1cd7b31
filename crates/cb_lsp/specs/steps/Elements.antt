-- The elements of lists that are written.
use Rattle.std.specs.Prelude.{ℕ, Bool, ◌++◌, List, [], ◌∷◌, filter, map}
use Rattle.std.specs.Prelude.{Option, None, Some, true, false}
use Rattle.std.specs.Borrow.{Bor}
use Rattle.json.specs.Print.{escape}
use Rattle.cb_index.specs.steps.Left.{tag_of_spot}
use Rattle.cb_names.specs.declared.local.LocalUse.{LocalUse}
use Rattle.cb_tags.specs.TagLines.{Tag, tag_of}
use Rattle.cb_wire.specs.Values.{value_text}
use Rattle.cb_lsp.specs.Calls.{item_of}
use Rattle.cb_lsp.specs.Clients.{Client}
use Rattle.cb_lsp.specs.Folds.{folded}
use Rattle.cb_lsp.specs.Headers.{files_named}
use Rattle.cb_lsp.specs.Highlights.{highlight}
use Rattle.cb_lsp.specs.Hovers.{hover_line, hover_text}
use Rattle.cb_lsp.specs.Locals.{local_mark, token_place, uses_wanted}
use Rattle.cb_lsp.specs.Searches.{is_like}
use Rattle.cb_lsp.specs.Symbols.{file_place, file_symbol_as, place_of, place_of_use}
use Rattle.cb_lsp.specs.Symbols.{session_symbol}
use Rattle.cb_lsp.specs.declared.calls.CallItems.{CallItems}
use Rattle.cb_lsp.specs.declared.folds.Folds.{Folds}
use Rattle.cb_lsp.specs.declared.highlights.Highlights.{Highlights}
use Rattle.cb_lsp.specs.declared.hover.Hover.{Hover}
use Rattle.cb_lsp.specs.declared.hover.Hovers.{Hovers}
use Rattle.cb_lsp.specs.declared.local.LocalMarks.{LocalMarks}
use Rattle.cb_lsp.specs.declared.local.LocalUses.{LocalUses}
use Rattle.cb_lsp.specs.declared.spots.UsePlaces.{UsePlaces}
use Rattle.cb_lsp.specs.declared.symbols.FileDefs.{FileDefs}
use Rattle.cb_lsp.specs.declared.symbols.FlatSymbols.{FlatSymbols}
use Rattle.cb_lsp.specs.declared.symbols.FoundTags.{FoundTags}
use Rattle.cb_lsp.specs.declared.symbols.HeaderFiles.{HeaderFiles}
use Rattle.cb_lsp.specs.declared.symbols.OneFile.{OneFile}
use Rattle.cb_lsp.specs.declared.symbols.Places.{Places}
use Rattle.cb_lsp.specs.declared.symbols.SessionSymbols.{SessionSymbols}
use Rattle.cb_lsp.specs.declared.symbols.TreeSymbols.{TreeSymbols}
use Rattle.cb_lsp.specs.steps.Located.{client_in}
use Rattle.cb_lsp.specs.steps.Same.{spots_left}

-- what a client takes of the definitions of a file
abbrev pub client_of_defs : FileDefs → Client
client_of_defs d = record {
  root = d.root.now;
  encoding = d.positions.encoding;
  tree = false;
}

-- a definition as a hover shows it, inside a string of JSON
abbrev pub hover_element : Hover → List ℕ
hover_element h = escape (hover_line h.file.now h.line h.text.now)

-- ---- those that are left

abbrev pub defs_left : (tree : Bool) → FileDefs → List (List ℕ)
defs_left tree s =
    map (λ d. value_text (file_symbol_as tree (client_of_defs s) s.file.now s.positions.text d))
    s.rest.now

abbrev pub flat_left : FlatSymbols → List (List ℕ)
flat_left s = defs_left false s.defs

abbrev pub tree_left : TreeSymbols → List (List ℕ)
tree_left s = defs_left true s.defs

abbrev pub places_left : Places → List (List ℕ)
places_left p =
    map (λ t. value_text (place_of p.places.client p.places.files t)) (map tag_of p.rest.now)

abbrev pub uses_left : UsePlaces → List (List ℕ)
uses_left p =
    map (λ u. value_text (place_of_use p.places.client p.places.files u)) (spots_left p.rest)

abbrev pub session_left : SessionSymbols → List (List ℕ)
session_left s =
    map (λ t. value_text (session_symbol s.places.client s.places.files t))
    (s.named ++ map tag_of_spot s.kept.now)

abbrev pub found_left : FoundTags → List Tag
found_left f = f.named ++ filter (is_like f.query.now) f.rest

abbrev pub files_left : HeaderFiles → List (List ℕ)
files_left h =
    map (λ n. value_text (file_place (client_in h.forms) n)) (files_named h.header.now h.rest)

abbrev pub file_if : Client → Option (Bor (List ℕ)) → List (List ℕ)
file_if c None = []
file_if c (Some name) = value_text (file_place c name.now) ∷ []

abbrev pub file_left : OneFile → List (List ℕ)
file_left f = file_if (client_in f.forms) f.rest

abbrev pub highlights_left : Highlights → List (List ℕ)
highlights_left h =
    map (λ u. value_text (highlight h.positions.encoding h.positions.text u)) h.rest.now

abbrev pub local_marks_left : LocalMarks → List (List ℕ)
local_marks_left m =
    map (λ u. value_text (local_mark m.positions.encoding m.positions.text u)) m.rest.now

abbrev pub local_uses_left : LocalUses → List (List ℕ)
local_uses_left s =
    map (λ (u : LocalUse). value_text (token_place s.root.now s.positions.encoding s.file.now
    s.positions.text u.name)) (uses_wanted s.declarations s.rest.now)

abbrev pub folds_left : Folds → List (List ℕ)
folds_left f = map value_text (folded f.source.now f.rest.now)

abbrev pub hovers_left : Hovers → List (List ℕ)
hovers_left h = map (λ t. escape (hover_text t)) (map tag_of h.rest.now)

abbrev pub items_left : CallItems → List (List ℕ)
items_left i =
    map (λ t. value_text (item_of i.places.client i.places.files t)) (map tag_of i.rest.now)
