-- What requests ask of the files, by their methods and parameters.
use Rattle.std.specs.Prelude.{ℕ, Bool, List, codes, Option, None, Some, Result, Ok, Err}
use Rattle.std.specs.Prelude.{option_map, if◌then◌else◌}
use Rattle.std.specs.Str.{bytes_eq}
use Rattle.json.specs.Json.{Json}
use Rattle.cb_wire.specs.declared.position.Position.{Position}
use Rattle.cb_lsp.specs.Params.{declarations_in, item_name, item_start, item_uri, new_name_in}
use Rattle.cb_lsp.specs.Params.{position_in, query_in, uri_in}
use Rattle.cb_lsp.specs.declared.question.FileQuestion.{FileQuestion}
use Rattle.cb_lsp.specs.declared.question.FileQuestion.TheVariants.{At, Completions, Symbols}
use Rattle.cb_lsp.specs.declared.question.PlaceQuestion.{PlaceQuestion}
use Rattle.cb_lsp.specs.declared.question.PlaceQuestion.TheVariants.{Definition, Hover, Highlights}
use Rattle.cb_lsp.specs.declared.question.PlaceQuestion.TheVariants.{References, PrepareRename}
use Rattle.cb_lsp.specs.declared.question.PlaceQuestion.TheVariants.{Callables, Declaration}
use Rattle.cb_lsp.specs.declared.question.Unasked.{Unasked}
use Rattle.cb_lsp.specs.declared.question.Unasked.TheVariants.{UnknownMethod, BadParameters}

-- what is asked: about the file of a URI; for the symbols of the session that a query names; how
-- the word at a position of the file of a URI is given a new name; who calls a name that stands in
-- the file of a URI; what is called by what has a name at a position there; or what is folded of the
-- file of a URI
pub data Asked : Type 0 where
  in_file : (uri : List ℕ) → FileQuestion → Asked
  workspace_symbols : (query : List ℕ) → Asked
  rename : (uri : List ℕ) → Position → (new : List ℕ) → Asked
  incoming : (name uri : List ℕ) → Asked
  outgoing : (name uri : List ℕ) → Position → Asked
  folds : (uri : List ℕ) → Asked

-- a question about what stands at a position of a file
abbrev pub at_place : PlaceQuestion → Option (List ℕ) → Option Position → Option Asked
at_place question (Some uri) (Some position) = Some (in_file uri (At position question))
at_place question _ _ = None

-- a question for the names that complete the word before a position
abbrev pub completing : Option (List ℕ) → Option Position → Option Asked
completing (Some uri) (Some position) = Some (in_file uri (Completions position))
completing _ _ = None

-- a question for the uses of what stands at a position, with the names of definitions or without
abbrev pub uses_at : Option (List ℕ) → Option Position → (declarations : Option Bool) → Option Asked
uses_at uri position None = None
uses_at uri position (Some declarations) =
    at_place (References declarations) uri position

-- a question who calls a name that stands in the file of a URI
abbrev pub calls_to : (name uri : Option (List ℕ)) → Option Asked
calls_to (Some name) (Some uri) = Some (incoming name uri)
calls_to _ _ = None

-- a question what is called by what has a name at a position of the file of a URI
abbrev pub calls_by : (name uri : Option (List ℕ)) → Option Position → Option Asked
calls_by (Some name) (Some uri) (Some position) = Some (outgoing name uri position)
calls_by _ _ _ = None

-- a question how what stands at a position is given a new name
abbrev pub rename_with : Option (List ℕ) → Option Position → (new : Option (List ℕ)) → Option Asked
rename_with (Some uri) (Some position) (Some new) = Some (rename uri position new)
rename_with _ _ _ = None

-- wrong parameters make no question
abbrev pub or_bad : Option Asked → Result Asked Unasked
or_bad None = Err BadParameters
or_bad (Some asked) = Ok asked

-- what a call asks of the files together, or of the lines of one
abbrev pub asked_of_files_by : List ℕ → Option Json → Result Asked Unasked
asked_of_files_by method params =
    if bytes_eq method (codes "workspace/symbol")
    then or_bad (option_map workspace_symbols (query_in params))
    else (if bytes_eq method (codes "textDocument/rename")
    then or_bad (rename_with (uri_in params) (position_in params) (new_name_in params))
    else (if bytes_eq method (codes "callHierarchy/incomingCalls")
    then or_bad (calls_to (item_name params) (item_uri params))
    else (if bytes_eq method (codes "callHierarchy/outgoingCalls")
    then or_bad (calls_by (item_name params) (item_uri params) (item_start params))
    else (if bytes_eq method (codes "textDocument/foldingRange")
    then or_bad (option_map folds (uri_in params))
    else Err UnknownMethod))))

-- what a call asks
abbrev pub asked_by : List ℕ → Option Json → Result Asked Unasked
asked_by method params =
    if bytes_eq method (codes "textDocument/documentSymbol")
    then or_bad (option_map (λ uri. in_file uri Symbols) (uri_in params))
    else (if bytes_eq method (codes "textDocument/definition")
    then or_bad (at_place Definition (uri_in params) (position_in params))
    else (if bytes_eq method (codes "textDocument/declaration")
    then or_bad (at_place Declaration (uri_in params) (position_in params))
    else (if bytes_eq method (codes "textDocument/hover")
    then or_bad (at_place Hover (uri_in params) (position_in params))
    else (if bytes_eq method (codes "textDocument/documentHighlight")
    then or_bad (at_place Highlights (uri_in params) (position_in params))
    else (if bytes_eq method (codes "textDocument/references")
    then or_bad (uses_at (uri_in params) (position_in params) (declarations_in params))
    else (if bytes_eq method (codes "textDocument/prepareRename")
    then or_bad (at_place PrepareRename (uri_in params) (position_in params))
    else (if bytes_eq method (codes "textDocument/prepareCallHierarchy")
    then or_bad (at_place Callables (uri_in params) (position_in params))
    else (if bytes_eq method (codes "textDocument/completion")
    then or_bad (completing (uri_in params) (position_in params))
    else asked_of_files_by method params))))))))
