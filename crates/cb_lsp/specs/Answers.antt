-- The answers to questions, as values of JSON.
use Rattle.std.specs.Prelude.{ℕ, Bool, false, true, List, [], ◌∷◌, map, Option, None}
use Rattle.std.specs.Prelude.{Some, take, option_map}
use Rattle.std.specs.Prelude.{Result, Ok, Err}
use Rattle.std.specs.Prelude.{if◌then◌else◌}
use Rattle.json.specs.Json.{Json, array, null}
use Rattle.cb_desk.specs.World.{World, has_file, text_of_file}
use Rattle.cb_names.specs.Meanings.{local_at}
use Rattle.cb_names.specs.declared.space.Space.{Space}
use Rattle.cb_names.specs.Locals.{LocalName}
use Rattle.cb_names.specs.Parameters.{ParameterName}
use Rattle.cb_names.specs.declared.local.LocalUse.{LocalUse}
use Rattle.cb_scan.specs.declared.facts.Def.{Def}
use Rattle.cb_scan.specs.declared.facts.Include.{Include}
use Rattle.cb_scan.specs.declared.lex.piece.Span.{Span}
use Rattle.cb_scan.specs.lex.Tokens.{bytes_of}
use Rattle.cb_scan.specs.Profiles.{facts_in}
use Rattle.cb_scan.specs.TextFacts.{TextFacts}
use Rattle.cb_tags.specs.TagLines.{Tag}
use Rattle.cb_wire.specs.declared.position.Position.{Position}
use Rattle.cb_wire.specs.declared.units.Encoding.{Encoding}
use Rattle.cb_wire.specs.Positions.{place}
use Rattle.cb_wire.specs.Uris.{name_below, path_of}
use Rattle.cb_wire.specs.declared.reply.ErrorCode.TheVariants.{RequestFailed}
use Rattle.cb_wire.specs.Trees.{error_reply, result_reply}
use Rattle.cb_wire.specs.Values.{items_of}
use Rattle.cb_wire.specs.declared.list.TheConstants.{MOST_ELEMENTS}
use Rattle.cb_lsp.specs.Calls.{callables, incoming_calls, item_of}
use Rattle.cb_lsp.specs.Clients.{Client}
use Rattle.cb_lsp.specs.Completions.{completions_at}
use Rattle.cb_lsp.specs.Documents.{Looked, Oracle, Work}
use Rattle.cb_lsp.specs.Folds.{folds_in}
use Rattle.cb_lsp.specs.Headers.{header_at, header_files}
use Rattle.cb_lsp.specs.Highlights.{highlight}
use Rattle.cb_lsp.specs.Hovers.{hover_at_place, hover_of, hover_texts}
use Rattle.cb_lsp.specs.Locals.{definition_places, local_mark, token_place, uses_wanted}
use Rattle.cb_lsp.specs.Parameters.{parameter_there}
use Rattle.cb_lsp.specs.Places.{range_of}
use Rattle.cb_lsp.specs.Outgoing.{outgoing_calls}
use Rattle.cb_lsp.specs.Questions.{Asked, folds, in_file, incoming, outgoing, rename}
use Rattle.cb_lsp.specs.Questions.{workspace_symbols}
use Rattle.cb_lsp.specs.declared.question.FileQuestion.{FileQuestion}
use Rattle.cb_lsp.specs.declared.question.FileQuestion.TheVariants.{At, Completions, Symbols}
use Rattle.cb_lsp.specs.declared.question.PlaceQuestion.{PlaceQuestion}
use Rattle.cb_lsp.specs.declared.question.PlaceQuestion.TheVariants.{Definition, Hover, Highlights}
use Rattle.cb_lsp.specs.declared.question.PlaceQuestion.TheVariants.{References, PrepareRename}
use Rattle.cb_lsp.specs.declared.question.PlaceQuestion.TheVariants.{Callables, Declaration}
use Rattle.cb_lsp.specs.NameRenames.{renamed_at}
use Rattle.cb_lsp.specs.Renames.{Answered, Unrenamed, if_renamable, prepared}
use Rattle.cb_lsp.specs.Renames.{unrenamed_text, without_reading}
use Rattle.cb_lsp.specs.Searches.{found_by}
use Rattle.cb_lsp.specs.Symbols.{file_place, file_symbol, place_of, place_of_use}
use Rattle.cb_lsp.specs.Symbols.{session_symbol}
use Rattle.cb_lsp.specs.WordSpaces.{space_there}
use Rattle.cb_lsp.specs.WordUses.{word_marks, word_references, word_shown}
use Rattle.cb_lsp.specs.Words.{word_at}

-- a list: the first 2^48 elements, which no memory holds
abbrev pub list_of : List Json → Json
list_of js = array (items_of (take MOST_ELEMENTS js))

-- the same, or null where nothing is listed
abbrev pub some_of : List Json → Json
some_of [] = null
some_of (j ∷ js) = list_of (j ∷ js)

-- ---- of a word of a file

-- where its definitions are
abbrev pub places_of_word : Client → World → (name text : List ℕ) → Option Space
    → (declarations : Bool) → Option Span → Json
places_of_word c w name text space declarations None = list_of []
places_of_word c w name text space declarations (Some word) =
    list_of (map (place_of c w.files) (word_shown w name text space declarations word))

-- what a hover shows of a word
abbrev pub hover_over : Client → List ℕ → Span → List Tag → Json
hover_over c text word [] = null
hover_over c text word (t ∷ ts) =
    hover_of (hover_texts (t ∷ ts)) (range_of c.encoding text word.start word.end)

abbrev pub hover_at : Client → World → (name text : List ℕ) → Option Space → Option Span → Json
hover_at c w name text space None = null
hover_at c w name text space (Some word) =
    hover_over c text word (word_shown w name text space false word)

-- the uses of a word in its file, with these facts, as ranges that are marked
abbrev pub highlights_of : Encoding → World → (name text : List ℕ) → TextFacts → Option Space
    → Option Span → Json
highlights_of e w name text facts space None = list_of []
highlights_of e w name text facts space (Some word) =
    list_of (map (highlight e text) (word_marks w name text facts space word))

-- where the uses of a word are, in all files of its reach
abbrev pub references_of_word : Client → World → (name text : List ℕ) → Option Space
    → (declarations : Bool) → Option Span → Json
references_of_word c w name text space declarations None = list_of []
references_of_word c w name text space declarations (Some word) =
    list_of (map (place_of_use c w.files) (word_references w name text space word declarations))

-- the functions and macros that are shown of a word
abbrev pub callables_at : Client → World → (name text : List ℕ) → Option Space → Option Span → Json
callables_at c w name text space None = null
callables_at c w name text space (Some word) =
    some_of (map (item_of c w.files) (callables (word_shown w name text space false word)))

-- ---- at a place of a file

-- the name space of the word at a place, where a question asks for it
abbrev pub space_asked : List Def → (text : List ℕ) → (place : ℕ) → Option Span → PlaceQuestion
    → Option Space
space_asked ds text at word PrepareRename = None
space_asked ds text at word _ = space_there ds text at word

-- a question about a word, where its name has this space
abbrev pub word_answer : Client → World → (name text : List ℕ) → Option Space → Option Span
    → PlaceQuestion → Json
word_answer c w name text space word Definition =
    places_of_word c w name text space false word
word_answer c w name text space word Declaration =
    places_of_word c w name text space true word
word_answer c w name text space word Hover = hover_at c w name text space word
word_answer c w name text space word Highlights =
    highlights_of c.encoding w name text (facts_in w.profile text) space word
word_answer c w name text space word (References declarations) =
    references_of_word c w name text space declarations word
word_answer c w name text space word PrepareRename = prepared c text (if_renamable w text word)
word_answer c w name text space word Callables = callables_at c w name text space word

-- what a hover shows of a name with this definition, at a word
abbrev pub local_hover : Client → (name text : List ℕ) → Span → Option Span → Json
local_hover c name text word None = null
local_hover c name text word (Some s) =
    hover_of (hover_at_place name text s.start) (range_of c.encoding text word.start word.end)

abbrev pub local_hover_at : Client → (name text : List ℕ) → Option Span → Option Span → Json
local_hover_at c name text None definition = null
local_hover_at c name text (Some word) definition = local_hover c name text word definition

-- the range of a word that is renamed: its name has a definition
abbrev pub prepared_local : Client → (text : List ℕ) → Option Span → Option Span → Json
prepared_local c text word None = null
prepared_local c text word (Some s) = prepared c text word

-- one about a name that means something in its function alone, and about the word there
abbrev pub local_answer : Client → (name text : List ℕ) → LocalName → Option Span → PlaceQuestion
    → Json
local_answer c name text own word Definition =
    list_of (definition_places c.root c.encoding name text own.definition)
local_answer c name text own word Declaration =
    list_of (definition_places c.root c.encoding name text own.definition)
local_answer c name text own word Hover = local_hover_at c name text word own.definition
local_answer c name text own word Highlights =
    list_of (map (local_mark c.encoding text) own.uses)
local_answer c name text own word (References declarations) =
    list_of (map (λ (u : LocalUse). token_place c.root c.encoding name text u.name)
    (uses_wanted declarations own.uses))
local_answer c name text own word PrepareRename = prepared_local c text word own.definition
local_answer c name text own word Callables = null

-- one about a name that may mean something in its function alone
abbrev pub name_answer : Client → World → (name text : List ℕ) → Option LocalName → Option Space
    → Option Span → PlaceQuestion → Json
name_answer c w name text None space word question =
    word_answer c w name text space word question
name_answer c w name text (Some own) space word question =
    local_answer c name text own word question

-- one about a name at a place of a file with these definitions: a parameter of a macro, or another one
abbrev pub named_answer : Client → World → (name text : List ℕ) → List Def → (at : ℕ)
    → Option ParameterName → PlaceQuestion → Json
named_answer c w name text ds at (Some own) question =
    local_answer c name text own.name (word_at text at) question
named_answer c w name text ds at None question =
    let word = word_at text at in
    name_answer c w name text (local_at text at) (space_asked ds text at word question) word question

-- the header at a place, where a definition or a declaration is asked for
abbrev pub header_asked : List Include → (place : ℕ) → PlaceQuestion → Option Span
header_asked is at Definition = header_at is at
header_asked is at Declaration = header_at is at
header_asked is at _ = None

-- one about what stands at a place: a header, of which the files are told that it means, or a name
abbrev pub place_answer : Client → World → (name text : List ℕ) → (place : ℕ) → Option Span
    → PlaceQuestion → Json
place_answer c w name text at (Some header) question =
    list_of (map (file_place c) (header_files w.files name (bytes_of text header)))
place_answer c w name text at None question =
    let ds = (facts_in w.profile text).defs in
    named_answer c w name text ds at (parameter_there ds text at) question

-- ---- of a file

-- a question about the file of this name and text
abbrev pub answer_in : Client → World → (name text : List ℕ) → FileQuestion → Json
answer_in c w name text Symbols =
    list_of (map (file_symbol c name text) (facts_in w.profile text).defs)
answer_in c w name text (At p question) =
    let at = place c.encoding text p in
    place_answer c w name text at (header_asked (facts_in w.profile text).includes at question)
    question
answer_in c w name text (Completions p) =
    completions_at w text (place c.encoding text p)

-- the same about a file of this name, if there is one
abbrev pub answer_named : Client → World → FileQuestion → Option (List ℕ) → Json
answer_named c w question None = null
answer_named c w question (Some name) =
    if has_file w.files name then answer_in c w name (text_of_file w.files name) question else null

-- who calls a name that stands in the file of this name, if there is one
abbrev pub incoming_named : Client → World → (name : List ℕ) → Option (List ℕ) → Json
incoming_named c w name None = null
incoming_named c w name (Some file) =
    if has_file w.files file then list_of (incoming_calls c w name file) else null

-- what is called by what has a name at a position of the file of this name, if there is one
abbrev pub outgoing_named : Client → World → (name : List ℕ) → Position → Option (List ℕ) → Json
outgoing_named c w name p None = null
outgoing_named c w name p (Some file) =
    if has_file w.files file
    then list_of (outgoing_calls c w file (text_of_file w.files file) name p) else null

-- what is folded of the file of this name, if there is one
abbrev pub folds_named : World → Option (List ℕ) → Json
folds_named w None = null
folds_named w (Some file) =
    if has_file w.files file
    then list_of (folds_in w.profile.rules (text_of_file w.files file)) else null

-- the name of the file of a URI
abbrev pub name_of_uri : Client → List ℕ → Option (List ℕ)
name_of_uri c uri = option_map (name_below c.root.path) (path_of uri)

-- the answer to a question; a name that is asked to be changed may have to stay
abbrev pub answer_to : Oracle → Client → Work → Asked → Answered
answer_to o c w (in_file uri question) =
    without_reading (Ok (answer_named c w.world question (name_of_uri c uri)))
answer_to o c w (workspace_symbols query) =
    without_reading (Ok (array (items_of (map (session_symbol c w.world.files)
    (found_by w.world query)))))
answer_to o c w (rename uri position new) = renamed_at o c w position new (name_of_uri c uri)
answer_to o c w (incoming name uri) =
    without_reading (Ok (incoming_named c w.world name (name_of_uri c uri)))
answer_to o c w (outgoing name uri p) =
    without_reading (Ok (outgoing_named c w.world name p (name_of_uri c uri)))
answer_to o c w (folds uri) = without_reading (Ok (folds_named w.world (name_of_uri c uri)))

-- the reply with an answer
abbrev pub answer_reply : (id : Json) → Result Json Unrenamed → Json
answer_reply id (Ok answer) = result_reply id answer
answer_reply id (Err why) = error_reply id RequestFailed (unrenamed_text why)

-- a reply, and what was read for it
pub record Replied : Type 0 where
  pub message : Json
  pub read : List Looked

abbrev pub reply_with : (id : Json) → Answered → Replied
reply_with id a = record { message = answer_reply id a.answer; read = a.read }
