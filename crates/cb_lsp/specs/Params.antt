-- The parameters of requests and notifications.
use Rattle.std.specs.Prelude.{ℕ, Bool, true, false, ◌&&◌, ◌||◌, ◌==◌, ◌^◌, nat_lt, List, [], ◌∷◌}
use Rattle.std.specs.Prelude.{codes, length, Option, None, Some, option_and_then, if◌then◌else◌}
use Rattle.std.specs.Option.{option_map}
use Rattle.std.specs.Str.{all_ascii_digits, bytes_eq}
use Rattle.std.specs.Str.Parse.{digits_value, without_leading_plus}
use Rattle.json.specs.Find.{as_array, as_bool, as_number, as_str, at, get}
use Rattle.json.specs.Json.{Json, Items, no_items, item, null}
use Rattle.cb_wire.specs.declared.position.Position.{Position}
use Rattle.cb_wire.specs.declared.position.Range.{Range}
use Rattle.cb_lsp.specs.Changes.{TextChange, or_else, part, whole}
use Rattle.cb_lsp.specs.declared.notice.FileEvent.{FileEvent}
use Rattle.cb_lsp.specs.declared.notice.FileEvent.TheVariants.{Written, Gone}

-- a member of a value, if both are there
abbrev pub member_of : List ℕ → Option Json → Option Json
member_of name value = option_and_then (get name) value

-- the text of a value, if it is one
abbrev pub text_in : Option Json → Option (List ℕ)
text_in value = option_and_then as_str value

-- one digit or more, and their number is below 2^64
abbrev pub are_digits : List ℕ → Bool
are_digits ds =
    nat_lt 0 (length ds) && all_ascii_digits ds && nat_lt (digits_value 10 ds) (2 ^ 64)

abbrev pub natural_of : List ℕ → Option ℕ
natural_of digits = if are_digits digits then Some (digits_value 10 digits) else None

-- the number of a value, if it is an integer from 0 up. A number of JSON begins with no `+`
abbrev pub number_in : Option Json → Option ℕ
number_in value =
    option_and_then (λ s. natural_of (without_leading_plus s)) (option_and_then as_number value)

-- the items of a value, if it is a list
abbrev pub items_in : Option Json → Option Items
items_in value = option_and_then as_array value

-- the first item of a value, if it is a list and has one
abbrev pub first_of : Option Json → Option Json
first_of value = option_and_then (at 0) value

-- the truth value of a value, if it is one
abbrev pub bool_in : Option Json → Option Bool
bool_in value = option_and_then as_bool value

-- a value is `true`
abbrev pub is_yes : Option Bool → Bool
is_yes None = false
is_yes (Some b) = b

abbrev pub is_true : Option Json → Bool
is_true value = is_yes (bool_in value)

-- ---- of documents

-- `textDocument.uri` and `textDocument.text`
abbrev pub uri_in : Option Json → Option (List ℕ)
uri_in params = text_in (member_of (codes "uri") (member_of (codes "textDocument") params))

abbrev pub document_text : Option Json → Option (List ℕ)
document_text params = text_in (member_of (codes "text") (member_of (codes "textDocument") params))

-- `query`
abbrev pub query_in : Option Json → Option (List ℕ)
query_in params = text_in (member_of (codes "query") params)

-- a line and a character
abbrev pub position_with : Option ℕ → Option ℕ → Option Position
position_with (Some line) (Some character) = Some (record { line = line; character = character })
position_with _ _ = None

abbrev pub position_at : Option Json → Option Position
position_at value =
    position_with (number_in (member_of (codes "line") value))
    (number_in (member_of (codes "character") value))

-- `position`
abbrev pub position_in : Option Json → Option Position
position_in params = position_at (member_of (codes "position") params)

-- `context.includeDeclaration`
abbrev pub declarations_in : Option Json → Option Bool
declarations_in params =
    bool_in (member_of (codes "includeDeclaration") (member_of (codes "context") params))

-- `item.name` and `item.uri`
abbrev pub item_name : Option Json → Option (List ℕ)
item_name params = text_in (member_of (codes "name") (member_of (codes "item") params))

abbrev pub item_uri : Option Json → Option (List ℕ)
item_uri params = text_in (member_of (codes "uri") (member_of (codes "item") params))

-- `item.selectionRange.start`
abbrev pub item_start : Option Json → Option Position
item_start params =
    position_at (member_of (codes "start")
    (member_of (codes "selectionRange") (member_of (codes "item") params)))

-- `newName`
abbrev pub new_name_in : Option Json → Option (List ℕ)
new_name_in params = text_in (member_of (codes "newName") params)

-- ---- of changes

-- a start and an end
abbrev pub range_with : Option Position → Option Position → Option Range
range_with (Some start) (Some end) = Some (record { start = start; end = end })
range_with _ _ = None

abbrev pub range_at : Option Json → Option Range
range_at value =
    range_with (position_at (member_of (codes "start") value))
    (position_at (member_of (codes "end") value))

-- a value that is there and is not null
abbrev pub is_null : Json → Bool
is_null null = true
is_null _ = false

abbrev pub unless_null : Option Json → Option Json
unless_null None = None
unless_null (Some value) = if is_null value then None else Some value

-- a change to a text, in a range or as a whole
abbrev pub part_with : Option Range → List ℕ → Option TextChange
part_with range new = option_map (λ r. part r new) range

abbrev pub change_with : (range : Option Json) → List ℕ → Option TextChange
change_with None new = Some (whole new)
change_with (Some range) new = part_with (range_at (Some range)) new

-- a change: its text, and its range, unless that is null
abbrev pub change_of : Json → Option TextChange
change_of change =
    option_and_then (change_with (unless_null (get (codes "range") change)))
    (text_in (get (codes "text") change))

-- each of some values is a change
abbrev pub is_change : Option TextChange → Bool
is_change None = false
is_change (Some change) = true

unfoldable pub are_changes : Items → Bool
are_changes no_items = true
are_changes (item j more) = is_change (change_of j) && are_changes more

-- the changes among some values
abbrev pub with_change : Option TextChange → List TextChange → List TextChange
with_change None cs = cs
with_change (Some c) cs = c ∷ cs

unfoldable pub changes_among : Items → List TextChange
changes_among no_items = []
changes_among (item j more) = with_change (change_of j) (changes_among more)

-- `contentChanges`, where each is a change
abbrev pub changes_if : Items → Option Items
changes_if items = if are_changes items then Some items else None

abbrev pub changes_in : Option Json → Option (List TextChange)
changes_in params =
    option_map changes_among
    (option_and_then changes_if (items_in (member_of (codes "contentChanges") params)))

-- ---- of the client

abbrev pub is_same : List ℕ → Option (List ℕ) → Bool
is_same text None = false
is_same text (Some other) = bytes_eq other text

-- a value is this text
abbrev pub is_text : List ℕ → Json → Bool
is_text text value = is_same text (as_str value)

-- one of these is a text
unfoldable pub has_text : List ℕ → Items → Bool
has_text text no_items = false
has_text text (item j more) = is_text text j || has_text text more

-- `capabilities.general.positionEncodings` has `utf-8`
abbrev pub has_text_if : List ℕ → Option Items → Bool
has_text_if text None = false
has_text_if text (Some js) = has_text text js

abbrev pub takes_utf8 : Option Json → Bool
takes_utf8 params =
    has_text_if (codes "utf-8") (items_in (member_of (codes "positionEncodings")
    (member_of (codes "general") (member_of (codes "capabilities") params))))

-- `capabilities.textDocument.documentSymbol.hierarchicalDocumentSymbolSupport` is true
abbrev pub takes_trees : Option Json → Bool
takes_trees params =
    is_true (member_of (codes "hierarchicalDocumentSymbolSupport")
    (member_of (codes "documentSymbol") (member_of (codes "textDocument")
    (member_of (codes "capabilities") params))))

-- `capabilities.textDocument.rename.prepareSupport` is true
abbrev pub prepares_renames : Option Json → Bool
prepares_renames params =
    is_true (member_of (codes "prepareSupport") (member_of (codes "rename")
    (member_of (codes "textDocument") (member_of (codes "capabilities") params))))

-- `workspaceFolders[0].uri`, or else `rootUri`
abbrev pub root_in : Option Json → Option (List ℕ)
root_in params =
    or_else (text_in (member_of (codes "uri")
    (first_of (member_of (codes "workspaceFolders") params))))
    (text_in (member_of (codes "rootUri") params))

-- `capabilities.workspace.didChangeWatchedFiles.dynamicRegistration` is true
abbrev pub takes_watchers : Option Json → Bool
takes_watchers params =
    is_true (member_of (codes "dynamicRegistration") (member_of (codes "didChangeWatchedFiles")
    (member_of (codes "workspace") (member_of (codes "capabilities") params))))

-- ---- of file events

-- what an event tells: a file was made (1), changed (2) or deleted (3)
abbrev pub event_numbered : ℕ → Option FileEvent
event_numbered n =
    if n == 3 then Some Gone else (if n == 1 || n == 2 then Some Written else None)

abbrev pub event_of : Json → Option FileEvent
event_of event = option_and_then event_numbered (number_in (get (codes "type") event))
