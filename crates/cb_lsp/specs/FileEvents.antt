-- File events that come again.
use Rattle.std.specs.Prelude.{ℕ, zero, suc, Bool, true, false, ◌&&◌, ◌||◌, List, codes, Option, None}
use Rattle.std.specs.Prelude.{Some, if◌then◌else◌}
use Rattle.std.specs.Option.{option_map_or}
use Rattle.std.specs.Str.{bytes_eq}
use Rattle.json.specs.Find.{get}
use Rattle.json.specs.Json.{Json, Items, no_items, item, null}
use Rattle.cb_lsp.specs.Params.{event_of, text_in}
use Rattle.cb_lsp.specs.declared.notice.FileEvent.{FileEvent}
use Rattle.cb_lsp.specs.declared.notice.FileEvent.TheVariants.{Written, Gone}

abbrev pub is_same_kind : FileEvent → FileEvent → Bool
is_same_kind Written Written = true
is_same_kind Gone Gone = true
is_same_kind Written Gone = false
is_same_kind Gone Written = false

-- the URI of an event
abbrev pub uri_of_event : Json → Option (List ℕ)
uri_of_event event = text_in (get (codes "uri") event)

-- an event says this of the file of this URI
abbrev pub says : FileEvent → (uri : List ℕ) → Json → Bool
says kind uri event =
    option_map_or (is_same_kind kind) (event_of event) false
    && option_map_or (bytes_eq uri) (uri_of_event event) false

-- one of so many events does
unfoldable pub is_said : ℕ → FileEvent → (uri : List ℕ) → Items → Bool
is_said zero kind uri events = false
is_said (suc n) kind uri no_items = false
is_said (suc n) kind uri (item event more) = says kind uri event || is_said n kind uri more

-- an event comes again: one of the next 64 says the same of its file
abbrev pub is_said_again : Option FileEvent → Option (List ℕ) → Items → Bool
is_said_again (Some kind) (Some uri) more = is_said 64 kind uri more
is_said_again (Some kind) None more = false
is_said_again None uri more = false

abbrev pub comes_again : Json → Items → Bool
comes_again event more = is_said_again (event_of event) (uri_of_event event) more

-- an event that counts; in the place of another one stands none
abbrev pub event_if : (again : Bool) → Json → Json
event_if again event = if again then null else event

-- events, those that come again aside
unfoldable pub last_events : Items → Items
last_events no_items = no_items
last_events (item event more) = item (event_if (comes_again event more) event) (last_events more)
