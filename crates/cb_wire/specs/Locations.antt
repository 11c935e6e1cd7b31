-- Where something stands, as the protocol names it.
use Rattle.std.specs.Prelude.{ℕ, List, codes, Option, None, Some}
use Rattle.json.specs.Json.{Json, Members, number, string, object, no_members, member}
use Rattle.cb_wire.specs.declared.location.Highlight.{Highlight}
use Rattle.cb_wire.specs.declared.location.HighlightKind.{HighlightKind}
use Rattle.cb_wire.specs.declared.location.HighlightKind.TheVariants.{Text, Read, Write}
use Rattle.cb_wire.specs.declared.location.Location.{Location}
use Rattle.cb_wire.specs.declared.position.Range.{Range}
use Rattle.cb_wire.specs.Uris.{Below, uri_of}
use Rattle.cb_wire.specs.Values.{range_tree, value_text}

-- the URI of a name below a root, and a range in that file
abbrev pub location_of : Below → (name : List ℕ) → Range → Json
location_of root name range =
    object (member (codes "uri") (string (uri_of root name))
    (member (codes "range") (range_tree range) no_members))

abbrev pub location_tree : Location → Json
location_tree l = location_of l.root.now l.name.now l.range

abbrev pub location_text : Location → List ℕ
location_text l = value_text (location_tree l)

-- what is done with a name, as a number of the protocol
abbrev pub kind_digits : HighlightKind → List ℕ
kind_digits Text = codes "1"
kind_digits Read = codes "2"
kind_digits Write = codes "3"

abbrev pub kind_if : Option HighlightKind → Members
kind_if None = no_members
kind_if (Some kind) = member (codes "kind") (number (kind_digits kind)) no_members

-- a range that is marked, and what is done there, if that is known
abbrev pub highlight_of : Range → Option HighlightKind → Json
highlight_of range kind = object (member (codes "range") (range_tree range) (kind_if kind))

abbrev pub highlight_tree : Highlight → Json
highlight_tree h = highlight_of h.range h.kind

abbrev pub highlight_text : Highlight → List ℕ
highlight_text h = value_text (highlight_tree h)

-- how its text ends
abbrev pub highlight_end : Option HighlightKind → List ℕ
highlight_end None = codes "}"
highlight_end (Some Text) = codes ",\"kind\":1}"
highlight_end (Some Read) = codes ",\"kind\":2}"
highlight_end (Some Write) = codes ",\"kind\":3}"
