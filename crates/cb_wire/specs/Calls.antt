-- Functions and macros that call or are called, as the protocol names them.
use Rattle.std.specs.Prelude.{ℕ, ◌++◌, List, codes, decimal, map}
use Rattle.json.specs.Json.{Json, array, number, string, object, no_members, member}
use Rattle.cb_wire.specs.declared.calls.CallItem.{CallItem}
use Rattle.cb_wire.specs.declared.calls.Side.{Side}
use Rattle.cb_wire.specs.declared.calls.Side.TheVariants.{From, To}
use Rattle.cb_wire.specs.declared.position.Range.{Range}
use Rattle.cb_wire.specs.Lists.{joined}
use Rattle.cb_wire.specs.Texts.{readable}
use Rattle.cb_wire.specs.Uris.{Below, uri_of}
use Rattle.cb_wire.specs.Values.{items_of, range_tree, value_text}

-- a function or macro: its name, the number of its kind, its file below a root, its line and the
-- range of its name
abbrev pub call_item : (name : List ℕ) → (kind : ℕ) → Below → (file : List ℕ)
    → (line range : Range) → Json
call_item name kind root file line range =
    object (member (codes "name") (string (readable name))
    (member (codes "kind") (number (decimal kind))
    (member (codes "uri") (string (uri_of root file))
    (member (codes "range") (range_tree line)
    (member (codes "selectionRange") (range_tree range) no_members)))))

abbrev pub call_item_tree : CallItem → Json
call_item_tree i =
    call_item i.name.now i.kind i.location.root.now i.location.name.now i.line i.location.range

abbrev pub call_item_text : CallItem → List ℕ
call_item_text i = value_text (call_item_tree i)

-- ---- calls that have one end in common

-- how the other end is named
abbrev pub side_name : Side → List ℕ
side_name From = codes "from"
side_name To = codes "to"

abbrev pub side_front : Side → List ℕ
side_front side = codes "{\"" ++ (side_name side ++ codes "\":")

-- the other end, and the ranges of the names that are called
abbrev pub calls_of : (side : List ℕ) → (item : Json) → List Range → Json
calls_of side item ranges =
    object (member side item
    (member (codes "fromRanges") (array (items_of (map range_tree ranges))) no_members))

abbrev pub range_text : Range → List ℕ
range_text r = value_text (range_tree r)

-- ranges with a comma between two
abbrev pub ranges_text : List Range → List ℕ
ranges_text rs = joined (codes ",") (map range_text rs)
