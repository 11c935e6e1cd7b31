-- Values of the protocol, and their text.
use Rattle.std.specs.Prelude.{◌<◌, ◌^◌, ℕ, List, [], ◌∷◌, codes, decimal}
use Rattle.json.specs.Json.{Json, number, object, no_members, member, Items, no_items, item}
use Rattle.json.specs.Print.{print}
use Rattle.json.specs.Tree.{json_tokens}
use Rattle.cb_wire.specs.declared.position.Position.{Position}
use Rattle.cb_wire.specs.declared.position.Range.{Range}

-- the text of a value: no blank, and the shortest escapes
abbrev pub value_text : Json → List ℕ
value_text j = print (json_tokens j)

-- the elements of an array
abbrev pub items_of : List Json → Items
items_of [] = no_items
items_of (j ∷ js) = item j (items_of js)

abbrev pub position_tree : Position → Json
position_tree p =
    object (member (codes "line") (number (decimal p.line))
    (member (codes "character") (number (decimal p.character)) no_members))

abbrev pub range_tree : Range → Json
range_tree r =
    object (member (codes "start") (position_tree r.start)
    (member (codes "end") (position_tree r.end) no_members))

-- each number of a range fits a word
abbrev pub FitsWords : Range → Type 0
FitsWords r =
    (r.start.line < 2 ^ 64) × (r.start.character < 2 ^ 64)
    × (r.end.line < 2 ^ 64) × (r.end.character < 2 ^ 64)
