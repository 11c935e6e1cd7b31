-- Symbols, as the protocol names them.
use Rattle.std.specs.Prelude.{ℕ, List, codes, decimal}
use Rattle.json.specs.Json.{Json, number, string, object, no_members, member}
use Rattle.cb_wire.specs.declared.position.Range.{Range}
use Rattle.cb_wire.specs.declared.symbol.Symbol.{Symbol}
use Rattle.cb_wire.specs.declared.symbol.TreeSymbol.{TreeSymbol}
use Rattle.cb_wire.specs.Locations.{location_tree}
use Rattle.cb_wire.specs.Texts.{readable}
use Rattle.cb_wire.specs.Values.{range_tree, value_text}

-- a symbol of the flat form: its name, the number of its kind, and where it is
abbrev pub flat_symbol : List ℕ → ℕ → Json → Json
flat_symbol name kind location =
    object (member (codes "name") (string (readable name))
    (member (codes "kind") (number (decimal kind))
    (member (codes "location") location no_members)))

-- a symbol of the tree form: its name, the number of its kind, its line and the range of its name
abbrev pub tree_symbol : List ℕ → ℕ → (line range : Range) → Json
tree_symbol name kind line range =
    object (member (codes "name") (string (readable name))
    (member (codes "kind") (number (decimal kind))
    (member (codes "range") (range_tree line)
    (member (codes "selectionRange") (range_tree range) no_members))))

abbrev pub symbol_tree : Symbol → Json
symbol_tree s = flat_symbol s.name.now s.kind (location_tree s.location)

abbrev pub symbol_text : Symbol → List ℕ
symbol_text s = value_text (symbol_tree s)

abbrev pub tree_symbol_tree : TreeSymbol → Json
tree_symbol_tree s = tree_symbol s.name.now s.kind s.line s.range

abbrev pub tree_symbol_text : TreeSymbol → List ℕ
tree_symbol_text s = value_text (tree_symbol_tree s)
