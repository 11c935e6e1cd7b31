-- Where definitions are, and what they are as symbols of the protocol.
use Rattle.std.specs.Prelude.{ℕ, ◌+◌, Bool, true, false, List, length}
use Rattle.json.specs.Json.{Json}
use Rattle.cb_desk.specs.World.{File, text_of_file}
use Rattle.cb_index.specs.Rows.{Fact}
use Rattle.cb_scan.specs.declared.facts.Def.{Def}
use Rattle.cb_scan.specs.declared.facts.Kind.{Kind}
use Rattle.cb_scan.specs.declared.facts.Kind.TheVariants as kind
use Rattle.cb_scan.specs.lex.Tokens.{bytes_of}
use Rattle.cb_tags.specs.TagLines.{Tag}
use Rattle.cb_wire.specs.Locations.{location_of}
use Rattle.cb_wire.specs.Symbols.{flat_symbol, tree_symbol}
use Rattle.cb_lsp.specs.Clients.{Client}
use Rattle.cb_lsp.specs.Places.{line_range, range_of, start_of_file}

-- the number of a kind (`SymbolKind`): Function, Constant, Class, Struct, Enum, EnumMember, Field,
-- Variable
abbrev pub kind_number : Kind → ℕ
kind_number kind.Function = 12
kind_number kind.Macro = 14
kind_number kind.Typedef = 5
kind_number kind.Struct = 23
kind_number kind.Union = 23
kind_number kind.Enum = 10
kind_number kind.Enumerator = 22
kind_number kind.Member = 8
kind_number kind.Variable = 13
kind_number kind.External = 13
kind_number kind.Prototype = 12

-- where a file is: its start
abbrev pub file_place : Client → List ℕ → Json
file_place c name = location_of c.root name start_of_file

-- where a name is that begins at a place of a file
abbrev pub name_place : Client → List File → (file name : List ℕ) → (place : ℕ) → Json
name_place c files file name place =
    location_of c.root file
    (range_of c.encoding (text_of_file files file) place (place + length name))

-- where the name of a definition is
abbrev pub place_of : Client → List File → Tag → Json
place_of c files t = name_place c files t.file t.name t.place

-- where the name of a use is
abbrev pub place_of_use : Client → List File → Fact → Json
place_of_use c files u = name_place c files u.file u.name u.place

-- a definition of the session
abbrev pub session_symbol : Client → List File → Tag → Json
session_symbol c files t = flat_symbol t.name (kind_number t.kind) (place_of c files t)

-- a definition of a file with this name and text, in the flat form or as a tree
abbrev pub file_symbol_as : Bool → Client → (file text : List ℕ) → Def → Json
file_symbol_as false c file text d =
    flat_symbol (bytes_of text d.name) (kind_number d.kind)
    (location_of c.root file (range_of c.encoding text d.name.start d.name.end))
file_symbol_as true c file text d =
    tree_symbol (bytes_of text d.name) (kind_number d.kind)
    (line_range c.encoding text d.name.start)
    (range_of c.encoding text d.name.start d.name.end)

abbrev pub file_symbol : Client → (file text : List ℕ) → Def → Json
file_symbol c = file_symbol_as c.tree c
