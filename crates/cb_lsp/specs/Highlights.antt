-- The uses of a word in a file, which an editor marks.
use Rattle.std.specs.Prelude.{ℕ, List, None}
use Rattle.json.specs.Json.{Json}
use Rattle.cb_scan.specs.declared.facts.Use.{Use}
use Rattle.cb_wire.specs.declared.units.Encoding.{Encoding}
use Rattle.cb_wire.specs.Locations.{highlight_of}
use Rattle.cb_lsp.specs.Places.{range_of}

-- the range of a use
abbrev pub highlight : Encoding → (text : List ℕ) → Use → Json
highlight e text u = highlight_of (range_of e text u.name.start u.name.end) None
