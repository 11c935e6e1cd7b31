-- What an editor gets of a name that means something in its function alone.
use Rattle.std.specs.Prelude.{ℕ, Bool, ◌||◌, not, List, [], ◌∷◌, filter, Option, None, Some}
use Rattle.json.specs.Json.{Json}
use Rattle.cb_names.specs.declared.local.Access.{Access}
use Rattle.cb_names.specs.declared.local.Access.TheVariants.{Named, Address}
use Rattle.cb_names.specs.declared.local.Access.TheVariants as access
use Rattle.cb_names.specs.declared.local.LocalUse.{LocalUse}
use Rattle.cb_scan.specs.declared.lex.piece.Span.{Span}
use Rattle.cb_wire.specs.declared.location.HighlightKind.{HighlightKind}
use Rattle.cb_wire.specs.declared.location.HighlightKind.TheVariants.{Text, Read, Write}
use Rattle.cb_wire.specs.declared.units.Encoding.{Encoding}
use Rattle.cb_wire.specs.Locations.{highlight_of, location_of}
use Rattle.cb_wire.specs.Uris.{Below}
use Rattle.cb_lsp.specs.Places.{range_of}

-- where a token of a file of this name and text is
abbrev pub token_place : Below → Encoding → (name text : List ℕ) → Span → Json
token_place root e name text s = location_of root name (range_of e text s.start s.end)

-- where the name is defined: one place, or none
abbrev pub definition_places : Below → Encoding → (name text : List ℕ) → Option Span → List Json
definition_places root e name text None = []
definition_places root e name text (Some s) = token_place root e name text s ∷ []

-- of its uses those that are wanted: all, or those that do not declare it
abbrev pub uses_wanted : (declarations : Bool) → List LocalUse → List LocalUse
uses_wanted declarations us = filter (λ (u : LocalUse). declarations || not u.declares) us

-- what is done with it, as an editor marks that
abbrev pub mark_kind : Access → HighlightKind
mark_kind Named = Text
mark_kind access.Read = Read
mark_kind access.Written = Write
mark_kind Address = Write

-- the range of a use, which is marked
abbrev pub local_mark : Encoding → (text : List ℕ) → LocalUse → Json
local_mark e text u =
    highlight_of (range_of e text u.name.start u.name.end) (Some (mark_kind u.access))
