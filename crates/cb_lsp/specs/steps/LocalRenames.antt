-- How the edits of a local are told, one after another.
use Rattle.std.specs.Prelude.{ℕ, Bool, true, false, List, [], ◌∷◌, map, Option, None, Some}
use Rattle.cb_names.specs.declared.local.LocalUse.{LocalUse}
use Rattle.cb_scan.specs.declared.lex.piece.Span.{Span}
use Rattle.cb_wire.specs.Edits.{edit_of, file_texts}
use Rattle.cb_wire.specs.Uris.{uri_of}
use Rattle.cb_lsp.specs.Places.{range_of}
use Rattle.cb_lsp.specs.declared.local_rename.LocalEdits.{LocalEdits}

-- the first of some spans
abbrev pub first_of : List Span → Option Span
first_of [] = None
first_of (s ∷ ss) = Some s

-- no use is left
abbrev pub ends : List LocalUse → Bool
ends [] = true
ends (u ∷ us) = false

-- the edits that are left
abbrev pub local_edits_left : LocalEdits → List (List ℕ)
local_edits_left e =
    file_texts e.opens (uri_of e.root.now e.file.now)
    (map (λ (u : LocalUse). edit_of (range_of e.positions.encoding e.positions.text
    u.name.start u.name.end) e.new_name.now) e.rest.now)
