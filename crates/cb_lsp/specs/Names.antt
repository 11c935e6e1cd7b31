-- The names of the files of a server.
use Rattle.std.specs.Prelude.{◌&&◌, ℕ, Bool, codes, not, List}
use Rattle.std.specs.List.{list_all}
use Rattle.std.specs.Str.{bytes_eq}
use Rattle.cb_tags.specs.Names.{is_file_name}
use Rattle.cb_wire.specs.Uris.{leads_on, segments, steps_back}

-- a file of a server has a file name that does not step back
abbrev pub is_document_name : List ℕ → Bool
is_document_name name = is_file_name name && not (steps_back name)

-- a segment that leads further down: it is not empty, and not one or two dots
abbrev pub leads_down : List ℕ → Bool
leads_down segment = leads_on segment && not (bytes_eq segment (codes ".."))

-- each segment of the name of a file below the root leads down, so it has no other name there
abbrev pub is_outside : List ℕ → Bool
is_outside name = not (list_all leads_down (segments name))
