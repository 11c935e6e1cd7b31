-- The text of a message that is written.
use Rattle.std.specs.Prelude.{◌++◌, ℕ, zero, suc, List, [], ◌∷◌, length, take, drop}
use Rattle.std.specs.Prelude.{codes, decimal, Option, Some, None}
use Rattle.std.specs.List.{flat_map}
use Rattle.bstr.specs.Utf8.{decoded}
use Rattle.json.specs.Print.{escape, quoted}
use Rattle.cb_wire.specs.declared.part.Part.{Part}
use Rattle.cb_wire.specs.declared.part.Part.TheVariants.{Raw, Escaped, Source, Id as OfId}
use Rattle.cb_wire.specs.declared.part.Part.TheVariants.{Number as OfNumber, Uri, Range as OfRange}
use Rattle.cb_wire.specs.declared.part.Part.TheVariants.{Path}
use Rattle.cb_wire.specs.declared.message.Id.{Id}
use Rattle.cb_wire.specs.declared.message.Id.TheVariants.{Number, Text}
use Rattle.cb_wire.specs.Uris.{escaped, uri_of}
use Rattle.cb_wire.specs.Values.{range_tree, value_text}

-- the well-formed sequence at the front of some bytes; where none stands there, U+FFFD for a byte
abbrev pub sequence_text : Option ℕ → ℕ → List ℕ → List ℕ
sequence_text None size bytes = 0xEF ∷ 0xBF ∷ 0xBD ∷ []
sequence_text (Some c) size bytes = take size bytes

abbrev pub sequence_size : Option ℕ → ℕ → ℕ
sequence_size None size = 1
sequence_size (Some c) size = size

-- bytes as UTF-8: each that belongs to no well-formed sequence is U+FFFD. Fuel is at least their
-- number
unfoldable pub readable_from : ℕ → List ℕ → List ℕ
readable_from zero bytes = []
readable_from (suc fuel) [] = []
readable_from (suc fuel) (b ∷ bs) =
    let found = decoded (b ∷ bs) in
    sequence_text found.char found.size (b ∷ bs)
    ++ readable_from fuel (drop (sequence_size found.char found.size) (b ∷ bs))

abbrev pub readable : List ℕ → List ℕ
readable bytes = readable_from (length bytes) bytes

-- the id of a request as it is written
abbrev pub id_text : Id → List ℕ
id_text (Number text) = text.now
id_text (Text text) = quoted text.now

-- a part as it is written
abbrev pub part_text : Part → List ℕ
part_text (Raw text) = text.now
part_text (Escaped text) = escape text.now
part_text (Source bytes) = escape (readable bytes.now)
part_text (OfId id) = id_text id
part_text (OfNumber number) = decimal number
part_text (Uri root name) = escape (uri_of root.now name.now)
part_text (OfRange range) = value_text (range_tree range)
part_text (Path path) = escape (escaped path.now)

abbrev pub parts_text : List Part → List ℕ
parts_text parts = flat_map part_text parts

-- the head of a message with so many bytes, and a message as it is written
abbrev pub frame_head : ℕ → List ℕ
frame_head n = codes "Content-Length: " ++ (decimal n ++ codes "\r\n\r\n")

abbrev pub frame : List ℕ → List ℕ
frame text = frame_head (length text) ++ text
