-- The pieces of a text with their lines.
use Rattle.std.specs.Prelude.{◌<◌, ◌≤◌, ◌==◌, ℕ, Bool, true, false, List, length}
use Rattle.cb_scan.specs.declared.lex.lined.Lined.{Lined}
use Rattle.cb_scan.specs.declared.lex.piece.Class.{Class}
use Rattle.cb_scan.specs.declared.lex.piece.Class.TheVariants.{Name, Number, Str, Chr, LineNote}
use Rattle.cb_scan.specs.declared.lex.piece.Class.TheVariants.{BlockNote, Blank, Newline, Byte}
use Rattle.cb_scan.specs.declared.lex.piece.Piece.{Piece}
use Rattle.cb_scan.specs.Lines.{line_of}
use Rattle.cb_scan.specs.Bytes.{line_feed}

-- the byte is a line feed
abbrev pub is_feed : ℕ → Bool
is_feed b = b == line_feed

-- a piece of the text with the line of its first byte
unfoldable pub lined : List ℕ → Piece → Lined
lined text p = record { piece = p; line = line_of text p.span.start }

-- a piece takes a byte at least and lies in the text
abbrev pub Within : List ℕ → Lined → Type 0
Within text l = (l.piece.span.start < l.piece.span.end) × (l.piece.span.end ≤ length text)

-- a piece of the class can hold line feeds
abbrev pub holds_feeds : Class → Bool
holds_feeds Name = false
holds_feeds Number = false
holds_feeds Str = true
holds_feeds Chr = true
holds_feeds LineNote = true
holds_feeds BlockNote = true
holds_feeds Blank = true
holds_feeds Newline = true
holds_feeds Byte = false
