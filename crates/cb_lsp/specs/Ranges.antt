-- Ranges in order, and names that stand in the text of a file.
use Rattle.std.specs.Prelude.{◌≡◌, ◌<◌, ◌≤◌, ◌⊎◌, ◌+◌, ℕ, List, length}
use Rattle.cb_scan.specs.Definitions.{IsNameOf}
use Rattle.cb_scan.specs.declared.lex.piece.Span.{Span}
use Rattle.cb_scan.specs.lex.Tokens.{bytes_of}
use Rattle.cb_desk.specs.World.{File, text_of_file}
use Rattle.cb_index.specs.Rows.{Fact}
use Rattle.cb_tags.specs.TagLines.{Tag}
use Rattle.cb_wire.specs.declared.position.Position.{Position}
use Rattle.cb_wire.specs.declared.position.Range.{Range}

-- a position is not behind another: it is on a line before, or on the same at no later column
abbrev pub IsNotBehind : Position → Position → Type 0
IsNotBehind p q = (p.line < q.line) ⊎ ((p.line ≡ q.line) × (p.character ≤ q.character))

-- the start of a range is not behind its end
abbrev pub IsInOrder : Range → Type 0
IsInOrder r = IsNotBehind r.start r.end

-- a range lies in another: it does not begin before it or end behind it
abbrev pub LiesInside : (inner outer : Range) → Type 0
LiesInside inner outer = IsNotBehind outer.start inner.start × IsNotBehind inner.end outer.end

-- where a name is that begins at a place
abbrev pub span_of : (name : List ℕ) → (place : ℕ) → Span
span_of name place = record { start = place; end = place + length name }

-- a name stands at a place of a file, in the text that the file has
abbrev pub StandsIn : List File → (file name : List ℕ) → (place : ℕ) → Type 0
StandsIn files file name place =
    let text = text_of_file files file in
    IsNameOf text (span_of name place) × (bytes_of text (span_of name place) ≡ name)

-- the name of a definition stands where it says
abbrev pub IsNamedIn : List File → Tag → Type 0
IsNamedIn files t = StandsIn files t.file t.name t.place

-- a use is one of a name, and the name stands where it says
abbrev pub IsUseIn : List File → (name : List ℕ) → Fact → Type 0
IsUseIn files name u = (u.name ≡ name) × StandsIn files u.file name u.place
