-- The bytes that spans name.
use Rattle.std.specs.Prelude.{ℕ, min, List, [], length, slice_range, Option, Some, None}
use Rattle.cb_scan.specs.declared.lex.piece.Span.{Span}

-- the bytes of a span, cut at the end of the text
abbrev pub cut : List ℕ → Span → List ℕ
cut text span =
    slice_range text (min span.start (min span.end (length text))) (min span.end (length text))

-- the bytes of a span, if there is one
abbrev pub bytes_at : List ℕ → Option Span → List ℕ
bytes_at text None = []
bytes_at text (Some span) = cut text span

-- where a span begins, if there is one
abbrev pub place_at : Option Span → Option ℕ
place_at None = None
place_at (Some span) = Some span.start
