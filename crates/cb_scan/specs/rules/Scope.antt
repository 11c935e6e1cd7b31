-- The macro or function around a place. This is the project's profile.
use Rattle.std.specs.Prelude.{ℕ, Bool, ◌&&◌, nat_le, nat_lt, List, [], length, Option, Some}
use Rattle.std.specs.Prelude.{if◌then◌else◌, find, map}
use Rattle.std.specs.List.{flat_map, zip}
use Rattle.std.specs.Option.{option_map, option_map_or}
use Rattle.cb_scan.specs.declared.lex.piece.Piece.{Piece}
use Rattle.cb_scan.specs.declared.lex.piece.Span.{Span}
use Rattle.cb_scan.specs.declared.rules.scope.Range.{Range}
use Rattle.cb_scan.specs.declared.lex.token.Token.{Token}
use Rattle.cb_scan.specs.rules.Code.{code, is_directive, line_ends, logical_lines}
use Rattle.cb_scan.specs.rules.Depth.{token_at}
use Rattle.cb_scan.specs.rules.Functions.{Function, functions}
use Rattle.cb_scan.specs.rules.Macros.{Macro, macro_of}

-- where the body of a function ends: after its `}`, or at the end of the text
abbrev pub body_end : List ℕ → List Token → Function → ℕ
body_end text ts f = if nat_lt f.end (length ts) then (token_at ts f.end).span.end else length text

-- the range of a function: from the first byte of its name to the end of its body
abbrev pub function_range : List ℕ → List Token → Function → Range
function_range text ts f = record { name = f.name.span; end = body_end text ts f }

-- the ranges of some functions
abbrev pub ranges_of : List ℕ → List Piece → List Function → List Range
ranges_of text ps fs = map (function_range text (code text ps)) fs

-- the ranges of all functions
abbrev pub function_ranges : List ℕ → List Piece → List Range
function_ranges text ps = ranges_of text ps (functions (code text ps))

-- the range of a macro: from the first byte of its name to the place where its logical line ends
abbrev pub macro_range : ℕ → Macro → Range
macro_range end m = record { name = m.name.span; end = end }

-- the range of the macro that a logical line defines, if it defines one with arguments
abbrev pub range_of_line : List Token × ℕ → List Range
range_of_line line = if is_directive line.0 then map (macro_range line.1) (macro_of line.0) else []

-- the ranges of all macros with arguments
abbrev pub macro_ranges : List ℕ → List Piece → List Range
macro_ranges text ps = flat_map range_of_line (zip (logical_lines text ps) (line_ends text ps))

-- the range holds the place
abbrev pub holds : ℕ → Range → Bool
holds place r = nat_le r.name.start place && nat_lt place r.end

-- the name of the range that holds the place
abbrev pub name_around : List Range → ℕ → Option Span
name_around ranges place = option_map (λ (r : Range). r.name) (find (holds place) ranges)

-- the scope of a place among some functions: the macro whose range holds it, else the function
abbrev pub scope_among : List ℕ → List Piece → List Function → ℕ → Option Span
scope_among text ps fs place =
    option_map_or (λ name. Some name) (name_around (macro_ranges text ps) place)
    (name_around (ranges_of text ps fs) place)

-- the scope of a place
abbrev pub scope : List ℕ → List Piece → ℕ → Option Span
scope text ps place = scope_among text ps (functions (code text ps)) place
