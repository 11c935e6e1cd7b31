-- Logical lines, directives and code, by the pieces of a text.
use Rattle.std.specs.Prelude.{ℕ, Bool, true, false, not, List, [], ◌∷◌, ◌++◌, length, filter, map}
use Rattle.std.specs.List.{flat_map, slice_split}
use Rattle.cb_scan.specs.declared.lex.piece.Piece.{Piece}
use Rattle.cb_scan.specs.declared.lex.piece.Class.{Class}
use Rattle.cb_scan.specs.declared.lex.piece.Class.TheVariants.{Newline}
use Rattle.cb_scan.specs.declared.lex.token.Token.{Token}
use Rattle.cb_scan.specs.lex.Tokens.{tokens, is_mark}
use Rattle.cb_scan.specs.Bytes.{hash}

-- a line feed outside every other piece
abbrev pub is_newline : Class → Bool
is_newline Newline = true
is_newline _ = false

-- the tokens of each logical line: those of the pieces between newlines (ISO C 2011, 5.1.1.2 and
-- 6.10)
abbrev pub logical_lines : List ℕ → List Piece → List (List Token)
logical_lines text ps = map (tokens text) (slice_split (λ p. is_newline p.class) ps)

-- where the logical lines end: each where its newline begins, the last one at the end of the text
abbrev pub line_ends : List ℕ → List Piece → List ℕ
line_ends text ps = map (λ (p : Piece). p.span.start) (filter (λ p. is_newline p.class) ps)
    ++ length text ∷ []

-- a line whose first token is # (ISO C 2011, 6.10)
abbrev pub is_directive : List Token → Bool
is_directive [] = false
is_directive (t ∷ ts) = is_mark hash t.role

-- the directives of a text
abbrev pub directives : List ℕ → List Piece → List (List Token)
directives text ps = filter is_directive (logical_lines text ps)

-- the code of a text: the tokens of all lines that are no directives
abbrev pub code : List ℕ → List Piece → List Token
code text ps = flat_map (λ l. l) (filter (λ l. not (is_directive l)) (logical_lines text ps))
