-- The tokens of the code of a text, and a part of a declaration by itself, for the rules that other
-- crates have.
use Rattle.std.specs.Prelude.{◌<◌, ◌≤◌, ℕ, suc, Bool, not, List, [], length, if◌then◌else◌}
use Rattle.std.specs.List.{take_while}
use Rattle.cb_scan.specs.declared.lex.piece.Piece.{Piece}
use Rattle.cb_scan.specs.declared.lex.token.Token.{Token}
use Rattle.cb_scan.specs.declared.rules.wide.token.WideToken.{WideToken}
use Rattle.cb_scan.specs.lex.Tokens.{tokens}
use Rattle.cb_scan.specs.rules.Code.{code, is_newline}
use Rattle.cb_scan.specs.rules.wide.Attributes.{attribute_len, begins_attribute}
use Rattle.cb_scan.specs.rules.wide.Declarations.{Part}
use Rattle.cb_scan.specs.rules.wide.Levels.{numbered, wide_tokens}
use Rattle.cb_scan.specs.steps.Cut.{pieces}

-- those of a text with these pieces
abbrev pub code_by : List ℕ → List Piece → List WideToken
code_by text ps = wide_tokens text (code text ps)

-- those of a text
abbrev pub code_of : List ℕ → List WideToken
code_of text = code_by text (pieces text)

-- the tokens of the first logical line of a text, of a directive or not
abbrev pub first_line : List ℕ → List Token
first_line text = tokens text (take_while (λ (p : Piece). not (is_newline p.class)) (pieces text))

-- a token takes a byte at least, and lies in the text
abbrev pub IsSpanOf : List ℕ → Token → Type 0
IsSpanOf text t = (t.span.start < t.span.end) × (t.span.end ≤ length text)

abbrev pub IsTokenOf : List ℕ → WideToken → Type 0
IsTokenOf text x = IsSpanOf text x.token

-- how many of the first tokens are of an attribute that begins with them; none where none does
abbrev pub first_attribute : List WideToken → ℕ
first_attribute xs = if begins_attribute xs then suc (attribute_len xs) else 0

-- these tokens as a part of a declaration: the first part, or another one
abbrev pub lone_part : Bool → List WideToken → Part
lone_part first xs = record { first = first; tokens = numbered 0 xs; passed = [] }
