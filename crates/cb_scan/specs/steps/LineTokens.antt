-- The tokens of the first logical line, a piece at a time.
use Rattle.std.specs.Prelude.{ℕ, List, [], ◌∷◌, if◌then◌else◌}
use Rattle.cb_scan.specs.declared.lex.lined.Lined.{Lined}
use Rattle.cb_scan.specs.declared.lex.token.Token.{Token}
use Rattle.cb_scan.specs.lex.Tokens.{is_significant}
use Rattle.cb_scan.specs.rules.Code.{is_newline}
use Rattle.cb_scan.specs.steps.Directives.{lined_token}

-- those of the pieces up to a newline
unfoldable pub line_from : List ℕ → List Lined → List Token
line_from text [] = []
line_from text (l ∷ ls) =
    if is_newline l.piece.class then []
    else (if is_significant l.piece.class then lined_token text l ∷ line_from text ls
    else line_from text ls)
