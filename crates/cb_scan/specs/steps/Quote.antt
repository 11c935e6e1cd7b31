-- Whether a string is closed, a byte at a time.
use Rattle.std.specs.Prelude.{ℕ, Bool, false, ◌==◌, ◌&&◌, List, [], ◌∷◌, length, if◌then◌else◌}
use Rattle.cb_scan.specs.declared.lex.lexeme.Escape.{Escape}
use Rattle.cb_scan.specs.declared.lex.lexeme.Escape.TheVariants.{Plain}
use Rattle.cb_scan.specs.steps.Cut.{ends_literal, literal_escape}
use Rattle.cb_scan.specs.Bytes.{quote}

-- the first byte that ends a string is a quote, and the last byte
abbrev pub closes_from : Escape → List ℕ → Bool
closes_from e [] = false
closes_from e (b ∷ rest) =
    if ends_literal quote e b then b == quote && length rest == 0
    else closes_from (literal_escape e b) rest

-- the bytes are a closed string: `proofs/ClosedStrings` shows that this is `IsClosedLiteral`
unfoldable pub is_closed : List ℕ → Bool
is_closed [] = false
is_closed (b ∷ rest) = b == quote && closes_from Plain rest
