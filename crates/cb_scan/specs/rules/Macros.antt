-- Macros with arguments and without (ISO C 2011, 6.10.3).
use Rattle.std.specs.Prelude.{ℕ, Bool, false, ◌&&◌, ◌==◌, not, List, [], ◌∷◌, ◌++◌, if◌then◌else◌}
use Rattle.std.specs.Prelude.{map}
use Rattle.std.specs.List.{flat_map}
use Rattle.cb_scan.specs.declared.lex.piece.Piece.{Piece}
use Rattle.cb_scan.specs.declared.lex.token.Token.{Token}
use Rattle.cb_scan.specs.lex.Tokens.{has_kind, kind_is_define, is_mark, is_name_token}
use Rattle.cb_scan.specs.rules.Code.{directives}
use Rattle.cb_scan.specs.Bytes.{close_paren, open_paren}

-- a macro with arguments: the token of its name, and the tokens of its body
pub record Macro : Type 0 where
  pub name : Token
  pub body : List Token

-- the tokens after the first `)`
unfoldable pub after_arguments : List Token → List Token
after_arguments [] = []
after_arguments (t ∷ ts) = if is_mark close_paren t.role then ts else after_arguments ts

-- the third token of `# define` names a macro with arguments: the fourth is a `(` that begins where
-- the name ends
abbrev pub defines_macro : Token → Token → Token → Bool
defines_macro own name paren =
    has_kind kind_is_define own.role && is_name_token name.role && is_mark open_paren paren.role
    && paren.span.start == name.span.end

-- the macro with arguments that a directive defines, if it defines one
abbrev pub macro_of : List Token → List Macro
macro_of [] = []
macro_of (hash ∷ []) = []
macro_of (hash ∷ own ∷ []) = []
macro_of (hash ∷ own ∷ name ∷ []) = []
macro_of (hash ∷ own ∷ name ∷ paren ∷ rest) =
    if defines_macro own name paren then record { name = name; body = after_arguments rest } ∷ []
    else []

-- the macros with arguments, by place
abbrev pub macros : List ℕ → List Piece → List Macro
macros text ps = flat_map macro_of (directives text ps)

-- the tokens after a name begin with a `(` that begins where the name ends
abbrev pub begin_arguments : Token → List Token → Bool
begin_arguments name [] = false
begin_arguments name (paren ∷ rest) =
    is_mark open_paren paren.role && paren.span.start == name.span.end

-- the name of the macro without arguments that a directive defines, if it defines one: its third
-- token is a name, and its fourth is missing or is no `(` that begins where the name ends
abbrev pub plain_macro_of : List Token → List Token
plain_macro_of [] = []
plain_macro_of (hash ∷ []) = []
plain_macro_of (hash ∷ own ∷ []) = []
plain_macro_of (hash ∷ own ∷ name ∷ rest) =
    if has_kind kind_is_define own.role && is_name_token name.role
    && not (begin_arguments name rest)
    then name ∷ [] else []

-- the name of the macro that a directive defines, with arguments or without
abbrev pub macro_names_of : List Token → List Token
macro_names_of line = map (λ (m : Macro). m.name) (macro_of line) ++ plain_macro_of line

-- the names of all macros, by place
abbrev pub macro_names : List ℕ → List Piece → List Token
macro_names text ps = flat_map macro_names_of (directives text ps)
