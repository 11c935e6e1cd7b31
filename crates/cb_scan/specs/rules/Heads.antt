-- Heads: what stands before the `{` of a function. This is the project's profile.
use Rattle.std.specs.Prelude.{ℕ, Bool, false, ◌&&◌, ◌||◌, not, List, [], ◌∷◌, take, drop}
use Rattle.std.specs.Prelude.{if◌then◌else◌, Option, None, Some}
use Rattle.std.specs.List.{list_any}
use Rattle.std.specs.Option.{option_map}
use Rattle.cb_scan.specs.declared.lex.token.Token.{Token}
use Rattle.cb_scan.specs.lex.Tokens.{is_mark, is_name_token, is_typedef, is_static}
use Rattle.cb_scan.specs.rules.Depth.{head_start}
use Rattle.cb_scan.specs.Bytes.{close_paren, equals, open_paren}

-- the tokens after the last stop before token k
abbrev pub head : List Token → ℕ → List Token
head ts k = drop (head_start ts k) (take k ts)

-- the first token is `typedef`
abbrev pub begins_with_typedef : List Token → Bool
begins_with_typedef [] = false
begins_with_typedef (t ∷ ts) = is_typedef t.role

-- the last token is `)` or a name
unfoldable pub ends_in_declarator : List Token → Bool
ends_in_declarator [] = false
ends_in_declarator (t ∷ []) = is_mark close_paren t.role || is_name_token t.role
ends_in_declarator (t ∷ u ∷ ts) = ends_in_declarator (u ∷ ts)

-- the first name that is directly followed by `(`
unfoldable pub called_name : List Token → Option Token
called_name [] = None
called_name (t ∷ []) = None
called_name (t ∷ u ∷ ts) =
    if is_name_token t.role && is_mark open_paren u.role then Some t else called_name (u ∷ ts)

-- a token is `=`
abbrev pub has_equals : List Token → Bool
has_equals h = list_any (λ (t : Token). is_mark equals t.role) h

-- the head is that of a function: it does not begin with `typedef`, has no `=`, and ends in `)` or
-- a name
abbrev pub may_define : List Token → Bool
may_define h = not (begins_with_typedef h) && not (has_equals h) && ends_in_declarator h

-- the name that a head defines
abbrev pub defined_name : List Token → Option Token
defined_name h = if may_define h then called_name h else None

-- what names a function: the token of its name, and whether it is static
pub record Signature : Type 0 where
  pub name : Token
  pub local : Bool

-- the signature with that name, where some tokens give it: static where one of them is `static`
abbrev pub signed : List Token → Option Token → Option Signature
signed h name =
    option_map (λ n. record { name = n; local = list_any (λ (t : Token). is_static t.role) h }) name
