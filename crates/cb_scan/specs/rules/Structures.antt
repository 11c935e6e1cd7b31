-- The names of structures, unions and enumerations: the tags of the language (ISO C 2011, 6.7.2.1
-- and 6.7.2.2), at any depth.
use Rattle.std.specs.Prelude.{ℕ, zero, suc, ◌&&◌, List, [], ◌∷◌, length, Option, None, Some}
use Rattle.std.specs.Prelude.{if◌then◌else◌}
use Rattle.std.specs.List.{flat_map, range_with_len}
use Rattle.std.specs.Option.{option_map_or}
use Rattle.cb_scan.specs.declared.facts.Kind.{Kind}
use Rattle.cb_scan.specs.declared.facts.Kind.TheVariants as kind
use Rattle.cb_scan.specs.declared.lex.token.Role.{Role}
use Rattle.cb_scan.specs.declared.lex.token.Role.TheVariants.{Word}
use Rattle.cb_scan.specs.declared.lex.token.Token.{Token}
use Rattle.cb_scan.specs.declared.lex.token.WordKind.TheVariants.{Struct, Union, Enum}
use Rattle.cb_scan.specs.lex.Tokens.{is_mark, is_name_token}
use Rattle.cb_scan.specs.rules.Depth.{token_at}
use Rattle.cb_scan.specs.Bytes.{open_brace}

-- a structure, union or enumeration: which of them, and the token of its name
pub record Structure : Type 0 where
  pub kind : Kind
  pub name : Token

-- what `struct`, `union` and `enum` define
abbrev pub keyword_kind : Role → Option Kind
keyword_kind (Word Struct) = Some kind.Struct
keyword_kind (Word Union) = Some kind.Union
keyword_kind (Word Enum) = Some kind.Enum
keyword_kind _ = None

-- what three tokens in a row define: one of these keywords, a name and a `{`
abbrev pub structure_of : Token → Token → Token → List Structure
structure_of keyword name brace =
    if is_name_token name.role && is_mark open_brace brace.role
    then option_map_or (λ kind. record { kind = kind; name = name } ∷ [])
    (keyword_kind keyword.role) []
    else []

-- the structure, union or enumeration whose `{` is token k, if one is
abbrev pub structure_at : List Token → ℕ → List Structure
structure_at ts zero = []
structure_at ts (suc zero) = []
structure_at ts (suc (suc k)) =
    structure_of (token_at ts k) (token_at ts (suc k)) (token_at ts (suc (suc k)))

-- the structures, unions and enumerations of the code, by the places of their `{`
abbrev pub structures : List Token → List Structure
structures ts = flat_map (structure_at ts) (range_with_len 0 (length ts))
