-- The names of structures, unions and enumerations, a token at a time.
use Rattle.std.specs.Prelude.{List, [], ◌∷◌, ◌++◌, if◌then◌else◌, Option, None, Some}
use Rattle.std.specs.Option.{option_map_or, option_to_list}
use Rattle.cb_scan.specs.declared.facts.Def.{Def}
use Rattle.cb_scan.specs.declared.lex.token.Token.{Token}
use Rattle.cb_scan.specs.declared.rules.structures.Naming.{Naming}
use Rattle.cb_scan.specs.declared.rules.structures.Naming.TheVariants as naming
use Rattle.cb_scan.specs.Definitions.{structure_def}
use Rattle.cb_scan.specs.lex.Tokens.{is_mark, is_name_token}
use Rattle.cb_scan.specs.rules.Structures.{keyword_kind}
use Rattle.cb_scan.specs.Bytes.{open_brace}

-- after a token that goes on with nothing
abbrev pub begun : Token → Naming
begun t = option_map_or naming.Keyword (keyword_kind t.role) naming.Nothing

-- how far a keyword, a name and `{` have come after a token
abbrev pub next_naming : Naming → Token → Naming
next_naming (naming.Keyword kind) t =
    if is_name_token t.role then naming.Named (structure_def (record { kind = kind; name = t }))
    else begun t
next_naming naming.Nothing t = begun t
next_naming (naming.Named def) t = begun t

-- the structure, union or enumeration whose `{` is the token, if one is
abbrev pub structure_found : Naming → Token → Option Def
structure_found (naming.Named def) t = if is_mark open_brace t.role then Some def else None
structure_found _ t = None

-- those of the tokens from a state on
abbrev pub structures_from : Naming → List Token → List Def
structures_from n [] = []
structures_from n (t ∷ ts) =
    option_to_list (structure_found n t) ++ structures_from (next_naming n t) ts
