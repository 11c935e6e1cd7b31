-- The names that typedefs define, a token at a time, beside the pass that finds functions.
use Rattle.std.specs.Prelude.{ℕ, Bool, true, false, ◌&&◌, ◌||◌, ◌==◌, not, List, [], ◌∷◌, ◌++◌}
use Rattle.std.specs.Prelude.{if◌then◌else◌, Option, None, Some, map}
use Rattle.std.specs.Option.{is_none, option_map, option_to_list}
use Rattle.cb_scan.specs.declared.facts.Def.{Def}
use Rattle.cb_scan.specs.declared.rules.functions.Machine.{Machine}
use Rattle.cb_scan.specs.declared.lex.token.Token.{Token}
use Rattle.cb_scan.specs.declared.rules.typedefs.Declaration.{Declaration}
use Rattle.cb_scan.specs.declared.rules.typedefs.Reach.{Reach}
use Rattle.cb_scan.specs.declared.rules.typedefs.Reach.TheVariants.{Nothing, Paren, Stars}
use Rattle.cb_scan.specs.Definitions.{typedef_def}
use Rattle.cb_scan.specs.lex.Tokens.{is_mark, is_name_token, is_typedef}
use Rattle.cb_scan.specs.rules.Typedefs.{nesting_after}
use Rattle.cb_scan.specs.steps.Functions.{next}
use Rattle.cb_scan.specs.Bytes.{close_brace, comma, open_brace, open_paren, semicolon, star}

-- ---- the parts of one typedef

-- the beginning of a part
abbrev pub declaration_start : Declaration
declaration_start = record { nesting = 0; reach = Nothing; pointer = None; last = None }

-- `*`s go on after a `(`
abbrev pub is_reached : Reach → Bool
is_reached Nothing = false
is_reached Paren = true
is_reached Stars = true

-- a `*` is directly before, and after it `*`s up to a `(`
abbrev pub is_starred : Reach → Bool
is_starred Nothing = false
is_starred Paren = false
is_starred Stars = true

-- how far `(`, `*`s and a name have come after a token
abbrev pub reach_after : Reach → Token → Reach
reach_after r t = if is_mark open_paren t.role then Paren
    else (if is_mark star t.role && is_reached r then Stars else Nothing)

-- the first name after `(` and `*`s
abbrev pub pointer_after : Option Token → Reach → Token → Option Token
pointer_after (Some name) r t = Some name
pointer_after None r t = if is_name_token t.role && is_starred r then Some t else None

-- a comma outside parentheses and brackets
abbrev pub parts_at : ℕ → Token → Bool
parts_at n t = is_mark comma t.role && n == 0

-- one more token of the part
abbrev pub goes_on : Declaration → Token → Declaration
goes_on d t = record {
  nesting = nesting_after t d.nesting;
  reach = reach_after d.reach t;
  pointer = pointer_after d.pointer d.reach t;
  last = if is_name_token t.role && d.nesting == 0 then Some t else d.last;
}

-- after a token: a comma outside parentheses and brackets begins the next part
unfoldable pub after : Declaration → Token → Declaration
after d t = if parts_at d.nesting t then declaration_start else goes_on d t

-- the one, or else the other
abbrev pub or_else : Option Token → Option Token → Option Token
or_else (Some a) b = Some a
or_else None b = b

-- the name that the part defines
abbrev pub name_of : Declaration → Option Token
name_of d = or_else d.pointer d.last

-- ---- the pass

-- the token directly follows a stop, and is `typedef`
abbrev pub begins : Machine → Token → Bool
begins m t = is_typedef t.role && is_none m.head.last

-- the token is a `;` at depth 0
abbrev pub ends : Machine → Token → Bool
ends m t = is_mark semicolon t.role && m.depth == 0

-- the token is at depth 0 and is no brace
abbrev pub takes : Machine → Token → Bool
takes m t = m.depth == 0 && not (is_mark open_brace t.role || is_mark close_brace t.role)

-- the typedef that is open, after a token that neither ends nor begins one
abbrev pub stays : Machine → Token → Declaration → Declaration
stays m t d = if takes m t then after d t else d

-- the typedef that is open after a token
abbrev pub next_declaration : Machine → Option Declaration → Token → Option Declaration
next_declaration m s t =
    if ends m t then None else (if begins m t then Some declaration_start
    else option_map (stays m t) s)

-- the name of the part that a comma ends
abbrev pub ended_name : Machine → Option Declaration → Token → Option Token
ended_name m None t = None
ended_name m (Some d) t = if takes m t && parts_at d.nesting t then name_of d else None

-- the names of the finished parts of the open typedef
abbrev pub next_pending : Machine → Option Declaration → List Token → Token → List Token
next_pending m s pending t =
    if ends m t || begins m t then [] else pending ++ option_to_list (ended_name m s t)

-- the names of a typedef that ends, with that of its last part
abbrev pub all_names : Option Declaration → List Token → List Token
all_names None pending = []
all_names (Some d) pending = pending ++ option_to_list (name_of d)

-- the names that are defined where the token ends a typedef
abbrev pub names_out : Machine → Option Declaration → List Token → Token → List Token
names_out m s pending t = if ends m t then all_names s pending else []

-- the names that the typedefs define from a state on
abbrev pub typedefs_from : Machine → Option Declaration → List Token → List Token → List Token
typedefs_from m s pending [] = []
typedefs_from m s pending (t ∷ ts) =
    names_out m s pending t ++ typedefs_from (next m t) (next_declaration m s t)
    (next_pending m s pending t) ts

-- the same as definitions
abbrev pub typedefs_out : Machine → Option Declaration → List Token → Token → List Def
typedefs_out m s pending t = map typedef_def (names_out m s pending t)

abbrev pub typedef_defs_from : Machine → Option Declaration → List Token → List Token → List Def
typedef_defs_from m s pending [] = []
typedef_defs_from m s pending (t ∷ ts) =
    typedefs_out m s pending t
    ++ typedef_defs_from (next m t) (next_declaration m s t) (next_pending m s pending t) ts

-- how many parentheses and brackets are open
abbrev pub nesting_of : Option Declaration → ℕ
nesting_of None = 0
nesting_of (Some d) = d.nesting
