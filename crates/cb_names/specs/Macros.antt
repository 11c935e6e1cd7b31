-- What the text of a macro names, and whether its arguments may become something else than what they
-- are (ISO C 2011, 6.10.3, found in tokens by this project's profile). The tokens are those of its
-- line, from its name on.
use Rattle.std.specs.Prelude.{ℕ, zero, suc, Bool, true, false, ◌&&◌, ◌||◌, ◌==◌, not, List, [], ◌∷◌}
use Rattle.std.specs.Prelude.{codes, drop, length, take, if◌then◌else◌}
use Rattle.std.specs.List.{list_any, prefix_len, range_with_len}
use Rattle.std.specs.Str.{bytes_eq}
use Rattle.cb_scan.specs.Bytes.{close_bracket, close_paren, greater, hash, open_paren}
use Rattle.cb_scan.specs.CodeTokens.{first_line}
use Rattle.cb_scan.specs.declared.lex.token.Role.{Role}
use Rattle.cb_scan.specs.declared.lex.token.Token.{Token}
use Rattle.cb_scan.specs.declared.lex.token.WordKind.{WordKind}
use Rattle.cb_scan.specs.declared.lex.token.WordKind.TheVariants.{Struct, Union, Enum}
use Rattle.cb_scan.specs.lex.Tokens.{bytes_of, has_kind, is_mark, is_name_token}
use Rattle.cb_scan.specs.rules.Depth.{token_at}
use Rattle.cb_scan.specs.rules.Macros.{begin_arguments}
use Rattle.cb_names.specs.Tables.{those_where}
use Rattle.cb_names.specs.declared.macros.MacroName.{MacroName}

-- ---- tokens

-- index k is the lone byte b; it is a name
abbrev pub marks : ℕ → List Token → ℕ → Bool
marks b ts k = is_mark b (token_at ts k).role

abbrev pub names : List Token → ℕ → Bool
names ts k = is_name_token (token_at ts k).role

-- no byte stands between index k and the next one
abbrev pub adjoins : List Token → ℕ → Bool
adjoins ts k = (token_at ts k).span.end == (token_at ts (suc k)).span.start

-- `struct`, `union` or `enum`
abbrev pub kind_has_tag : WordKind → Bool
kind_has_tag Struct = true
kind_has_tag Union = true
kind_has_tag Enum = true
kind_has_tag _ = false

abbrev pub has_tag : Role → Bool
has_tag = has_kind kind_has_tag

-- ---- the parts of a macro

-- how many tokens there are before the first `)`
abbrev pub list_len : List Token → ℕ
list_len ts = prefix_len (λ (t : Token). not (is_mark close_paren t.role)) ts

-- it takes arguments: a `(` directly follows its name
abbrev pub has_list : List Token → Bool
has_list [] = false
has_list (name ∷ rest) = begin_arguments name rest

-- the tokens among which its parameters are: from the `(` that directly follows its name
abbrev pub listed : List Token → List Token
listed [] = []
listed (name ∷ rest) = if begin_arguments name rest then take (list_len rest) rest else []

-- its text
abbrev pub replacement : List Token → List Token
replacement [] = []
replacement (name ∷ rest) = if begin_arguments name rest then drop (suc (list_len rest)) rest else rest

-- ---- the names of its text, which has these tokens; its parameters are among the tokens ps

abbrev pub name_at : List ℕ → List Token → ℕ → List ℕ
name_at text ts k = bytes_of text (token_at ts k).span

-- a parameter has these bytes
abbrev pub is_listed : List ℕ → (ps : List Token) → List ℕ → Bool
is_listed text ps w =
    list_any (λ (t : Token). is_name_token t.role && bytes_eq (bytes_of text t.span) w) ps

-- index k is a parameter; it is a name that is none
abbrev pub is_parameter : List ℕ → (ps ts : List Token) → ℕ → Bool
is_parameter text ps ts k = names ts k && is_listed text ps (name_at text ts k)

abbrev pub is_own_name : List ℕ → (ps ts : List Token) → ℕ → Bool
is_own_name text ps ts k = names ts k && not (is_listed text ps (name_at text ts k))

-- index k ends in `->`
unfoldable pub ends_arrow : List Token → ℕ → Bool
ends_arrow ts zero = false
ends_arrow ts (suc k) = marks greater ts (suc k) && marks 45 ts k && adjoins ts k

-- an operand may end directly before index k
unfoldable pub follows_operand : List Token → ℕ → Bool
follows_operand ts zero = false
follows_operand ts (suc k) = names ts k || marks close_paren ts k || marks close_bracket ts k

-- index k is a member: `->` is directly before it, or a `.` behind an operand
unfoldable pub is_member : List Token → ℕ → Bool
is_member ts zero = false
is_member ts (suc k) = ends_arrow ts k || (marks 46 ts k && follows_operand ts k)

-- index k is a tag: `struct`, `union` or `enum` is directly before it
unfoldable pub is_tag : List Token → ℕ → Bool
is_tag ts zero = false
is_tag ts (suc k) = has_tag (token_at ts k).role

abbrev pub macro_name : List Token → ℕ → MacroName
macro_name ts k = record {
  name = (token_at ts k).span;
  free = not (is_member ts k || is_tag ts k);
}

-- the names of the text that are no parameters, by place; each may be a member or tag, or is free
abbrev pub own_names : List ℕ → (ps ts : List Token) → List MacroName
own_names text ps ts = those_where (macro_name ts) (is_own_name text ps ts) (length ts)

-- ---- what its arguments become

-- `goto`, or what makes a member or tag of a name, is directly before index k
unfoldable pub follows_maker : List ℕ → List Token → ℕ → Bool
follows_maker text ts zero = false
follows_maker text ts (suc k) =
    marks 46 ts k || ends_arrow ts k || has_tag (token_at ts k).role
    || bytes_eq (name_at text ts k) (codes "goto")

-- a parameter that becomes a member, a tag or a label there
abbrev pub is_made : List ℕ → (ps ts : List Token) → ℕ → Bool
is_made text ps ts k = is_parameter text ps ts k && (follows_maker text ts k || marks 58 ts (suc k))

-- what takes a member as an argument
abbrev pub takes_member : List ℕ → Bool
takes_member w = bytes_eq w (codes "offsetof") || bytes_eq w (codes "__builtin_offsetof")

-- `#`, which makes a text of an argument or pastes it; also as `%:`
abbrev pub is_hash : List Token → ℕ → Bool
is_hash ts k = marks hash ts k || (marks 37 ts k && marks 58 ts (suc k))

-- index k alone makes the arguments something else: `#`; a parameter as above; or what takes a member
abbrev pub is_odd : List ℕ → (ps ts : List Token) → ℕ → Bool
is_odd text ps ts k =
    is_hash ts k || is_made text ps ts k || takes_member (name_at text ts k)

abbrev pub are_odd : List ℕ → (ps ts : List Token) → Bool
are_odd text ps ts = list_any (is_odd text ps ts) (range_with_len 0 (length ts))

-- index k is a parameter that is called: a `(` is directly behind it
abbrev pub is_called : List ℕ → (ps ts : List Token) → ℕ → Bool
is_called text ps ts k = is_parameter text ps ts k && marks open_paren ts (suc k)

abbrev pub are_called : List ℕ → (ps ts : List Token) → Bool
are_called text ps ts = list_any (is_called text ps ts) (range_with_len 0 (length ts))

-- ---- a macro

-- what is known of one: whether it takes arguments, the names of its text, whether that alone makes
-- it odd, and whether it calls a parameter
pub record MacroParts : Type 0 where
  pub takes : Bool
  pub names : List MacroName
  pub odd : Bool
  pub calls : Bool

-- by the tokens of its line in these bytes
abbrev pub parts_by : List ℕ → List Token → MacroParts
parts_by text ts = record {
  takes = has_list ts;
  names = own_names text (listed ts) (replacement ts);
  odd = are_odd text (listed ts) (replacement ts);
  calls = are_called text (listed ts) (replacement ts);
}

-- of the macro whose name these bytes begin with
abbrev pub macro_parts : List ℕ → MacroParts
macro_parts text = parts_by text (first_line text)
