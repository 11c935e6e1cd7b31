-- The state of the one pass that finds functions, a token at a time.
use Rattle.std.specs.Prelude.{ℕ, Bool, true, false, ◌&&◌, ◌||◌, ◌==◌, not, List, [], ◌∷◌, ◌++◌}
use Rattle.std.specs.Prelude.{if◌then◌else◌, Option, None, Some}
use Rattle.std.specs.Option.{option_map, option_to_list, is_none}
use Rattle.cb_scan.specs.declared.facts.Call.{Call}
use Rattle.cb_scan.specs.declared.facts.Def.{Def}
use Rattle.cb_scan.specs.declared.rules.functions.Machine.{Machine}
use Rattle.cb_scan.specs.declared.rules.functions.Before.{Before}
use Rattle.cb_scan.specs.declared.rules.functions.Before.TheVariants.{Anything, Extern, Linkage}
use Rattle.cb_scan.specs.declared.lex.piece.Span.{Span}
use Rattle.cb_scan.specs.declared.rules.heads.Head.{Head}
use Rattle.cb_scan.specs.declared.rules.scope.Range.{Range}
use Rattle.cb_scan.specs.declared.lex.token.Token.{Token}
use Rattle.cb_scan.specs.rules.Uses.{call_of, is_call}
use Rattle.cb_scan.specs.lex.Tokens.{is_mark, is_extern, is_name_token, is_str}
use Rattle.cb_scan.specs.rules.Depth.{depth_after}
use Rattle.cb_scan.specs.steps.Heads.{add, defined, empty_head, next_opened}
use Rattle.cb_scan.specs.Bytes.{close_brace, open_brace, semicolon}

-- `extern` is directly before
abbrev pub is_after_extern : Before → Bool
is_after_extern Extern = true
is_after_extern _ = false

-- `extern` and a string are directly before
abbrev pub is_after_linkage : Before → Bool
is_after_linkage Linkage = true
is_after_linkage _ = false

-- what is directly before the token after this one
abbrev pub before_after : Before → Token → Before
before_after b t = if is_extern t.role then Extern
    else (if is_str t.role && is_after_extern b then Linkage else Anything)

-- the beginning of the code
abbrev pub start : Machine
start = record { depth = 0; before = Anything; head = empty_head; opened = None; body = None }

-- the token is a `{` that counts
abbrev pub counts : Machine → Token → Bool
counts m t = is_mark open_brace t.role && not (is_after_linkage m.before)

-- the depth after the token
abbrev pub next_depth : Machine → Token → ℕ
next_depth m t = depth_after (counts m t) t m.depth

-- the token is a stop
abbrev pub stops : Machine → Token → Bool
stops m t = (is_mark semicolon t.role && m.depth == 0)
    || (is_mark close_brace t.role && next_depth m t == 0)
    || (is_mark open_brace t.role && is_after_linkage m.before)

-- the function that a `{` opens here: that of the head, or where it is empty one in the old style
abbrev pub function_here : Machine → Option Def
function_here m = if is_none m.head.last then m.opened else defined m.head

-- the function whose `{` is the token, if one is
abbrev pub found : Machine → Token → Option Def
found m t = if counts m t && m.depth == 0 then function_here m else None

-- the name of the function whose body the next token is in
abbrev pub next_body : Machine → Token → Option Span
next_body m t = if m.depth == 0 then option_map (λ (d : Def). d.name) (found m t)
    else (if next_depth m t == 0 then None else m.body)

-- the function in the old style that is open after the token: a `;` that is a stop may open one,
-- and every other stop ends it
abbrev pub next_open : Machine → Token → Option Def
next_open m t =
    if stops m t then (if is_mark semicolon t.role then next_opened m.head m.opened else None)
    else m.opened

-- the head after a token that is no stop: deeper in braces only the last token counts, since a stop
-- comes before the depth is 0 again
abbrev pub grown : Machine → Token → Head
grown m t = if m.depth == 0 then add m.head t else record m.head { last = Some t }

-- the state after the token
unfoldable pub next : Machine → Token → Machine
next m t = record {
  depth = next_depth m t;
  before = before_after m.before t;
  head = if stops m t then empty_head else grown m t;
  opened = next_open m t;
  body = next_body m t;
}

-- the token is a `}` after which the depth is 0
abbrev pub ends_all : Machine → Token → Bool
ends_all m t = is_mark close_brace t.role && next_depth m t == 0

-- a range that ends at a place
abbrev pub range_to : ℕ → Span → Range
range_to end name = record { name = name; end = end }

-- the range of the function whose body the token ends
abbrev pub closed : Machine → Token → Option Range
closed m t = if ends_all m t then option_map (range_to t.span.end) m.body else None

-- the range of the function whose body the end of the text ends
abbrev pub left_open : Machine → ℕ → Option Range
left_open m end = option_map (range_to end) m.body

-- the call of a name in a body, where the token follows it
abbrev pub call_before : Option Span → Option Token → Token → Option Call
call_before (Some caller) (Some name) t =
    if is_call name t then Some (call_of caller name) else None
call_before (Some caller) None t = None
call_before None last t = None

-- the token if it is a name: only a name can be called
abbrev pub callable : Token → Option Token
callable t = if is_name_token t.role then Some t else None

-- the call of the token before
abbrev pub called : Machine → Token → Option Call
called m t = call_before m.body m.head.last t

-- the functions of the tokens from a state on
abbrev pub defs_from : Machine → List Token → List Def
defs_from m [] = []
defs_from m (t ∷ ts) = option_to_list (found m t) ++ defs_from (next m t) ts

-- the ranges of the functions whose bodies end from a state on, where the text ends at a place
abbrev pub ranges_from : ℕ → Machine → List Token → List Range
ranges_from end m [] = option_to_list (left_open m end)
ranges_from end m (t ∷ ts) = option_to_list (closed m t) ++ ranges_from end (next m t) ts

-- the calls in the bodies of functions from a state on
abbrev pub calls_from : Machine → List Token → List Call
calls_from m [] = []
calls_from m (t ∷ ts) = option_to_list (called m t) ++ calls_from (next m t) ts
