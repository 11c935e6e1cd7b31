-- The functions of the wide profile, a token at a time. Attributes are left out.
use Rattle.std.specs.Prelude.{ℕ, Bool, ◌&&◌, ◌||◌, ◌==◌, List, [], ◌∷◌, ◌++◌, Option, None}
use Rattle.std.specs.Prelude.{if◌then◌else◌}
use Rattle.std.specs.Option.{is_none, option_map, option_or, option_to_list}
use Rattle.cb_scan.specs.declared.facts.Def.{Def}
use Rattle.cb_scan.specs.declared.lex.token.Token.{Token}
use Rattle.cb_scan.specs.declared.rules.wide.machine.WideMachine.{WideMachine}
use Rattle.cb_scan.specs.declared.rules.wide.token.WideToken.{WideToken}
use Rattle.cb_scan.specs.rules.Depth.{depth_after}
use Rattle.cb_scan.specs.rules.wide.Bodies.{Body}
use Rattle.cb_scan.specs.rules.wide.Words.{is_sign}
use Rattle.cb_scan.specs.steps.Heads.{add, def_of, defines, empty_head, next_opened}
use Rattle.cb_scan.specs.steps.wide.Declarations.{is_block, is_linkage}
use Rattle.cb_scan.specs.steps.wide.Heads.{declared, head_start, next_head}
use Rattle.cb_scan.specs.Bytes.{close_brace, semicolon}

-- the beginning of the code
abbrev pub start : WideMachine
start = record { depth = 0; head = empty_head; parts = head_start; opened = None }

-- ---- the function that a `{` opens

-- the name that the head defines: that of a prototype, or else the first called name
abbrev pub head_name : WideMachine → Option Token
head_name m = option_or (option_map (λ (x : WideToken). x.token) (declared m.parts)) m.head.called

-- the function that the head defines
abbrev pub defined : WideMachine → Option Def
defined m =
    if defines m.head then option_map (def_of m.head.has_static) (head_name m) else None

-- the function that a `{` opens here: that of the head, or where it is empty one in the old style
abbrev pub function_here : WideMachine → Option Def
function_here m = if is_none m.head.last then m.opened else defined m

-- the function whose `{` is the token, where it is said whether the token is a block
abbrev pub found : WideMachine → Bool → Option Def
found m block = if block && m.depth == 0 then function_here m else None

-- ---- the state after a token

-- the depth after the token
abbrev pub next_depth : WideMachine → WideToken → ℕ
next_depth m x = depth_after x.counted x.token m.depth

-- the token is a stop: a `;` at depth 0, a `}` that leaves depth 0, or a `{` that does not count
abbrev pub stops : WideMachine → WideToken → Bool
stops m x =
    (is_sign semicolon x.role && m.depth == 0)
    || (is_sign close_brace x.role && next_depth m x == 0)
    || is_linkage x

-- the function in the old style that is open after a stop
abbrev pub next_old : WideMachine → WideToken → Option Def
next_old m x = if is_sign semicolon x.role then next_opened m.head m.opened else None

-- after a stop
abbrev pub stopped : WideMachine → WideToken → WideMachine
stopped m x = record {
  depth = next_depth m x;
  head = empty_head;
  parts = head_start;
  opened = next_old m x;
}

-- after the first token, where it is a token of the head
abbrev pub headed : WideMachine → List WideToken → WideToken → WideMachine
headed m xs x = record m { head = add m.head x.token; parts = next_head m.parts xs x }

-- after the first token, which is no stop: deeper in braces it is of no head, since a stop comes
-- before the depth is 0 again
abbrev pub grown : WideMachine → List WideToken → WideToken → WideMachine
grown m xs x =
    record (if m.depth == 0 then headed m xs x else m) { depth = next_depth m x }

-- after the first token
abbrev pub next : WideMachine → List WideToken → WideToken → WideMachine
next m xs x = if stops m x then stopped m x else grown m xs x

-- after a token deeper in braces, which is of no head
abbrev pub next_inside : WideMachine → WideToken → WideMachine
next_inside m x = if stops m x then stopped m x else record m { depth = next_depth m x }

-- ---- all tokens, where these are the bodies

-- the functions of the tokens from a state on
unfoldable pub functions_from : List Body → WideMachine → List WideToken → List Def
functions_from bs m [] = []
functions_from bs m (x ∷ xs) =
    option_to_list (found m (is_block bs x)) ++ functions_from bs (next m (x ∷ xs) x) xs

-- what the token opens, if it is a `{` that counts outside all braces: a function or none
abbrev pub opened : List Body → WideMachine → WideToken → List (Option Def)
opened bs m x = if x.counted && m.depth == 0 then found m (is_block bs x) ∷ [] else []

-- what each of them opens from a state on
unfoldable pub opened_from : List Body → WideMachine → List WideToken → List (Option Def)
opened_from bs m [] = []
opened_from bs m (x ∷ xs) = opened bs m x ++ opened_from bs (next m (x ∷ xs) x) xs
