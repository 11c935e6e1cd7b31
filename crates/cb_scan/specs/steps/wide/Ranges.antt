-- The ranges of the functions of the wide profile and the calls in their bodies, a token of the
-- code at a time. Attributes are not left out.
use Rattle.std.specs.Prelude.{ℕ, Bool, ◌&&◌, ◌==◌, List, [], ◌∷◌, ◌++◌, drop, Option, None, Some}
use Rattle.std.specs.Prelude.{if◌then◌else◌}
use Rattle.std.specs.Option.{option_map, option_to_list}
use Rattle.cb_scan.specs.declared.facts.Call.{Call}
use Rattle.cb_scan.specs.declared.facts.Def.{Def}
use Rattle.cb_scan.specs.declared.lex.piece.Span.{Span}
use Rattle.cb_scan.specs.declared.lex.token.Token.{Token}
use Rattle.cb_scan.specs.declared.rules.scope.Range.{Range}
use Rattle.cb_scan.specs.declared.rules.wide.token.WideToken.{WideToken}
use Rattle.cb_scan.specs.rules.Depth.{depth_after}
use Rattle.cb_scan.specs.rules.wide.Words.{is_sign}
use Rattle.cb_scan.specs.steps.Functions.{call_before, range_to}
use Rattle.cb_scan.specs.Bytes.{close_brace}

-- what is known before a token: the depth, the token directly before, and the name of the function
-- whose body it is in
pub record Inside : Type 0 where
  pub depth : ℕ
  pub last : Option Token
  pub body : Option Span

-- the beginning of the code
abbrev pub outside : Inside
outside = record { depth = 0; last = None; body = None }

-- the depth after the token
abbrev pub next_depth : Inside → WideToken → ℕ
next_depth i x = depth_after x.counted x.token i.depth

-- the token is a `}` that leaves depth 0
abbrev pub ends_all : Inside → WideToken → Bool
ends_all i x = is_sign close_brace x.role && next_depth i x == 0

-- the name of the function that a `{` outside all braces opens, if it counts and opens one
abbrev pub entered : Option Def → WideToken → Option Span
entered found x = if x.counted then option_map (λ (d : Def). d.name) found else None

-- the name of the function whose body the next token is in, where this one opens a function
abbrev pub next_body : Inside → Option Def → WideToken → Option Span
next_body i found x =
    if i.depth == 0 then entered found x else (if next_depth i x == 0 then None else i.body)

-- after the token
abbrev pub next : Inside → Option Def → WideToken → Inside
next i found x = record {
  depth = next_depth i x;
  last = Some x.token;
  body = next_body i found x;
}

-- the range of the function whose body the token ends
abbrev pub closed : Inside → WideToken → Option Range
closed i x = if ends_all i x then option_map (range_to x.token.span.end) i.body else None

-- the range of the function whose body the end of the text ends
abbrev pub left_open : Inside → ℕ → Option Range
left_open i end = option_map (range_to end) i.body

-- the call of the token before
abbrev pub called : Inside → WideToken → Option Call
called i x = call_before i.body i.last x.token

-- ---- all tokens, where these are what each `{` opens that counts outside all braces

-- what the next of them opens
abbrev pub next_opened : List (Option Def) → Option Def
next_opened [] = None
next_opened (found ∷ opened) = found

-- what those after the token open
abbrev pub later_opened : Inside → List (Option Def) → WideToken → List (Option Def)
later_opened i opened x = if x.counted && i.depth == 0 then drop 1 opened else opened

-- the ranges of the functions whose bodies end from a state on, where the text ends at a place
unfoldable pub ranges_from : ℕ → Inside → List (Option Def) → List WideToken → List Range
ranges_from end i opened [] = option_to_list (left_open i end)
ranges_from end i opened (x ∷ xs) =
    option_to_list (closed i x)
    ++ ranges_from end (next i (next_opened opened) x) (later_opened i opened x) xs

-- the calls in the bodies of functions from a state on
unfoldable pub calls_from : Inside → List (Option Def) → List WideToken → List Call
calls_from i opened [] = []
calls_from i opened (x ∷ xs) =
    option_to_list (called i x)
    ++ calls_from (next i (next_opened opened) x) (later_opened i opened x) xs
