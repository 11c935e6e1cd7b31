-- Uses of names, calls and includes. This is the project's profile.
use Rattle.std.specs.Prelude.{ℕ, suc, ◌+◌, ◌-◌, Bool, false, ◌&&◌, nat_lt, List, [], ◌∷◌, None}
use Rattle.std.specs.Prelude.{Option, if◌then◌else◌, filter, map, find}
use Rattle.std.specs.List.{flat_map, range_with_len}
use Rattle.std.specs.Option.{option_map_or}
use Rattle.cb_scan.specs.declared.lex.piece.Piece.{Piece}
use Rattle.cb_scan.specs.declared.lex.piece.Span.{Span}
use Rattle.cb_scan.specs.declared.facts.Use.{Use}
use Rattle.cb_scan.specs.declared.facts.Call.{Call}
use Rattle.cb_scan.specs.declared.facts.Include.{Include}
use Rattle.cb_scan.specs.declared.lex.token.Token.{Token}
use Rattle.cb_scan.specs.rules.Code.{directives, is_directive, logical_lines}
use Rattle.cb_scan.specs.rules.Depth.{token_at}
use Rattle.cb_scan.specs.rules.Functions.{Function, functions}
use Rattle.cb_scan.specs.rules.Macros.{Macro}
use Rattle.cb_scan.specs.rules.Scope.{scope}
use Rattle.cb_scan.specs.steps.Quote.{is_closed}
use Rattle.cb_scan.specs.lex.Tokens.{bytes_of, has_kind, is_any_word, is_mark, is_name_token}
use Rattle.cb_scan.specs.lex.Tokens.{is_str, kind_is_include}
use Rattle.cb_scan.specs.Bytes.{greater, less, open_paren}

-- ---- uses

-- a directive whose own word is `include`
abbrev pub is_include : List Token → Bool
is_include [] = false
is_include (hash ∷ []) = false
is_include (hash ∷ own ∷ rest) = has_kind kind_is_include own.role

-- the tokens of a directive after its own word
abbrev pub after_own_word : List Token → List Token
after_own_word [] = []
after_own_word (hash ∷ []) = []
after_own_word (hash ∷ own ∷ rest) = if is_any_word own.role then rest else own ∷ rest

-- the tokens of a line among which names are uses: no token of an include, and no own word
abbrev pub usable : List Token → List Token
usable line =
    if is_directive line then (if is_include line then [] else after_own_word line)
    else line

-- the names used on a line
abbrev pub used : List Token → List Token
used line = filter (λ (t : Token). is_name_token t.role) (usable line)

-- the use that a name is
abbrev pub use_of : (ℕ → Option Span) → Token → Use
use_of scope t = record { name = t.span; line = t.line; scope = scope t.span.start }

-- the uses of a text with these scopes, by place
abbrev pub uses_with : (ℕ → Option Span) → List ℕ → List Piece → List Use
uses_with scope text ps = map (use_of scope) (flat_map used (logical_lines text ps))

-- the uses of a text, by place
unfoldable pub uses : List ℕ → List Piece → List Use
uses text ps = uses_with (scope text ps) text ps

-- ---- calls

-- a name directly followed by `(` is a call
abbrev pub is_call : Token → Token → Bool
is_call t next = is_name_token t.role && is_mark open_paren next.role

-- the call of a name
abbrev pub call_of : Span → Token → Call
call_of caller t = record { callee = t.span; line = t.line; caller = caller }

-- the call that token k of the code is, in the body of a function
abbrev pub call_at : List Token → Span → ℕ → List Call
call_at ts caller k =
    if is_call (token_at ts k) (token_at ts (suc k)) then call_of caller (token_at ts k) ∷ []
    else []

-- the calls in the body of a function
abbrev pub calls_of_function : List Token → Function → List Call
calls_of_function ts f = flat_map (call_at ts f.name.span) (range_with_len f.body (f.end - f.body))

-- the calls in the bodies of some functions
abbrev pub calls_in : List Token → List Function → List Call
calls_in ts fs = flat_map (calls_of_function ts) fs

-- the calls in the bodies of all functions
abbrev pub function_calls : List Token → List Call
function_calls ts = calls_in ts (functions ts)

-- the calls among some tokens
unfoldable pub calls_among : Span → List Token → List Call
calls_among caller [] = []
calls_among caller (t ∷ []) = []
calls_among caller (t ∷ u ∷ ts) =
    if is_call t u then call_of caller t ∷ calls_among caller (u ∷ ts)
    else calls_among caller (u ∷ ts)

-- the calls in the bodies of macros with arguments
abbrev pub macro_calls : List Macro → List Call
macro_calls ms = flat_map (λ (m : Macro). calls_among m.name.span m.body) ms

-- ---- includes

-- the header between two places, if it is not empty
abbrev pub header_between : ℕ → ℕ → ℕ → List Include
header_between start end line =
    let include : Include =
    record { header = record { start = start; end = end }; line = line; scope = None } in
    if nat_lt start end then include ∷ [] else []

-- the header that a string is: what is between its quotes, if it is closed (`IsClosedLiteral`)
abbrev pub string_header : List ℕ → Token → List Include
string_header text t =
    if is_closed (bytes_of text t.span)
    then header_between (t.span.start + 1) (t.span.end - 1) t.line
    else []

-- the header that a `<` begins: what is between it and the first `>`
abbrev pub angle_header : Token → List Token → List Include
angle_header t rest =
    option_map_or (λ (g : Token). header_between t.span.end g.span.start t.line)
    (find (λ (u : Token). is_mark greater u.role) rest) []

-- the header that the third token of an include begins (ISO C 2011, 6.4.7 and 6.10.2); its first
-- byte is on the token's line
abbrev pub header_of : List ℕ → Token → List Token → List Include
header_of text t rest =
    if is_str t.role then string_header text t
    else (if is_mark less t.role then angle_header t rest else [])

-- the include that a directive is, if it is one; its scope is still to be found
abbrev pub include_of : List ℕ → List Token → List Include
include_of text [] = []
include_of text (hash ∷ []) = []
include_of text (hash ∷ own ∷ []) = []
include_of text (hash ∷ own ∷ t ∷ rest) =
    if has_kind kind_is_include own.role then header_of text t rest else []

-- the includes of a text with these scopes, by place
abbrev pub includes_with : (ℕ → Option Span) → List ℕ → List Piece → List Include
includes_with scope text ps =
    map (λ (i : Include). record i { scope = scope i.header.start })
    (flat_map (include_of text) (directives text ps))

-- the includes of a text, by place
unfoldable pub includes : List ℕ → List Piece → List Include
includes text ps = includes_with (scope text ps) text ps
