-- A logical line, a token at a time.
use Rattle.std.specs.Prelude.{ℕ, Bool, true, false, ◌&&◌, ◌==◌, List, [], ◌∷◌, length, ◌++◌, Option}
use Rattle.std.specs.Prelude.{Some, None, if◌then◌else◌}
use Rattle.std.specs.Option.{option_to_list}
use Rattle.cb_scan.specs.declared.facts.Call.{Call}
use Rattle.cb_scan.specs.declared.facts.Def.{Def}
use Rattle.cb_scan.specs.declared.facts.Include.{Include}
use Rattle.cb_scan.specs.declared.rules.directives.Defining.{Defining}
use Rattle.cb_scan.specs.declared.rules.directives.Defining.TheVariants as defining
use Rattle.cb_scan.specs.declared.rules.directives.Directive.{Directive}
use Rattle.cb_scan.specs.declared.rules.directives.Directive.TheVariants as directive
use Rattle.cb_scan.specs.declared.rules.directives.Including.{Including}
use Rattle.cb_scan.specs.declared.rules.directives.Including.TheVariants as including
use Rattle.cb_scan.specs.declared.rules.directives.Stage.{Stage}
use Rattle.cb_scan.specs.declared.rules.directives.Stage.TheVariants.{Start, Code}
use Rattle.cb_scan.specs.declared.rules.directives.Stage.TheVariants.{Directive as InDirective}
use Rattle.cb_scan.specs.declared.lex.lined.Lined.{Lined}
use Rattle.cb_scan.specs.declared.rules.scope.Range.{Range}
use Rattle.cb_scan.specs.declared.lex.token.Token.{Token}
use Rattle.cb_scan.specs.Definitions.{macro_def}
use Rattle.cb_scan.specs.rules.Code.{is_newline}
use Rattle.cb_scan.specs.lex.Tokens.{has_kind, is_mark, is_name_token, is_significant, is_str}
use Rattle.cb_scan.specs.lex.Tokens.{kind_is_define, kind_is_include, role_of, starts_line}
use Rattle.cb_scan.specs.rules.Uses.{call_of, header_between, header_of, is_call}
use Rattle.cb_scan.specs.Bytes.{close_paren, greater, hash, less, open_paren}

-- the token of a piece whose line is known
abbrev pub lined_token : List ℕ → Lined → Token
lined_token text l = record {
  role = role_of text l.piece;
  span = l.piece.span;
  line = l.line;
  starts_line = starts_line text l.piece.span.start;
}

-- a `(` directly follows the name: then the macro has arguments
abbrev pub opens_arguments : Token → Token → Bool
opens_arguments name t = is_mark open_paren t.role && t.span.start == name.span.end

-- how far a `# define` has come, after a token
abbrev pub next_defining : Defining → Token → Defining
next_defining defining.Begun t = if is_name_token t.role then defining.Name t else defining.Other
next_defining (defining.Name name) t =
    if opens_arguments name t then defining.Arguments name.span
    else defining.Other
next_defining (defining.Arguments name) t =
    if is_mark close_paren t.role then defining.Body name None else defining.Arguments name
next_defining (defining.Body name last) t = defining.Body name (Some t)
next_defining defining.Other t = defining.Other

-- how far a `# include` has come, after a token
abbrev pub next_including : Including → Token → Including
next_including including.Begun t = if is_mark less t.role then including.Angle t else including.Done
next_including (including.Angle open_) t =
    if is_mark greater t.role then including.Done else including.Angle open_
next_including including.Done t = including.Done

-- after the second token of a directive
abbrev pub directive_of : Token → Directive
directive_of own =
    if has_kind kind_is_define own.role then directive.Define defining.Begun
    else (if has_kind kind_is_include own.role then directive.Include including.Begun
    else directive.Other)

-- how far a directive has come, after a token
abbrev pub next_directive : Directive → Token → Directive
next_directive directive.Hash t = directive_of t
next_directive (directive.Define d) t = directive.Define (next_defining d t)
next_directive (directive.Include i) t = directive.Include (next_including i t)
next_directive directive.Other t = directive.Other

-- how far a line has come, after a token
abbrev pub next_stage : Stage → Token → Stage
next_stage Start t = if is_mark hash t.role then InDirective directive.Hash else Code
next_stage Code t = Code
next_stage (InDirective d) t = InDirective (next_directive d t)

-- ---- what a token gives, and what the end of a line gives

-- a line from a stage on, by what each token and the end give
abbrev pub run : {A : Type 0} → (Stage → Token → List A) → (Stage → List A) → Stage → List Token
    → List A
run out finish s [] = finish s
run out finish s (t ∷ ts) = out s t ++ run out finish (next_stage s t) ts

-- the pieces from a stage of the line on; the end of a line gives something by the stage and the
-- place
abbrev pub walk : {A : Type 0} → (Stage → Token → List A) → (Stage → ℕ → List A) → List ℕ → Stage
    → List Lined → List A
walk out finish text s [] = finish s (length text)
walk out finish text s (l ∷ ls) =
    if is_newline l.piece.class then finish s l.piece.span.start ++ walk out finish text Start ls
    else (if is_significant l.piece.class then out s (lined_token text l)
    ++ walk out finish text (next_stage s (lined_token text l)) ls
    else walk out finish text s ls)

-- the end of a line gives nothing
abbrev pub nothing : {A : Type 0} → Stage → ℕ → List A
nothing s end = []

abbrev pub is_code : Stage → Bool
is_code Start = false
is_code Code = true
is_code (InDirective d) = false

-- the token, if it is code
abbrev pub code_out : Stage → Token → List Token
code_out s t = if is_code (next_stage s t) then t ∷ [] else []

-- names are uses there: not the own word of a directive, and nothing of an include
abbrev pub names_count : Stage → Bool
names_count Start = true
names_count Code = true
names_count (InDirective directive.Hash) = false
names_count (InDirective (directive.Define d)) = true
names_count (InDirective (directive.Include i)) = false
names_count (InDirective directive.Other) = true

-- the token, if it is a use
abbrev pub use_out : Stage → Token → List Token
use_out s t = if is_name_token t.role && names_count s then t ∷ [] else []

-- the macro that the token names, if it names one
abbrev pub macro_named : Defining → Token → Option Def
macro_named defining.Begun t = if is_name_token t.role then Some (macro_def t) else None
macro_named _ t = None

abbrev pub macro_found : Stage → Token → Option Def
macro_found (InDirective (directive.Define d)) t = macro_named d t
macro_found _ t = None

abbrev pub macro_out : Stage → Token → List Def
macro_out s t = option_to_list (macro_found s t)

-- the range of the macro whose line ends
abbrev pub range_ended : Defining → ℕ → Option Range
range_ended (defining.Arguments name) end = Some (record { name = name; end = end })
range_ended (defining.Body name last) end = Some (record { name = name; end = end })
range_ended _ end = None

abbrev pub macro_ended : Stage → ℕ → Option Range
macro_ended (InDirective (directive.Define d)) end = range_ended d end
macro_ended _ end = None

abbrev pub range_finish : Stage → ℕ → List Range
range_finish s end = option_to_list (macro_ended s end)

-- a range comes with the end of its line alone
abbrev pub no_range : Stage → Token → List Range
no_range s t = []

-- the call of the last token of a macro's body
abbrev pub body_call : Defining → Token → Option Call
body_call (defining.Body name (Some last)) t =
    if is_call last t then Some (call_of name last) else None
body_call _ t = None

abbrev pub macro_call : Stage → Token → Option Call
macro_call (InDirective (directive.Define d)) t = body_call d t
macro_call _ t = None

abbrev pub macro_call_out : Stage → Token → List Call
macro_call_out s t = option_to_list (macro_call s t)

-- the include whose header a string is, or a `>` ends
abbrev pub header_found : List ℕ → Including → Token → List Include
header_found text including.Begun t = if is_str t.role then header_of text t [] else []
header_found text (including.Angle a) t =
    if is_mark greater t.role then header_between a.span.end t.span.start a.line else []
header_found text including.Done t = []

abbrev pub include_out : List ℕ → Stage → Token → List Include
include_out text (InDirective (directive.Include i)) t = header_found text i t
include_out text _ t = []
