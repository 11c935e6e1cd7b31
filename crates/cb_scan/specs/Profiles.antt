-- What is found in a text by each profile: by its rules, and of that the facts that are wanted.
-- Macros, uses, includes, ranges and scopes have the same definitions for all rules, over the
-- functions that these find.
use Rattle.std.specs.Prelude.{◌≡◌, ℕ, Bool, true, false, not, filter, List, [], ◌++◌, ◌||◌, None}
use Rattle.std.specs.List.{Contains}
use Rattle.cb_scan.specs.declared.facts.Call.{Call}
use Rattle.cb_scan.specs.declared.facts.Def.{Def}
use Rattle.cb_scan.specs.declared.facts.Kind.{Kind}
use Rattle.cb_scan.specs.declared.facts.Use.{Use}
use Rattle.cb_scan.specs.declared.lex.piece.Piece.{Piece}
use Rattle.cb_scan.specs.declared.lex.piece.Span.{Span}
use Rattle.cb_scan.specs.declared.profile.Profile.{Profile}
use Rattle.cb_scan.specs.declared.profile.Rules.{Rules}
use Rattle.cb_scan.specs.declared.profile.Rules.TheVariants.{Prototypes, Standard, Wide}
use Rattle.cb_scan.specs.declared.profile.Wanted.{Wanted}
use Rattle.cb_scan.specs.declared.rules.scope.Range.{Range}
use Rattle.cb_scan.specs.declared.facts.Kind.TheVariants as kind
use Rattle.cb_scan.specs.rules.Code.{code}
use Rattle.cb_scan.specs.rules.Functions.{Function, functions}
use Rattle.cb_scan.specs.rules.Macros.{macros}
use Rattle.cb_scan.specs.rules.Scope.{name_around, ranges_of, scope_among}
use Rattle.cb_scan.specs.rules.Uses.{calls_in, includes_with, macro_calls, uses_with}
use Rattle.cb_scan.specs.rules.wide.Bodies.{Body, bodies, is_enumeration}
use Rattle.cb_scan.specs.rules.wide.Kinds.{bare_tokens, functions_of, wide_found}
use Rattle.cb_scan.specs.rules.wide.Levels.{Placed, is_inside}
use Rattle.cb_scan.specs.Definitions.{definitions_from}
use Rattle.cb_scan.specs.Lines.{line_of}
use Rattle.cb_scan.specs.Order.{call_key, def_key, in_order}
use Rattle.cb_scan.specs.TextFacts.{TextFacts}
use Rattle.cb_scan.specs.steps.Cut.{pieces}

-- ---- by the rules alone

-- the functions that rules find
abbrev pub functions_by : Rules → List ℕ → List Piece → List Function
functions_by Standard text ps = functions (code text ps)
functions_by Wide text ps = functions_of text ps
functions_by Prototypes text ps = functions_of text ps

-- their ranges, from the first byte of a name to the end of its body
abbrev pub ranges_by : Rules → List ℕ → List Piece → List Range
ranges_by rules text ps = ranges_of text ps (functions_by rules text ps)

-- those of a text
abbrev pub ranges_in : Rules → List ℕ → List Range
ranges_in rules text = ranges_by rules text (pieces text)

-- an external declaration or a prototype: what it names is defined elsewhere
abbrev pub is_declaration : Kind → Bool
is_declaration kind.External = true
is_declaration kind.Prototype = true
is_declaration _ = false

-- all that the wide rules find, by place
abbrev pub all_definitions : List ℕ → List Piece → List Def
all_definitions text ps = in_order def_key (wide_found text ps)

-- the definitions that rules find, by place
abbrev pub definitions_by : Rules → List ℕ → List Piece → List Def
definitions_by Standard text ps = definitions_from text ps
definitions_by Wide text ps = filter (λ d. not (is_declaration d.kind)) (all_definitions text ps)
definitions_by Prototypes text ps = all_definitions text ps

-- what is found with these definitions and functions
abbrev pub facts_with : List Def → List Function → List ℕ → List Piece → TextFacts
facts_with defs fs text ps = record {
  defs = defs;
  uses = uses_with (scope_among text ps fs) text ps;
  calls = in_order call_key (calls_in (code text ps) fs ++ macro_calls (macros text ps));
  includes = includes_with (scope_among text ps fs) text ps;
}

-- what rules find in a text with these pieces
abbrev pub all_facts_by : Rules → List ℕ → List Piece → TextFacts
all_facts_by rules text ps =
    facts_with (definitions_by rules text ps) (functions_by rules text ps) text ps

-- what rules find in a text
abbrev pub all_facts : Rules → List ℕ → TextFacts
all_facts rules text = all_facts_by rules text (pieces text)

-- ---- what is wanted of it

-- a list, where it is wanted
abbrev pub kept : {X : Type 0} → Bool → List X → List X
kept true xs = xs
kept false xs = []

-- the lists that are wanted
abbrev pub wanted_of : Wanted → TextFacts → TextFacts
wanted_of w f = record {
  defs = kept w.defs f.defs;
  uses = kept w.uses f.uses;
  calls = kept w.calls f.calls;
  includes = kept w.includes f.includes;
}

-- four empty lists
abbrev pub no_facts : TextFacts
no_facts = record { defs = []; uses = []; calls = []; includes = [] }

-- all lists
abbrev pub all_wanted : Wanted
all_wanted = record { defs = true; uses = true; calls = true; includes = true }

-- one of the lists is wanted
abbrev pub is_any : Wanted → Bool
is_any w = w.defs || w.uses || w.calls || w.includes

-- all facts by these rules
abbrev pub all_by : Rules → Profile
all_by rules = record { rules = rules; wanted = all_wanted }

-- what a profile finds in a text with these pieces
abbrev pub facts_by : Profile → List ℕ → List Piece → TextFacts
facts_by profile text ps = wanted_of profile.wanted (all_facts_by profile.rules text ps)

-- what a profile finds in a text
abbrev pub facts_in : Profile → List ℕ → TextFacts
facts_in profile text = facts_by profile text (pieces text)

-- ---- what holds of all texts

-- a variable, an external declaration or a prototype
abbrev pub is_object : Kind → Bool
is_object kind.Variable = true
is_object kind.External = true
is_object kind.Prototype = true
is_object _ = false

-- a name is one of these tokens, and the `{` that are open around it are so
abbrev pub StandsIn : List Placed → (List ℕ → Type 0) → Span → Type 0
StandsIn ps IsSo name =
    (p : Placed) × Contains ps p × (p.item.token.span ≡ name) × IsSo p.around

-- a definition is inside the body of an enumeration, or of a structure or union: the innermost `{`
-- around its name is that of the body
abbrev pub IsInABody : Bool → List Placed → Def → Type 0
IsInABody enumeration ps d =
    (b : Body) × Contains (bodies ps) b × (is_enumeration b.kind ≡ enumeration)
    × StandsIn ps (λ around. is_inside b.place around ≡ true) d.name

-- a definition is on the level of the file: no `{` is open around its name, so it is in no body, and
-- it is in no range of a function
abbrev pub IsOnTheFilesLevel : List Placed → List Range → Def → Type 0
IsOnTheFilesLevel ps ranges d =
    StandsIn ps (λ around. around ≡ []) d.name × (name_around ranges d.name.start ≡ None)

-- enumerators and members are inside bodies; variables, external declarations and prototypes are on
-- the level of the file
abbrev pub IsOnLevelOf : Kind → List Placed → List Range → Def → Type 0
IsOnLevelOf kind.Enumerator ps ranges d = IsInABody true ps d
IsOnLevelOf kind.Member ps ranges d = IsInABody false ps d
IsOnLevelOf kind.Variable ps ranges d = IsOnTheFilesLevel ps ranges d
IsOnLevelOf kind.External ps ranges d = IsOnTheFilesLevel ps ranges d
IsOnLevelOf kind.Prototype ps ranges d = IsOnTheFilesLevel ps ranges d
IsOnLevelOf _ ps ranges d = Unit {0}

-- the same in a text: by the tokens of its code without attributes, and by the functions of the
-- wide rules
abbrev pub IsOnItsLevel : List ℕ → Def → Type 0
IsOnItsLevel text d =
    IsOnLevelOf d.kind (bare_tokens text (code text (pieces text))) (ranges_in Wide text) d

-- a use, and a call, is on the line of its name
abbrev pub IsUseOnItsLine : List ℕ → Use → Type 0
IsUseOnItsLine text u = u.line ≡ line_of text u.name.start

abbrev pub IsCallOnItsLine : List ℕ → Call → Type 0
IsCallOnItsLine text c = c.line ≡ line_of text c.callee.start
