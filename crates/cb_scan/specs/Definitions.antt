-- The definitions of a text, and all that is found in it.
use Rattle.std.specs.Prelude.{ℕ, ◌≡◌, ◌≤◌, false, true, List, Option, None, ◌++◌, length, map}
use Rattle.std.specs.List.{AllByRecursion}
use Rattle.std.specs.Option.{MatchOption}
use Rattle.cb_scan.specs.declared.facts.Call.{Call}
use Rattle.cb_scan.specs.declared.facts.Def.{Def}
use Rattle.cb_scan.specs.declared.facts.Include.{Include}
use Rattle.cb_scan.specs.declared.facts.Tag.{Tag}
use Rattle.cb_scan.specs.declared.facts.Use.{Use}
use Rattle.cb_scan.specs.declared.facts.Kind.TheVariants as kind
use Rattle.cb_scan.specs.declared.lex.piece.Piece.{Piece}
use Rattle.cb_scan.specs.declared.lex.piece.Span.{Span}
use Rattle.cb_scan.specs.declared.lex.token.Token.{Token}
use Rattle.cb_scan.specs.lex.Reserved.{is_name}
use Rattle.cb_scan.specs.lex.Tokens.{bytes_of}
use Rattle.cb_scan.specs.rules.Code.{code}
use Rattle.cb_scan.specs.rules.Functions.{Function, functions}
use Rattle.cb_scan.specs.Lines.{IsLineOf}
use Rattle.cb_scan.specs.rules.Macros.{macro_names, macros}
use Rattle.cb_scan.specs.Order.{call_key, def_key, in_order}
use Rattle.cb_scan.specs.rules.Structures.{Structure, structures}
use Rattle.cb_scan.specs.TextFacts.{TextFacts}
use Rattle.cb_scan.specs.rules.Typedefs.{typedefs}
use Rattle.cb_scan.specs.steps.Cut.{pieces}
use Rattle.cb_scan.specs.rules.Uses.{function_calls, includes, macro_calls, uses}

-- a function, the name of a macro, a name of a typedef and a structure as definitions
abbrev pub function_def : Function → Def
function_def f = record {
  name = f.name.span;
  kind = kind.Function;
  line = f.name.line;
  local = f.local;
  tag = None;
}

abbrev pub macro_def : Token → Def
macro_def t =
    record { name = t.span; kind = kind.Macro; line = t.line; local = false; tag = None }

abbrev pub typedef_def : Token → Def
typedef_def t =
    record { name = t.span; kind = kind.Typedef; line = t.line; local = false; tag = None }

abbrev pub structure_def : Structure → Def
structure_def s = record {
  name = s.name.span;
  kind = s.kind;
  line = s.name.line;
  local = false;
  tag = None;
}

-- the definitions of a text with these pieces, by place, and at one place by kind
unfoldable pub definitions_from : List ℕ → List Piece → List Def
definitions_from text ps =
    in_order def_key
    (map function_def (functions (code text ps)) ++ map macro_def (macro_names text ps)
    ++ map typedef_def (typedefs (code text ps)) ++ map structure_def (structures (code text ps)))

-- the calls of a text with these pieces, by place
unfoldable pub calls : List ℕ → List Piece → List Call
calls text ps = in_order call_key (function_calls (code text ps) ++ macro_calls (macros text ps))

-- what is found in a text with these pieces
abbrev pub facts_from : List ℕ → List Piece → TextFacts
facts_from text ps =
    record {
      defs = definitions_from text ps;
      uses = uses text ps;
      calls = calls text ps;
      includes = includes text ps;
    }

-- ---- by the pieces as they are computed, which are the pieces (`IsPieces`) of the text

-- the definitions of a text
abbrev pub definitions : List ℕ → List Def
definitions text = definitions_from text (pieces text)

-- what is found in a text
abbrev pub facts_of : List ℕ → TextFacts
facts_of text = facts_from text (pieces text)

-- ---- what holds of all facts

-- the span lies in the text
abbrev pub IsWithin : List ℕ → Span → Type 0
IsWithin text span = (span.start ≤ span.end) × (span.end ≤ length text)

-- the span lies in the text, and a name stands there
abbrev pub IsNameOf : List ℕ → Span → Type 0
IsNameOf text span = IsWithin text span × (is_name (bytes_of text span) ≡ true)

-- the span lies in the text, if there is one
abbrev pub IsScopeWithin : List ℕ → Option Span → Type 0
IsScopeWithin text scope = MatchOption scope (Unit {0}) (IsWithin text)

-- the tag of a definition lies in the text, if there is one
abbrev pub IsTagWithin : List ℕ → Def → Type 0
IsTagWithin text d = MatchOption d.tag (Unit {0}) (λ (t : Tag). IsWithin text t.name)

-- the spans of all facts lie in the text, and the lines of the definitions are lines of it
pub record AreWithin (text : List ℕ) (f : TextFacts) : Type 0 where
  pub defs : AllByRecursion (λ (d : Def). IsWithin text d.name) f.defs
  pub tags : AllByRecursion (IsTagWithin text) f.defs
  pub lines : AllByRecursion (λ (d : Def). IsLineOf text d.line) f.defs
  pub uses : AllByRecursion (λ (u : Use). IsWithin text u.name × IsScopeWithin text u.scope) f.uses
  pub calls : AllByRecursion (λ (c : Call). IsWithin text c.callee × IsWithin text c.caller) f.calls
  pub includes : AllByRecursion
      (λ (i : Include). IsWithin text i.header × IsScopeWithin text i.scope) f.includes
