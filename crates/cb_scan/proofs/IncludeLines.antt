-- The include that a line gives, a token at a time, is that of the whole line.
use Rattle.std.proofs.Common.{◌≡◌, ◌∙◌, ⊎_elim, ℕ, Bool, true, false, List, [], ◌∷◌, ◌++◌, Option}
use Rattle.std.proofs.Common.{Some, refl, sym, ap, map}
use Rattle.std.proofs.lemmas.Bool.{false≢true, cases_Bool}
use Rattle.std.proofs.lemmas.List.{append-nil}
use Rattle.std.specs.Prelude.{cond, find}
use Rattle.std.specs.List.{flat_map}
use Rattle.std.specs.Option.{option_map_or}
use Rattle.cb_scan.specs.declared.facts.Include.{Include}
use Rattle.cb_scan.specs.declared.rules.directives.Defining.{Defining}
use Rattle.cb_scan.specs.declared.rules.directives.Defining.TheVariants as defining
use Rattle.cb_scan.specs.declared.rules.directives.Directive.TheVariants as directive
use Rattle.cb_scan.specs.declared.rules.directives.Including.TheVariants as including
use Rattle.cb_scan.specs.declared.rules.directives.Stage.{Stage}
use Rattle.cb_scan.specs.declared.rules.directives.Stage.TheVariants.{Start, Code, Directive as InDirective}
use Rattle.cb_scan.specs.declared.lex.piece.Piece.{Piece}
use Rattle.cb_scan.specs.declared.lex.token.Role.{Role}
use Rattle.cb_scan.specs.declared.lex.token.Role.TheVariants.{Word, Mark, Str, Other}
use Rattle.cb_scan.specs.declared.lex.token.WordKind.TheVariants as kind
use Rattle.cb_scan.specs.declared.lex.token.Token.{Token}
use Rattle.cb_scan.specs.rules.Code.{directives, is_directive, logical_lines}
use Rattle.cb_scan.specs.lex.Tokens.{has_kind, is_mark, is_str, kind_is_define, kind_is_include}
use Rattle.cb_scan.specs.rules.Uses.{angle_header, header_between, header_of, include_of, string_header}
use Rattle.cb_scan.specs.steps.Directives.{include_out, next_defining, nothing, run, walk}
use Rattle.cb_scan.specs.steps.Lined.{lined}
use Rattle.cb_scan.proofs.LineLemmas.{walk_lines}
use Rattle.cb_scan.proofs.Stages.{filtered, in_code, in_define, in_include, in_other, none, quiet}

-- ---- includes
str_no_mark : (r : Role) (b : ℕ) → is_str r ≡ true → is_mark b r ≡ false
str_no_mark (Word w) b is = absurd (false≢true is)
str_no_mark (Mark x) b is = absurd (false≢true is)
str_no_mark Str b is = refl
str_no_mark Other b is = absurd (false≢true is)

include_no_define : (r : Role) → has_kind kind_is_include r ≡ true → has_kind kind_is_define r ≡ false
include_no_define (Word kind.Name) is = refl
include_no_define (Word kind.Define) is = absurd (false≢true is)
include_no_define (Word kind.Include) is = refl
include_no_define (Word kind.Typedef) is = refl
include_no_define (Word kind.Extern) is = refl
include_no_define (Word kind.Static) is = refl
include_no_define (Word kind.Struct) is = refl
include_no_define (Word kind.Union) is = refl
include_no_define (Word kind.Enum) is = refl
include_no_define (Word kind.Reserved) is = refl
include_no_define (Mark x) is = refl
include_no_define Str is = refl
include_no_define Other is = refl

-- the first `>` ends a header
abbrev closing : Token → Option Token → List Include
closing a o = option_map_or (λ (g : Token). header_between a.span.end g.span.start a.line) o []

module _ (text : List ℕ) where
  abbrev out : Stage → Token → List Include
  out = include_out text

  define_none : (d : Defining) (ts : List Token) → run out none (in_define d) ts ≡ []
  define_none = quiet out none in_define next_defining (λ d t. refl) (λ d t. refl) (λ d. refl)

  other_none : (ts : List Token) → run out none (InDirective directive.Other) ts ≡ []
  other_none = quiet out none in_other (λ u t. tt) (λ u t. refl) (λ u t. refl) (λ u. refl) tt

  code_none : (ts : List Token) → run out none Code ts ≡ []
  code_none = quiet out none in_code (λ u t. tt) (λ u t. refl) (λ u t. refl) (λ u. refl) tt

  done_none : (ts : List Token) → run out none (in_include including.Done) ts ≡ []
  done_none = quiet out none (λ (u : Unit {0}). in_include including.Done) (λ u t. tt) (λ u t. refl) (λ u t. refl)
      (λ u. refl) tt

  -- after the `<` of a header
  angle_run : (a : Token) (ts : List Token)
      → run out none (in_include (including.Angle a)) ts ≡ closing a (find (λ (u : Token). is_mark 62 u.role) ts)
  angle_run a [] = refl
  angle_run a (t ∷ ts) =
      elim (is_mark 62 t.role) as (λ b. cond b (header_between a.span.end t.span.start a.line) []
      ++ run out none (in_include (cond b including.Done (including.Angle a))) ts
      ≡ closing a (cond b (Some t) (find (λ (u : Token). is_mark 62 u.role) ts))) [
        | true ↦ ap (λ c. header_between a.span.end t.span.start a.line ++ c) (done_none ts) ∙ append-nil _
        | false ↦ angle_run a ts
      ]

  -- the header between angle brackets, where the token is a `<`
  abbrev bracketed : Token → List Token → List Include
  bracketed t ts = cond (is_mark 60 t.role) (angle_header t ts) []

  angled : (t : Token) (ts : List Token)
      → run out none (in_include (cond (is_mark 60 t.role) (including.Angle t) including.Done)) ts ≡ bracketed t ts
  angled t ts =
      elim (is_mark 60 t.role) as (λ b. run out none (in_include (cond b (including.Angle t) including.Done)) ts
      ≡ cond b (closing t (find (λ (u : Token). is_mark 62 u.role) ts)) []) [
        | true ↦ angle_run t ts
        | false ↦ done_none ts
      ]

  third_run : (t : Token) (ts : List Token)
      → cond (is_str t.role) (header_of text t []) []
      ++ run out none (in_include (cond (is_mark 60 t.role) (including.Angle t) including.Done)) ts
      ≡ header_of text t ts
  third_run t ts =
      ⊎_elim
      (λ str.
      (λ i. cond (str i) (header_of text t []) []
      ++ run out none (in_include (cond (str_no_mark t.role 60 str i) (including.Angle t) including.Done)) ts)
      ∙ ap (λ c. header_of text t [] ++ c) (done_none ts)
      ∙ append-nil (header_of text t [])
      ∙ ap (λ b. cond b (string_header text t) (bracketed t [])) str
      ∙ sym (ap (λ b. cond b (string_header text t) (bracketed t ts)) str))
      (λ no_str.
      ap (λ b. cond b (header_of text t []) []
      ++ run out none (in_include (cond (is_mark 60 t.role) (including.Angle t) including.Done)) ts) no_str
      ∙ angled t ts
      ∙ sym (ap (λ b. cond b (string_header text t) (bracketed t ts)) no_str))
      (cases_Bool (is_str t.role))

  -- after the own word
  header_run : (h own : Token) (ts : List Token) → has_kind kind_is_include own.role ≡ true
      → run out none (in_include including.Begun) ts ≡ include_of text (h ∷ own ∷ ts)
  header_run h own [] is = refl
  header_run h own (t ∷ ts) is = third_run t ts ∙ ap (λ b. cond b (header_of text t ts) []) (sym is)

  hash_run : (h : Token) (ts : List Token) → run out none (InDirective directive.Hash) ts ≡ include_of text (h ∷ ts)
  hash_run h [] = refl
  hash_run h (own ∷ ts) =
      let go = λ (d i : Bool). run out none
      (InDirective (cond d (directive.Define defining.Begun)
      (cond i (directive.Include including.Begun) directive.Other))) ts in
      ⊎_elim
      (λ is. (λ i. go (include_no_define own.role is i) (is i)) ∙ header_run h own ts is)
      (λ isnt.
      ap (λ b. go (has_kind kind_is_define own.role) b) isnt
      ∙ elim (has_kind kind_is_define own.role) as (λ b. go b false ≡ [])
      [ true ↦ define_none defining.Begun ts | false ↦ other_none ts ]
      ∙ sym (nothing_included ts isnt))
      (cases_Bool (has_kind kind_is_include own.role))
    where
      nothing_included : (ts : List Token) → has_kind kind_is_include own.role ≡ false
          → include_of text (h ∷ own ∷ ts) ≡ []
      nothing_included [] isnt = refl
      nothing_included (t ∷ ts) isnt = ap (λ b. cond b (header_of text t ts) []) isnt

  include_line : (l : List Token) → run out none Start l ≡ cond (is_directive l) (include_of text l) []
  include_line [] = refl
  include_line (t ∷ ts) =
      elim (is_mark 35 t.role) as (λ b. run out none (cond b (InDirective directive.Hash) Code) ts
      ≡ cond b (include_of text (t ∷ ts)) []) [
        | true ↦ hash_run t ts
        | false ↦ code_none ts
      ]

  pub includes_are : (ps : List Piece)
      → walk out nothing text Start (map (lined text) ps) ≡ flat_map (include_of text) (directives text ps)
  includes_are ps =
      walk_lines out none text ps
      ∙ (λ i. flat_map (λ l. include_line l i) (logical_lines text ps))
      ∙ sym (filtered (include_of text) (logical_lines text ps))
