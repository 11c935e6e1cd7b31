-- The macros that a line gives, a token at a time, with their ranges and calls, are those of the
-- whole line.
use Rattle.std.proofs.Common.{◌≡◌, ◌∙◌, ⊎_elim, ℕ, Bool, true, false, List, [], ◌∷◌, ◌++◌, Option}
use Rattle.std.proofs.Common.{Some, None, refl, sym, ap, map}
use Rattle.std.proofs.lemmas.Bool.{cases_Bool}
use Rattle.std.proofs.lemmas.List.{append-nil, map-append}
use Rattle.std.proofs.lemmas.List.Concat.{flat_map-append}
use Rattle.std.specs.Prelude.{cond, ◌&&◌, ◌==◌, not}
use Rattle.std.specs.List.{flat_map, zip}
use Rattle.std.specs.Option.{option_to_list}
use Rattle.cb_scan.specs.declared.rules.directives.Defining.TheVariants as defining
use Rattle.cb_scan.specs.declared.rules.directives.Directive.TheVariants as directive
use Rattle.cb_scan.specs.declared.rules.directives.Including.{Including}
use Rattle.cb_scan.specs.declared.rules.directives.Including.TheVariants as including
use Rattle.cb_scan.specs.declared.rules.directives.Stage.{Stage}
use Rattle.cb_scan.specs.declared.rules.directives.Stage.TheVariants.{Start, Code, Directive as InDirective}
use Rattle.cb_scan.specs.declared.lex.piece.Piece.{Piece}
use Rattle.cb_scan.specs.declared.lex.piece.Span.{Span}
use Rattle.cb_scan.specs.declared.rules.scope.Range.{Range}
use Rattle.cb_scan.specs.declared.lex.token.Token.{Token}
use Rattle.cb_scan.specs.rules.Code.{directives, is_directive, line_ends, logical_lines}
use Rattle.cb_scan.specs.Definitions.{macro_def}
use Rattle.cb_scan.specs.rules.Macros.{Macro, after_arguments, macro_names, macro_names_of, macro_of, macros}
use Rattle.cb_scan.specs.rules.Scope.{macro_range, macro_ranges, range_of_line}
use Rattle.cb_scan.specs.lex.Tokens.{has_kind, is_mark, is_name_token, kind_is_define, kind_is_include}
use Rattle.cb_scan.specs.rules.Uses.{call_of, calls_among, is_call, macro_calls}
use Rattle.cb_scan.specs.steps.Directives.{directive_of, macro_call_out, macro_out, next_including}
use Rattle.cb_scan.specs.steps.Directives.{no_range, nothing, range_finish, run, walk}
use Rattle.cb_scan.specs.steps.Lined.{lined}
use Rattle.cb_scan.proofs.LineLemmas.{firsts, lines_as_many, walk_ended, walk_lines}
use Rattle.cb_scan.proofs.Stages.{filtered, in_code, in_define, in_include, in_other, none, quiet}

-- ---- macros
-- a `(` directly follows the name
abbrev opens : Token → Token → Bool
opens n p = is_mark 40 p.role && p.span.start == n.span.end

abbrev macro_named : Token → List Token → Macro
macro_named n ts = record { name = n; body = after_arguments ts }

-- a line as a macro, by what a macro gives; nothing comes of other lines, nor before the `(`
module _ {A : Type 0} (out : Stage → Token → List A) (finish : Stage → List A) (give : Macro → List A)
    (start : ((t : Token) → out Start t ≡ []) × (finish Start ≡ []))
    (in_lines : (u : Unit {0}) → ((t : Token) → out Code t ≡ []) × (finish Code ≡ []))
    (hash : ((t : Token) → out (InDirective directive.Hash) t ≡ []) × (finish (InDirective directive.Hash) ≡ []))
    (others : (u : Unit {0})
    → ((t : Token) → out (InDirective directive.Other) t ≡ []) × (finish (InDirective directive.Other) ≡ []))
    (includes : (i : Including) → ((t : Token) → out (in_include i) t ≡ []) × (finish (in_include i) ≡ []))
    (begun : ((t : Token) → out (in_define defining.Begun) t ≡ []) × (finish (in_define defining.Begun) ≡ []))
    (past : (u : Unit {0}) → ((t : Token) → out (in_define defining.Other) t ≡ [])
    × (finish (in_define defining.Other) ≡ []))
    (name_ends : (n : Token) → finish (in_define (defining.Name n)) ≡ [])
    (named : (n p : Token) (ts : List Token) → opens n p ≡ true
    → out (in_define (defining.Name n)) p ++ run out finish (in_define (defining.Arguments n.span)) ts
    ≡ give (macro_named n ts))
    (unnamed : (n p : Token) → opens n p ≡ false → out (in_define (defining.Name n)) p ≡ []) where
  no_macro : (ts : List Token) → run out finish (in_define defining.Other) ts ≡ []
  no_macro = quiet out finish (λ (u : Unit {0}). in_define defining.Other) (λ u t. tt) (λ u t. refl)
      (λ u t. (past u).0 t) (λ u. (past u).1) tt

  no_include : (ts : List Token) → run out finish (in_include including.Begun) ts ≡ []
  no_include = quiet out finish in_include next_including (λ i t. refl) (λ i t. (includes i).0 t)
      (λ i. (includes i).1) including.Begun

  no_other : (ts : List Token) → run out finish (InDirective directive.Other) ts ≡ []
  no_other = quiet out finish in_other (λ u t. tt) (λ u t. refl) (λ u t. (others u).0 t) (λ u. (others u).1) tt

  no_code : (ts : List Token) → run out finish Code ts ≡ []
  no_code = quiet out finish in_code (λ u t. tt) (λ u t. refl) (λ u t. (in_lines u).0 t) (λ u. (in_lines u).1) tt

  after_name : (n p : Token) (ts : List Token) (b : Bool) → opens n p ≡ b
      → out (in_define (defining.Name n)) p
      ++ run out finish (in_define (cond b (defining.Arguments n.span) defining.Other)) ts
      ≡ flat_map give (cond b (macro_named n ts ∷ []) [])
  after_name n p ts true is = named n p ts is ∙ sym (append-nil _)
  after_name n p ts false is =
      ap (λ c. c ++ run out finish (in_define defining.Other) ts) (unnamed n p is) ∙ no_macro ts

  -- the macro by the tests of `defines_macro`, of which the first is known
  abbrev defined : Bool → Bool → Token → Token → List Token → List A
  defined d b n p ts = flat_map give
      (cond (d && b && is_mark 40 p.role && p.span.start == n.span.end) (macro_named n ts ∷ []) [])

  after_define : (h own : Token) (ts : List Token) → has_kind kind_is_define own.role ≡ true
      → run out finish (in_define defining.Begun) ts ≡ flat_map give (macro_of (h ∷ own ∷ ts))
  after_define h own [] is = begun.1
  after_define h own (n ∷ []) is =
      ap (λ c. c ++ finish (in_define (cond (is_name_token n.role) (defining.Name n) defining.Other))) (begun.0 n)
      ∙ elim (is_name_token n.role) as (λ b. finish (in_define (cond b (defining.Name n) defining.Other)) ≡ [])
      [ true ↦ name_ends n | false ↦ no_macro [] ]
  after_define h own (n ∷ p ∷ ts) is =
      ap (λ c. c ++ run out finish (in_define (cond (is_name_token n.role) (defining.Name n) defining.Other)) (p ∷ ts))
      (begun.0 n)
      ∙ elim (is_name_token n.role) as (λ b. run out finish (in_define (cond b (defining.Name n) defining.Other))
      (p ∷ ts) ≡ defined true b n p ts) [
        | true ↦ after_name n p ts (opens n p) refl
        | false ↦ no_macro (p ∷ ts)
      ]
      ∙ ap (λ d. defined d (is_name_token n.role) n p ts) (sym is)

  after_hash : (h : Token) (ts : List Token)
      → run out finish (InDirective directive.Hash) ts ≡ flat_map give (macro_of (h ∷ ts))
  after_hash h [] = hash.1
  after_hash h (own ∷ ts) =
      let go = λ (d i : Bool). run out finish
      (InDirective (cond d (directive.Define defining.Begun)
      (cond i (directive.Include including.Begun) directive.Other))) ts in
      ap (λ c. c ++ run out finish (InDirective (directive_of own)) ts) (hash.0 own)
      ∙ ⊎_elim
      (λ is. ap (λ b. go b (has_kind kind_is_include own.role)) is ∙ after_define h own ts is)
      (λ isnt.
      ap (λ b. go b (has_kind kind_is_include own.role)) isnt
      ∙ elim (has_kind kind_is_include own.role) as (λ b. go false b ≡ [])
      [ true ↦ no_include ts | false ↦ no_other ts ]
      ∙ sym (nothing_defined ts isnt))
      (cases_Bool (has_kind kind_is_define own.role))
    where
      nothing_defined : (ts : List Token) → has_kind kind_is_define own.role ≡ false
          → flat_map give (macro_of (h ∷ own ∷ ts)) ≡ []
      nothing_defined [] isnt = refl
      nothing_defined (n ∷ []) isnt = refl
      nothing_defined (n ∷ p ∷ ts) isnt = ap (λ d. defined d (is_name_token n.role) n p ts) isnt

  macro_line : (l : List Token) → run out finish Start l ≡ cond (is_directive l) (flat_map give (macro_of l)) []
  macro_line [] = start.1
  macro_line (t ∷ ts) =
      ap (λ c. c ++ run out finish (cond (is_mark 35 t.role) (InDirective directive.Hash) Code) ts) (start.0 t)
      ∙ elim (is_mark 35 t.role) as (λ b. run out finish (cond b (InDirective directive.Hash) Code) ts
      ≡ cond b (flat_map give (macro_of (t ∷ ts))) []) [
        | true ↦ after_hash t ts
        | false ↦ no_code ts
      ]

-- what is given line by line is given macro by macro
by_macros : {A : Type 0} (give : Macro → List A) (text : List ℕ) (ps : List Piece)
    → flat_map (λ l. cond (is_directive l) (flat_map give (macro_of l)) []) (logical_lines text ps)
    ≡ flat_map give (macros text ps)
by_macros give text ps =
    sym (filtered (λ l. flat_map give (macro_of l)) (logical_lines text ps)) ∙ nested_map (directives text ps)
  where
    nested_map : (ls : List (List Token))
        → flat_map (λ l. flat_map give (macro_of l)) ls ≡ flat_map give (flat_map macro_of ls)
    nested_map [] = refl
    nested_map (l ∷ ls) = ap (λ c. flat_map give (macro_of l) ++ c) (nested_map ls)
        ∙ sym (flat_map-append give (macro_of l) (flat_map macro_of ls))

-- one thing a macro
one_each : {A : Type 0} (f : Macro → A) (ms : List Macro) → flat_map (λ m. f m ∷ []) ms ≡ map f ms
one_each f [] = refl
one_each f (m ∷ ms) = ap (λ c. f m ∷ c) (one_each f ms)

-- ---- the definitions of macros
no_defs : (ts : List Token) → run macro_out none (in_define defining.Other) ts ≡ []
no_defs = quiet macro_out none (λ (u : Unit {0}). in_define defining.Other) (λ u t. tt) (λ u t. refl) (λ u t. refl)
    (λ u. refl) tt

body_defs : (n : Span) (last : Option Token) (ts : List Token)
    → run macro_out none (in_define (defining.Body n last)) ts ≡ []
body_defs n last [] = refl
body_defs n last (t ∷ ts) = body_defs n (Some t) ts

argument_defs : (n : Span) (ts : List Token) → run macro_out none (in_define (defining.Arguments n)) ts ≡ []
argument_defs n [] = refl
argument_defs n (t ∷ ts) =
    elim (is_mark 41 t.role) as (λ b. run macro_out none
    (in_define (cond b (defining.Body n None) (defining.Arguments n))) ts ≡ []) [
      | true ↦ body_defs n None ts
      | false ↦ argument_defs n ts
    ]

-- nothing is defined after the name
later_defs : (n : Token) (ts : List Token) → run macro_out none (in_define (defining.Name n)) ts ≡ []
later_defs n [] = refl
later_defs n (p ∷ ts) =
    elim (opens n p) as (λ b. run macro_out none
    (in_define (cond b (defining.Arguments n.span) defining.Other)) ts ≡ []) [
      | true ↦ argument_defs n.span ts
      | false ↦ no_defs ts
    ]

-- a macro has arguments or has none: the third token names it in both cases
abbrev third : Token → List Token → List Token
third own [] = []
third own (n ∷ ts) = cond (has_kind kind_is_define own.role && is_name_token n.role) (n ∷ []) []

either_sort : (h own : Token) (ts : List Token) → macro_names_of (h ∷ own ∷ ts) ≡ third own ts
either_sort h own [] = refl
either_sort h own (n ∷ []) =
    elim (has_kind kind_is_define own.role) as (λ d. cond (d && is_name_token n.role && true) (n ∷ []) []
    ≡ cond (d && is_name_token n.role) (n ∷ []) []) [
      | true ↦ elim (is_name_token n.role) as (λ b. cond (b && true) (n ∷ []) [] ≡ cond b (n ∷ []) [])
          [ true ↦ refl | false ↦ refl ]
      | false ↦ refl
    ]
either_sort h own (n ∷ p ∷ ts) =
    sorts (has_kind kind_is_define own.role) (is_name_token n.role) (is_mark 40 p.role)
    (p.span.start == n.span.end)
  where
    sorts : (d b x y : Bool)
        → map (λ (m : Macro). m.name) (cond (d && b && x && y) (macro_named n ts ∷ []) [])
        ++ cond (d && b && not (x && y)) (n ∷ []) [] ≡ cond (d && b) (n ∷ []) []
    sorts true true true true = refl
    sorts true true true false = refl
    sorts true true false y = refl
    sorts true false x y = refl
    sorts false b x y = refl

defs_after_define : (own : Token) (ts : List Token) → has_kind kind_is_define own.role ≡ true
    → run macro_out none (in_define defining.Begun) ts ≡ map macro_def (third own ts)
defs_after_define own [] is = refl
defs_after_define own (n ∷ ts) is =
    elim (is_name_token n.role) as (λ b. option_to_list (cond b (Some (macro_def n)) None)
    ++ run macro_out none (in_define (cond b (defining.Name n) defining.Other)) ts
    ≡ map macro_def (cond b (n ∷ []) [])) [
      | true ↦ ap (λ c. macro_def n ∷ c) (later_defs n ts)
      | false ↦ no_defs ts
    ]
    ∙ ap (λ d. map macro_def (cond (d && is_name_token n.role) (n ∷ []) [])) (sym is)

no_third : (own : Token) (ts : List Token) → has_kind kind_is_define own.role ≡ false → third own ts ≡ []
no_third own [] isnt = refl
no_third own (n ∷ ts) isnt = ap (λ d. cond (d && is_name_token n.role) (n ∷ []) []) isnt

defs_after_hash : (h : Token) (ts : List Token)
    → run macro_out none (InDirective directive.Hash) ts ≡ map macro_def (macro_names_of (h ∷ ts))
defs_after_hash h [] = refl
defs_after_hash h (own ∷ ts) =
    let go = λ (d i : Bool). run macro_out none
    (InDirective (cond d (directive.Define defining.Begun)
    (cond i (directive.Include including.Begun) directive.Other))) ts in
    ⊎_elim
    (λ is. ap (λ b. go b (has_kind kind_is_include own.role)) is ∙ defs_after_define own ts is)
    (λ isnt.
    ap (λ b. go b (has_kind kind_is_include own.role)) isnt
    ∙ elim (has_kind kind_is_include own.role) as (λ b. go false b ≡ []) [
      | true ↦ quiet macro_out none in_include next_including (λ i t. refl) (λ i t. refl) (λ i. refl) including.Begun ts
      | false ↦ quiet macro_out none in_other (λ u t. tt) (λ u t. refl) (λ u t. refl) (λ u. refl) tt ts
    ]
    ∙ ap (map macro_def) (sym (no_third own ts isnt)))
    (cases_Bool (has_kind kind_is_define own.role))
    ∙ ap (map macro_def) (sym (either_sort h own ts))

def_line : (l : List Token) → run macro_out none Start l ≡ cond (is_directive l) (map macro_def (macro_names_of l)) []
def_line [] = refl
def_line (t ∷ ts) =
    elim (is_mark 35 t.role) as (λ b. run macro_out none (cond b (InDirective directive.Hash) Code) ts
    ≡ cond b (map macro_def (macro_names_of (t ∷ ts))) []) [
      | true ↦ defs_after_hash t ts
      | false ↦ quiet macro_out none in_code (λ u t. tt) (λ u t. refl) (λ u t. refl) (λ u. refl) tt ts
    ]

pub macros_are : (text : List ℕ) (ps : List Piece)
    → walk macro_out nothing text Start (map (lined text) ps) ≡ map macro_def (macro_names text ps)
macros_are text ps =
    walk_lines macro_out none text ps
    ∙ (λ i. flat_map (λ l. def_line l i) (logical_lines text ps))
    ∙ sym (filtered (λ l. map macro_def (macro_names_of l)) (logical_lines text ps))
    ∙ mapped (directives text ps)
  where
    mapped : (ls : List (List Token))
        → flat_map (λ l. map macro_def (macro_names_of l)) ls ≡ map macro_def (flat_map macro_names_of ls)
    mapped [] = refl
    mapped (l ∷ ls) = ap (λ c. map macro_def (macro_names_of l) ++ c) (mapped ls)
        ∙ sym (map-append macro_def (macro_names_of l) (flat_map macro_names_of ls))

-- ---- the ranges of macros
module _ (end : ℕ) where
  -- the range that ends with the line
  abbrev range_at : Stage → List Range
  range_at s = range_finish s end

  body_range : (n : Span) (last : Option Token) (ts : List Token)
      → run no_range range_at (in_define (defining.Body n last)) ts ≡ record { name = n; end = end } ∷ []
  body_range n last [] = refl
  body_range n last (t ∷ ts) = body_range n (Some t) ts

  argument_range : (n : Span) (ts : List Token)
      → run no_range range_at (in_define (defining.Arguments n)) ts ≡ record { name = n; end = end } ∷ []
  argument_range n [] = refl
  argument_range n (t ∷ ts) =
      elim (is_mark 41 t.role) as (λ b. run no_range range_at
      (in_define (cond b (defining.Body n None) (defining.Arguments n))) ts ≡ record { name = n; end = end } ∷ []) [
        | true ↦ body_range n None ts
        | false ↦ argument_range n ts
      ]

  range_line : (l : List Token)
      → run no_range range_at Start l ≡ cond (is_directive l) (flat_map (λ m. macro_range end m ∷ []) (macro_of l)) []
  range_line =
      macro_line no_range range_at (λ m. macro_range end m ∷ [])
      ((λ t. refl), refl) (λ u. ((λ t. refl), refl)) ((λ t. refl), refl) (λ u. ((λ t. refl), refl))
      (λ i. ((λ t. refl), refl)) ((λ t. refl), refl) (λ u. ((λ t. refl), refl))
      (λ n. refl)
      (λ n p ts is. argument_range n.span ts)
      (λ n p isnt. refl)

  line_range : (l : List Token) → run no_range range_at Start l ≡ range_of_line (l, end)
  line_range l = range_line l ∙ ap (λ rs. cond (is_directive l) rs []) (one_each (macro_range end) (macro_of l))

pub macro_ranges_are : (text : List ℕ) (ps : List Piece)
    → walk no_range range_finish text Start (map (lined text) ps) ≡ macro_ranges text ps
macro_ranges_are text ps =
    walk_ended no_range range_finish text ps
    ∙ (λ i. flat_map (λ (l : List Token × ℕ). line_range l.1 l.0 i) (zip (logical_lines text ps) (line_ends text ps)))

-- the names of the ranges are those of the macros
range_names_of : (zs : List (List Token × ℕ))
    → map (λ (r : Range). r.name) (flat_map range_of_line zs)
    ≡ flat_map (λ (z : List Token × ℕ). cond (is_directive z.0)
    (flat_map (λ (m : Macro). m.name.span ∷ []) (macro_of z.0)) []) zs
range_names_of [] = refl
range_names_of (z ∷ zs) =
    map-append (λ (r : Range). r.name) (range_of_line z) (flat_map range_of_line zs)
    ∙ (λ i. of_one z i ++ range_names_of zs i)
  where
    spans : (e : ℕ) (ms : List Macro)
        → map (λ (r : Range). r.name) (map (macro_range e) ms) ≡ flat_map (λ (m : Macro). m.name.span ∷ []) ms
    spans e [] = refl
    spans e (m ∷ ms) = ap (λ c. m.name.span ∷ c) (spans e ms)

    of_one : (z : List Token × ℕ)
        → map (λ (r : Range). r.name) (range_of_line z)
        ≡ cond (is_directive z.0) (flat_map (λ (m : Macro). m.name.span ∷ []) (macro_of z.0)) []
    of_one z =
        elim (is_directive z.0) as (λ b. map (λ (r : Range). r.name) (cond b (map (macro_range z.1) (macro_of z.0)) [])
        ≡ cond b (flat_map (λ (m : Macro). m.name.span ∷ []) (macro_of z.0)) []) [
          | true ↦ spans z.1 (macro_of z.0)
          | false ↦ refl
        ]

pub range_names : (text : List ℕ) (ps : List Piece)
    → map (λ (r : Range). r.name) (macro_ranges text ps) ≡ map (λ (m : Macro). m.name.span) (macros text ps)
range_names text ps =
    range_names_of (zip (logical_lines text ps) (line_ends text ps))
    ∙ firsts (λ l. cond (is_directive l) (flat_map (λ (m : Macro). m.name.span ∷ []) (macro_of l)) [])
    (logical_lines text ps) (line_ends text ps) (lines_as_many text ps)
    ∙ by_macros (λ m. m.name.span ∷ []) text ps
    ∙ one_each (λ m. m.name.span) (macros text ps)

-- ---- the calls of macros
body_calls : (n : Span) (last : Token) (ts : List Token)
    → run macro_call_out none (in_define (defining.Body n (Some last))) ts ≡ calls_among n (last ∷ ts)
unfolding calls_among
body_calls n last [] = refl
body_calls n last (t ∷ ts) =
    ap (λ c. option_to_list (cond (is_call last t) (Some (call_of n last)) None) ++ c) (body_calls n t ts)
    ∙ elim (is_call last t) as (λ b. option_to_list (cond b (Some (call_of n last)) None) ++ calls_among n (t ∷ ts)
    ≡ cond b (call_of n last ∷ calls_among n (t ∷ ts)) (calls_among n (t ∷ ts))) [
      | true ↦ refl
      | false ↦ refl
    ]

fresh_calls : (n : Span) (ts : List Token)
    → run macro_call_out none (in_define (defining.Body n None)) ts ≡ calls_among n ts
unfolding calls_among
fresh_calls n [] = refl
fresh_calls n (t ∷ ts) = body_calls n t ts

argument_calls : (n : Span) (ts : List Token)
    → run macro_call_out none (in_define (defining.Arguments n)) ts ≡ calls_among n (after_arguments ts)
unfolding after_arguments calls_among
argument_calls n [] = refl
argument_calls n (t ∷ ts) =
    elim (is_mark 41 t.role) as (λ b. run macro_call_out none
    (in_define (cond b (defining.Body n None) (defining.Arguments n))) ts
    ≡ calls_among n (cond b ts (after_arguments ts))) [
      | true ↦ fresh_calls n ts
      | false ↦ argument_calls n ts
    ]

call_line : (l : List Token)
    → run macro_call_out none Start l
    ≡ cond (is_directive l) (flat_map (λ m. calls_among m.name.span m.body) (macro_of l)) []
call_line =
    macro_line macro_call_out none (λ m. calls_among m.name.span m.body)
    ((λ t. refl), refl) (λ u. ((λ t. refl), refl)) ((λ t. refl), refl) (λ u. ((λ t. refl), refl))
    (λ i. ((λ t. refl), refl)) ((λ t. refl), refl) (λ u. ((λ t. refl), refl))
    (λ n. refl)
    (λ n p ts is. argument_calls n.span ts)
    (λ n p isnt. refl)

pub macro_calls_are : (text : List ℕ) (ps : List Piece)
    → walk macro_call_out nothing text Start (map (lined text) ps) ≡ macro_calls (macros text ps)
macro_calls_are text ps =
    walk_lines macro_call_out none text ps
    ∙ (λ i. flat_map (λ l. call_line l i) (logical_lines text ps))
    ∙ by_macros (λ m. calls_among m.name.span m.body) text ps
