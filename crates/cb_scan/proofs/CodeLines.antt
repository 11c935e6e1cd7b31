-- The code and the uses that a line gives, a token at a time, are those of the whole line.
use Rattle.std.proofs.Common.{◌≡◌, ◌∙◌, ⊎_elim, ℕ, Bool, true, false, List, [], ◌∷◌, ◌++◌, refl, sym, ap, map}
use Rattle.std.proofs.lemmas.Bool.{false≢true, cases_Bool}
use Rattle.std.proofs.Math.Bool.{and-false}
use Rattle.std.specs.Prelude.{cond, filter, ◌&&◌}
use Rattle.std.specs.List.{flat_map}
use Rattle.cb_scan.specs.declared.rules.directives.Defining.{Defining}
use Rattle.cb_scan.specs.declared.rules.directives.Defining.TheVariants as defining
use Rattle.cb_scan.specs.declared.rules.directives.Directive.TheVariants as directive
use Rattle.cb_scan.specs.declared.rules.directives.Including.{Including}
use Rattle.cb_scan.specs.declared.rules.directives.Including.TheVariants as including
use Rattle.cb_scan.specs.declared.rules.directives.Stage.{Stage}
use Rattle.cb_scan.specs.declared.rules.directives.Stage.TheVariants.{Start, Code, Directive as InDirective}
use Rattle.cb_scan.specs.declared.lex.piece.Piece.{Piece}
use Rattle.cb_scan.specs.declared.lex.token.Role.{Role}
use Rattle.cb_scan.specs.declared.lex.token.Role.TheVariants.{Word, Mark, Str, Other}
use Rattle.cb_scan.specs.declared.lex.token.WordKind.TheVariants as kind
use Rattle.cb_scan.specs.declared.lex.token.Token.{Token}
use Rattle.cb_scan.specs.rules.Code.{code, is_directive, logical_lines}
use Rattle.cb_scan.specs.lex.Tokens.{has_kind, is_any_word, is_mark, is_name_token, kind_is_define, kind_is_include}
use Rattle.cb_scan.specs.rules.Uses.{after_own_word, is_include, used}
use Rattle.cb_scan.specs.steps.Directives.{code_out, directive_of, is_code, next_defining}
use Rattle.cb_scan.specs.steps.Directives.{next_directive, next_including, next_stage, names_count}
use Rattle.cb_scan.specs.steps.Directives.{nothing, run, use_out, walk}
use Rattle.cb_scan.specs.steps.Lined.{lined}
use Rattle.cb_scan.proofs.LineLemmas.{walk_lines}
use Rattle.cb_scan.proofs.Stages.{filtered_not, in_code, in_define, in_include, in_other, none, quiet}

-- ---- code
all_code : (ts : List Token) → run code_out none Code ts ≡ ts
all_code [] = refl
all_code (t ∷ ts) = ap (λ c. t ∷ c) (all_code ts)

code_run : (l : List Token) → run code_out none Start l ≡ cond (is_directive l) [] l
code_run [] = refl
code_run (t ∷ ts) =
    elim (is_mark 35 t.role) as (λ b. cond (is_code (cond b (InDirective directive.Hash) Code)) (t ∷ []) []
    ++ run code_out none (cond b (InDirective directive.Hash) Code) ts ≡ cond b [] (t ∷ ts)) [
      | true ↦ quiet code_out none (λ d. InDirective d) next_directive (λ d u. refl) (λ d u. refl)
          (λ d. refl) directive.Hash ts
      | false ↦ ap (λ c. t ∷ c) (all_code ts)
    ]

pub code_is : (text : List ℕ) (ps : List Piece) → walk code_out nothing text Start (map (lined text) ps) ≡ code text ps
code_is text ps =
    walk_lines code_out none text ps
    ∙ (λ i. flat_map (λ l. code_run l i) (logical_lines text ps))
    ∙ sym (filtered_not (λ l. l) (logical_lines text ps))

-- ---- uses
names : List Token → List Token
names ts = filter (λ (t : Token). is_name_token t.role) ts

-- a use, and the names after it
use_step : (n c : Bool) (t : Token) (ts : List Token) → c ≡ true → cond (n && c) (t ∷ []) [] ++ ts ≡ cond n (t ∷ ts) ts
use_step true c t ts is = ap (λ b. cond b (t ∷ []) [] ++ ts) is
use_step false c t ts is = refl

-- stages that lead to each other and in which every name is a use
module _ {X : Type 0} (stage : X → Stage) (next : X → Token → X)
    (stays : (x : X) (t : Token) → next_stage (stage x) t ≡ stage (next x t))
    (counts : (x : X) → names_count (stage x) ≡ true) where
  all_names : (x : X) (ts : List Token) → run use_out none (stage x) ts ≡ names ts
  unfolding names
  all_names x [] = refl
  all_names x (t ∷ ts) =
      ap (λ c. use_out (stage x) t ++ c) (ap (λ s. run use_out none s ts) (stays x t) ∙ all_names (next x t) ts)
      ∙ use_step (is_name_token t.role) (names_count (stage x)) t (names ts) (counts x)

define_names : (d : Defining) (ts : List Token) → run use_out none (in_define d) ts ≡ names ts
define_names = all_names in_define next_defining (λ d t. refl) (λ d. refl)

other_names : (ts : List Token) → run use_out none (InDirective directive.Other) ts ≡ names ts
other_names = all_names in_other (λ u t. tt) (λ u t. refl) (λ u. refl) tt

code_names : (ts : List Token) → run use_out none Code ts ≡ names ts
code_names = all_names in_code (λ u t. tt) (λ u t. refl) (λ u. refl) tt

no_names : (n : Bool) (t : Token) → cond (n && false) (t ∷ []) [] ≡ []
no_names n t = ap (λ b. cond b (t ∷ []) []) (and-false n)

include_names : (i : Including) (ts : List Token) → run use_out none (in_include i) ts ≡ []
include_names = quiet use_out none in_include next_including (λ i t. refl) (λ i t. no_names (is_name_token t.role) t)
    (λ i. refl)

-- the names after the own word, by what that word is
own_step : (r : Role) (own : Token) (rest : List Token)
    → run use_out none (InDirective
    (cond (has_kind kind_is_define r) (directive.Define defining.Begun)
    (cond (has_kind kind_is_include r) (directive.Include including.Begun) directive.Other))) rest
    ≡ cond (has_kind kind_is_include r) []
    (cond (is_any_word r) (names rest) (cond (is_name_token r) (own ∷ names rest) (names rest)))
own_step (Word kind.Name) own rest = other_names rest
own_step (Word kind.Define) own rest = define_names defining.Begun rest
own_step (Word kind.Include) own rest = include_names including.Begun rest
own_step (Word kind.Typedef) own rest = other_names rest
own_step (Word kind.Extern) own rest = other_names rest
own_step (Word kind.Static) own rest = other_names rest
own_step (Word kind.Struct) own rest = other_names rest
own_step (Word kind.Union) own rest = other_names rest
own_step (Word kind.Enum) own rest = other_names rest
own_step (Word kind.Reserved) own rest = other_names rest
own_step (Mark x) own rest = other_names rest
own_step Str own rest = other_names rest
own_step Other own rest = other_names rest

names_of_cond : (a b : Bool) (xs ys : List Token)
    → names (cond a [] (cond b xs ys)) ≡ cond a [] (cond b (names xs) (names ys))
unfolding names
names_of_cond true b xs ys = refl
names_of_cond false true xs ys = refl
names_of_cond false false xs ys = refl

hash_uses : (hash : Token) (ts : List Token)
    → run use_out none (InDirective directive.Hash) ts
    ≡ names (cond (is_include (hash ∷ ts)) [] (after_own_word (hash ∷ ts)))
unfolding names
hash_uses hash [] = refl
hash_uses hash (own ∷ rest) =
    ap (λ c. c ++ run use_out none (InDirective (directive_of own)) rest) (no_names (is_name_token own.role) own)
    ∙ own_step own.role own rest
    ∙ sym (names_of_cond (has_kind kind_is_include own.role) (is_any_word own.role) rest (own ∷ rest))

-- a lone byte is no name
mark_no_name : (r : Role) (b : ℕ) → is_mark b r ≡ true → is_name_token r ≡ false
mark_no_name (Word w) b is = absurd (false≢true is)
mark_no_name (Mark x) b is = refl
mark_no_name Str b is = refl
mark_no_name Other b is = refl

use_run : (l : List Token) → run use_out none Start l ≡ used l
unfolding names
use_run [] = refl
use_run (t ∷ ts) =
    let usable = λ (b : Bool). names (cond b (cond (is_include (t ∷ ts)) [] (after_own_word (t ∷ ts))) (t ∷ ts)) in
    ⊎_elim
    (λ is.
    (λ i. cond (mark_no_name t.role 35 is i && true) (t ∷ []) []
    ++ run use_out none (cond (is i) (InDirective directive.Hash) Code) ts)
    ∙ hash_uses t ts
    ∙ ap usable (sym is))
    (λ isnt.
    ap (λ b. use_out Start t ++ run use_out none (cond b (InDirective directive.Hash) Code) ts) isnt
    ∙ ap (λ c. use_out Start t ++ c) (code_names ts)
    ∙ use_step (is_name_token t.role) true t (names ts) refl
    ∙ ap usable (sym isnt))
    (cases_Bool (is_mark 35 t.role))

pub uses_are : (text : List ℕ) (ps : List Piece)
    → walk use_out nothing text Start (map (lined text) ps) ≡ flat_map used (logical_lines text ps)
uses_are text ps = walk_lines use_out none text ps ∙ (λ i. flat_map (λ l. use_run l i) (logical_lines text ps))
