-- The stages of a line that lead to each other and give nothing.
use Rattle.std.proofs.Common.{◌≡◌, ◌∙◌, true, false, List, [], ◌∷◌, ◌++◌, refl, ap}
use Rattle.std.specs.Prelude.{cond, not, filter}
use Rattle.std.specs.List.{flat_map}
use Rattle.cb_scan.specs.declared.rules.directives.Defining.{Defining}
use Rattle.cb_scan.specs.declared.rules.directives.Directive.TheVariants as directive
use Rattle.cb_scan.specs.declared.rules.directives.Including.{Including}
use Rattle.cb_scan.specs.declared.rules.directives.Stage.{Stage}
use Rattle.cb_scan.specs.declared.rules.directives.Stage.TheVariants.{Code, Directive as InDirective}
use Rattle.cb_scan.specs.declared.lex.token.Token.{Token}
use Rattle.cb_scan.specs.rules.Code.{is_directive}
use Rattle.cb_scan.specs.steps.Directives.{next_stage, run}

-- the end of a line gives nothing, wherever it is
abbrev pub none : {A : Type 0} → Stage → List A
none s = []

-- a line in a `# define`, and in a `# include`
abbrev pub in_define : Defining → Stage
in_define d = InDirective (directive.Define d)

abbrev pub in_include : Including → Stage
in_include i = InDirective (directive.Include i)

abbrev pub in_other : Unit {0} → Stage
in_other u = InDirective directive.Other

abbrev pub in_code : Unit {0} → Stage
in_code u = Code

-- a filter, and then what each gives
pub filtered : {A : Type 0} (f : List Token → List A) (ls : List (List Token))
    → flat_map f (filter is_directive ls) ≡ flat_map (λ l. cond (is_directive l) (f l) []) ls
filtered f [] = refl
filtered f (l ∷ ls) =
    elim (is_directive l) as (λ b. flat_map f (cond b (l ∷ filter is_directive ls) (filter is_directive ls))
    ≡ cond b (f l) [] ++ flat_map (λ l. cond (is_directive l) (f l) []) ls) [
      | true ↦ ap (λ c. f l ++ c) (filtered f ls)
      | false ↦ filtered f ls
    ]

pub filtered_not : {A : Type 0} (f : List Token → List A) (ls : List (List Token))
    → flat_map f (filter (λ l. not (is_directive l)) ls) ≡ flat_map (λ l. cond (is_directive l) [] (f l)) ls
filtered_not f [] = refl
filtered_not f (l ∷ ls) =
    elim (is_directive l) as (λ b. flat_map f
    (cond (not b) (l ∷ filter (λ l. not (is_directive l)) ls) (filter (λ l. not (is_directive l)) ls))
    ≡ cond b [] (f l) ++ flat_map (λ l. cond (is_directive l) [] (f l)) ls) [
      | true ↦ filtered_not f ls
      | false ↦ ap (λ c. f l ++ c) (filtered_not f ls)
    ]

-- stages that lead to each other and give nothing
module _ {A X : Type 0} (out : Stage → Token → List A) (finish : Stage → List A) (stage : X → Stage)
    (next : X → Token → X)
    (stays : (x : X) (t : Token) → next_stage (stage x) t ≡ stage (next x t))
    (silent : (x : X) (t : Token) → out (stage x) t ≡ []) (ends : (x : X) → finish (stage x) ≡ []) where
  pub quiet : (x : X) (ts : List Token) → run out finish (stage x) ts ≡ []
  quiet x [] = ends x
  quiet x (t ∷ ts) =
      ap (λ c. c ++ run out finish (next_stage (stage x) t) ts) (silent x t)
      ∙ ap (λ s. run out finish s ts) (stays x t)
      ∙ quiet (next x t) ts
