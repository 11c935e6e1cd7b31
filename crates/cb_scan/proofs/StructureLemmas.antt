-- The one pass finds the structures, unions and enumerations of the code.
use Rattle.std.proofs.Common.{◌≡◌, ◌∙◌, ℕ, zero, suc, ◌+◌, ◌<◌, ◌≤◌, true, false, List, [], ◌∷◌}
use Rattle.std.proofs.Common.{◌++◌, Option, Some, None, refl, sym, ap, subst, length, drop, map}
use Rattle.std.proofs.Common.{arith, length-drop, add-one, ⊎_elim}
use Rattle.std.proofs.lemmas.Bool.{cases_Bool, false≢true}
use Rattle.std.proofs.lemmas.List.{drop_more, map-append}
use Rattle.std.specs.Prelude.{◌&&◌, cond}
use Rattle.std.specs.List.{AllByRecursion, flat_map, range_with_len}
use Rattle.std.specs.Option.{option_map_or, option_to_list}
use Rattle.cb_scan.specs.declared.facts.Kind.{Kind}
use Rattle.cb_scan.specs.declared.lex.token.Role.{Role}
use Rattle.cb_scan.specs.declared.lex.token.Role.TheVariants.{Word, Mark, Str, Other}
use Rattle.cb_scan.specs.declared.lex.token.Token.{Token}
use Rattle.cb_scan.specs.declared.lex.token.WordKind.TheVariants as kind
use Rattle.cb_scan.specs.declared.rules.structures.Naming.{Naming}
use Rattle.cb_scan.specs.declared.rules.structures.Naming.TheVariants.{Nothing, Keyword, Named}
use Rattle.cb_scan.specs.Definitions.{structure_def}
use Rattle.cb_scan.specs.lex.Tokens.{is_mark, is_name_token}
use Rattle.cb_scan.specs.rules.Depth.{no_token, token_at}
use Rattle.cb_scan.specs.rules.Structures.{Structure, keyword_kind, structure_at, structure_of, structures}
use Rattle.cb_scan.specs.steps.Structures.{begun, next_naming, structure_found, structures_from}
use Rattle.cb_scan.proofs.TypedefsWithin.{at_any}
use Rattle.cb_scan.proofs.WithinLemmas.{all-append}

-- the state before token k
naming_at : List Token → ℕ → Naming
naming_at ts zero = Nothing
naming_at ts (suc k) = next_naming (naming_at ts k) (token_at ts k)

-- a name is no keyword
no_keyword : (r : Role) → is_name_token r ≡ true → keyword_kind r ≡ None
no_keyword (Word kind.Name) is = refl
no_keyword (Word kind.Define) is = refl
no_keyword (Word kind.Include) is = refl
no_keyword (Word kind.Typedef) is = absurd (false≢true is)
no_keyword (Word kind.Extern) is = absurd (false≢true is)
no_keyword (Word kind.Static) is = absurd (false≢true is)
no_keyword (Word kind.Struct) is = absurd (false≢true is)
no_keyword (Word kind.Union) is = absurd (false≢true is)
no_keyword (Word kind.Enum) is = absurd (false≢true is)
no_keyword (Word kind.Reserved) is = absurd (false≢true is)
no_keyword (Mark x) is = refl
no_keyword Str is = refl
no_keyword Other is = refl

-- what the keyword, if there is one, makes of the next two tokens
abbrev made : Option Kind → Token → Token → List Structure
made o name brace =
    cond (is_name_token name.role && is_mark 123 brace.role)
    (option_map_or (λ kind. record { kind = kind; name = name } ∷ []) o []) []

-- the state after a token that began nothing before it
abbrev after_begun : Option Kind → Naming
after_begun o = option_map_or Keyword o Nothing

nothing_begun : (o : Option Kind) (t : Token) → option_to_list (structure_found (after_begun o) t) ≡ []
nothing_begun None t = refl
nothing_begun (Some kind) t = refl

made_none : (name brace : Token) → [] ≡ map structure_def (made None name brace)
made_none name brace =
    elim (is_name_token name.role && is_mark 123 brace.role) as (λ b. [] ≡ map structure_def (cond b [] []))
    [ true ↦ refl | false ↦ refl ]

-- three tokens
begun_two : (o : Option Kind) (name brace : Token)
    → option_to_list (structure_found (next_naming (after_begun o) name) brace) ≡ map structure_def (made o name brace)
begun_two None name brace = nothing_begun (keyword_kind name.role) brace ∙ made_none name brace
begun_two (Some kind) name brace =
    elim (is_name_token name.role) as (λ b. option_to_list (structure_found
    (cond b (Named (structure_def (record { kind = kind; name = name }))) (begun name)) brace)
    ≡ map structure_def (cond (b && is_mark 123 brace.role) (record { kind = kind; name = name } ∷ []) [])) [
      | true ↦ elim (is_mark 123 brace.role) as (λ b. option_to_list
          (cond b (Some (structure_def (record { kind = kind; name = name }))) None)
          ≡ map structure_def (cond b (record { kind = kind; name = name } ∷ []) [])) [ true ↦ refl | false ↦ refl ]
      | false ↦ nothing_begun (keyword_kind name.role) brace
    ]

three : (n : Naming) (keyword name brace : Token)
    → option_to_list (structure_found (next_naming (next_naming n keyword) name) brace)
    ≡ map structure_def (structure_of keyword name brace)
three Nothing keyword name brace = begun_two (keyword_kind keyword.role) name brace
three (Named def) keyword name brace = begun_two (keyword_kind keyword.role) name brace
three (Keyword kind) keyword name brace =
    ⊎_elim
    (λ is.
    ap (λ b. option_to_list (structure_found (next_naming (cond b (Named (structure_def
    (record { kind = kind; name = keyword }))) (begun keyword)) name) brace)) is
    ∙ nothing_begun (keyword_kind name.role) brace
    ∙ made_none name brace
    ∙ ap (λ o. map structure_def (made o name brace)) (sym (no_keyword keyword.role is)))
    (λ isnt.
    ap (λ b. option_to_list (structure_found (next_naming (cond b (Named (structure_def
    (record { kind = kind; name = keyword }))) (begun keyword)) name) brace)) isnt
    ∙ begun_two (keyword_kind keyword.role) name brace)
    (cases_Bool (is_name_token keyword.role))

found_here : (ts : List Token) (k : ℕ)
    → option_to_list (structure_found (naming_at ts k) (token_at ts k)) ≡ map structure_def (structure_at ts k)
unfolding naming_at
found_here ts zero = refl
found_here ts (suc zero) = nothing_begun (keyword_kind (token_at ts 0).role) (token_at ts 1)
found_here ts (suc (suc k)) = three (naming_at ts k) (token_at ts k) (token_at ts (suc k)) (token_at ts (suc (suc k)))

-- the pass from token k on
from : (ts : List Token) (k : ℕ) (rest : List Token) → drop k ts ≡ rest
    → structures_from (naming_at ts k) rest
    ≡ map structure_def (flat_map (structure_at ts) (range_with_len k (length rest)))
unfolding naming_at
from ts k [] left = refl
from ts k (t ∷ rest) left =
    let within : k < length ts = omega (arith, length-drop k ts, ap length left) in
    let split : token_at ts k ∷ drop (k + 1) ts ≡ t ∷ rest = sym (drop_more ts k no_token within) ∙ left in
    let t_is : token_at ts k ≡ t = cc in
    let rest_is : drop (k + 1) ts ≡ rest = cc in
    (λ i. option_to_list (structure_found (naming_at ts k) (sym t_is i))
    ++ structures_from (next_naming (naming_at ts k) (sym t_is i)) rest)
    ∙ ap (λ l. l ++ structures_from (naming_at ts (suc k)) rest) (found_here ts k)
    ∙ ap (λ j. map structure_def (structure_at ts k) ++ structures_from (naming_at ts j) rest) (sym (add-one k))
    ∙ ap (λ l. map structure_def (structure_at ts k) ++ l) (from ts (k + 1) rest rest_is)
    ∙ sym (map-append structure_def (structure_at ts k)
    (flat_map (structure_at ts) (range_with_len (k + 1) (length rest))))

-- the pass over the code
pub structures_from_start : (ts : List Token) → structures_from Nothing ts ≡ map structure_def (structures ts)
unfolding naming_at
structures_from_start ts = from ts 0 ts refl

-- ---- the names are tokens of the code
abbrev pub structure_name : Structure → Token
structure_name s = s.name

module _ (P : Token → Type 0) (ts : List Token) (all : AllByRecursion P ts) where
  one_within : (k : ℕ) → k < length ts → AllByRecursion P (map structure_name (structure_at ts k))
  one_within zero within = tt
  one_within (suc zero) within = tt
  one_within (suc (suc k)) within =
      elim (is_name_token (token_at ts (suc k)).role && is_mark 123 (token_at ts (suc (suc k))).role) as
      (λ b. AllByRecursion P (map structure_name (cond b
      (option_map_or (λ kind. record { kind = kind; name = token_at ts (suc k) } ∷ [])
      (keyword_kind (token_at ts k).role) []) []))) [
        | true ↦ elim (keyword_kind (token_at ts k).role) as (λ o. AllByRecursion P (map structure_name
            (option_map_or (λ kind. record { kind = kind; name = token_at ts (suc k) } ∷ []) o []))) [
              | None ↦ tt
              | Some kind ↦ (at_any P ts (suc k) (λ past. absurd (omega arith)) all, tt)
            ]
        | false ↦ tt
      ]

  within_from : (k n : ℕ) → k + n ≤ length ts
      → AllByRecursion P (map structure_name (flat_map (structure_at ts) (range_with_len k n)))
  within_from k zero le = tt
  within_from k (suc n) le =
      subst (AllByRecursion P)
      (sym (map-append structure_name (structure_at ts k) (flat_map (structure_at ts) (range_with_len (k + 1) n))))
      (all-append P _ _ (one_within k (omega arith)) (within_from (k + 1) n (omega arith)))

  pub all_structures : AllByRecursion P (map structure_name (structures ts))
  all_structures = within_from 0 (length ts) (omega arith)
