-- The definitions of the standard profile are names of their text.
use Rattle.std.proofs.Common.{◌≡◌, ℕ, zero, suc, cond, refl, Bool, true, false, List, [], ◌∷◌}
use Rattle.std.proofs.Common.{length, map, Option, Some, None}
use Rattle.std.specs.Prelude.{◌&&◌, ◌==◌, not}
use Rattle.std.specs.List.{AllByRecursion, range_with_len}
use Rattle.std.specs.Option.{MatchOption, option_map_or, option_to_list}
use Rattle.cb_scan.specs.declared.lex.token.Token.{Token}
use Rattle.cb_scan.specs.Definitions.{IsNameOf, definitions, definitions_from, function_def}
use Rattle.cb_scan.specs.Definitions.{macro_def, structure_def, typedef_def}
use Rattle.cb_scan.specs.Order.{def_key}
use Rattle.cb_scan.specs.lex.Tokens.{has_kind, is_mark, is_name_token, kind_is_define}
use Rattle.cb_scan.specs.rules.Code.{code, directives, is_directive, logical_lines}
use Rattle.cb_scan.specs.rules.Depth.{depth, head_start, is_counted, token_at}
use Rattle.cb_scan.specs.rules.Functions.{Function, function_at, function_from, functions}
use Rattle.cb_scan.specs.rules.Functions.{signature}
use Rattle.cb_scan.specs.rules.Heads.{Signature, called_name, defined_name, head, may_define}
use Rattle.cb_scan.specs.rules.Heads.{signed}
use Rattle.cb_scan.specs.rules.Macros.{Macro, after_arguments, begin_arguments, defines_macro}
use Rattle.cb_scan.specs.rules.Macros.{macro_names, macro_names_of, macro_of, plain_macro_of}
use Rattle.cb_scan.specs.rules.OldStyle.{nearest_opening, old_signature, segments}
use Rattle.cb_scan.specs.rules.OldStyle.{semicolons_before, signature_of}
use Rattle.cb_scan.specs.rules.Structures.{Structure, keyword_kind, structure_at, structures}
use Rattle.cb_scan.specs.rules.Typedefs.{Nested, begins_typedef, begins_with_star, ends_declaration}
use Rattle.cb_scan.specs.rules.Typedefs.{last_name, name_after_stars, part_name, parts}
use Rattle.cb_scan.specs.rules.Typedefs.{pointer_name, taken, typedef_at, typedef_names}
use Rattle.cb_scan.specs.rules.Typedefs.{typedef_stop, typedefs}
use Rattle.cb_scan.specs.steps.Cut.{pieces}
use Rattle.cb_scan.proofs.FactsWithin.{all_in_order}
use Rattle.cb_scan.proofs.FunctionsRise.{named_before}
use Rattle.cb_scan.proofs.StructureLemmas.{all_structures, structure_name}
use Rattle.cb_scan.proofs.TypedefsWithin.{all_typedefs}
use Rattle.cb_scan.proofs.WideWithin.{names_of_all}
use Rattle.cb_scan.proofs.WithinLemmas.{all-append, all-filter, head_of_all, heads_of_all}
use Rattle.cb_scan.proofs.WithinLemmas.{signed_among}
use Rattle.cb_scan.proofs.NamedLists.{all-flat, all-made, all-met, alone-has, and-first, and-second}
use Rattle.cb_scan.proofs.NamedLists.{each-flat, listed-has, mapped-has}
use Rattle.cb_scan.proofs.NamedTokens.{IsDefNamed, code-sound, lines-sound}

-- ---- the tokens of names are names by their role

-- functions
pub called-role : (h : List Token)
    → MatchOption (called_name h) (Unit {0}) (λ t. is_name_token t.role ≡ true)
unfolding called_name
called-role [] = tt
called-role (t ∷ []) = tt
called-role (t ∷ u ∷ h) =
    (elim (is_name_token t.role && is_mark 40 u.role) as
    (λ b. (is_name_token t.role && is_mark 40 u.role) ≡ b
    → MatchOption (cond b (Some t) (called_name (u ∷ h))) (Unit {0})
    (λ t. is_name_token t.role ≡ true)) [
      | true ↦ λ is. and-first _ _ is
      | false ↦ λ _. called-role (u ∷ h)
    ]) refl

pub old-role : (ss : List (List Token))
    → MatchOption (signature_of ss) (Unit {0}) (λ s. is_name_token s.name.role ≡ true)
old-role ss = of_opening (nearest_opening ss)
  where
    of_opening : (o : Option (List Token))
        → MatchOption (option_map_or (λ s. signed s (called_name s)) o None) (Unit {0})
        (λ s. is_name_token s.name.role ≡ true)
    of_opening None = tt
    of_opening (Some s) =
        signed_among (λ t. is_name_token t.role ≡ true) s (called_name s) (called-role s)

signature-role : (ts : List Token) (k : ℕ)
    → MatchOption (signature ts k) (Unit {0}) (λ s. is_name_token s.name.role ≡ true)
signature-role ts k =
    elim (head_start ts k == k) as (λ x. MatchOption
    (cond x (old_signature ts k) (signed (head ts k) (defined_name (head ts k)))) (Unit {0})
    (λ s. is_name_token s.name.role ≡ true)) [
      | true ↦ old-role (segments ts k)
      | false ↦ elim (may_define (head ts k)) as (λ x. MatchOption
          (signed (head ts k) (cond x (called_name (head ts k)) None)) (Unit {0})
          (λ s. is_name_token s.name.role ≡ true)) [
            | true ↦ signed_among (λ t. is_name_token t.role ≡ true) (head ts k)
                (called_name (head ts k)) (called-role (head ts k))
            | false ↦ tt
          ]
    ]

function-role : (ts : List Token) (k : ℕ)
    → AllByRecursion (λ t. is_name_token t.role ≡ true)
    (map (λ (f : Function). f.name) (function_at ts k))
function-role ts k =
    by_cases (is_counted ts k && depth ts k == 0) (signature ts k) (signature-role ts k)
  where
    by_cases : (b : Bool) (o : Option Signature)
        → MatchOption o (Unit {0}) (λ s. is_name_token s.name.role ≡ true)
        → AllByRecursion (λ t. is_name_token t.role ≡ true)
        (map (λ (f : Function). f.name) (cond b (function_from ts k o) []))
    by_cases true None p = tt
    by_cases true (Some s) p = (p, tt)
    by_cases false o p = tt

-- macros
with_arguments-role : (l : List Token) → AllByRecursion (λ t. is_name_token t.role ≡ true)
    (map (λ (m : Macro). m.name) (macro_of l))
with_arguments-role [] = tt
with_arguments-role (h ∷ []) = tt
with_arguments-role (h ∷ o ∷ []) = tt
with_arguments-role (h ∷ o ∷ n ∷ []) = tt
with_arguments-role (h ∷ o ∷ n ∷ p ∷ l) =
    (elim (defines_macro o n p) as (λ b. defines_macro o n p ≡ b
    → AllByRecursion (λ t. is_name_token t.role ≡ true) (map (λ (m : Macro). m.name)
    (cond b (record { name = n; body = after_arguments l } ∷ []) []))) [
      | true ↦ λ is. (and-second _ _ (and-first _ _ (and-first _ _ is)), tt)
      | false ↦ λ _. tt
    ]) refl

without_arguments-role : (l : List Token)
    → AllByRecursion (λ t. is_name_token t.role ≡ true) (plain_macro_of l)
without_arguments-role [] = tt
without_arguments-role (h ∷ []) = tt
without_arguments-role (h ∷ o ∷ []) = tt
without_arguments-role (h ∷ o ∷ n ∷ l) =
    let is_one = has_kind kind_is_define o.role && is_name_token n.role && not (begin_arguments n l)
    in
    (elim is_one as (λ b. is_one ≡ b
    → AllByRecursion (λ t. is_name_token t.role ≡ true) (cond b (n ∷ []) [])) [
      | true ↦ λ is. (and-second _ _ (and-first _ _ is), tt)
      | false ↦ λ _. tt
    ]) refl

macro-role : (l : List Token) → AllByRecursion (λ t. is_name_token t.role ≡ true) (macro_names_of l)
macro-role l =
    all-append (λ t. is_name_token t.role ≡ true) (map (λ (m : Macro). m.name) (macro_of l))
    (plain_macro_of l) (with_arguments-role l) (without_arguments-role l)

-- typedefs
stars-role : (xs : List Nested)
    → MatchOption (name_after_stars xs) (Unit {0}) (λ t. is_name_token t.role ≡ true)
unfolding name_after_stars
stars-role [] = tt
stars-role (x ∷ xs) =
    elim (is_mark 42 x.token.role) as (λ b. MatchOption
    (cond b (name_after_stars xs) (cond (is_name_token x.token.role) (Some x.token) None))
    (Unit {0}) (λ t. is_name_token t.role ≡ true)) [
      | true ↦ stars-role xs
      | false ↦ (elim (is_name_token x.token.role) as (λ b. is_name_token x.token.role ≡ b
          → MatchOption (cond b (Some x.token) None) (Unit {0})
          (λ t. is_name_token t.role ≡ true)) [ true ↦ λ is. is | false ↦ λ _. tt ]) refl
    ]

pointer-role : (xs : List Nested)
    → MatchOption (pointer_name xs) (Unit {0}) (λ t. is_name_token t.role ≡ true)
unfolding pointer_name
pointer-role [] = tt
pointer-role (x ∷ xs) =
    elim (is_mark 40 x.token.role && begins_with_star xs) as (λ b. MatchOption
    (cond b (option_map_or (λ name. Some name) (name_after_stars xs) (pointer_name xs))
    (pointer_name xs)) (Unit {0}) (λ t. is_name_token t.role ≡ true)) [
      | true ↦ mapped-has (λ t. is_name_token t.role ≡ true)
          (λ t. is_name_token t.role ≡ true) (λ t. t) (λ t is. is) (name_after_stars xs)
          (pointer_name xs) (stars-role xs) (pointer-role xs)
      | false ↦ pointer-role xs
    ]

last-has : (P : Token → Type 0) → ((x : Nested) → is_name_token x.token.role ≡ true → P x.token)
    → (found : Option Token) (xs : List Nested) → MatchOption found (Unit {0}) P
    → MatchOption (last_name found xs) (Unit {0}) P
unfolding last_name
last-has P has found [] f = f
last-has P has found (x ∷ xs) f =
    last-has P has (cond (is_name_token x.token.role && x.nesting == 0) (Some x.token) found) xs
    ((elim (is_name_token x.token.role && x.nesting == 0) as
    (λ b. (is_name_token x.token.role && x.nesting == 0) ≡ b
    → MatchOption (cond b (Some x.token) found) (Unit {0}) P)
    [ true ↦ λ is. has x (and-first _ _ is) | false ↦ λ _. f ]) refl)

part-role : (part : List Nested)
    → AllByRecursion (λ t. is_name_token t.role ≡ true) (part_name part)
part-role part =
    listed-has (λ t. is_name_token t.role ≡ true) (λ t. is_name_token t.role ≡ true) (λ t. t)
    (λ t is. is) (pointer_name part) (option_to_list (last_name None part)) (pointer-role part)
    (alone-has (λ t. is_name_token t.role ≡ true) (last_name None part)
    (last-has (λ t. is_name_token t.role ≡ true) (λ x is. is) None part tt))

typedef-role : (ts : List Token) (k : ℕ)
    → AllByRecursion (λ t. is_name_token t.role ≡ true) (typedef_at ts k)
typedef-role ts k =
    elim (begins_typedef ts k) as (λ b. AllByRecursion (λ t. is_name_token t.role ≡ true) (cond b
    (option_map_or (λ j. cond (ends_declaration ts j) (typedef_names (taken ts k j)) [])
    (typedef_stop ts (suc k)) []) []))
    [ true ↦ by_stop (typedef_stop ts (suc k)) | false ↦ tt ]
  where
    by_stop : (o : Option ℕ) → AllByRecursion (λ t. is_name_token t.role ≡ true)
        (option_map_or (λ j. cond (ends_declaration ts j) (typedef_names (taken ts k j)) []) o [])
    by_stop None = tt
    by_stop (Some j) =
        elim (ends_declaration ts j) as (λ b. AllByRecursion (λ t. is_name_token t.role ≡ true)
        (cond b (typedef_names (taken ts k j)) [])) [
          | true ↦ each-flat (λ t. is_name_token t.role ≡ true) part_name part-role
              (parts (taken ts k j))
          | false ↦ tt
        ]

-- structures
structure-role : (ts : List Token) (k : ℕ) → AllByRecursion (λ (s : Structure).
    is_name_token s.name.role ≡ true) (structure_at ts k)
structure-role ts zero = tt
structure-role ts (suc zero) = tt
structure-role ts (suc (suc k)) =
    let name = token_at ts (suc k) in
    let is_one = is_name_token name.role && is_mark 123 (token_at ts (suc (suc k))).role in
    (elim is_one as (λ b. is_one ≡ b
    → AllByRecursion (λ (s : Structure). is_name_token s.name.role ≡ true)
    (cond b (option_map_or (λ kind. record { kind = kind; name = name } ∷ [])
    (keyword_kind (token_at ts k).role) []) [])) [
      | true ↦ λ is. elim (keyword_kind (token_at ts k).role) as (λ o.
          AllByRecursion (λ (s : Structure). is_name_token s.name.role ≡ true)
          (option_map_or (λ kind. record { kind = kind; name = name } ∷ []) o []))
          [ None ↦ tt | Some kind ↦ (and-first _ _ is, tt) ]
      | false ↦ λ _. tt
    ]) refl

-- what all tokens of a directive have, the name of its macro has
macro-named : (l : List Token) → (P : Token → Type 0) → AllByRecursion P l
    → AllByRecursion P (macro_names_of l)
macro-named l P all = all-append P (map (λ (m : Macro). m.name) (macro_of l)) (plain_macro_of l)
    (with_arguments l all) (without_arguments l all)
  where
    with_arguments : (l : List Token) → AllByRecursion P l
        → AllByRecursion P (map (λ (m : Macro). m.name) (macro_of l))
    with_arguments [] a = tt
    with_arguments (h ∷ []) a = tt
    with_arguments (h ∷ o ∷ []) a = tt
    with_arguments (h ∷ o ∷ n ∷ []) a = tt
    with_arguments (h ∷ o ∷ n ∷ p ∷ l) a =
        elim (defines_macro o n p) as (λ b. AllByRecursion P (map (λ (m : Macro). m.name)
        (cond b (record { name = n; body = after_arguments l } ∷ []) [])))
        [ true ↦ (a.1.1.0, tt) | false ↦ tt ]

    without_arguments : (l : List Token) → AllByRecursion P l → AllByRecursion P (plain_macro_of l)
    without_arguments [] a = tt
    without_arguments (h ∷ []) a = tt
    without_arguments (h ∷ o ∷ []) a = tt
    without_arguments (h ∷ o ∷ n ∷ l) a =
        elim (has_kind kind_is_define o.role && is_name_token n.role
        && not (begin_arguments n l)) as
        (λ b. AllByRecursion P (cond b (n ∷ []) [])) [ true ↦ (a.1.1.0, tt) | false ↦ tt ]

module _ (text : List ℕ) where
  -- ---- the names of macros
  pub macros-named : AllByRecursion (λ t. IsNameOf text t.span) (macro_names text (pieces text))
  macros-named =
      all-flat (AllByRecursion (λ t. is_name_token t.role ≡ true → IsNameOf text t.span))
      (λ t. IsNameOf text t.span) macro_names_of
      (λ l all. all-met (λ t. is_name_token t.role ≡ true) (λ t. IsNameOf text t.span)
      (macro_names_of l) (macro-named l _ all) (macro-role l))
      (directives text (pieces text))
      (all-filter _ is_directive (logical_lines text (pieces text)) (lines-sound text))

  -- ---- the standard profile
  functions-named : AllByRecursion (IsDefNamed text)
      (map function_def (functions (code text (pieces text))))
  functions-named =
      let ts = code text (pieces text) in
      of_names (functions ts) (all-met (λ t. is_name_token t.role ≡ true)
      (λ t. IsNameOf text t.span) (map (λ (f : Function). f.name) (functions ts))
      (names_of_all _ (function_at ts)
      (λ k. named_before _ ts k (head_of_all _ ts (code-sound text) k)
      (heads_of_all _ ts (code-sound text) (semicolons_before ts k))) 0 (length ts))
      (names_of_all (λ t. is_name_token t.role ≡ true) (function_at ts) (function-role ts) 0
      (length ts)))
    where
      of_names : (fs : List Function) → AllByRecursion (λ t. IsNameOf text t.span)
          (map (λ (f : Function). f.name) fs)
          → AllByRecursion (IsDefNamed text) (map function_def fs)
      of_names [] all = tt
      of_names (f ∷ fs) all = (all.0, of_names fs all.1)

  typedefs-named : AllByRecursion (IsDefNamed text)
      (map typedef_def (typedefs (code text (pieces text))))
  typedefs-named =
      let ts = code text (pieces text) in
      all-made (λ t. IsNameOf text t.span) (IsDefNamed text) typedef_def (λ t named. named)
      (typedefs ts)
      (all-met (λ t. is_name_token t.role ≡ true) (λ t. IsNameOf text t.span) (typedefs ts)
      (all_typedefs _ ts (code-sound text))
      (each-flat (λ t. is_name_token t.role ≡ true) (typedef_at ts) (typedef-role ts)
      (range_with_len 0 (length ts))))

  structures-named : AllByRecursion (IsDefNamed text)
      (map structure_def (structures (code text (pieces text))))
  structures-named =
      let ts = code text (pieces text) in
      of_names (structures ts) (all_structures _ ts (code-sound text))
      (each-flat (λ (s : Structure). is_name_token s.name.role ≡ true) (structure_at ts)
      (structure-role ts) (range_with_len 0 (length ts)))
    where
      of_names : (ss : List Structure)
          → AllByRecursion (λ t. is_name_token t.role ≡ true → IsNameOf text t.span)
          (map structure_name ss)
          → AllByRecursion (λ (s : Structure). is_name_token s.name.role ≡ true) ss
          → AllByRecursion (IsDefNamed text) (map structure_def ss)
      of_names [] all is = tt
      of_names (s ∷ ss) all is = (all.0 is.0, of_names ss all.1 is.1)

  pub definitions-named : AllByRecursion (IsDefNamed text) (definitions text)
  unfolding definitions_from
  definitions-named =
      all_in_order def_key (IsDefNamed text) _
      (all-append (IsDefNamed text) _ _
      (all-append (IsDefNamed text) _ _
      (all-append (IsDefNamed text) _ _ functions-named
      (all-made (λ t. IsNameOf text t.span) (IsDefNamed text) macro_def (λ t named. named)
      (macro_names text (pieces text)) macros-named))
      typedefs-named) structures-named)
