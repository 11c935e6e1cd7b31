-- The calls of a text are made of its tokens.
use Rattle.std.proofs.Common.{◌≡◌, ◌+◌, ◌-◌, ℕ, zero, suc, true, false, List, [], ◌∷◌, refl}
use Rattle.std.proofs.Common.{sym, subst, map}
use Rattle.std.specs.Prelude.{cond}
use Rattle.std.specs.List.{AllByRecursion, flat_map, range_with_len}
use Rattle.std.proofs.lemmas.List.Concat.{flat_map-append}
use Rattle.cb_scan.specs.declared.facts.Call.{Call}
use Rattle.cb_scan.specs.declared.lex.piece.Span.{Span}
use Rattle.cb_scan.specs.declared.lex.token.Token.{Token}
use Rattle.cb_scan.specs.lex.Tokens.{is_mark, is_name_token}
use Rattle.cb_scan.specs.rules.Depth.{no_token, token_at}
use Rattle.cb_scan.specs.rules.Functions.{Function}
use Rattle.cb_scan.specs.rules.Macros.{Macro, after_arguments, defines_macro, macro_of}
use Rattle.cb_scan.specs.rules.Uses.{call_at, call_of, calls_among, calls_of_function, is_call}
use Rattle.cb_scan.proofs.Bodies.{and_left}
use Rattle.cb_scan.proofs.Rising.{all-prefix}
use Rattle.cb_scan.proofs.TypedefsWithin.{at_any}
use Rattle.cb_scan.proofs.WithinLemmas.{all-append}

-- what holds of the call of each name that has P, by a caller that has C, holds of all calls
module _
    (P : Token → Type 0) (C : Span → Type 0) (Q : Call → Type 0)
    (caller_is : (t : Token) → P t → C t.span)
    (call_is : (caller : Span) (t : Token) → C caller → P t → is_name_token t.role ≡ true → Q (call_of caller t)) where
  calls_from_body : (ts : List Token) (caller : Span) (k n : ℕ) → P no_token → C caller
      → AllByRecursion P ts → AllByRecursion Q (flat_map (call_at ts caller) (range_with_len k n))
  calls_from_body ts caller k zero none s a = tt
  calls_from_body ts caller k (suc n) none s a =
      let t = token_at ts k in
      let u = token_at ts (suc k) in
      all-append Q (call_at ts caller k) _
      ((elim (is_call t u) as (λ b. is_call t u ≡ b → AllByRecursion Q (cond b (call_of caller t ∷ []) [])) [
        | true ↦ λ e. (call_is caller t s (at_any P ts k (λ _. none) a) (and_left _ _ e), tt)
        | false ↦ λ _. tt
      ]) refl)
      (calls_from_body ts caller (k + 1) n none s a)

  -- the calls in the bodies of functions
  pub calls_of_all : (ts : List Token) (fs : List Function) → P no_token
      → AllByRecursion (λ (t : Token). C t.span) (map (λ (f : Function). f.name) fs)
      → AllByRecursion P ts → AllByRecursion Q (flat_map (calls_of_function ts) fs)
  calls_of_all ts [] none names a = tt
  calls_of_all ts (f ∷ fs) none names a =
      all-append Q _ _ (calls_from_body ts f.name.span f.body (f.end - f.body) none names.0 a)
      (calls_of_all ts fs none names.1 a)

  among_calls : (caller : Span) (l : List Token) → C caller → AllByRecursion P l
      → AllByRecursion Q (calls_among caller l)
  unfolding calls_among
  among_calls caller [] s a = tt
  among_calls caller (t ∷ []) s a = tt
  among_calls caller (t ∷ u ∷ l) s a =
      (elim (is_call t u) as (λ b. is_call t u ≡ b → AllByRecursion Q
      (cond b (call_of caller t ∷ calls_among caller (u ∷ l)) (calls_among caller (u ∷ l)))) [
        | true ↦ λ e. (call_is caller t s a.0 (and_left _ _ e), among_calls caller (u ∷ l) s a.1)
        | false ↦ λ _. among_calls caller (u ∷ l) s a.1
      ]) refl

  after_the_arguments : (l : List Token) → AllByRecursion P l → AllByRecursion P (after_arguments l)
  unfolding after_arguments
  after_the_arguments [] a = tt
  after_the_arguments (t ∷ l) a =
      elim (is_mark 41 t.role) as (λ b. AllByRecursion P (cond b l (after_arguments l)))
      [ true ↦ a.1 | false ↦ after_the_arguments l a.1 ]

  calls_of_line : (l : List Token) → AllByRecursion P l
      → AllByRecursion Q (flat_map (λ (m : Macro). calls_among m.name.span m.body) (macro_of l))
  calls_of_line [] a = tt
  calls_of_line (h ∷ []) a = tt
  calls_of_line (h ∷ o ∷ []) a = tt
  calls_of_line (h ∷ o ∷ n ∷ []) a = tt
  calls_of_line (h ∷ o ∷ n ∷ p ∷ l) a =
      elim (defines_macro o n p) as (λ b. AllByRecursion Q
      (flat_map (λ (m : Macro). calls_among m.name.span m.body)
      (cond b (record { name = n; body = after_arguments l } ∷ []) []))) [
        | true ↦ all-append Q (calls_among n.span (after_arguments l)) []
            (among_calls n.span (after_arguments l) (caller_is n a.1.1.0) (after_the_arguments l a.1.1.1.1)) tt
        | false ↦ tt
      ]

  -- the calls in the bodies of macros
  pub calls_of_lines : (ls : List (List Token)) → AllByRecursion P (flat_map (λ l. l) ls)
      → AllByRecursion Q (flat_map (λ (m : Macro). calls_among m.name.span m.body) (flat_map macro_of ls))
  calls_of_lines [] a = tt
  calls_of_lines (l ∷ ls) a =
      let parts = all-prefix P l (flat_map (λ l. l) ls) a in
      subst (AllByRecursion Q)
      (sym (flat_map-append (λ (m : Macro). calls_among m.name.span m.body) (macro_of l) (flat_map macro_of ls)))
      (all-append Q _ _ (calls_of_line l parts.0) (calls_of_lines ls parts.1))
