-- The innermost declaration that is seen, by how far declarations are seen.
use Rattle.std.proofs.Common.{◌≡◌, ◌∙◌, ◌+◌, ◌<◌, ◌≤◌, ℕ, zero, suc, Bool, true, false, Option, Some, None}
use Rattle.std.proofs.Common.{IfSome, List, ⊎_elim, refl, sym, ap, add-one, arith, length}
use Rattle.std.proofs.lemmas.Bool.{cases_Bool, false≢true, le-leb, leb-true, le-ltb, lt-ltb, ltb-false, ltb-true}
use Rattle.std.proofs.lemmas.Bool.Decides.{eqb_tells, leb_tells}
use Rattle.std.specs.Prelude.{◌&&◌, ◌||◌, ◌==◌, cond, nat_le, nat_lt, not, option_map}
use Rattle.std.specs.Option.{option_map_or}
use Rattle.cb_names.specs.Accesses.{access}
use Rattle.cb_names.specs.Bindings.{binding, declares_in, inner, is_bound_in, seen_before, sees, use_of, variable_by, variable_of}
use Rattle.cb_names.specs.Labels.{span}
use Rattle.cb_names.specs.Locals.{uses_where}
use Rattle.cb_names.specs.OwnNames.{is_bound}
use Rattle.cb_names.specs.Pairs.{at}
use Rattle.cb_names.specs.declared.word.Item.{Item}
use Rattle.cb_names.specs.declared.scopes.Scope.{Scope}
use Rattle.cb_names.specs.steps.Binding.{far, larger}
use Rattle.cb_names.proofs.LabelLemmas.{uses_same_by}

or_false : (b : Bool) → (b || false) ≡ b
or_false true = refl
or_false false = refl

lt_larger : (k a b : ℕ) → nat_lt k (larger a b) ≡ (nat_lt k a || nat_lt k b)
lt_larger k a b =
    ⊎_elim
    (λ under. ap (λ c. nat_lt k (cond c b a)) under
    ∙ ⊎_elim
    (λ in_a. lt-ltb k b (omega (arith, ltb-true a b under, ltb-true k a in_a)) ∙ sym (ap (λ c. c || nat_lt k b) in_a))
    (λ out. sym (ap (λ c. c || nat_lt k b) out))
    (cases_Bool (nat_lt k a)))
    (λ over. ap (λ c. nat_lt k (cond c b a)) over
    ∙ ⊎_elim
    (λ in_a. in_a ∙ sym (ap (λ c. c || nat_lt k b) in_a))
    (λ out. out ∙ sym (ap (λ c. c || nat_lt k b) out
    ∙ le-ltb k b (omega (arith, ltb-false a b over, ltb-false k a out))))
    (cases_Bool (nat_lt k a)))
    (cases_Bool (nat_lt a b))

le_suc : (k l : ℕ) → nat_lt k (suc l) ≡ nat_le k l
le_suc k l =
    ⊎_elim
    (λ under. lt-ltb k (suc l) (omega (arith, under.1)) ∙ sym under.0)
    (λ over. le-ltb k (suc l) (omega (arith, over.1)) ∙ sym over.0)
    (leb_tells k l)

not_le : (a b : ℕ) → b < a → nat_le a b ≡ false
not_le a b less = ⊎_elim (λ under. absurd (omega (arith, under.1, less))) (λ over. over.0) (leb_tells a b)

module _ (declares : ℕ → Bool) (scope : ℕ → Scope) where
  -- of the declarations that are seen one is in a scope that begins at an index or behind it
  abbrev begins : (first : ℕ) → Option ℕ → Bool
  begins first o = option_map_or (λ d. nat_le first (scope d).first) o false

  -- the inner one of two begins behind an index if one of both does
  inner_begins : (first : ℕ) (o : Option ℕ) (d : ℕ)
      → begins first (Some (inner scope o d)) ≡ (begins first o || nat_le first (scope d).first)
  inner_begins first None d = refl
  inner_begins first (Some e) d =
      ⊎_elim
      (λ under. ap (λ b. nat_le first (scope (cond b d e)).first) under
      ∙ ⊎_elim
      (λ in_e. le-leb first (scope d).first
      (omega (arith, leb-true (scope e).first (scope d).first under, leb-true first (scope e).first in_e))
      ∙ sym (ap (λ b. b || nat_le first (scope d).first) in_e))
      (λ out. sym (ap (λ b. b || nat_le first (scope d).first) out))
      (cases_Bool (nat_le first (scope e).first)))
      (λ over. ap (λ b. nat_le first (scope (cond b d e)).first) over
      ∙ ⊎_elim
      (λ in_e. in_e ∙ sym (ap (λ b. b || nat_le first (scope d).first) in_e))
      (λ out. out ∙ sym (ap (λ b. b || nat_le first (scope d).first) out ∙ below e d over out))
      (cases_Bool (nat_le first (scope e).first)))
      (cases_Bool (nat_le (scope e).first (scope d).first))
    where
      below : (e d : ℕ) → nat_le (scope e).first (scope d).first ≡ false → nat_le first (scope e).first ≡ false
          → nat_le first (scope d).first ≡ false
      below e d over out =
          ⊎_elim (λ t. absurd (false≢true (sym over ∙ t.0)))
          (λ f. ⊎_elim (λ t. absurd (false≢true (sym out ∙ t.0)))
          (λ g. not_le first (scope d).first (omega (arith, f.1, g.1)))
          (leb_tells first (scope e).first))
          (leb_tells (scope e).first (scope d).first)

  pub seen_far : (first k n : ℕ) → begins first (seen_before declares scope k n) ≡ nat_lt k (far declares scope first n)
  unfolding seen_before far
  seen_far first k zero = sym (le-ltb k 0 (omega arith))
  seen_far first k (suc d) =
      ⊎_elim
      (λ is. ap (λ b. begins first (cond (b && nat_le k (scope d).last)
      (Some (inner scope (seen_before declares scope k d) d)) (seen_before declares scope k d))) is
      ∙ here d (seen_far first k d)
      ∙ sym (ap (λ b. nat_lt k (cond (b && nat_le first (scope d).first)
      (larger (far declares scope first d) (suc (scope d).last)) (far declares scope first d))) is))
      (λ isnt. ap (λ b. begins first (cond (b && nat_le k (scope d).last)
      (Some (inner scope (seen_before declares scope k d) d)) (seen_before declares scope k d))) isnt
      ∙ seen_far first k d
      ∙ sym (ap (λ b. nat_lt k (cond (b && nat_le first (scope d).first)
      (larger (far declares scope first d) (suc (scope d).last)) (far declares scope first d))) isnt))
      (cases_Bool (declares d))
    where
      by : (a b l f : Bool) → a ≡ b → cond l (a || f) a ≡ cond f (b || l) b
      by a b true true is = ap (λ c. c || true) is
      by a b true false is = or_false a ∙ is
      by a b false true is = is ∙ sym (or_false b)
      by a b false false is = is

      begins_cond : (l : Bool) (o : Option ℕ) (d : ℕ) → begins first (cond l (Some (inner scope o d)) o)
          ≡ cond l (begins first o || nat_le first (scope d).first) (begins first o)
      begins_cond true o d = inner_begins first o d
      begins_cond false o d = refl

      lt_cond : (f : Bool) (d : ℕ) → nat_lt k (cond f (larger (far declares scope first d) (suc (scope d).last)) (far declares scope first d))
          ≡ cond f (nat_lt k (far declares scope first d) || nat_le k (scope d).last) (nat_lt k (far declares scope first d))
      lt_cond true d = lt_larger k (far declares scope first d) (suc (scope d).last)
          ∙ ap (λ b. nat_lt k (far declares scope first d) || b) (le_suc k (scope d).last)
      lt_cond false d = refl

      here : (d : ℕ) → begins first (seen_before declares scope k d) ≡ nat_lt k (far declares scope first d)
          → begins first (cond (nat_le k (scope d).last) (Some (inner scope (seen_before declares scope k d) d))
          (seen_before declares scope k d))
          ≡ nat_lt k (cond (nat_le first (scope d).first) (larger (far declares scope first d) (suc (scope d).last))
          (far declares scope first d))
      here d rest =
          begins_cond (nat_le k (scope d).last) (seen_before declares scope k d) d
          ∙ by (begins first (seen_before declares scope k d)) (nat_lt k (far declares scope first d))
          (nat_le k (scope d).last) (nat_le first (scope d).first) rest
          ∙ sym (lt_cond (nat_le first (scope d).first) d)

  pub far_next : (first k : ℕ) → far declares scope first (k + 1)
      ≡ cond (declares k && nat_le first (scope k).first) (larger (far declares scope first k) (suc (scope k).last))
      (far declares scope first k)
  unfolding far
  far_next first k = ap (far declares scope first) (add-one k)

  pub far_none : (first : ℕ) → far declares scope first 0 ≡ 0
  unfolding far
  far_none first = refl

  pub seen_next : (k n : ℕ) → seen_before declares scope k (n + 1)
      ≡ cond (sees declares scope k n) (Some (inner scope (seen_before declares scope k n) n)) (seen_before declares scope k n)
  unfolding seen_before
  seen_next k n = ap (seen_before declares scope k) (add-one n)

  pub seen_none : (k : ℕ) → seen_before declares scope k 0 ≡ None
  unfolding seen_before
  seen_none k = refl

  -- a scope begins at an index: at it or behind it, and not behind it
  equal_le : (x first : ℕ) → (x == first) ≡ (nat_le first x && not (nat_le (suc first) x))
  equal_le x first =
      ⊎_elim
      (λ same. same.0 ∙ sym ((λ i. le-leb first x (omega (arith, same.1)) i
      && not (not_le (suc first) x (omega (arith, same.1)) i))))
      (λ other. other.0 ∙ sym (⊎_elim
      (λ under. (λ i. under.0 i && not (le-leb (suc first) x (omega (arith, under.1, other.1)) i)))
      (λ over. ap (λ b. b && not (nat_le (suc first) x)) over.0)
      (leb_tells first x)))
      (eqb_tells x first)

  begins_at : (first : ℕ) (o : Option ℕ) → option_map_or (λ d. (scope d).first == first) o false
      ≡ (begins first o && not (begins (suc first) o))
  begins_at first None = refl
  begins_at first (Some d) = equal_le (scope d).first first

  pub bound_is : (first k : ℕ) → is_bound_in declares scope first k
      ≡ (nat_lt k (far declares scope first (suc k)) && not (nat_lt k (far declares scope (suc first) (suc k))))
  bound_is first k =
      begins_at first (binding declares scope k)
      ∙ (λ i. seen_far first k (suc k) i && not (seen_far (suc first) k (suc k) i))

  -- one is seen exactly where some are seen that far
  any_begins : (o : Option ℕ) → option_map_or (λ d. true) o false ≡ begins 0 o
  any_begins None = refl
  any_begins (Some d) = sym (le-leb 0 (scope d).first (omega arith))

  pub bound_far : (k : ℕ) → is_bound declares scope k ≡ nat_lt k (far declares scope 0 (suc k))
  bound_far k = any_begins (binding declares scope k) ∙ seen_far 0 k (suc k)

  -- what is seen stands before
  pub seen_less : (k n d : ℕ) → seen_before declares scope k n ≡ Some d → d < n
  unfolding seen_before
  seen_less k zero d is = absurd (false≢true (ap (λ o. option_map_or (λ _. true) o false) is))
  seen_less k (suc n) d is =
      ⊎_elim
      (λ yes_seen. here (seen_before declares scope k n) (λ e e_is. seen_less k n e e_is)
      (sym (ap (λ b. cond b (Some (inner scope (seen_before declares scope k n) n)) (seen_before declares scope k n)) yes_seen) ∙ is))
      (λ un_seen. omega (
        arith,
        seen_less k n d
            (sym (ap (λ b. cond b (Some (inner scope (seen_before declares scope k n) n)) (seen_before declares scope k n)) un_seen) ∙ is),
      ))
      (cases_Bool (sees declares scope k n))
    where
      here : (o : Option ℕ) → ((e : ℕ) → o ≡ Some e → e < n) → Some (inner scope o n) ≡ Some d → d < suc n
      here None less same =
          let d_is : n ≡ d = ap (λ o. option_map_or (λ x. x) o 0) same in omega (arith, d_is)
      here (Some e) less same =
          let d_is : cond (nat_le (scope e).first (scope n).first) n e ≡ d = ap (λ o. option_map_or (λ x. x) o 0) same in
          ⊎_elim
          (λ under. let n_is : n ≡ d = sym (ap (λ b. cond b n e) under) ∙ d_is in omega (arith, n_is))
          (λ over. let e_is : e ≡ d = sym (ap (λ b. cond b n e) over) ∙ d_is in omega (arith, e_is, less e refl))
          (cases_Bool (nat_le (scope e).first (scope n).first))

  pub seen_within : (k n l : ℕ) (o : Option ℕ) → n ≤ l → o ≡ seen_before declares scope k n → IfSome o (λ d. d < l)
  seen_within k n l None le is = tt
  seen_within k n l (Some d) le is = omega (arith, le, seen_less k n d (sym is))

-- the same declarations and scopes bind alike
module _ (p q : ℕ → Bool) (s t : ℕ → Scope) (l : ℕ) (same : (i : ℕ) → i < l → p i ≡ q i)
    (alike : (i : ℕ) → i < l → s i ≡ t i) where
  inner_same : (o : Option ℕ) (d : ℕ) → ((e : ℕ) → o ≡ Some e → e < l) → d < l → inner s o d ≡ inner t o d
  inner_same None d within less = refl
  inner_same (Some e) d within less =
      (λ i. cond (nat_le (alike e (within e refl) i).first (alike d less i).first) d e)

  pub seen_same : (k n : ℕ) → n ≤ l → seen_before p s k n ≡ seen_before q t k n
  unfolding seen_before
  seen_same k zero le = refl
  seen_same k (suc n) le =
      let less : n < l = omega (arith, le) in
      let rest = seen_same k n (omega (arith, le)) in
      (λ i. cond (same n less i && nat_le k (alike n less i).last) (Some (inner s (seen_before p s k n) n)) (seen_before p s k n))
      ∙ (λ i. cond (sees q t k n)
      (Some (inner_same (seen_before p s k n) n (λ e e_is. omega (arith, seen_less p s k n e e_is, less)) less i))
      (seen_before p s k n))
      ∙ (λ i. cond (sees q t k n) (Some (inner t (rest i) n)) (rest i))

  pub bound_same : (first k : ℕ) → k < l → is_bound_in p s first k ≡ is_bound_in q t first k
  bound_same first k less =
      by (binding p s k) (λ d d_is. omega (arith, seen_less p s k (suc k) d d_is, less))
      ∙ ap (λ o. option_map_or (λ d. (t d).first == first) o false) (seen_same k (suc k) (omega (arith, less)))
    where
      by : (o : Option ℕ) → ((d : ℕ) → o ≡ Some d → d < l)
          → option_map_or (λ d. (s d).first == first) o false ≡ option_map_or (λ d. (t d).first == first) o false
      by None within = refl
      by (Some d) within = ap (λ (x : Scope). x.first == first) (alike d (within d refl))

  pub any_same : (k : ℕ) → k < l → is_bound p s k ≡ is_bound q t k
  any_same k less = ap (λ o. option_map_or (λ d. true) o false) (seen_same k (suc k) (omega (arith, less)))

-- and they give the same local
module _ (xs : List Item) (named named' p q : ℕ → Bool) (s t : ℕ → Scope)
    (names : (i : ℕ) → i < length xs → named i ≡ named' i) (same : (i : ℕ) → i < length xs → p i ≡ q i)
    (alike : (i : ℕ) → i < length xs → s i ≡ t i) where
  use_same : (first k : ℕ) → k < length xs → use_of xs p s first k ≡ use_of xs q t first k
  use_same first k less =
      let is : declares_in p s first k ≡ declares_in q t first k
      = (λ i. same k less i && ((alike k less i).first == first)) in
      (λ i. record { name = span (at xs k); access = access xs (is i) k; declares = is i })

  of_same : (d : ℕ) → d < length xs → variable_of xs named p s d ≡ variable_of xs named' q t d
  of_same d less =
      let first = ap (λ (x : Scope). x.first) (alike d less) in
      (λ i. record {
        definition = Some (span (at xs d));
        uses = uses_where (use_of xs p s (first i)) (λ k. named k && is_bound_in p s (first i) k) (length xs);
        is_label = false;
      })
      ∙ (λ i. record {
        definition = Some (span (at xs d));
        uses = uses_same_by (λ k. named k && is_bound_in p s (t d).first k) (λ k. named' k && is_bound_in q t (t d).first k)
            (use_of xs p s (t d).first) (use_of xs q t (t d).first) 0 (length xs)
            (λ k le under. let within : k < length xs = omega (arith, under) in
            (λ j. names k within j && bound_same p q s t (length xs) same alike (t d).first k within j))
            (λ k le under. use_same (t d).first k (omega (arith, under))) i;
        is_label = false;
      })

  pub variable_same : (k : ℕ) → k < length xs → variable_by xs named p s k ≡ variable_by xs named' q t k
  variable_same k less =
      by (binding p s k) (λ d d_is. omega (arith, seen_less p s k (suc k) d d_is, less))
      ∙ ap (option_map (variable_of xs named' q t)) (seen_same p q s t (length xs) same alike k (suc k) (omega (arith, less)))
    where
      by : (o : Option ℕ) → ((d : ℕ) → o ≡ Some d → d < length xs)
          → option_map (variable_of xs named p s) o ≡ option_map (variable_of xs named' q t) o
      by None within = refl
      by (Some d) within = ap (λ v. Some v) (of_same d (within d refl))
