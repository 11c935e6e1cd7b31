-- Which declaration an index sees, told by what it is among those that are seen, and what stays of it
-- where fewer declare the name.
use Rattle.std.proofs.Common.{◌≡◌, ◌∙◌, ◌<◌, ◌≤◌, ℕ, zero, suc, Bool, true, false, Option, Some, None}
use Rattle.std.proofs.Common.{⊎_elim, refl, sym, ap, subst, arith}
use Rattle.std.proofs.lemmas.Bool.{and_from, and_parts, cases_Bool, false≢true, le-leb, leb-true}
use Rattle.std.proofs.lemmas.Bool.Decides.{eqb_tells, leb_tells}
use Rattle.std.specs.Prelude.{cond, nat_le}
use Rattle.std.specs.Option.{option_map_or}
use Rattle.cb_names.specs.Bindings.{binding, inner, seen_before, sees}
use Rattle.cb_names.specs.declared.scopes.Scope.{Scope}

module _ (scope : ℕ → Scope) where
  -- of the declarations before index n that index k sees, this is the last one in the innermost scope
  pub record Seen (p : ℕ → Bool) (k n e : ℕ) : Type 0 where
    pub less : e < n
    pub is : sees p scope k e ≡ true
    pub most : (i : ℕ) → i < n → sees p scope k i ≡ true → (scope i).first ≤ (scope e).first
    pub last : (i : ℕ) → e < i → i < n → sees p scope k i ≡ true → (scope i).first < (scope e).first

  none_some : (e : ℕ) → None ≡ Some e → ⊥
  none_some e is = false≢true (ap (λ o. option_map_or (λ _. true) o false) is)

  the : (d e : ℕ) → Some d ≡ Some e → d ≡ e
  the d e is = ap (λ o. option_map_or (λ x. x) o 0) is

  module _ (p : ℕ → Bool) (k : ℕ) where
    -- where none is seen, no index is a declaration that is seen
    pub none_seen : (n : ℕ) → seen_before p scope k n ≡ None → (i : ℕ) → i < n → sees p scope k i ≡ true → ⊥
    unfolding seen_before
    none_seen zero none i less is = absurd (omega (arith, less))
    none_seen (suc n) none i less is =
        ⊎_elim
        (λ seen. none_some (inner scope (seen_before p scope k n) n)
        (sym (sym (ap (λ b. cond b (Some (inner scope (seen_before p scope k n) n)) (seen_before p scope k n)) seen) ∙ none)))
        (λ unseen. let rest : seen_before p scope k n ≡ None
        = sym (ap (λ b. cond b (Some (inner scope (seen_before p scope k n) n)) (seen_before p scope k n)) unseen) ∙ none in
        ⊎_elim
        (λ same. let i_is : i ≡ n = same.1 in false≢true (sym unseen ∙ ap (λ j. sees p scope k j) (sym i_is) ∙ is))
        (λ other. none_seen n rest i (omega (arith, less, other.1)) is)
        (eqb_tells i n))
        (cases_Bool (sees p scope k n))

    -- with one index more, which is not seen
    one_unseen : (n e : ℕ) → Seen p k n e → sees p scope k n ≡ false → Seen p k (suc n) e
    one_unseen n e s unseen = record {
      less = omega (arith, s.less);
      is = s.is;
      most = λ i less is. s.most i (under i less is) is;
      last = λ i over less is. s.last i over (under i less is) is;
    }
      where
        under : (i : ℕ) → i < suc n → sees p scope k i ≡ true → i < n
        under i less is =
            ⊎_elim
            (λ same. let i_is : i ≡ n = same.1 in absurd (false≢true (sym unseen ∙ ap (λ j. sees p scope k j) (sym i_is) ∙ is)))
            (λ other. omega (arith, less, other.1))
            (eqb_tells i n)

    -- which is the first that is seen; which is in the innermost scope; which is not
    one_first : (n : ℕ) → seen_before p scope k n ≡ None → sees p scope k n ≡ true → Seen p k (suc n) n
    one_first n none seen = record {
      less = omega arith;
      is = seen;
      most = λ i less is. ⊎_elim
          (λ same. let i_is : i ≡ n = same.1 in omega (arith, ap (λ j. (scope j).first) i_is))
          (λ other. absurd (none_seen n none i (omega (arith, less, other.1)) is))
          (eqb_tells i n);
      last = λ i over less is. absurd (omega (arith, over, less));
    }

    one_inner : (n e : ℕ) → Seen p k n e → sees p scope k n ≡ true → (scope e).first ≤ (scope n).first → Seen p k (suc n) n
    one_inner n e s seen le = record {
      less = omega arith;
      is = seen;
      most = λ i less is. ⊎_elim
          (λ same. let i_is : i ≡ n = same.1 in omega (arith, ap (λ j. (scope j).first) i_is))
          (λ other. omega (arith, s.most i (omega (arith, less, other.1)) is, le))
          (eqb_tells i n);
      last = λ i over less is. absurd (omega (arith, over, less));
    }

    one_outer : (n e : ℕ) → Seen p k n e → (scope n).first < (scope e).first → Seen p k (suc n) e
    one_outer n e s outer = record {
      less = omega (arith, s.less);
      is = s.is;
      most = λ i less is. ⊎_elim
          (λ same. let i_is : i ≡ n = same.1 in omega (arith, ap (λ j. (scope j).first) i_is, outer))
          (λ other. s.most i (omega (arith, less, other.1)) is)
          (eqb_tells i n);
      last = λ i over less is. ⊎_elim
          (λ same. let i_is : i ≡ n = same.1 in omega (arith, ap (λ j. (scope j).first) i_is, outer))
          (λ other. s.last i over (omega (arith, less, other.1)) is)
          (eqb_tells i n);
    }

    pub seen_is : (n e : ℕ) → seen_before p scope k n ≡ Some e → Seen p k n e
    unfolding seen_before
    seen_is zero e is = absurd (none_some e is)
    seen_is (suc n) e is =
        ⊎_elim
        (λ seen. here (λ d d_is. seen_is n d d_is) (seen_before p scope k n) refl seen
        (the _ e (sym (ap (λ b. cond b (Some (inner scope (seen_before p scope k n) n)) (seen_before p scope k n)) seen) ∙ is)))
        (λ unseen. one_unseen n e (seen_is n e
        (sym (ap (λ b. cond b (Some (inner scope (seen_before p scope k n) n)) (seen_before p scope k n)) unseen) ∙ is)) unseen)
        (cases_Bool (sees p scope k n))
      where
        here : ((d : ℕ) → seen_before p scope k n ≡ Some d → Seen p k n d)
            → (o : Option ℕ) → seen_before p scope k n ≡ o → sees p scope k n ≡ true → inner scope o n ≡ e → Seen p k (suc n) e
        here rest None o_is seen same = subst (Seen p k (suc n)) same (one_first n o_is seen)
        here rest (Some d) o_is seen same =
            ⊎_elim
            (λ under. subst (Seen p k (suc n)) (sym (ap (λ b. cond b n d) under.0) ∙ same)
            (one_inner n d (rest d o_is) seen under.1))
            (λ over. subst (Seen p k (suc n)) (sym (ap (λ b. cond b n d) over.0) ∙ same)
            (one_outer n d (rest d o_is) over.1))
            (leb_tells (scope d).first (scope n).first)

    one_only : (n d e : ℕ) → Seen p k n d → Seen p k n e → d ≡ e
    one_only n d e s t =
        ⊎_elim
        (λ same. same.1)
        (λ other. ⊎_elim
        (λ le. let less : d < e = omega (arith, le.1, other.1) in
        absurd (omega (arith, s.last e less t.less t.is, t.most d s.less s.is)))
        (λ less. absurd (omega (arith, t.last d less.1 s.less s.is, s.most e t.less t.is)))
        (leb_tells d e))
        (eqb_tells d e)

    pub is_seen : (n e : ℕ) → Seen p k n e → seen_before p scope k n ≡ Some e
    is_seen n e s = by (seen_before p scope k n) refl
      where
        by : (o : Option ℕ) → seen_before p scope k n ≡ o → seen_before p scope k n ≡ Some e
        by None is = absurd (none_seen n is e s.less s.is)
        by (Some d) is = is ∙ ap (λ x. Some x) (one_only n d e (seen_is n d is) s)

  -- where fewer declare the name, and among them the one that was seen, that is still seen; none is
  -- where none was
  module _ (p q : ℕ → Bool) (k n : ℕ) (fewer : (i : ℕ) → i < n → q i ≡ true → p i ≡ true)
      (kept : (e : ℕ) → seen_before p scope k n ≡ Some e → q e ≡ true) where
    sees_fewer : (i : ℕ) → i < n → sees q scope k i ≡ true → sees p scope k i ≡ true
    sees_fewer i less is =
        let parts = and_parts (q i) (nat_le k (scope i).last) is in
        and_from (p i) (nat_le k (scope i).last) (fewer i less parts.0) parts.1

    pub still_seen : seen_before q scope k n ≡ seen_before p scope k n
    still_seen = by (seen_before p scope k n) refl
      where
        none_of : (o : Option ℕ) → seen_before q scope k n ≡ o → seen_before p scope k n ≡ None → seen_before q scope k n ≡ None
        none_of None is none = is
        none_of (Some e) is none =
            let s = seen_is q k n e is in
            absurd (none_seen p k n none e s.less (sees_fewer e s.less s.is))

        by : (o : Option ℕ) → seen_before p scope k n ≡ o → seen_before q scope k n ≡ seen_before p scope k n
        by None is = none_of (seen_before q scope k n) refl is ∙ sym is
        by (Some e) is =
            let s = seen_is p k n e is in
            is_seen q k n e (record {
              less = s.less;
              is = and_from (q e) (nat_le k (scope e).last) (kept e is) (and_parts (p e) (nat_le k (scope e).last) s.is).1;
              most = λ i less seen. s.most i less (sees_fewer i less seen);
              last = λ i over less seen. s.last i over less (sees_fewer i less seen);
            })
            ∙ sym is

  -- where scopes nest, a declaration is bound to itself
  pub bound_to_itself : (p : ℕ → Bool) (k : ℕ) → p k ≡ true → k ≤ (scope k).last
      → ((d : ℕ) → d ≤ k → p d ≡ true → k ≤ (scope d).last → (scope d).first ≤ (scope k).first)
      → binding p scope k ≡ Some k
  bound_to_itself p k is own nested =
      is_seen p k (suc k) k (record {
        less = omega arith;
        is = and_from (p k) (nat_le k (scope k).last) is (le-leb k (scope k).last own);
        most = λ i less seen. let parts = and_parts (p i) (nat_le k (scope i).last) seen in
            nested i (omega (arith, less)) parts.0 (leb-true k (scope i).last parts.1);
        last = λ i over less seen. absurd (omega (arith, over, less));
      })
