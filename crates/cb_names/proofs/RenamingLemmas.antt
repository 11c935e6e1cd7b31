-- Where the uses of a local have a new word, that no ordinary name has, all names are bound as before.
use Rattle.std.proofs.Common.{◌≡◌, ◌∙◌, ◌<◌, ◌≤◌, ℕ, suc, Bool, true, false, List, Option, Some, None}
use Rattle.std.proofs.Common.{⊎_elim, refl, sym, ap, arith}
use Rattle.std.proofs.lemmas.Bool.{and_from, and_parts, cases_Bool, eqb-true, false≢true}
use Rattle.std.proofs.lemmas.Slice.Eq.{bytes_eq-Decides}
use Rattle.std.specs.Prelude.{◌&&◌, ◌==◌, cond}
use Rattle.std.specs.Option.{option_map_or}
use Rattle.std.specs.Str.{bytes_eq}
use Rattle.cb_names.specs.Bindings.{binding, is_bound_in, seen_before}
use Rattle.cb_names.specs.Renaming.{bound_by, declares_word, has, is_use_by, renamed}
use Rattle.cb_names.specs.declared.scopes.Scope.{Scope}
use Rattle.cb_names.proofs.BindingLemmas.{seen_same}
use Rattle.cb_names.proofs.SeenLemmas.{Seen, seen_is, still_seen}

-- words are the same, or not
pub word_is : (v w : List ℕ) → bytes_eq v w ≡ true → v ≡ w
word_is v w = (bytes_eq-Decides v w).0

pub is_word : (v w : List ℕ) → v ≡ w → bytes_eq v w ≡ true
is_word v w = (bytes_eq-Decides v w).1

either : (a b : Bool) → (a ≡ true → b ≡ true) → (b ≡ true → a ≡ true) → a ≡ b
either true b to from = sym (to refl)
either false b to from = ⊎_elim (λ is. absurd (false≢true (from is))) sym (cases_Bool b)

-- what an index is bound to has its word and declares it
module _ (ordinary declares : ℕ → Bool) (word : ℕ → List ℕ) (scope : ℕ → Scope) where
  pub record BoundTo (k d : ℕ) : Type 0 where
    pub le : d ≤ k
    pub named : ordinary d ≡ true
    pub same : word d ≡ word k
    pub is : declares_word word ordinary declares (word k) d ≡ true

  pub bound_to : (k d : ℕ) → bound_by word ordinary declares scope k ≡ Some d → BoundTo k d
  bound_to k d is = record {
    le = omega (arith, s.less);
    named = of_name.0;
    same = word_is (word d) (word k) of_name.1;
    is = declared;
  }
    where
      s : Seen scope (declares_word word ordinary declares (word k)) k (suc k) d
      s = seen_is scope (declares_word word ordinary declares (word k)) k (suc k) d is

      declared : declares_word word ordinary declares (word k) d ≡ true
      declared = (and_parts (declares_word word ordinary declares (word k) d) _ s.is).0

      of_name : (ordinary d ≡ true) × (bytes_eq (word d) (word k) ≡ true)
      of_name = and_parts (ordinary d) (bytes_eq (word d) (word k)) (and_parts (has word ordinary (word k) d) (declares d) declared).0

module _ (l : ℕ) (ordinary declares : ℕ → Bool) (word : ℕ → List ℕ) (scope : ℕ → Scope) (name new : List ℕ) (first : ℕ)
    (fresh : (k : ℕ) → k < l → has word ordinary new k ≡ false)
    (own : (k : ℕ) → k < l → declares_word word ordinary declares name k ≡ true
    → binding (declares_word word ordinary declares name) scope k ≡ Some k) where
  abbrev edited : ℕ → Bool
  edited = is_use_by word ordinary declares scope name first

  abbrev after : ℕ → List ℕ
  after = renamed word edited new

  abbrev declared : List ℕ → ℕ → Bool
  declared = declares_word word ordinary declares

  -- no ordinary name has the new word
  unlike : (k : ℕ) → k < l → ordinary k ≡ true → word k ≡ new → ⊥
  unlike k less is same =
      false≢true (sym (fresh k less) ∙ and_from (ordinary k) (bytes_eq (word k) new) is (is_word (word k) new same))

  -- an index that is edited has the name
  had : (k : ℕ) → edited k ≡ true → word k ≡ name
  had k is =
      word_is (word k) name (and_parts (ordinary k) (bytes_eq (word k) name)
      (and_parts (has word ordinary name k) (is_bound_in (declared name) scope first k) is).0).1

  in_scope : (k : ℕ) → edited k ≡ true → is_bound_in (declared name) scope first k ≡ true
  in_scope k is = (and_parts (has word ordinary name k) (is_bound_in (declared name) scope first k) is).1

  -- which word is had behind
  new_is : (k : ℕ) → edited k ≡ true → after k ≡ new
  new_is k is = ap (λ b. cond b new (word k)) is

  old_is : (k : ℕ) → edited k ≡ false → after k ≡ word k
  old_is k is = ap (λ b. cond b new (word k)) is

  -- words that are the same behind were the same before
  pub were_same : (i k : ℕ) → i < l → k < l → ordinary i ≡ true → ordinary k ≡ true → after i ≡ after k → word i ≡ word k
  were_same i k less_i less_k o_i o_k same =
      ⊎_elim
      (λ e_i. ⊎_elim
      (λ e_k. had i e_i ∙ sym (had k e_k))
      (λ n_k. absurd (unlike k less_k o_k (sym (old_is k n_k) ∙ sym same ∙ new_is i e_i)))
      (cases_Bool (edited k)))
      (λ n_i. ⊎_elim
      (λ e_k. absurd (unlike i less_i o_i (sym (old_is i n_i) ∙ same ∙ new_is k e_k)))
      (λ n_k. sym (old_is i n_i) ∙ same ∙ old_is k n_k)
      (cases_Bool (edited k)))
      (cases_Bool (edited i))

  -- words that were the same stay the same where both are edited or neither
  stay_same : (i k : ℕ) → edited i ≡ edited k → word i ≡ word k → after i ≡ after k
  stay_same i k alike same = (λ j. cond (alike j) new (same j))

  -- a declaration of the name is edited where its scope is that one
  bound_is : (d : ℕ) → d < l → declared name d ≡ true → is_bound_in (declared name) scope first d ≡ ((scope d).first == first)
  bound_is d less is = ap (λ o. option_map_or (λ e. (scope e).first == first) o false) (own d less is)

  -- an index is edited where the declaration is to which it is bound
  pub edited_alike : (k d : ℕ) → k < l → ordinary k ≡ true → bound_by word ordinary declares scope k ≡ Some d
      → edited d ≡ edited k
  edited_alike k d less o_k is =
      either (edited d) (edited k)
      (λ e_d. let w = sym to.same ∙ had d e_d in
      and_from _ _ (and_from (ordinary k) (bytes_eq (word k) name) o_k (is_word (word k) name w))
      (here w ∙ sym (bound_is d d_less (named w)) ∙ in_scope d e_d))
      (λ e_k. let w = had k e_k in
      and_from _ _ (and_parts (has word ordinary name d) (declares d) (named w)).0
      (bound_is d d_less (named w) ∙ sym (here w) ∙ in_scope k e_k))
    where
      to : BoundTo ordinary declares word scope k d
      to = bound_to ordinary declares word scope k d is

      d_less : d < l
      d_less = omega (arith, to.le, less)

      named : word k ≡ name → declared name d ≡ true
      named w = sym (ap (λ n. declared n d) w) ∙ to.is

      here : word k ≡ name → is_bound_in (declared name) scope first k ≡ ((scope d).first == first)
      here w = ap (λ o. option_map_or (λ e. (scope e).first == first) o false) (sym (ap (λ n. binding (declared n) scope k) w) ∙ is)

  -- each ordinary name is bound as before
  pub bound_same : (k : ℕ) → k < l → ordinary k ≡ true
      → bound_by after ordinary declares scope k ≡ bound_by word ordinary declares scope k
  bound_same k less o_k =
      still_seen scope (declared (word k)) (declares_word after ordinary declares (after k)) k (suc k) fewer kept
    where
      fewer : (i : ℕ) → i < suc k → declares_word after ordinary declares (after k) i ≡ true → declared (word k) i ≡ true
      fewer i under is =
          let parts = and_parts (has after ordinary (after k) i) (declares i) is in
          let of_name = and_parts (ordinary i) (bytes_eq (after i) (after k)) parts.0 in
          and_from _ _ (and_from (ordinary i) (bytes_eq (word i) (word k)) of_name.0
          (is_word (word i) (word k) (were_same i k (omega (arith, under, less)) less of_name.0 o_k
          (word_is (after i) (after k) of_name.1)))) parts.1

      kept : (e : ℕ) → seen_before (declared (word k)) scope k (suc k) ≡ Some e
          → declares_word after ordinary declares (after k) e ≡ true
      kept e is =
          let to = bound_to ordinary declares word scope k e is in
          and_from _ _ (and_from (ordinary e) (bytes_eq (after e) (after k)) to.named
          (is_word (after e) (after k) (stay_same e k (edited_alike k e less o_k is) to.same)))
          (and_parts (has word ordinary (word k) e) (declares e) to.is).1

  -- the new word is that of the indices that are edited, and of no other ordinary name
  pub new_exactly : (k : ℕ) → k < l → has after ordinary new k ≡ edited k
  new_exactly k less =
      ⊎_elim
      (λ e. and_from (ordinary k) (bytes_eq (after k) new)
      (and_parts (ordinary k) (bytes_eq (word k) name)
      (and_parts (has word ordinary name k) (is_bound_in (declared name) scope first k) e).0).0
      (is_word (after k) new (new_is k e)) ∙ sym e)
      (λ n. ap (λ w. ordinary k && bytes_eq w new) (old_is k n) ∙ fresh k less ∙ sym n)
      (cases_Bool (edited k))

  -- declarations of one name in one scope are edited alike
  one_edited : (e d : ℕ) → e < l → d < l → declared (word e) e ≡ true → declared (word d) d ≡ true → word e ≡ word d
      → (scope e).first ≡ (scope d).first → edited e ≡ true → edited d ≡ true
  one_edited e d e_less d_less e_is d_is same one is =
      let w : word e ≡ name = had e is in
      let v : word d ≡ name = sym same ∙ w in
      let e_named : declared name e ≡ true = ap (λ n. declared n e) (sym w) ∙ e_is in
      let d_named : declared name d ≡ true = ap (λ n. declared n d) (sym v) ∙ d_is in
      and_from _ _ (and_parts (has word ordinary name d) (declares d) d_named).0
      (bound_is d d_less d_named ∙ sym (ap (λ n. n == first) one) ∙ sym (bound_is e e_less e_named) ∙ in_scope e is)

  -- what an index is bound to, and in which scope
  record Bound (j at : ℕ) : Type 0 where
    to : ℕ
    is : bound_by word ordinary declares scope j ≡ Some to
    begins : (scope to).first ≡ at

  bound_at : (j at : ℕ) → is_bound_in (declared (word j)) scope at j ≡ true → Bound j at
  bound_at j at in_it = by (bound_by word ordinary declares scope j) refl in_it
    where
      by : (o : Option ℕ) → bound_by word ordinary declares scope j ≡ o
          → option_map_or (λ e. (scope e).first == at) o false ≡ true → Bound j at
      by None is none = absurd (false≢true none)
      by (Some e) is begins = record { to = e; is = is; begins = eqb-true (scope e).first at begins }

  pub declared_itself : (k d : ℕ) → bound_by word ordinary declares scope k ≡ Some d → declared (word d) d ≡ true
  declared_itself k d is =
      let to = bound_to ordinary declares word scope k d is in ap (λ n. declared n d) to.same ∙ to.is

  -- the uses of a local stay
  pub uses_same : (d k j : ℕ) → k < l → j < l → ordinary k ≡ true → bound_by word ordinary declares scope k ≡ Some d
      → is_use_by after ordinary declares scope (after k) (scope d).first j
      ≡ is_use_by word ordinary declares scope (word k) (scope d).first j
  uses_same d k j k_less j_less o_k is =
      either _ _ (λ used. back used) (λ used. forth used)
    where
      at : ℕ
      at = (scope d).first

      moved : ordinary j ≡ true → after j ≡ after k → word j ≡ word k
          → is_bound_in (declares_word after ordinary declares (after k)) scope at j ≡ is_bound_in (declared (word k)) scope at j
      moved o_j a w =
          ap (λ n. is_bound_in (declares_word after ordinary declares n) scope at j) (sym a)
          ∙ ap (λ o. option_map_or (λ e. (scope e).first == at) o false) (bound_same j j_less o_j)
          ∙ ap (λ n. is_bound_in (declared n) scope at j) w

      back : is_use_by after ordinary declares scope (after k) at j ≡ true
          → is_use_by word ordinary declares scope (word k) at j ≡ true
      back used =
          let parts = and_parts (has after ordinary (after k) j) _ used in
          let of_name = and_parts (ordinary j) (bytes_eq (after j) (after k)) parts.0 in
          let a : after j ≡ after k = word_is (after j) (after k) of_name.1 in
          let w : word j ≡ word k = were_same j k j_less k_less of_name.0 o_k a in
          and_from _ _ (and_from (ordinary j) (bytes_eq (word j) (word k)) of_name.0 (is_word (word j) (word k) w))
          (sym (moved of_name.0 a w) ∙ parts.1)

      forth : is_use_by word ordinary declares scope (word k) at j ≡ true
          → is_use_by after ordinary declares scope (after k) at j ≡ true
      forth used =
          let parts = and_parts (has word ordinary (word k) j) _ used in
          let of_name = and_parts (ordinary j) (bytes_eq (word j) (word k)) parts.0 in
          let w : word j ≡ word k = word_is (word j) (word k) of_name.1 in
          let b = bound_at j at (ap (λ n. is_bound_in (declared n) scope at j) w ∙ parts.1) in
          let e = bound_to ordinary declares word scope j b.to b.is in
          let f = bound_to ordinary declares word scope k d is in
          let e_less : b.to < l = omega (arith, e.le, j_less) in
          let d_less : d < l = omega (arith, f.le, k_less) in
          let e_is = declared_itself j b.to b.is in
          let d_is = declared_itself k d is in
          let same : word b.to ≡ word d = e.same ∙ w ∙ sym f.same in
          let alike : edited j ≡ edited k = sym (edited_alike j b.to j_less of_name.0 b.is)
          ∙ either (edited b.to) (edited d)
          (one_edited b.to d e_less d_less e_is d_is same b.begins)
          (one_edited d b.to d_less e_less d_is e_is (sym same) (sym b.begins))
          ∙ edited_alike k d k_less o_k is in
          let a : after j ≡ after k = stay_same j k alike w in
          and_from _ _ (and_from (ordinary j) (bytes_eq (after j) (after k)) of_name.0 (is_word (after j) (after k) a))
          (moved of_name.0 a w ∙ parts.1)

-- where ordinary names keep their words, they are bound as before
pub kept_bound : (l : ℕ) (ordinary declares : ℕ → Bool) (word after : ℕ → List ℕ) (scope : ℕ → Scope)
    → ((k : ℕ) → k < l → ordinary k ≡ true → after k ≡ word k)
    → (k : ℕ) → k < l → ordinary k ≡ true
    → bound_by after ordinary declares scope k ≡ bound_by word ordinary declares scope k
kept_bound l ordinary declares word after scope kept k less o_k =
    seen_same (declares_word after ordinary declares (after k)) (declares_word word ordinary declares (word k)) scope scope
    (suc k) (λ i under. ap (λ c. c && declares i) (same i (omega (arith, under, less)))) (λ i under. refl) k (suc k) (omega arith)
  where
    same : (i : ℕ) → i < l → has after ordinary (after k) i ≡ has word ordinary (word k) i
    same i i_less =
        ⊎_elim
        (λ o_i. (λ j. ordinary i && bytes_eq (kept i i_less o_i j) (kept k less o_k j)))
        (λ n. ap (λ c. c && bytes_eq (after i) (after k)) n ∙ sym (ap (λ c. c && bytes_eq (word i) (word k)) n))
        (cases_Bool (ordinary i))

-- a word that is new in the place of another one, at all tokens of a kind, tells them apart as before
pub told_same : (l : ℕ) (named : ℕ → Bool) (word : ℕ → List ℕ) (name new : List ℕ)
    → ((k : ℕ) → k < l → (named k && bytes_eq (word k) new) ≡ false)
    → (j k : ℕ) → j < l → k < l → named j ≡ true → named k ≡ true
    → bytes_eq (renamed word (λ i. named i && bytes_eq (word i) name) new j)
    (renamed word (λ i. named i && bytes_eq (word i) name) new k)
    ≡ bytes_eq (word j) (word k)
told_same l named word name new fresh j k j_less k_less n_j n_k =
    either _ _ (λ is. is_word (word j) (word k) (back (word_is (after j) (after k) is)))
    (λ is. is_word (after j) (after k) (forth (word_is (word j) (word k) is)))
  where
    edited : ℕ → Bool
    edited i = named i && bytes_eq (word i) name

    after : ℕ → List ℕ
    after = renamed word edited new

    unlike : (i : ℕ) → i < l → named i ≡ true → word i ≡ new → ⊥
    unlike i less n_i same =
        false≢true (sym (fresh i less) ∙ and_from (named i) (bytes_eq (word i) new) n_i (is_word (word i) new same))

    had : (i : ℕ) → edited i ≡ true → word i ≡ name
    had i is = word_is (word i) name (and_parts (named i) (bytes_eq (word i) name) is).1

    back : after j ≡ after k → word j ≡ word k
    back same =
        ⊎_elim
        (λ e_j. ⊎_elim
        (λ e_k. had j e_j ∙ sym (had k e_k))
        (λ o_k. absurd (unlike k k_less n_k
        (sym (ap (λ c. cond c new (word k)) o_k) ∙ sym same ∙ ap (λ c. cond c new (word j)) e_j)))
        (cases_Bool (edited k)))
        (λ o_j. ⊎_elim
        (λ e_k. absurd (unlike j j_less n_j
        (sym (ap (λ c. cond c new (word j)) o_j) ∙ same ∙ ap (λ c. cond c new (word k)) e_k)))
        (λ o_k. sym (ap (λ c. cond c new (word j)) o_j) ∙ same ∙ ap (λ c. cond c new (word k)) o_k)
        (cases_Bool (edited k)))
        (cases_Bool (edited j))

    forth : word j ≡ word k → after j ≡ after k
    forth same =
        let alike : edited j ≡ edited k = (λ i. (n_j ∙ sym n_k) i && bytes_eq (same i) name) in
        (λ i. cond (alike i) new (same i))
