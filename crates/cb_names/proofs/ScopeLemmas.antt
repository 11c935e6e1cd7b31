-- The scopes of a function, token by token, are those of the definitions.
use Rattle.std.proofs.Common.{◌≡◌, ◌≢◌, ◌∙◌, ◌+◌, ◌-◌, ◌<◌, ℕ, zero, suc, Bool, true, false}
use Rattle.std.proofs.Common.{List, Option, Some, None, ⊎_elim, refl, subst, sym, ap, add-one, arith, length, replicate}
use Rattle.std.proofs.lemmas.Bool.{cases_Bool, false≢true, ltb-false, ltb-true}
use Rattle.std.proofs.lemmas.Bool.{le-leb, ne_eqb}
use Rattle.std.proofs.lemmas.Bool.Decides.{eqb_tells, leb_tells}
use Rattle.std.proofs.lemmas.List.{get_or-replicate, length-replicate}
use Rattle.std.specs.Prelude.{◌&&◌, ◌==◌, cond, find, nat_le, nat_lt, slice_index_or, slice_set}
use Rattle.std.specs.List.{range_with_len}
use Rattle.std.specs.Option.{option_map_or, option_or}
use Rattle.cb_names.specs.Braces.{is_block}
use Rattle.cb_names.specs.Pairs.{closed_at, innermost, is_index, opened, opens, partner}
use Rattle.cb_names.specs.Scopes.{begins_for, begins_on, end_around, end_of, ends_on, first_end, for_before}
use Rattle.cb_names.specs.Scopes.{for_end, for_of, level_of, or_last, scope_at, scope_in, scope_of_bracket, scope_of_for, whole}
use Rattle.cb_names.specs.Shapes.{IsShape}
use Rattle.cb_names.specs.Tables.{IsTable}
use Rattle.cb_names.specs.declared.braces.Brace.TheVariants.{Other}
use Rattle.cb_names.specs.declared.scopes.Scope.{Scope}
use Rattle.cb_names.specs.declared.shape.Shape.{Shape}
use Rattle.cb_names.specs.declared.word.Item.{Item}
use Rattle.cb_names.specs.steps.Pairing.{answer}
use Rattle.cb_names.specs.steps.Scoping.{around_answer, bracket_scope, end_by, for_scope, from_index, level_by, put, put_if, scope_by}
use Rattle.cb_names.specs.steps.Starting.{closed_by}
use Rattle.cb_names.proofs.BracketLemmas.{no_top, self, top_is}
use Rattle.cb_names.proofs.LabelLemmas.{range_first}
use Rattle.cb_names.proofs.PairingLemmas.{closed_less, opens_closes_none, partner_is}
use Rattle.cb_names.proofs.TableLemmas.{changed, renamed}

-- ---- tables
nat_le_false : (n i : ℕ) → i < n → nat_le n i ≡ false
nat_le_false n i less = ⊎_elim (λ under. absurd (omega (arith, under.1, less))) (λ over. over.0) (leb_tells n i)

pub replicated : (f : ℕ → Option ℕ) (n : ℕ) (xs : List (Option ℕ)) → xs ≡ replicate n None
    → ((i : ℕ) → i < n → f i ≡ None) → IsTable f n xs
replicated f n xs is nothing = record {
  len = ap length is ∙ length-replicate n None;
  at = λ i d less. ap (λ l. slice_index_or l i d) is ∙ get_or-replicate n i None d less ∙ sym (nothing i less);
}

-- answers from an index on
module _ (f : ℕ → Option ℕ) where
  pub from_next : (k : ℕ) (y : Option ℕ) → y ≡ f k
      → (j : ℕ) → from_index f k j ≡ cond (is_index j (Some k)) y (from_index f (k + 1) j)
  from_next k y y_is j =
      ⊎_elim
      (λ same. let k_is : k ≡ j = same.1 in
      ap (λ b. cond b (f j) None) (le-leb k j (omega (arith, k_is)))
      ∙ ap f (sym k_is) ∙ sym y_is ∙ sym (ap (λ b. cond b y (from_index f (k + 1) j)) same.0))
      (λ other. ap (λ b. cond b (f j) None) (both_le k j other.1)
      ∙ sym (ap (λ b. cond b y (from_index f (k + 1) j)) other.0))
      (eqb_tells k j)
    where
      both_le : (k j : ℕ) → k ≢ j → nat_le k j ≡ nat_le (k + 1) j
      both_le k j isnt =
          ⊎_elim
          (λ under. under.0 ∙ sym (le-leb (k + 1) j (omega (arith, under.1, isnt))))
          (λ over. over.0 ∙ sym (nat_le_false (k + 1) j (omega (arith, over.1))))
          (leb_tells k j)

  pub from_last : (n i : ℕ) → i < n → from_index f n i ≡ None
  from_last n i less = ap (λ b. cond b (f i) None) (nat_le_false n i less)

module _ (f g : ℕ → Option ℕ) (n : ℕ) (xs : List (Option ℕ)) (y : Option ℕ) (t : IsTable f n xs) where
  other : (l i : ℕ) → ((j : ℕ) → g j ≡ cond (l == j) y (f j)) → (l == i) ≡ false → f i ≡ g i
  other l i is isnt = sym (is i ∙ ap (λ b. cond b y (f i)) isnt)

  pub put_changed : (o : Option ℕ) → ((j : ℕ) → g j ≡ cond (is_index j o) y (f j)) → IsTable g n (put xs o y)
  put_changed None is = renamed f g n xs t (λ i less. sym (is i))
  put_changed (Some l) is =
      ⊎_elim
      (λ inside. subst (λ b. IsTable g n (cond b (slice_set xs l y) xs)) (sym inside)
      (changed f g n l xs y t (omega (arith, ltb-true l (length xs) inside, t.len))
      (sym (is l ∙ ap (λ b. cond b y (f l)) (self l)))
      (λ i less isnt. other l i is (ne_eqb l i (λ e. isnt (sym e))))))
      (λ out. subst (λ b. IsTable g n (cond b (slice_set xs l y) xs)) (sym out)
      (renamed f g n xs t (λ i less. other l i is
      (ne_eqb l i (λ e. omega (arith, e, less, t.len, ltb-false l (length xs) out))))))
      (cases_Bool (nat_lt l (length xs)))

  pub put_if_changed : (b : Bool) (o : Option ℕ) → ((j : ℕ) → g j ≡ cond (b && is_index j o) y (f j))
      → IsTable g n (put_if xs b o y)
  put_if_changed true o is = put_changed o is
  put_if_changed false o is = renamed f g n xs t (λ i less. sym (is i))

module _ (xs : List Item) where
  -- ---- where brackets end
  pub end_is : (partners ends : List (Option ℕ)) (k : ℕ) → k < length xs → IsTable (partner xs) (length xs) partners
      → IsTable (end_around xs) k ends → end_by partners ends (innermost xs k) ≡ end_around xs k
  unfolding end_of
  end_is partners ends k less p e = by (innermost xs k) refl
    where
      by : (o : Option ℕ) → innermost xs k ≡ o → end_by partners ends o ≡ end_of xs (opened xs k)
      by None is = sym (ap (end_of xs) (no_top xs k is))
      by (Some j) is =
          let top = top_is xs k j is in
          (λ i. option_or (p.at j None (omega (arith, top.less, less)) i) (e.at j None top.less i))
          ∙ sym (ap (end_of xs) top.all)

  -- ---- levels
  closed_same : (k : ℕ) → closed_by xs k (partner xs k) ≡ closed_at xs k
  closed_same k =
      ⊎_elim
      (λ is. ap (λ b. cond b None (partner xs k)) is ∙ sym (opens_closes_none xs k is))
      (λ isnt. ap (λ b. cond b None (partner xs k)) isnt ∙ partner_is xs k isnt)
      (cases_Bool (opens xs k))

  pub level_is : (around : List (Option ℕ)) (k : ℕ) → k < length xs → IsTable (innermost xs) (length xs) around
      → level_by xs around (partner xs k) k ≡ level_of xs k
  level_is around k less t =
      ap (λ o. option_map_or (λ j. answer around j) o (answer around k)) (closed_same k) ∙ by (closed_at xs k) refl
    where
      by : (o : Option ℕ) → closed_at xs k ≡ o
          → option_map_or (λ j. answer around j) o (answer around k) ≡ option_map_or (λ j. innermost xs j) o (innermost xs k)
      by None is = t.at k None less
      by (Some j) is = t.at j None (omega (arith, closed_less xs k j is, less))

  -- ---- the statements of `for`
  module _ (b : ℕ) where
    pub first_next : (j k : ℕ) → k < length xs
        → first_end xs b j k ≡ cond (ends_on xs b j k) (Some k) (first_end xs b j (k + 1))
    first_next j k less = ap (find (ends_on xs b j)) (range_first k (length xs) less)

    pub none_left : (j : ℕ) → first_end xs b j (length xs) ≡ None
    none_left j =
        let none : length xs - length xs ≡ 0 = omega arith in
        ap (λ n. find (ends_on xs b j) (range_with_len (length xs) n)) none

    pub end_same : (k : ℕ) (table : List (Option ℕ)) → k < length xs
        → IsTable (λ j. first_end xs b j k) (length xs) table → around_answer xs table k ≡ for_end xs b k
    end_same k table less t = by (innermost xs k) refl
      where
        by : (o : Option ℕ) → innermost xs k ≡ o
            → option_map_or (λ j. answer table j) o None ≡ option_map_or (λ j. first_end xs b j k) o None
        by None is = refl
        by (Some j) is = t.at j None (omega (arith, (top_is xs k j is).less, less))

    pub before_next : (j k : ℕ) → for_before xs b j (k + 1)
        ≡ cond (begins_on xs j k) (Some k) (cond (ends_on xs b j k) None (for_before xs b j k))
    unfolding for_before
    before_next j k = ap (for_before xs b j) (add-one k)

    pub none_before : (j : ℕ) → for_before xs b j 0 ≡ None
    unfolding for_before
    none_before j = refl

    pub for_less : (j k i : ℕ) → for_before xs b j k ≡ Some i → i < k
    unfolding for_before
    for_less j zero i is = absurd (false≢true (ap (λ o. option_map_or (λ _. true) o false) is))
    for_less j (suc k) i is =
        ⊎_elim
        (λ here. let same : k ≡ i = ap (λ o. option_map_or (λ x. x) o 0)
        (sym (ap (λ c. cond c (Some k) (cond (ends_on xs b j k) None (for_before xs b j k))) here) ∙ is) in
        omega (arith, same))
        (λ isnt. let rest = sym (ap (λ c. cond c (Some k) (cond (ends_on xs b j k) None (for_before xs b j k))) isnt) ∙ is in
        ⊎_elim
        (λ ends. absurd (false≢true (ap (λ o. option_map_or (λ _. true) o false)
        (sym (ap (λ c. cond c None (for_before xs b j k)) ends) ∙ rest))))
        (λ goes. omega (arith, for_less j k i (sym (ap (λ c. cond c None (for_before xs b j k)) goes) ∙ rest)))
        (cases_Bool (ends_on xs b j k)))
        (cases_Bool (begins_on xs j k))

  pub of_less : (j i : ℕ) → for_of xs j ≡ Some i → i < j
  unfolding for_of
  of_less zero i is = absurd (false≢true (ap (λ o. option_map_or (λ _. true) o false) is))
  of_less (suc k) i is =
      ⊎_elim
      (λ here. let same : k ≡ i = ap (λ o. option_map_or (λ x. x) o 0) (sym (ap (λ c. cond c (Some k) None) here) ∙ is) in
      omega (arith, same))
      (λ isnt. absurd (false≢true (ap (λ o. option_map_or (λ _. true) o false)
      (sym (ap (λ c. cond c (Some k) None) isnt) ∙ is))))
      (cases_Bool (begins_for xs k))

-- ---- scopes
module _ (s : Shape) (is : IsShape s) (is_list : ℕ → Bool) (ends for_ends fors : List (Option ℕ)) (lists : List Bool)
    (scopes : List Scope) (k : ℕ) (less : k < length s.items.items)
    (e : IsTable (end_around s.items.items) (length s.items.items) ends)
    (fe : IsTable (for_end s.items.items s.body) (length s.items.items) for_ends)
    (l : IsTable is_list (length s.items.items) lists)
    (fs : IsTable (λ j. for_before s.items.items s.body j k) (length s.items.items) fors)
    (ss : IsTable (scope_at is_list s.items.items s.body) k scopes) where
  abbrev all : List Item
  all = s.items.items

  of_bracket : (j : ℕ) → j < k → bracket_scope all s.pairs.partner.items ends j ≡ scope_of_bracket all j
  unfolding end_of
  of_bracket j under =
      let within : j < length all = omega (arith, under, less) in
      (λ i. record {
        first = j;
        last = or_last all (option_or (is.partner.at j None within i) (e.at j None within i));
      })

  of_for : (j : ℕ) → j < k → for_scope all for_ends ends j ≡ scope_of_for all s.body j
  of_for j under =
      let within : j < length all = omega (arith, under, less) in
      (λ i. record { first = j; last = or_last all (option_or (fe.at j None within i) (e.at j None within i)) })

  some_for : (o : Option ℕ) (d d' : Scope) → ((j : ℕ) → o ≡ Some j → j < k) → d ≡ d'
      → option_map_or (for_scope all for_ends ends) o d ≡ option_map_or (scope_of_for all s.body) o d'
  some_for None d d' under same = same
  some_for (Some j) d d' under same = of_for j (under j refl)

  listed : (j : ℕ) → j < k
      → cond (slice_index_or lists j false) (bracket_scope all s.pairs.partner.items ends j) (slice_index_or scopes j (whole all))
      ≡ cond (is_list j) (scope_of_bracket all j) (scope_in is_list all s.body j (opened all j))
  listed j under =
      let within : j < length all = omega (arith, under, less) in
      (λ i. cond (l.at j false within i) (of_bracket j under i) (ss.at j (whole all) under i))

  some_before : (j : ℕ) → j < k → j < length all
      → option_map_or (for_scope all for_ends ends) (answer fors j) (bracket_scope all s.pairs.partner.items ends j)
      ≡ option_map_or (scope_of_for all s.body) (for_before all s.body j k) (scope_of_bracket all j)
  some_before j under within =
      ap (λ o. option_map_or (for_scope all for_ends ends) o (bracket_scope all s.pairs.partner.items ends j))
      (fs.at j None within)
      ∙ some_for (for_before all s.body j k) _ _ (λ n o. for_less all s.body j k n o) (of_bracket j under)

  pub scope_is : scope_by all s.pairs.partner.items s.kinds.items ends for_ends lists fors scopes (innermost all k)
      ≡ scope_at is_list all s.body k
  unfolding scope_in
  scope_is = by (innermost all k) refl
    where
      by : (o : Option ℕ) → innermost all k ≡ o
          → scope_by all s.pairs.partner.items s.kinds.items ends for_ends lists fors scopes o
          ≡ scope_in is_list all s.body k (opened all k)
      by None top = sym (ap (scope_in is_list all s.body k) (no_top all k top))
      by (Some j) top =
          let t = top_is all k j top in
          let within : j < length all = omega (arith, t.less, less) in
          (λ i. cond (is_block (is.kinds.at j Other within i))
          (some_before j t.less within i)
          (some_for (for_of all j) _ _ (λ n o. omega (arith, of_less all j n o, t.less)) (listed j t.less) i))
          ∙ sym (ap (scope_in is_list all s.body k) t.all)
