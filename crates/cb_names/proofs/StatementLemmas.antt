-- One pass over tokens finds the colons of cases, and where statements begin.
use Rattle.std.proofs.Common.{◌≡◌, ◌∙◌, ◌+◌, ◌-◌, ◌<◌, ◌≤◌, ℕ, zero, suc, Bool, true, false, List}
use Rattle.std.proofs.Common.{Option, Some, None, ⊎_elim, refl, sym, ap, subst, arith, length}
use Rattle.std.proofs.lemmas.Bool.{cases_Bool, ne_eqb, eqb-true}
use Rattle.std.specs.Prelude.{◌==◌, ◌||◌, ◌&&◌, cond, not, slice_index_or}
use Rattle.std.specs.Option.{option_map_or}
use Rattle.cb_names.specs.declared.braces.Brace.TheVariants.{Other}
use Rattle.cb_names.specs.declared.shape.Shape.{Shape}
use Rattle.cb_names.specs.declared.word.Item.{Item}
use Rattle.cb_names.specs.Braces.{is_block, is_name_at, kind_at}
use Rattle.cb_names.specs.Pairs.{at, closed_at, ends_all, innermost, is_at, opened, opens, partner, sign}
use Rattle.cb_names.specs.Shapes.{IsShape}
use Rattle.cb_names.specs.Statements.{case_before, ends_statement, in_block, is_case, is_case_at}
use Rattle.cb_names.specs.Statements.{is_default_at, is_lone_colon, same_level, starts}
use Rattle.cb_names.specs.Tables.{IsTable}
use Rattle.cb_names.specs.steps.Starting.{Tells, after_plain, case_after, closed_by, counts, ends_by}
use Rattle.cb_names.specs.steps.Starting.{follows_label, in_block_by, most, one_less, one_more, starts_by}
use Rattle.cb_names.proofs.BracketLemmas.{all_not, around_is, closed_is, has, inside, not_all, self, top_is}
use Rattle.cb_names.proofs.PairingLemmas.{or_is, partner_is, partner_less, top_falls, top_opens, top_stays}

level_same : (o : Option ℕ) → same_level o o ≡ true
level_same None = refl
level_same (Some i) = self i

level_differs : (o : Option ℕ) (m j : ℕ) → (option_map_or (λ i. i + 1) o 0 ≤ j) → j ≤ m → same_level o (Some m) ≡ false
level_differs None m j less le = refl
level_differs (Some i) m j less le = ne_eqb i m (λ e. omega (arith, e, less, le))

-- counts of `?`
pub less_is : (d : ℕ) (p : Option ℕ) → counts (suc d) p ≡ counts d (one_less p)
less_is d None = refl
less_is d (Some q) = grind arith

pub more_is : (d : ℕ) (p : Option ℕ) → (not (d == 0) && counts (d - 1) p) ≡ counts d (one_more p)
more_is d None = grind arith
more_is d (Some q) = grind arith

module _ (xs : List Item) where
  bound_of : (k : ℕ) (o : Option ℕ) → innermost xs k ≡ o → option_map_or (λ i. i + 1) o 0 ≤ k
  bound_of k None is = omega arith
  bound_of k (Some j) is = omega (arith, (top_is xs k j is).less)

  -- ---- one step back
  further : (level : Option ℕ) (d k : ℕ) → ends_all xs k ≡ false → same_level level (innermost xs k) ≡ false
      → case_before xs level d (suc k) ≡ case_before xs level d k
  unfolding case_before
  further level d k ends differs =
      ap (λ b. cond b false (cond (not (same_level level (innermost xs k))) (case_before xs level d k) (here level d k))) ends
      ∙ ap (λ b. cond (not b) (case_before xs level d k) (here level d k)) differs
    where
      here : Option ℕ → ℕ → ℕ → Bool
      here level d k =
          cond (is_at 58 xs k) (case_before xs level (suc d) k)
          (cond (is_at 63 xs k) (not (d == 0) && case_before xs level (d - 1) k)
          (cond (is_case_at xs k) (d == 0) (case_before xs level d k)))

  near : (level : Option ℕ) (d k : ℕ) → ends_all xs k ≡ false → same_level level (innermost xs k) ≡ true
      → case_before xs level d (suc k)
      ≡ cond (is_at 58 xs k) (case_before xs level (suc d) k)
      (cond (is_at 63 xs k) (not (d == 0) && case_before xs level (d - 1) k)
      (cond (is_case_at xs k) (d == 0) (case_before xs level d k)))
  unfolding case_before
  near level d k ends same =
      ap (λ b. cond b false (cond (not (same_level level (innermost xs k))) (case_before xs level d k) here)) ends
      ∙ ap (λ b. cond (not b) (case_before xs level d k) here) same
    where
      here : Bool
      here =
          cond (is_at 58 xs k) (case_before xs level (suc d) k)
          (cond (is_at 63 xs k) (not (d == 0) && case_before xs level (d - 1) k)
          (cond (is_case_at xs k) (d == 0) (case_before xs level d k)))

  stopped : (level : Option ℕ) (d k : ℕ) → ends_all xs k ≡ true → case_before xs level d (suc k) ≡ false
  unfolding case_before
  stopped level d k ends =
      ap (λ b. cond b false (cond (not (same_level level (innermost xs k))) (case_before xs level d k)
      (cond (is_at 58 xs k) (case_before xs level (suc d) k)
      (cond (is_at 63 xs k) (not (d == 0) && case_before xs level (d - 1) k)
      (cond (is_case_at xs k) (d == 0) (case_before xs level d k)))))) ends

  -- inside a bracket nothing stands before it
  nothing_before : (j d i : ℕ) → i ≤ j → case_before xs (Some j) d i ≡ false
  unfolding case_before
  nothing_before j d zero le = refl
  nothing_before j d (suc i) le =
      ⊎_elim
      (λ ends. stopped (Some j) d i ends)
      (λ none. further (Some j) d i none (other (innermost xs i) refl) ∙ nothing_before j d i (omega (arith, le)))
      (cases_Bool (ends_all xs i))
    where
      other : (o : Option ℕ) → innermost xs i ≡ o → same_level (Some j) o ≡ false
      other None is = refl
      other (Some n) is = ne_eqb j n (λ e. omega (arith, e, (top_is xs i n is).less, le))

  -- ---- after a pair what stands before it counts
  over : (j d i : ℕ) → ends_all xs i ≡ false → has j (opened xs i) ≡ true
      → case_before xs (innermost xs j) d (suc i) ≡ case_before xs (innermost xs j) d i
  over j d i ends held =
      let around = around_is xs i j held in
      further (innermost xs j) d i ends
      (ap (same_level (innermost xs j)) around.is
      ∙ level_differs (innermost xs j) around.top j (bound_of j (innermost xs j) refl) around.le)

  between : (k j d n i : ℕ) → closed_at xs k ≡ Some j → ends_all xs k ≡ false → i + n ≡ k → j < i
      → case_before xs (innermost xs j) d (suc k) ≡ case_before xs (innermost xs j) d i
  between k j d zero i is ends sum less =
      let same : i ≡ k = omega (arith, sum) in
      over j d k ends (inside xs k j k is (omega (arith, same, less)) (omega arith))
      ∙ ap (case_before xs (innermost xs j) d) (sym same)
  between k j d (suc n) i is ends sum less =
      between k j d n (suc i) is ends (omega (arith, sum)) (omega (arith, less))
      ∙ over j d i (not_all xs i j (inside xs k j (suc i) is (omega (arith, less)) (omega (arith, sum))) less)
      (inside xs k j i is less (omega (arith, sum)))

  -- a bracket that opens is no colon, `?` or `case`
  opening_step : (j d : ℕ) → opens xs j ≡ true
      → case_before xs (innermost xs j) d (suc j) ≡ case_before xs (innermost xs j) d j
  opening_step j d is =
      near (innermost xs j) d j (all_not xs j is) (level_same (innermost xs j))
      ∙ by (sign xs j) is
    where
      next : ℕ → Bool
      next b =
          cond (b == 58) (case_before xs (innermost xs j) (suc d) j)
          (cond (b == 63) (not (d == 0) && case_before xs (innermost xs j) (d - 1) j)
          (cond (b == 0 && is_case (at xs j).word) (d == 0) (case_before xs (innermost xs j) d j)))

      at_byte : (b c : ℕ) → (b == c) ≡ true → next c ≡ case_before xs (innermost xs j) d j
          → next b ≡ case_before xs (innermost xs j) d j
      at_byte b c e is = ap next (eqb-true b c e) ∙ is

      by : (b : ℕ) → (b == 40 || b == 91 || b == 123) ≡ true → next b ≡ case_before xs (innermost xs j) d j
      by b is =
          ⊎_elim (λ p. at_byte b 40 p refl)
          (λ np. ⊎_elim (λ q. at_byte b 91 q refl) (λ nq. at_byte b 123 (or_is xs (b == 40) (b == 91) (b == 123) is np nq) refl)
          (cases_Bool (b == 91))) (cases_Bool (b == 40))

  -- after a bracket that closes another the counts are those before that one
  closed_tells : (k j : ℕ) (p : Option ℕ) → opens xs k ≡ false → ends_all xs k ≡ false → closed_at xs k ≡ Some j
      → Tells xs j p → Tells xs (suc k) p
  closed_tells k j p isnt ends is tells d =
      let closed = closed_is xs k j is in
      ap (λ l. case_before xs l d (suc k)) (sym (top_falls xs k j isnt ends is))
      ∙ between k j d (k - suc j) (suc j) is ends (omega (arith, closed.less)) (omega arith)
      ∙ opening_step j d closed.opening
      ∙ tells d

  plain_tells : (k : ℕ) (p : Option ℕ) → opens xs k ≡ false → ends_all xs k ≡ false → closed_at xs k ≡ None
      → Tells xs k p → Tells xs (suc k) (after_plain xs k p)
  plain_tells k p isnt ends none tells d =
      ap (λ l. case_before xs l d (suc k)) (sym (top_stays xs k isnt ends none))
      ∙ near (innermost xs k) d k ends (level_same (innermost xs k))
      ∙ (λ i. cond (is_at 58 xs k) ((tells (suc d) ∙ less_is d p) i)
      (cond (is_at 63 xs k) ((ap (λ b. not (d == 0) && b) (tells (d - 1)) ∙ more_is d p) i)
      (cond (is_case_at xs k) (d == 0) (tells d i))))
      ∙ pull (is_at 58 xs k) (is_at 63 xs k) (is_case_at xs k)
    where
      pull : (a b e : Bool) → cond a (counts d (one_less p)) (cond b (counts d (one_more p)) (cond e (d == 0) (counts d p)))
          ≡ counts d (cond a (one_less p) (cond b (one_more p) (cond e (Some 0) p)))
      pull true b e = refl
      pull false true e = refl
      pull false false true = refl
      pull false false false = refl

  none_tells : (k : ℕ) → ((d : ℕ) → case_before xs (innermost xs k) d k ≡ false) → Tells xs k None
  none_tells k none d = none d

  pub tells_next : (k : ℕ) (table : List (Option ℕ)) (p : Option ℕ) → Tells xs k p
      → ((i : ℕ) → i < k → Tells xs i (slice_index_or table i None))
      → Tells xs (suc k) (case_after xs table k (closed_at xs k) p)
  tells_next k table p tells before =
      ⊎_elim
      (λ ends. subst (λ b. Tells xs (suc k) (cond b None (cond (opens xs k) None
      (option_map_or (λ j. slice_index_or table j None) (closed_at xs k) (after_plain xs k p))))) (sym ends)
      (λ d. stopped (innermost xs (suc k)) d k ends))
      (λ none. subst (λ b. Tells xs (suc k) (cond b None (cond (opens xs k) None
      (option_map_or (λ j. slice_index_or table j None) (closed_at xs k) (after_plain xs k p))))) (sym none)
      (⊎_elim
      (λ op. subst (λ b. Tells xs (suc k) (cond b None
      (option_map_or (λ j. slice_index_or table j None) (closed_at xs k) (after_plain xs k p)))) (sym op)
      (λ d. ap (λ l. case_before xs l d (suc k)) (sym (top_opens xs k op))
      ∙ further (Some k) d k none (inner k) ∙ nothing_before k d k (omega arith)))
      (λ nop. subst (λ b. Tells xs (suc k) (cond b None
      (option_map_or (λ j. slice_index_or table j None) (closed_at xs k) (after_plain xs k p)))) (sym nop)
      (by (closed_at xs k) refl none nop))
      (cases_Bool (opens xs k))))
      (cases_Bool (ends_all xs k))
    where
      inner_of : (k : ℕ) (o : Option ℕ) → innermost xs k ≡ o → same_level (Some k) o ≡ false
      inner_of k None is = refl
      inner_of k (Some n) is = ne_eqb k n (λ e. omega (arith, e, (top_is xs k n is).less))

      inner : (k : ℕ) → same_level (Some k) (innermost xs k) ≡ false
      inner k = inner_of k (innermost xs k) refl

      by : (o : Option ℕ) → closed_at xs k ≡ o → ends_all xs k ≡ false → opens xs k ≡ false
          → Tells xs (suc k) (option_map_or (λ j. slice_index_or table j None) o (after_plain xs k p))
      by None is ends nop = plain_tells k p nop ends is tells
      by (Some j) is ends nop = closed_tells k j _ nop ends is (before j (closed_is xs k j is).less)

  -- what closes matters only where nothing opens
  pub closed_same : (k : ℕ) (table : List (Option ℕ)) (p : Option ℕ)
      → case_after xs table k (closed_by xs k (partner xs k)) p ≡ case_after xs table k (closed_at xs k) p
  closed_same k table p =
      ⊎_elim
      (λ op. ap (λ b. cond (ends_all xs k) None (cond b None (rest (closed_by xs k (partner xs k))))) op
      ∙ sym (ap (λ b. cond (ends_all xs k) None (cond b None (rest (closed_at xs k)))) op))
      (λ nop. ap (λ o. cond (ends_all xs k) None (cond (opens xs k) None (rest o)))
      (ap (λ b. cond b None (partner xs k)) nop ∙ partner_is xs k nop))
      (cases_Bool (opens xs k))
    where
      rest : Option ℕ → Option ℕ
      rest o = option_map_or (λ j. slice_index_or table j None) o (after_plain xs k p)

  -- ---- no count is more than the tokens before it
  plain_few : (k : ℕ) (p : Option ℕ) → most p ≤ k → most (after_plain xs k p) ≤ k + 1
  plain_few k p le = by (is_at 58 xs k) (is_at 63 xs k) (is_case_at xs k) p le
    where
      less_few : (p : Option ℕ) → most p ≤ k → most (one_less p) ≤ k + 1
      less_few None le = omega arith
      less_few (Some q) le =
          elim (q == 0) as (λ b. most (cond b None (Some (q - 1))) ≤ k + 1)
          [ true ↦ omega arith | false ↦ omega (arith, le) ]

      more_few : (p : Option ℕ) → most p ≤ k → most (one_more p) ≤ k + 1
      more_few None le = omega arith
      more_few (Some q) le = omega (arith, le)

      by : (a b e : Bool) (p : Option ℕ) → most p ≤ k
          → most (cond a (one_less p) (cond b (one_more p) (cond e (Some 0) p))) ≤ k + 1
      by true b e p le = less_few p le
      by false true e p le = more_few p le
      by false false true p le = omega arith
      by false false false p le = omega (arith, le)

  pub after_few : (k : ℕ) (table : List (Option ℕ)) (o p : Option ℕ) → most p ≤ k
      → ((j : ℕ) → o ≡ Some j → most (slice_index_or table j None) ≤ k)
      → most (case_after xs table k o p) ≤ k + 1
  after_few k table o p le table_le =
      elim (ends_all xs k) as (λ b. most (cond b None (cond (opens xs k) None
      (option_map_or (λ j. slice_index_or table j None) o (after_plain xs k p)))) ≤ k + 1) [
        | true ↦ omega arith
        | false ↦ elim (opens xs k) as (λ b. most (cond b None
            (option_map_or (λ j. slice_index_or table j None) o (after_plain xs k p))) ≤ k + 1)
            [ true ↦ omega arith | false ↦ by o table_le ]
      ]
    where
      by : (o : Option ℕ) → ((j : ℕ) → o ≡ Some j → most (slice_index_or table j None) ≤ k)
          → most (option_map_or (λ j. slice_index_or table j None) o (after_plain xs k p)) ≤ k + 1
      by None t = plain_few k p le
      by (Some j) t = omega (arith, t j refl)

-- ---- where statements begin
module _ (s : Shape) (is : IsShape s) where
  abbrev all : List Item
  all = s.items.items

  pub block_by : (o : Option ℕ) → ((j : ℕ) → o ≡ Some j → j < length all)
      → in_block_by s.kinds.items o ≡ option_map_or (λ j. is_block (kind_at all s.body j)) o false
  block_by None less = refl
  block_by (Some j) less = ap is_block (is.kinds.at j Other (less j refl))

  pub in_block_is : (k : ℕ) → k < length all → in_block_by s.kinds.items (innermost all k) ≡ in_block all s.body k
  in_block_is k within = block_by (innermost all k) (λ j top. omega (arith, within, (top_is all k j top).less))

  pub ends_is : (k : ℕ) (p : Option ℕ) → k < length all → Tells all k p
      → ends_by all s.kinds.items (partner all k) p k ≡ ends_statement all s.body k
  ends_is k p within tells =
      (λ i. is_at 59 all k || is_block (is.kinds.at k Other within i)
      || (is_at 125 all k && block_by (partner all k) (λ j pair. partner_less all k j within pair) i)
      || (is_at 58 all k && sym (tells 0) i))

  or_none : (b : Bool) → (b || false) ≡ b
  or_none true = refl
  or_none false = refl

  pub starts_is : (k : ℕ) (table : List Bool) (ends : Bool) → k < length all → IsTable (starts all s.body) k table
      → ((j : ℕ) → k ≡ suc j → ends ≡ ends_statement all s.body j)
      → starts_by all s.kinds.items table (innermost all k) ends k ≡ starts all s.body k
  unfolding starts follows_label opened
  starts_is zero table ends within t before = refl
  starts_is (suc zero) table ends within t before =
      (λ i. in_block_is 1 within i && (before 0 refl i || false))
      ∙ ap (λ b. in_block all s.body 1 && b) (or_none (ends_statement all s.body 0))
  starts_is (suc (suc k)) table ends within t before =
      (λ i. in_block_is (suc (suc k)) within i
      && (before (suc k) refl i || (is_default_at all k
      || (is_name_at all k && is_lone_colon all (suc k) && t.at k false (omega arith) i))))
