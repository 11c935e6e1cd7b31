-- One pass over tokens finds their brackets.
use Rattle.std.proofs.Common.{◌≡◌, ◌≢◌, ◌∙◌, ◌+◌, ◌<◌, ◌≤◌, ◌++◌, ◌∷◌, [], ℕ, zero, suc, Bool, true, false, List}
use Rattle.std.proofs.Common.{Option, Some, None, ⊎_elim, refl, sym, ap, subst, add-one, arith, length}
use Rattle.std.proofs.lemmas.Bool.{cases_Bool, false≢true, ne_eqb, eqb-true}
use Rattle.std.specs.Prelude.{◌==◌, ◌||◌, ◌&&◌, cond, slice_get, slice_set}
use Rattle.std.specs.Option.{option_map_or, option_or}
use Rattle.cb_names.specs.declared.word.Item.{Item}
use Rattle.cb_names.specs.Pairs.{at, beyond, closed_at, closer_among, ends_all, innermost, is_at, is_index}
use Rattle.cb_names.specs.Pairs.{lowest_brace, nearest, nearest_brace, opened, opens, partner}
use Rattle.cb_names.specs.Pairs.{partner_among, sign}
use Rattle.cb_names.specs.Tables.{IsTable}
use Rattle.cb_names.specs.steps.Pairing.{answer, if_at, kept_after, lowest_after, nearest_by, nearest_other, other, other_by}
use Rattle.cb_names.proofs.TableLemmas.{changed, push, renamed}
use Rattle.cb_names.proofs.BracketLemmas.{Chain, chain_of, closed_is, no_top, self, top_is}

module _ (xs : List Item) where
  -- the brackets from one that is open outwards
  abbrev pub from : Option ℕ → List ℕ
  from o = option_map_or (λ j. j ∷ opened xs j) o []

  from_by : (k : ℕ) (o : Option ℕ) → innermost xs k ≡ o → from o ≡ opened xs k
  from_by k None is = sym (no_top xs k is)
  from_by k (Some j) is = sym (top_is xs k j is).all

  pub from_top : (k : ℕ) → from (innermost xs k) ≡ opened xs k
  from_top k = from_by k (innermost xs k) refl

  -- the index before which a bracket that is open stands
  abbrev pub bound : Option ℕ → ℕ
  bound o = option_map_or (λ j. j + 1) o 0

  pub bound_top : (k : ℕ) → bound (innermost xs k) ≤ k
  bound_top k = by (innermost xs k) refl
    where
      by : (o : Option ℕ) → innermost xs k ≡ o → bound o ≤ k
      by None is = omega arith
      by (Some j) is = omega (arith, (top_is xs k j is).less)

  -- ---- the nearest bracket of a kind

  -- of brackets the nearest of kind b is the first that is none of kind c, if it is of kind b
  by_other : (b c k : ℕ) (js : List ℕ) → (b == c) ≡ false → (123 == c) ≡ false
      → ((j : ℕ) → opens xs j ≡ true → is_at b xs j ≡ false → is_at c xs j ≡ false → is_at 123 xs j ≡ true)
      → Chain xs k js → nearest b xs js ≡ if_at b xs (nearest_other c xs js)
  unfolding nearest nearest_other Chain
  by_other b c k [] bc dc kinds ch = refl
  by_other b c k (j ∷ js) bc dc kinds ch =
      ⊎_elim
      (λ is_c.
      let byte : sign xs j ≡ c = eqb-true (sign xs j) c is_c in
      (λ i. cond (ap (λ n. n == b) byte i) (Some j) (cond (ap (λ n. n == 123) byte i) None (nearest b xs js)))
      ∙ (λ i. cond (flip b c bc i) (Some j) (cond (flip 123 c dc i) None (nearest b xs js)))
      ∙ by_other b c j js bc dc kinds ch.3
      ∙ ap (λ t. if_at b xs (cond t (nearest_other c xs js) (Some j))) (sym is_c))
      (λ not_c.
      ⊎_elim
      (λ is_b. ap (λ t. cond t (Some j) (cond (is_at 123 xs j) None (nearest b xs js))) is_b
      ∙ sym (ap (λ t. cond t (Some j) None) is_b)
      ∙ ap (λ t. if_at b xs (cond t (nearest_other c xs js) (Some j))) (sym not_c))
      (λ not_b. ap (λ t. cond t (Some j) (cond (is_at 123 xs j) None (nearest b xs js))) not_b
      ∙ ap (λ t. cond t None (nearest b xs js)) (kinds j ch.1 not_b not_c)
      ∙ sym (ap (λ t. cond t (Some j) None) not_b)
      ∙ ap (λ t. if_at b xs (cond t (nearest_other c xs js) (Some j))) (sym not_c))
      (cases_Bool (is_at b xs j)))
      (cases_Bool (is_at c xs j))
    where
      flip : (a d : ℕ) → (a == d) ≡ false → (d == a) ≡ false
      flip a d is = ne_eqb d a (λ e. false≢true (sym is ∙ same a d (sym e)))
        where
          same : (a d : ℕ) → a ≡ d → (a == d) ≡ true
          same a d e = ap (λ n. a == n) (sym e) ∙ self a

  -- the same where one of the two kinds is known of the innermost
  pub or_is : (a b d : Bool) → (a || b || d) ≡ true → a ≡ false → b ≡ false → d ≡ true
  or_is true b d is na nb = absurd (false≢true (sym na))
  or_is false true d is na nb = absurd (false≢true (sym nb))
  or_is false false d is na nb = is

  or_middle : (a b d : Bool) → (a || b || d) ≡ true → a ≡ false → d ≡ false → b ≡ true
  or_middle true b d is na nd = absurd (false≢true (sym na))
  or_middle false true d is na nd = refl
  or_middle false false d is na nd = absurd (false≢true (sym nd ∙ is))

  or_first : (a b d : Bool) → (a || b || d) ≡ true → b ≡ false → d ≡ false → a ≡ true
  or_first true b d is nb nd = refl
  or_first false true d is nb nd = absurd (false≢true (sym nb))
  or_first false false d is nb nd = absurd (false≢true (sym nd ∙ is))

  module _ (k : ℕ) (others : List (Option ℕ)) (t : IsTable (other xs) k others) where
    other_at : (j : ℕ) → j < k → opens xs j ≡ true → answer others j ≡ nearest_other (sign xs j) xs (opened xs j)
    other_at j less is = t.at j None less ∙ ap (λ b. cond b (nearest_other (sign xs j) xs (opened xs j)) None) is

    nearest_is : (b c : ℕ) → (b == c) ≡ false → (123 == c) ≡ false
        → ((j : ℕ) → opens xs j ≡ true → is_at b xs j ≡ false → is_at c xs j ≡ false → is_at 123 xs j ≡ true)
        → ((j : ℕ) → opens xs j ≡ true → is_at b xs j ≡ false → is_at 123 xs j ≡ false → is_at c xs j ≡ true)
        → (o : Option ℕ) → innermost xs k ≡ o → nearest_by b xs others o ≡ nearest b xs (opened xs k)
    unfolding nearest
    nearest_is b c bc dc kinds rest None is = ap (nearest b xs) (sym (no_top xs k is))
    nearest_is b c bc dc kinds rest (Some j) is =
        let top = top_is xs k j is in
        let next = if_at b xs (answer others j) in
        let left = nearest b xs (opened xs j) in
        ⊎_elim
        (λ same. ap (λ e. cond e (Some j) (cond (is_at 123 xs j) None next)) same
        ∙ sym (ap (λ e. cond e (Some j) (cond (is_at 123 xs j) None left)) same))
        (λ differs. ap (λ e. cond e (Some j) (cond (is_at 123 xs j) None next)) differs
        ∙ ⊎_elim
        (λ brace. ap (λ e. cond e None next) brace ∙ sym (ap (λ e. cond e None left) brace))
        (λ none. ap (λ e. cond e None next) none
        ∙ ap (if_at b xs) (other_at j top.less top.opening
        ∙ ap (λ n. nearest_other n xs (opened xs j)) (eqb-true (sign xs j) c (rest j top.opening differs none)))
        ∙ sym (by_other b c j (opened xs j) bc dc kinds (chain_of xs j))
        ∙ sym (ap (λ e. cond e None left) none))
        (cases_Bool (is_at 123 xs j))
        ∙ sym (ap (λ e. cond e (Some j) (cond (is_at 123 xs j) None left)) differs))
        (cases_Bool (is_at b xs j))
        ∙ ap (nearest b xs) (sym top.all)

    pub nearest_paren : nearest_by 40 xs others (innermost xs k) ≡ nearest 40 xs (opened xs k)
    nearest_paren =
        nearest_is 40 91 refl refl
        (λ j is nb nc. or_is (is_at 40 xs j) (is_at 91 xs j) (is_at 123 xs j) is nb nc)
        (λ j is nb nd. or_middle (is_at 40 xs j) (is_at 91 xs j) (is_at 123 xs j) is nb nd)
        (innermost xs k) refl

    pub nearest_bracket : nearest_by 91 xs others (innermost xs k) ≡ nearest 91 xs (opened xs k)
    nearest_bracket =
        nearest_is 91 40 refl refl
        (λ j is nb nc. or_is (is_at 40 xs j) (is_at 91 xs j) (is_at 123 xs j) is nc nb)
        (λ j is nb nd. or_first (is_at 40 xs j) (is_at 91 xs j) (is_at 123 xs j) is nb nd)
        (innermost xs k) refl

    -- the nearest of another kind
    other_found : (o : Option ℕ) → innermost xs k ≡ o
        → other_by xs others o k ≡ nearest_other (sign xs k) xs (opened xs k)
    unfolding nearest_other
    other_found None is = ap (nearest_other (sign xs k) xs) (sym (no_top xs k is))
    other_found (Some j) is =
        let top = top_is xs k j is in
        ⊎_elim
        (λ same. ap (λ e. cond e (answer others j) (Some j)) same
        ∙ other_at j top.less top.opening
        ∙ ap (λ n. nearest_other n xs (opened xs j)) (eqb-true (sign xs j) (sign xs k) same)
        ∙ sym (ap (λ e. cond e (nearest_other (sign xs k) xs (opened xs j)) (Some j)) same))
        (λ differs. ap (λ e. cond e (answer others j) (Some j)) differs
        ∙ sym (ap (λ e. cond e (nearest_other (sign xs k) xs (opened xs j)) (Some j)) differs))
        (cases_Bool (sign xs j == sign xs k))
        ∙ ap (nearest_other (sign xs k) xs) (sym top.all)

    pub other_is : other_by xs others (innermost xs k) k ≡ nearest_other (sign xs k) xs (opened xs k)
    other_is = other_found (innermost xs k) refl

  -- ---- what is known after one more token

  -- the bracket that closes another stands behind it
  index_is : (j : ℕ) (o : Option ℕ) → is_index j o ≡ true → o ≡ Some j
  index_is j None is = absurd (false≢true is)
  index_is j (Some i) is = ap (λ n. Some n) (eqb-true i j is)

  closer_none : (n j : ℕ) → n ≤ j + 1 → closer_among xs n j ≡ None
  unfolding closer_among
  closer_none zero j le = refl
  closer_none (suc m) j le =
      ⊎_elim
      (λ is. let closed = closed_is xs m j (index_is j (closed_at xs m) is) in
      absurd (omega (arith, closed.less, le)))
      (λ isnt. ap (λ b. cond b (Some m) (closer_among xs m j)) isnt ∙ closer_none m j (omega (arith, le)))
      (cases_Bool (is_index j (closed_at xs m)))

  -- the partner of a token so far is the bracket that it closes
  pub closed_partner : (k : ℕ) (o : Option ℕ) → o ≡ closed_at xs k → o ≡ partner_among xs k k
  closed_partner k o is =
      is ∙ by (closed_at xs k)
    where
      by : (p : Option ℕ) → p ≡ option_or p (closer_among xs k k)
      by None = sym (closer_none k k (omega arith))
      by (Some j) = refl

  -- where nothing is closed partners stay; else one gets another
  pub partner_same : (k : ℕ) → closed_at xs k ≡ None → (i : ℕ) → partner_among xs k i ≡ partner_among xs (suc k) i
  unfolding closer_among
  partner_same k none i =
      ap (λ o. option_or (closed_at xs i) (cond (is_index i o) (Some k) (closer_among xs k i))) (sym none)

  pub partner_other : (k j : ℕ) → closed_at xs k ≡ Some j → (i : ℕ) → i ≢ j
      → partner_among xs k i ≡ partner_among xs (suc k) i
  unfolding closer_among
  partner_other k j is i differs =
      ap (λ b. option_or (closed_at xs i) (cond b (Some k) (closer_among xs k i))) (sym (ne_eqb j i (λ e. differs (sym e))))
      ∙ ap (λ o. option_or (closed_at xs i) (cond (is_index i o) (Some k) (closer_among xs k i))) (sym is)

  -- a bracket that opens closes none
  pub opens_closes_none : (k : ℕ) → opens xs k ≡ true → closed_at xs k ≡ None
  opens_closes_none k is = by (sign xs k) is
    where
      by : (b : ℕ) → (b == 40 || b == 91 || b == 123) ≡ true
          → cond (b == 41) (nearest 40 xs (opened xs k)) (cond (b == 93) (nearest 91 xs (opened xs k))
          (cond (b == 125 && (at xs k).token.token.starts_line) (lowest_brace xs (opened xs k))
          (cond (b == 125) (nearest_brace xs (opened xs k)) None))) ≡ None
      by b is =
          ⊎_elim (λ p. at_byte b 40 p refl)
          (λ np. ⊎_elim (λ q. at_byte b 91 q refl) (λ nq. at_byte b 123 (or_is (b == 40) (b == 91) (b == 123) is np nq) refl)
          (cases_Bool (b == 91))) (cases_Bool (b == 40))
        where
          at_byte : (b c : ℕ) → (b == c) ≡ true
              → cond (c == 41) (nearest 40 xs (opened xs k)) (cond (c == 93) (nearest 91 xs (opened xs k))
              (cond (c == 125 && (at xs k).token.token.starts_line) (lowest_brace xs (opened xs k))
              (cond (c == 125) (nearest_brace xs (opened xs k)) None))) ≡ None
              → cond (b == 41) (nearest 40 xs (opened xs k)) (cond (b == 93) (nearest 91 xs (opened xs k))
              (cond (b == 125 && (at xs k).token.token.starts_line) (lowest_brace xs (opened xs k))
              (cond (b == 125) (nearest_brace xs (opened xs k)) None))) ≡ None
          at_byte b c e none =
              ap (λ n. cond (n == 41) (nearest 40 xs (opened xs k)) (cond (n == 93) (nearest 91 xs (opened xs k))
              (cond (n == 125 && (at xs k).token.token.starts_line) (lowest_brace xs (opened xs k))
              (cond (n == 125) (nearest_brace xs (opened xs k)) None)))) (eqb-true b c e) ∙ none

  -- the bracket that is closed gets its partner
  pub partner_closed : (k j : ℕ) → closed_at xs k ≡ Some j → Some k ≡ partner_among xs (suc k) j
  unfolding closer_among
  partner_closed k j is =
      let closed = closed_is xs k j is in
      sym (ap (λ o. option_or o (cond (is_index j (closed_at xs k)) (Some k) (closer_among xs k j)))
      (opens_closes_none j closed.opening)
      ∙ ap (λ o. cond (is_index j o) (Some k) (closer_among xs k j)) is
      ∙ ap (λ b. cond b (Some k) (closer_among xs k j)) (self j))

  -- ---- what is open after one more token
  pub top_opens : (k : ℕ) → opens xs k ≡ true → Some k ≡ innermost xs (suc k)
  unfolding opened
  top_opens k is =
      sym (ap (λ b. slice_get (cond b (k ∷ opened xs k) (cond (ends_all xs k) []
      (option_map_or (λ j. beyond j (opened xs k)) (closed_at xs k) (opened xs k)))) 0) is)

  pub top_ends : (k : ℕ) → opens xs k ≡ false → ends_all xs k ≡ true → None ≡ innermost xs (suc k)
  unfolding opened
  top_ends k isnt ends =
      sym (ap (λ b. slice_get (cond b (k ∷ opened xs k) (cond (ends_all xs k) []
      (option_map_or (λ j. beyond j (opened xs k)) (closed_at xs k) (opened xs k)))) 0) isnt
      ∙ ap (λ b. slice_get (cond b []
      (option_map_or (λ j. beyond j (opened xs k)) (closed_at xs k) (opened xs k))) 0) ends)

  stays_open : (k : ℕ) → opens xs k ≡ false → ends_all xs k ≡ false
      → option_map_or (λ j. beyond j (opened xs k)) (closed_at xs k) (opened xs k) ≡ opened xs (suc k)
  unfolding opened
  stays_open k isnt ends =
      sym (ap (λ b. cond b (k ∷ opened xs k) (cond (ends_all xs k) []
      (option_map_or (λ j. beyond j (opened xs k)) (closed_at xs k) (opened xs k)))) isnt
      ∙ ap (λ b. cond b []
      (option_map_or (λ j. beyond j (opened xs k)) (closed_at xs k) (opened xs k))) ends)

  pub top_stays : (k : ℕ) → opens xs k ≡ false → ends_all xs k ≡ false → closed_at xs k ≡ None
      → innermost xs k ≡ innermost xs (suc k)
  top_stays k isnt ends none =
      ap (λ o. slice_get (option_map_or (λ j. beyond j (opened xs k)) o (opened xs k)) 0) (sym none)
      ∙ ap (λ l. slice_get l 0) (stays_open k isnt ends)

  pub top_falls : (k j : ℕ) → opens xs k ≡ false → ends_all xs k ≡ false → closed_at xs k ≡ Some j
      → innermost xs j ≡ innermost xs (suc k)
  top_falls k j isnt ends is =
      ap (λ l. slice_get l 0) (sym (closed_is xs k j is).left
      ∙ ap (λ o. option_map_or (λ j. beyond j (opened xs k)) o (opened xs k)) (sym is)
      ∙ stays_open k isnt ends)

  -- ---- the brackets from one that is open outwards, one after the other
  pub next_is : (k : ℕ) (around : List (Option ℕ)) → IsTable (innermost xs) k around → (i : ℕ) → i < k
      → from (answer around i) ≡ opened xs i
  next_is k around t i less = ap from (t.at i None less) ∙ from_top i

  pub next_less : (k : ℕ) (around : List (Option ℕ)) → IsTable (innermost xs) k around → (i : ℕ) → i < k
      → bound (answer around i) ≤ i
  next_less k around t i less = subst (λ o. bound o ≤ i) (sym (t.at i None less)) (bound_top i)

  pub brace_here : (i : ℕ) → is_at 123 xs i ≡ true → nearest_brace xs (from (Some i)) ≡ Some i
  unfolding nearest_brace
  brace_here i is = ap (λ b. cond b (Some i) (nearest_brace xs (opened xs i))) is

  pub brace_beyond : (i : ℕ) → is_at 123 xs i ≡ false
      → nearest_brace xs (from (Some i)) ≡ nearest_brace xs (opened xs i)
  unfolding nearest_brace
  brace_beyond i isnt = ap (λ b. cond b (Some i) (nearest_brace xs (opened xs i))) isnt

  pub no_brace : nearest_brace xs (from None) ≡ None
  unfolding nearest_brace
  no_brace = refl

  pub no_lowest : (lowest : Option ℕ) → option_or (lowest_brace xs (from None)) lowest ≡ lowest
  unfolding lowest_brace
  no_lowest lowest = refl

  pub lowest_beyond : (i : ℕ) (lowest : Option ℕ)
      → option_or (lowest_brace xs (from (Some i))) lowest
      ≡ option_or (lowest_brace xs (opened xs i)) (lowest_after xs i lowest)
  unfolding lowest_brace
  lowest_beyond i lowest = by (lowest_brace xs (opened xs i)) (is_at 123 xs i)
    where
      by : (o : Option ℕ) (b : Bool) → option_or (option_or o (cond b (Some i) None)) lowest
          ≡ option_or o (cond b (Some i) lowest)
      by None true = refl
      by None false = refl
      by (Some n) b = refl

  pub or_none : (o : Option ℕ) → option_or o None ≡ o
  or_none None = refl
  or_none (Some n) = refl

  -- what a closing parenthesis and a closing bracket close
  closed_by : (k : ℕ) → ℕ → Option ℕ
  closed_by k b =
      cond (b == 41) (nearest 40 xs (opened xs k)) (cond (b == 93) (nearest 91 xs (opened xs k))
      (cond (b == 125 && (at xs k).token.token.starts_line) (lowest_brace xs (opened xs k))
      (cond (b == 125) (nearest_brace xs (opened xs k)) None)))

  pub closed_paren : (k : ℕ) → sign xs k ≡ 41 → nearest 40 xs (opened xs k) ≡ closed_at xs k
  unfolding closed_by
  closed_paren k is = ap (closed_by k) (sym is)

  pub closed_bracket : (k : ℕ) → sign xs k ≡ 93 → nearest 91 xs (opened xs k) ≡ closed_at xs k
  unfolding closed_by
  closed_bracket k is = ap (closed_by k) (sym is)

  -- ---- what is known after one more token, field by field
  more : (k : ℕ) (o : Option ℕ) → o ≡ innermost xs (suc k) → o ≡ innermost xs (k + 1)
  more k o is = is ∙ ap (innermost xs) (sym (add-one k))

  pub around_next : (k : ℕ) (a ys : List (Option ℕ)) (y : Option ℕ) → IsTable (innermost xs) k a
      → ys ≡ a ++ y ∷ [] → y ≡ innermost xs k → IsTable (innermost xs) (k + 1) ys
  around_next k a ys y t is y_is = push (innermost xs) k a ys y t is y_is

  pub others_open : (k : ℕ) (a ys : List (Option ℕ)) (y : Option ℕ) → IsTable (other xs) k a
      → ys ≡ a ++ y ∷ [] → opens xs k ≡ true → y ≡ nearest_other (sign xs k) xs (opened xs k)
      → IsTable (other xs) (k + 1) ys
  others_open k a ys y t is opening y_is =
      push (other xs) k a ys y t is
      (y_is ∙ sym (ap (λ b. cond b (nearest_other (sign xs k) xs (opened xs k)) None) opening))

  pub others_pass : (k : ℕ) (a ys : List (Option ℕ)) → IsTable (other xs) k a → ys ≡ a ++ None ∷ []
      → opens xs k ≡ false → IsTable (other xs) (k + 1) ys
  others_pass k a ys t is isnt =
      push (other xs) k a ys None t is
      (sym (ap (λ b. cond b (nearest_other (sign xs k) xs (opened xs k)) None) isnt))

  pub partner_pass : (k : ℕ) (a ys : List (Option ℕ)) → IsTable (partner_among xs k) k a → ys ≡ a ++ None ∷ []
      → closed_at xs k ≡ None → IsTable (partner_among xs (k + 1)) (k + 1) ys
  partner_pass k a ys t is none =
      renamed (partner_among xs k) (partner_among xs (k + 1)) (k + 1) ys
      (push (partner_among xs k) k a ys None t is (closed_partner k None (sym none)))
      (λ i less. partner_same k none i ∙ ap (λ n. partner_among xs n i) (sym (add-one k)))

  pub partner_close : (k j : ℕ) (a ys : List (Option ℕ)) → IsTable (partner_among xs k) k a
      → ys ≡ a ++ Some j ∷ [] → closed_at xs k ≡ Some j
      → IsTable (partner_among xs (k + 1)) (k + 1) (slice_set ys j (Some k))
  partner_close k j a ys t is closed =
      changed (partner_among xs k) (partner_among xs (k + 1)) (k + 1) j ys (Some k)
      (push (partner_among xs k) k a ys (Some j) t is (closed_partner k (Some j) (sym closed)))
      (omega (arith, (closed_is xs k j closed).less))
      (partner_closed k j closed ∙ ap (λ n. partner_among xs n j) (sym (add-one k)))
      (λ i less differs. partner_other k j closed i differs ∙ ap (λ n. partner_among xs n i) (sym (add-one k)))

  pub top_open : (k : ℕ) → opens xs k ≡ true → Some k ≡ innermost xs (k + 1)
  top_open k is = more k (Some k) (top_opens k is)

  kept : (k : ℕ) (o : Option ℕ) → opens xs k ≡ false
      → (ends_all xs k ≡ false → o ≡ innermost xs (suc k)) → kept_after xs k o ≡ innermost xs (k + 1)
  kept k o isnt stays =
      more k _ (⊎_elim
      (λ ends. ap (λ b. cond b None o) ends ∙ top_ends k isnt ends)
      (λ none. ap (λ b. cond b None o) none ∙ stays none)
      (cases_Bool (ends_all xs k)))

  pub top_pass : (k : ℕ) (o : Option ℕ) → opens xs k ≡ false → closed_at xs k ≡ None → o ≡ innermost xs k
      → kept_after xs k o ≡ innermost xs (k + 1)
  top_pass k o isnt none is = kept k o isnt (λ ends. is ∙ top_stays k isnt ends none)

  pub top_close : (k j : ℕ) (o : Option ℕ) → opens xs k ≡ false → closed_at xs k ≡ Some j → o ≡ innermost xs j
      → kept_after xs k o ≡ innermost xs (k + 1)
  top_close k j o isnt closed is = kept k o isnt (λ ends. is ∙ top_falls k j isnt ends closed)

  pub closed_less : (k j : ℕ) → closed_at xs k ≡ Some j → j < k
  closed_less k j is = (closed_is xs k j is).less

  -- ---- partners
  -- what closes a bracket is among the tokens, and closes one that opens
  closer_less : (n j m : ℕ) → closer_among xs n j ≡ Some m → (m < n) × (opens xs j ≡ true)
  unfolding closer_among
  closer_less zero j m is = absurd (false≢true (ap (λ o. option_map_or (λ _. true) o false) is))
  closer_less (suc n) j m is =
      ⊎_elim
      (λ here. let same : n ≡ m = ap (λ o. option_map_or (λ x. x) o 0)
      (sym (ap (λ b. cond b (Some n) (closer_among xs n j)) here) ∙ is) in
      (omega (arith, same), (closed_is xs n j (index_is j (closed_at xs n) here)).opening))
      (λ other. let rest = closer_less n j m (sym (ap (λ b. cond b (Some n) (closer_among xs n j)) other) ∙ is) in
      (omega (arith, rest.0), rest.1))
      (cases_Bool (is_index j (closed_at xs n)))

  -- a token that opens nothing pairs with what it closes
  pub partner_is : (k : ℕ) → opens xs k ≡ false → partner xs k ≡ closed_at xs k
  partner_is k isnt = by (closed_at xs k) (closer_among xs (length xs) k) refl
    where
      by : (o c : Option ℕ) → closer_among xs (length xs) k ≡ c → option_or o (closer_among xs (length xs) k) ≡ o
      by (Some j) c is = refl
      by None None is = is
      by None (Some m) is = absurd (false≢true (sym isnt ∙ (closer_less (length xs) k m is).1))

  pub partner_less : (k j : ℕ) → k < length xs → partner xs k ≡ Some j → j < length xs
  partner_less k j less is = by (closed_at xs k) refl
    where
      by : (o : Option ℕ) → closed_at xs k ≡ o → j < length xs
      by None none = (closer_less (length xs) k j (sym (ap (λ o. option_or o (closer_among xs (length xs) k)) none) ∙ is)).0
      by (Some i) some =
          let same : i ≡ j = ap (λ o. option_map_or (λ x. x) o 0)
          (sym (ap (λ o. option_or o (closer_among xs (length xs) k)) some) ∙ is) in
          omega (arith, same, less, (closed_is xs k i some).less)
