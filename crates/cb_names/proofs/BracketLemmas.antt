-- What is open before a token: around each open bracket are those that were open before it.
use Rattle.std.proofs.Common.{◌≡◌, ◌∙◌, ◌+◌, ◌-◌, ◌<◌, ◌≤◌, ◌∷◌, [], ℕ, zero, suc, Bool, true, false, List}
use Rattle.std.proofs.Common.{Option, Some, None, ⊎_elim, refl, sym, ap, subst, arith}
use Rattle.std.proofs.lemmas.Bool.{cases_Bool, eqb-true, false≢true, ne_eqb}
use Rattle.std.proofs.lemmas.Bool.Decides.{eqb_tells}
use Rattle.std.specs.Prelude.{◌==◌, ◌||◌, ◌&&◌, cond, slice_get}
use Rattle.std.specs.Option.{option_map_or, option_or}
use Rattle.cb_names.specs.declared.word.Item.{Item}
use Rattle.cb_names.specs.Pairs.{at, beyond, closed_at, ends_all, innermost, is_at, lowest_brace}
use Rattle.cb_names.specs.Pairs.{nearest, nearest_brace, open_after, opened, opens, sign}

-- a number is itself
pub self : (n : ℕ) → (n == n) ≡ true
self n = ⊎_elim (λ a. a.0) (λ b. absurd (b.1 refl)) (eqb_tells n n)

or_true : (b : Bool) → (b || true) ≡ true
or_true true = refl
or_true false = refl

-- the list has the number
unfoldable pub has : ℕ → List ℕ → Bool
has j [] = false
has j (i ∷ is) = (i == j) || has j is

module _ (xs : List Item) where
  -- brackets that are open, each before index k and with those around it
  unfoldable pub Chain : ℕ → List ℕ → Type 0
  Chain k [] = Unit {0}
  Chain k (j ∷ js) = (j < k) × (opens xs j ≡ true) × (js ≡ opened xs j) × Chain j js

  pub longer : (k n : ℕ) (js : List ℕ) → k ≤ n → Chain k js → Chain n js
  unfolding Chain
  longer k n [] le c = tt
  longer k n (j ∷ js) le c = (omega (arith, c.0, le), c.1, c.2, c.3)

  beyond_chain : (k j : ℕ) (js : List ℕ) → Chain k js → Chain k (beyond j js)
  unfolding beyond Chain
  beyond_chain k j [] c = tt
  beyond_chain k j (i ∷ js) c =
      elim (i == j) as (λ b. Chain k (cond b js (beyond j js))) [
        | true ↦ longer i k js (omega (arith, c.0)) c.3
        | false ↦ longer i k (beyond j js) (omega (arith, c.0)) (beyond_chain i j js c.3)
      ]

  taken : (k : ℕ) (o : Option ℕ) (js : List ℕ) → Chain k js → Chain k (option_map_or (λ j. beyond j js) o js)
  taken k None js c = c
  taken k (Some j) js c = beyond_chain k j js c

  after : (k : ℕ) → Chain k (opened xs k) → Chain (suc k) (open_after xs k (opened xs k))
  unfolding Chain
  after k c =
      ⊎_elim
      (λ is. subst (λ b. Chain (suc k) (cond b (k ∷ opened xs k) (cond (ends_all xs k) []
      (option_map_or (λ j. beyond j (opened xs k)) (closed_at xs k) (opened xs k))))) (sym is)
      (omega arith, is, refl, c))
      (λ isnt. subst (λ b. Chain (suc k) (cond b (k ∷ opened xs k) (cond (ends_all xs k) []
      (option_map_or (λ j. beyond j (opened xs k)) (closed_at xs k) (opened xs k))))) (sym isnt)
      (elim (ends_all xs k) as (λ b. Chain (suc k) (cond b []
      (option_map_or (λ j. beyond j (opened xs k)) (closed_at xs k) (opened xs k)))) [
        | true ↦ tt
        | false ↦ longer k (suc k) _ (omega arith) (taken k (closed_at xs k) (opened xs k) c)
      ]))
      (cases_Bool (opens xs k))

  pub chain_of : (k : ℕ) → Chain k (opened xs k)
  unfolding opened Chain
  chain_of zero = tt
  chain_of (suc k) = after k (chain_of k)

  -- ---- the innermost

  pub record Top (k j : ℕ) : Type 0 where
    pub all : opened xs k ≡ j ∷ opened xs j
    pub less : j < k
    pub opening : opens xs j ≡ true

  top_in : (k j : ℕ) (js : List ℕ) → opened xs k ≡ js → Chain k js → slice_get js 0 ≡ Some j → Top k j
  unfolding Chain
  top_in k j [] is c first = absurd (none_some first)
    where
      none_some : None ≡ Some j → ⊥
      none_some e = false≢true (ap (λ o. option_map_or (λ _. true) o false) e)
  top_in k j (i ∷ js) is c first =
      let same : i ≡ j = ap (λ o. option_map_or (λ x. x) o 0) first in
      subst (Top k) same (record { all = is ∙ ap (λ l. i ∷ l) c.2; less = c.0; opening = c.1 })

  pub top_is : (k j : ℕ) → innermost xs k ≡ Some j → Top k j
  top_is k j first = top_in k j (opened xs k) refl (chain_of k) first

  none_in : (js : List ℕ) → slice_get js 0 ≡ None → js ≡ []
  none_in [] first = refl
  none_in (i ∷ js) first = absurd (false≢true (sym (ap (λ o. option_map_or (λ _. true) o false) first)))

  pub no_top : (k : ℕ) → innermost xs k ≡ None → opened xs k ≡ []
  no_top k first = none_in (opened xs k) first

  -- ---- a bracket that is closed

  pub record Closed (k j : ℕ) (js : List ℕ) : Type 0 where
    pub held : has j js ≡ true
    pub left : beyond j js ≡ opened xs j
    pub less : j < k
    pub opening : opens xs j ≡ true

  here : (k j : ℕ) (js : List ℕ) → Chain k (j ∷ js) → Closed k j (j ∷ js)
  unfolding beyond Chain has
  here k j js c = record {
    held = ap (λ b. b || has j js) (self j);
    left = ap (λ b. cond b js (beyond j js)) (self j) ∙ c.2;
    less = c.0;
    opening = c.1;
  }

  further : (k i j : ℕ) (js : List ℕ) → Chain k (i ∷ js) → Closed i j js → Closed k j (i ∷ js)
  unfolding beyond Chain has
  further k i j js c closed = record {
    held = ap (λ b. (i == j) || b) closed.held ∙ or_true (i == j);
    left = ap (λ b. cond b js (beyond j js)) (ne_eqb i j (λ e. omega (arith, e, closed.less))) ∙ closed.left;
    less = omega (arith, c.0, closed.less);
    opening = closed.opening;
  }

  pub nearest_closed : (b k j : ℕ) (js : List ℕ) → Chain k js → nearest b xs js ≡ Some j → Closed k j js
  unfolding nearest Chain
  nearest_closed b k j [] c is = absurd (false≢true (ap (λ o. option_map_or (λ _. true) o false) is))
  nearest_closed b k j (i ∷ js) c is =
      ⊎_elim
      (λ one. let same : i ≡ j = ap (λ o. option_map_or (λ x. x) o 0)
      (sym (ap (λ t. cond t (Some i) (cond (is_at 123 xs i) None (nearest b xs js))) one) ∙ is) in
      subst (λ n. Closed k n (i ∷ js)) same (here k i js c))
      (λ other. let rest = sym (ap (λ t. cond t (Some i) (cond (is_at 123 xs i) None (nearest b xs js))) other) ∙ is in
      ⊎_elim
      (λ brace. absurd (false≢true (ap (λ o. option_map_or (λ _. true) o false)
      (sym (ap (λ t. cond t None (nearest b xs js)) brace) ∙ rest))))
      (λ none. further k i j js c (nearest_closed b i j js c.3
      (sym (ap (λ t. cond t None (nearest b xs js)) none) ∙ rest)))
      (cases_Bool (is_at 123 xs i)))
      (cases_Bool (is_at b xs i))

  pub brace_closed : (k j : ℕ) (js : List ℕ) → Chain k js → nearest_brace xs js ≡ Some j → Closed k j js
  unfolding nearest_brace Chain
  brace_closed k j [] c is = absurd (false≢true (ap (λ o. option_map_or (λ _. true) o false) is))
  brace_closed k j (i ∷ js) c is =
      ⊎_elim
      (λ one. let same : i ≡ j = ap (λ o. option_map_or (λ x. x) o 0)
      (sym (ap (λ t. cond t (Some i) (nearest_brace xs js)) one) ∙ is) in
      subst (λ n. Closed k n (i ∷ js)) same (here k i js c))
      (λ other. further k i j js c (brace_closed i j js c.3
      (sym (ap (λ t. cond t (Some i) (nearest_brace xs js)) other) ∙ is)))
      (cases_Bool (is_at 123 xs i))

  pub lowest_closed : (k j : ℕ) (js : List ℕ) → Chain k js → lowest_brace xs js ≡ Some j → Closed k j js
  unfolding lowest_brace Chain
  lowest_closed k j [] c is = absurd (false≢true (ap (λ o. option_map_or (λ _. true) o false) is))
  lowest_closed k j (i ∷ js) c is =
      by (λ n. lowest_closed i n js c.3) (lowest_brace xs js) refl
    where
      by : ((n : ℕ) → lowest_brace xs js ≡ Some n → Closed i n js) → (o : Option ℕ) → lowest_brace xs js ≡ o
          → Closed k j (i ∷ js)
      by found (Some n) deeper =
          let same : n ≡ j = ap (λ o. option_map_or (λ x. x) o 0)
          (sym (ap (λ o. option_or o (cond (is_at 123 xs i) (Some i) None)) deeper) ∙ is) in
          further k i j js c (found j (deeper ∙ ap (λ m. Some m) same))
      by found None deeper =
          let rest = sym (ap (λ o. option_or o (cond (is_at 123 xs i) (Some i) None)) deeper) ∙ is in
          ⊎_elim
          (λ one. let same : i ≡ j = ap (λ o. option_map_or (λ x. x) o 0)
          (sym (ap (λ t. cond t (Some i) None) one) ∙ rest) in
          subst (λ n. Closed k n (i ∷ js)) same (here k i js c))
          (λ other. absurd (false≢true (ap (λ o. option_map_or (λ _. true) o false)
          (sym (ap (λ t. cond t (Some i) None) other) ∙ rest))))
          (cases_Bool (is_at 123 xs i))

  -- what a token closes is open, and before it
  pub closed_is : (k j : ℕ) → closed_at xs k ≡ Some j → Closed k j (opened xs k)
  closed_is k j is =
      ⊎_elim
      (λ a. nearest_closed 40 k j (opened xs k) (chain_of k) (sym (ap (λ t. cond t (nearest 40 xs (opened xs k)) r1) a) ∙ is))
      (λ na. let is1 = sym (ap (λ t. cond t (nearest 40 xs (opened xs k)) r1) na) ∙ is in
      ⊎_elim
      (λ b. nearest_closed 91 k j (opened xs k) (chain_of k) (sym (ap (λ t. cond t (nearest 91 xs (opened xs k)) r2) b) ∙ is1))
      (λ nb. let is2 = sym (ap (λ t. cond t (nearest 91 xs (opened xs k)) r2) nb) ∙ is1 in
      ⊎_elim
      (λ d. lowest_closed k j (opened xs k) (chain_of k) (sym (ap (λ t. cond t (lowest_brace xs (opened xs k)) r3) d) ∙ is2))
      (λ nd. let is3 = sym (ap (λ t. cond t (lowest_brace xs (opened xs k)) r3) nd) ∙ is2 in
      ⊎_elim
      (λ e. brace_closed k j (opened xs k) (chain_of k) (sym (ap (λ t. cond t (nearest_brace xs (opened xs k)) None) e) ∙ is3))
      (λ ne. absurd (false≢true (ap (λ o. option_map_or (λ _. true) o false)
      (sym (ap (λ t. cond t (nearest_brace xs (opened xs k)) None) ne) ∙ is3))))
      (cases_Bool (is_at 125 xs k)))
      (cases_Bool (ends_all xs k)))
      (cases_Bool (is_at 93 xs k)))
      (cases_Bool (is_at 41 xs k))
    where
      r3 : Option ℕ
      r3 = cond (is_at 125 xs k) (nearest_brace xs (opened xs k)) None

      r2 : Option ℕ
      r2 = cond (ends_all xs k) (lowest_brace xs (opened xs k)) r3

      r1 : Option ℕ
      r1 = cond (is_at 93 xs k) (nearest 91 xs (opened xs k)) r2

  -- ---- a bracket that stays open

  pub chain_has : (k j : ℕ) (js : List ℕ) → Chain k js → has j js ≡ true → j < k
  unfolding has Chain
  chain_has k j [] c is = absurd (false≢true is)
  chain_has k j (i ∷ js) c is =
      ⊎_elim
      (λ same. omega (arith, c.0, eqb-true i j same))
      (λ differs. let less : j < i = chain_has i j js c.3 (sym (ap (λ b. b || has j js) differs) ∙ is) in
      omega (arith, less, c.0))
      (cases_Bool (i == j))

  beyond_has : (n j : ℕ) (js : List ℕ) → has j (beyond n js) ≡ true → has j js ≡ true
  unfolding has beyond
  beyond_has n j [] is = is
  beyond_has n j (i ∷ js) is =
      ⊎_elim
      (λ same. ap (λ b. (i == j) || b) (sym (ap (λ b. has j (cond b js (beyond n js))) same) ∙ is) ∙ or_true (i == j))
      (λ differs. ap (λ b. (i == j) || b)
      (beyond_has n j js (sym (ap (λ b. has j (cond b js (beyond n js))) differs) ∙ is)) ∙ or_true (i == j))
      (cases_Bool (i == n))

  -- where a bracket is open behind a token, it is open before it or is that token
  stays_held : (k j : ℕ) → has j (opened xs (suc k)) ≡ true → j < k → has j (opened xs k) ≡ true
  unfolding opened has
  stays_held k j is less =
      ⊎_elim
      (λ op. let here = sym (ap (λ b. has j (cond b (k ∷ opened xs k) rest)) op) ∙ is in
      sym (ap (λ b. b || has j (opened xs k)) (ne_eqb k j (λ e. omega (arith, e, less)))) ∙ here)
      (λ nop. let here = sym (ap (λ b. has j (cond b (k ∷ opened xs k) rest)) nop) ∙ is in
      ⊎_elim
      (λ all. absurd (false≢true (sym (ap (λ b. has j (cond b [] left)) all) ∙ here)))
      (λ nall. by (closed_at xs k) (sym (ap (λ b. has j (cond b [] left)) nall) ∙ here))
      (cases_Bool (ends_all xs k)))
      (cases_Bool (opens xs k))
    where
      left : List ℕ
      left = option_map_or (λ j. beyond j (opened xs k)) (closed_at xs k) (opened xs k)

      rest : List ℕ
      rest = cond (ends_all xs k) [] left

      by : (o : Option ℕ) → has j (option_map_or (λ j. beyond j (opened xs k)) o (opened xs k)) ≡ true
          → has j (opened xs k) ≡ true
      by None is = is
      by (Some n) is = beyond_has n j (opened xs k) is

  pub inside_from : (j k n i : ℕ) → i + n ≡ k → j < i → has j (opened xs k) ≡ true → has j (opened xs i) ≡ true
  inside_from j k zero i is less held = ap (λ m. has j (opened xs m)) (omega (arith, is)) ∙ held
  inside_from j k (suc n) i is less held =
      stays_held i j (inside_from j k n (suc i) (omega (arith, is)) (omega (arith, less)) held) less

  -- a bracket that a token closes is open before all tokens between
  pub inside : (k j i : ℕ) → closed_at xs k ≡ Some j → j < i → i ≤ k → has j (opened xs i) ≡ true
  inside k j i is less le =
      inside_from j k (k - i) i (omega (arith, le)) less (closed_is k j is).held

  -- the innermost bracket is no further out than one that is open
  pub record Around (i j : ℕ) : Type 0 where
    pub top : ℕ
    pub is : innermost xs i ≡ Some top
    pub le : j ≤ top

  around_in : (i j : ℕ) (js : List ℕ) → opened xs i ≡ js → Chain i js → has j js ≡ true → Around i j
  unfolding has Chain
  around_in i j [] is c held = absurd (false≢true held)
  around_in i j (m ∷ js) is c held = record {
    top = m;
    is = ap (λ l. slice_get l 0) is;
    le = ⊎_elim
        (λ same. omega (arith, eqb-true m j same))
        (λ differs. let less : j < m = chain_has m j js c.3 (sym (ap (λ b. b || has j js) differs) ∙ held) in
        omega (arith, less))
        (cases_Bool (m == j));
  }

  pub around_is : (i j : ℕ) → has j (opened xs i) ≡ true → Around i j
  around_is i j held = around_in i j (opened xs i) refl (chain_of i) held

  left_true : (a b : Bool) → (a && b) ≡ true → a ≡ true
  left_true true b is = refl
  left_true false b is = is

  -- a bracket that opens ends nothing
  pub all_opens : (k : ℕ) → ends_all xs k ≡ true → opens xs k ≡ false
  all_opens k all =
      ap (λ n. n == 40 || n == 91 || n == 123)
      (eqb-true (sign xs k) 125 (left_true (is_at 125 xs k) (at xs k).token.token.starts_line all))

  pub all_not : (k : ℕ) → opens xs k ≡ true → ends_all xs k ≡ false
  all_not k op =
      ⊎_elim (λ all. absurd (false≢true (sym (all_opens k all) ∙ op))) (λ none. none) (cases_Bool (ends_all xs k))

  -- a token behind which a bracket is open, that is before it, does not end all
  pub not_all : (i j : ℕ) → has j (opened xs (suc i)) ≡ true → j < i → ends_all xs i ≡ false
  unfolding opened has
  not_all i j held less =
      ⊎_elim
      (λ all. absurd (false≢true
      (sym (ap (λ b. has j (cond b (i ∷ opened xs i) (cond (ends_all xs i) []
      (option_map_or (λ j. beyond j (opened xs i)) (closed_at xs i) (opened xs i))))) (all_opens i all)
      ∙ ap (λ b. has j (cond b [] (option_map_or (λ j. beyond j (opened xs i)) (closed_at xs i) (opened xs i)))) all) ∙ held)))
      (λ none. none)
      (cases_Bool (ends_all xs i))
