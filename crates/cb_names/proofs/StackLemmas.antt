-- How long a bracket stays open: up to where it ends.
use Rattle.std.proofs.Common.{◌≡◌, ◌∙◌, ◌+◌, ◌-◌, ◌<◌, ◌≤◌, ◌⊎◌, ◌∷◌, [], ℕ, zero, suc, Bool, true, false, List}
use Rattle.std.proofs.Common.{Option, Some, None, ⊎_elim, inl, inr, refl, sym, ap, arith, length}
use Rattle.std.proofs.lemmas.Bool.{and_parts, cases_Bool, eqb-true, false≢true, or_right}
use Rattle.std.proofs.lemmas.Bool.Decides.{eqb_tells, leb_tells}
use Rattle.std.specs.Prelude.{◌==◌, ◌||◌, ◌&&◌, cond}
use Rattle.std.specs.Option.{option_map_or, option_or}
use Rattle.cb_names.specs.declared.word.Item.{Item}
use Rattle.cb_names.specs.Pairs.{at, beyond, closed_at, closer_among, ends_all, is_at, is_index, lowest_brace}
use Rattle.cb_names.specs.Pairs.{nearest, nearest_brace, opened, opens, partner, sign}
use Rattle.cb_names.specs.Scopes.{end_of, or_last}
use Rattle.cb_names.proofs.BracketLemmas.{Chain, chain_has, chain_of, closed_is, has, inside, inside_from}
use Rattle.cb_names.proofs.BracketLemmas.{lowest_closed, not_all, self}
use Rattle.cb_names.proofs.PairingLemmas.{closed_less, opens_closes_none}

pub none_some : {A : Type 0} (e : A) → None ≡ Some e → ⊥
none_some e is = false≢true (ap (λ o. option_map_or (λ _. true) o false) is)

pub the : (d e : ℕ) → Some d ≡ Some e → d ≡ e
the d e is = ap (λ o. option_map_or (λ x. x) o 0) is

-- ---- members of lists of brackets
pub has_first : (j : ℕ) (js : List ℕ) → has j (j ∷ js) ≡ true
unfolding has
has_first j js = ap (λ b. b || has j js) (self j)

pub has_more : (i j : ℕ) (js : List ℕ) → has j js ≡ true → has j (i ∷ js) ≡ true
unfolding has
has_more i j js is = or_right (i == j) (has j js) is

-- a member is the first, or further on
pub has_cases : (i j : ℕ) (js : List ℕ) → has j (i ∷ js) ≡ true → (i ≡ j) ⊎ (has j js ≡ true)
unfolding has
has_cases i j js is =
    ⊎_elim
    (λ same. inl (eqb-true i j same))
    (λ other. inr (sym (ap (λ b. b || has j js) other) ∙ is))
    (cases_Bool (i == j))

pub has_none : (j : ℕ) → has j [] ≡ true → ⊥
unfolding has
has_none j is = false≢true is

module _ (xs : List Item) where
  -- what is open around a bracket that is open
  within_in : (k i j : ℕ) (js : List ℕ) → Chain xs k js → has j js ≡ true → has i (opened xs j) ≡ true → has i js ≡ true
  unfolding Chain
  within_in k i j [] c held inner = absurd (has_none j held)
  within_in k i j (n ∷ js) c held inner =
      has_more n i js
      (⊎_elim
      (λ same. ap (λ l. has i l) (c.2 ∙ ap (opened xs) same) ∙ inner)
      (λ later. within_in n i j js c.3 later inner)
      (has_cases n j js held))

  pub within : (k i j : ℕ) → has j (opened xs k) ≡ true → has i (opened xs j) ≡ true → has i (opened xs k) ≡ true
  within k i j held inner = within_in k i j (opened xs k) (chain_of xs k) held inner

  under_in : (k i j : ℕ) (js : List ℕ) → Chain xs k js → has j js ≡ true → has i js ≡ true → i < j
      → has i (opened xs j) ≡ true
  unfolding Chain
  under_in k i j [] c held inner less = absurd (has_none j held)
  under_in k i j (n ∷ js) c held inner less =
      ⊎_elim
      (λ same. ⊎_elim
      (λ one. absurd (omega (arith, same, one, less)))
      (λ later. ap (λ l. has i l) (sym (c.2 ∙ ap (opened xs) same)) ∙ later)
      (has_cases n i js inner))
      (λ later. ⊎_elim
      (λ one. absurd (omega (arith, one, less, chain_has xs n j js c.3 later)))
      (λ rest. under_in n i j js c.3 later rest less)
      (has_cases n i js inner))
      (has_cases n j js held)

  pub under : (k i j : ℕ) → has j (opened xs k) ≡ true → has i (opened xs k) ≡ true → i < j → has i (opened xs j) ≡ true
  under k i j held inner less = under_in k i j (opened xs k) (chain_of xs k) held inner less

  pub open_less : (k j : ℕ) → has j (opened xs k) ≡ true → j < k
  open_less k j held = chain_has xs k j (opened xs k) (chain_of xs k) held

  -- a bracket that is open was so before each token between
  pub was_open : (k j i : ℕ) → has j (opened xs k) ≡ true → j < i → i ≤ k → has j (opened xs i) ≡ true
  was_open k j i held less le = inside_from xs j k (k - i) i (omega (arith, le)) less held

  opens_in : (k j : ℕ) (js : List ℕ) → Chain xs k js → has j js ≡ true → opens xs j ≡ true
  unfolding Chain
  opens_in k j [] c held = absurd (has_none j held)
  opens_in k j (n ∷ js) c held =
      ⊎_elim
      (λ same. sym (ap (opens xs) same) ∙ c.1)
      (λ later. opens_in n j js c.3 later)
      (has_cases n j js held)

  pub open_opens : (k j : ℕ) → has j (opened xs k) ≡ true → opens xs j ≡ true
  open_opens k j held = opens_in k j (opened xs k) (chain_of xs k) held

  -- ---- one token more
  beyond_less : (k c j : ℕ) (js : List ℕ) → Chain xs k js → has c js ≡ true → has j (beyond c js) ≡ true → j < c
  unfolding beyond Chain
  beyond_less k c j [] ch closed held = absurd (has_none c closed)
  beyond_less k c j (n ∷ js) ch closed held =
      ⊎_elim
      (λ same. let here : has j js ≡ true = sym (ap (λ b. has j (cond b js (beyond c js))) same) ∙ held in
      omega (arith, chain_has xs n j js ch.3 here, eqb-true n c same))
      (λ other. ⊎_elim
      (λ one. absurd (false≢true (sym other ∙ ap (λ m. m == c) one ∙ self c)))
      (λ later. beyond_less n c j js ch.3 later (sym (ap (λ b. has j (cond b js (beyond c js))) other) ∙ held))
      (has_cases n c js closed))
      (cases_Bool (n == c))

  beyond_kept : (k c j : ℕ) (js : List ℕ) → Chain xs k js → has c js ≡ true → has j js ≡ true → j < c
      → has j (beyond c js) ≡ true
  unfolding beyond Chain
  beyond_kept k c j [] ch closed held less = absurd (has_none c closed)
  beyond_kept k c j (n ∷ js) ch closed held less =
      ⊎_elim
      (λ same. ap (λ b. has j (cond b js (beyond c js))) same
      ∙ ⊎_elim
      (λ one. absurd (omega (arith, one, eqb-true n c same, less)))
      (λ later. later)
      (has_cases n j js held))
      (λ other. ap (λ b. has j (cond b js (beyond c js))) other
      ∙ ⊎_elim
      (λ one. absurd (false≢true (sym other ∙ ap (λ m. m == c) one ∙ self c)))
      (λ closed_later. ⊎_elim
      (λ one. absurd (omega (arith, one, less, chain_has xs n c js ch.3 closed_later)))
      (λ later. beyond_kept n c j js ch.3 closed_later later less)
      (has_cases n j js held))
      (has_cases n c js closed))
      (cases_Bool (n == c))

  abbrev left : ℕ → Option ℕ → List ℕ
  left k o = option_map_or (λ j. beyond j (opened xs k)) o (opened xs k)

  pub just_open : (j : ℕ) → opens xs j ≡ true → has j (opened xs (suc j)) ≡ true
  unfolding opened
  just_open j is =
      ap (λ b. has j (cond b (j ∷ opened xs j) (cond (ends_all xs j) [] (left j (closed_at xs j))))) is
      ∙ has_first j (opened xs j)

  -- what a token leaves open is outside the bracket that it closes
  pub closes_open : (k c j : ℕ) → closed_at xs k ≡ Some c → has j (opened xs (suc k)) ≡ true → j < c
  unfolding opened
  closes_open k c j is held =
      ⊎_elim
      (λ op. absurd (none_some c (sym (opens_closes_none xs k op) ∙ is)))
      (λ nop. let here : has j (cond (ends_all xs k) [] (left k (closed_at xs k))) ≡ true
      = sym (ap (λ b. has j (cond b (k ∷ opened xs k) (cond (ends_all xs k) [] (left k (closed_at xs k))))) nop) ∙ held in
      ⊎_elim
      (λ all. absurd (has_none j (sym (ap (λ b. has j (cond b [] (left k (closed_at xs k)))) all) ∙ here)))
      (λ nall. beyond_less k c j (opened xs k) (chain_of xs k) (closed_is xs k c is).held
      (sym (ap (λ o. has j (left k o)) is)
      ∙ sym (ap (λ b. has j (cond b [] (left k (closed_at xs k)))) nall) ∙ here))
      (cases_Bool (ends_all xs k)))
      (cases_Bool (opens xs k))

  -- a bracket stays open behind a token that does not end all, and closes only what is inside it
  pub kept_open : (k j : ℕ) → has j (opened xs k) ≡ true → ends_all xs k ≡ false
      → ((c : ℕ) → closed_at xs k ≡ Some c → j < c) → has j (opened xs (suc k)) ≡ true
  unfolding opened
  kept_open k j held nall inner =
      ⊎_elim
      (λ op. ap (λ b. has j (cond b (k ∷ opened xs k) (cond (ends_all xs k) [] (left k (closed_at xs k))))) op
      ∙ has_more k j (opened xs k) held)
      (λ nop. ap (λ b. has j (cond b (k ∷ opened xs k) (cond (ends_all xs k) [] (left k (closed_at xs k))))) nop
      ∙ ap (λ b. has j (cond b [] (left k (closed_at xs k)))) nall
      ∙ by (closed_at xs k) refl)
      (cases_Bool (opens xs k))
    where
      by : (o : Option ℕ) → closed_at xs k ≡ o → has j (left k o) ≡ true
      by None is = held
      by (Some c) is = beyond_kept k c j (opened xs k) (chain_of xs k) (closed_is xs k c is).held held (inner c is)

  -- ---- partners
  closer_closes : (n j m : ℕ) → closer_among xs n j ≡ Some m → closed_at xs m ≡ Some j
  unfolding closer_among
  closer_closes zero j m is = absurd (none_some m is)
  closer_closes (suc n) j m is =
      ⊎_elim
      (λ here. let same : n ≡ m = the n m (sym (ap (λ b. cond b (Some n) (closer_among xs n j)) here) ∙ is) in
      ap (closed_at xs) (sym same) ∙ index (closed_at xs n) here)
      (λ other. closer_closes n j m (sym (ap (λ b. cond b (Some n) (closer_among xs n j)) other) ∙ is))
      (cases_Bool (is_index j (closed_at xs n)))
    where
      index : (o : Option ℕ) → is_index j o ≡ true → o ≡ Some j
      index None none = absurd (false≢true none)
      index (Some i) some = ap (λ n. Some n) (eqb-true i j some)

  closer_some : (n j k : ℕ) → k < n → closed_at xs k ≡ Some j → closer_among xs n j ≡ None → ⊥
  unfolding closer_among
  closer_some zero j k less is none = omega (arith, less)
  closer_some (suc n) j k less is none =
      ⊎_elim
      (λ here. none_some n (sym (sym (ap (λ b. cond b (Some n) (closer_among xs n j)) here) ∙ none)))
      (λ other. ⊎_elim
      (λ same. let n_is : k ≡ n = same.1 in
      false≢true (sym other ∙ ap (λ i. is_index j (closed_at xs i)) (sym n_is) ∙ ap (is_index j) is ∙ self j))
      (λ differs. closer_some n j k (omega (arith, less, differs.1)) is
      (sym (ap (λ b. cond b (Some n) (closer_among xs n j)) other) ∙ none))
      (eqb_tells k n))
      (cases_Bool (is_index j (closed_at xs n)))

  -- the partner of a bracket that opens closes it
  pub partner_closes : (j p : ℕ) → opens xs j ≡ true → partner xs j ≡ Some p → closed_at xs p ≡ Some j
  partner_closes j p op is =
      closer_closes (length xs) j p
      (sym (ap (λ o. option_or o (closer_among xs (length xs) j)) (opens_closes_none xs j op)) ∙ is)

  pub closed_paired : (k c : ℕ) → k < length xs → closed_at xs k ≡ Some c → partner xs c ≡ None → ⊥
  closed_paired k c less is none = by (closed_at xs c) refl
    where
      by : (o : Option ℕ) → closed_at xs c ≡ o → ⊥
      by None c_is =
          closer_some (length xs) c k less is
          (sym (ap (λ o. option_or o (closer_among xs (length xs) c)) c_is) ∙ none)
      by (Some i) c_is = none_some i (sym (sym (ap (λ o. option_or o (closer_among xs (length xs) c)) c_is) ∙ none))

  -- ---- where brackets end
  -- index k is not behind the end of brackets that are open there
  not_behind_in : (k e n : ℕ) (js : List ℕ) → Chain xs n js → ((j : ℕ) → has j js ≡ true → has j (opened xs k) ≡ true)
      → end_of xs js ≡ Some e → k ≤ e
  unfolding end_of Chain
  not_behind_in k e n [] c held is = absurd (none_some e is)
  not_behind_in k e n (j ∷ js) c held is =
      by (λ rest. not_behind_in k e j js c.3 (λ i h. held i (has_more j i js h)) rest) (partner xs j) refl
    where
      by : (end_of xs js ≡ Some e → k ≤ e) → (o : Option ℕ) → partner xs j ≡ o → k ≤ e
      by rest None o_is = rest (sym (ap (λ o. option_or o (end_of xs js)) o_is) ∙ is)
      by rest (Some p) o_is =
          let same : p ≡ e = the p e (sym (ap (λ o. option_or o (end_of xs js)) o_is) ∙ is) in
          let closes = partner_closes j p c.1 o_is in
          ⊎_elim
          (λ le. omega (arith, le.1, same))
          (λ less. absurd (omega (
            arith,
            closes_open p j j closes
                (was_open k j (suc p) (held j (has_first j js)) (omega (arith, closed_less xs p j closes)) (omega (arith, less.1))),
          )))
          (leb_tells k p)

  pub not_behind : (k j : ℕ) → k < length xs → has j (opened xs k) ≡ true → k ≤ or_last xs (end_of xs (j ∷ opened xs j))
  unfolding Chain
  not_behind k j less held = by (end_of xs (j ∷ opened xs j)) refl
    where
      each : (i : ℕ) → has i (j ∷ opened xs j) ≡ true → has i (opened xs k) ≡ true
      each i h = ⊎_elim (λ same. ap (λ n. has n (opened xs k)) (sym same) ∙ held) (λ inner. within k i j held inner) (has_cases j i (opened xs j) h)

      chain : Chain xs k (j ∷ opened xs j)
      chain = (open_less k j held, open_opens k j held, refl, chain_of xs j)

      by : (o : Option ℕ) → end_of xs (j ∷ opened xs j) ≡ o → k ≤ or_last xs o
      by None is = omega (arith, less)
      by (Some e) is = not_behind_in k e k (j ∷ opened xs j) chain each is

  -- a bracket is open up to where it ends, if it is known where that is
  pub open_to : (n j : ℕ) (around : List ℕ) → Chain xs n (j ∷ around) → (e : ℕ) → end_of xs (j ∷ around) ≡ Some e
      → (k : ℕ) → k < length xs → j < k → k ≤ e → has j (opened xs k) ≡ true
  unfolding end_of Chain
  open_to n j [] c e is k less over le = by (partner xs j) refl
    where
      by : (o : Option ℕ) → partner xs j ≡ o → has j (opened xs k) ≡ true
      by None o_is = absurd (none_some e (sym (ap (λ o. option_or o None) o_is) ∙ is))
      by (Some p) o_is =
          let same : p ≡ e = the p e (sym (ap (λ o. option_or o None) o_is) ∙ is) in
          inside xs p j k (partner_closes j p c.1 o_is) over (omega (arith, same, le))
  open_to n j (i ∷ around) c e is k less over le =
      by (λ rest m m_less m_over m_le. open_to j i around c.3 e rest m m_less m_over m_le) (partner xs j) refl
    where
      by : (end_of xs (i ∷ around) ≡ Some e → (m : ℕ) → m < length xs → i < m → m ≤ e → has i (opened xs m) ≡ true)
          → (o : Option ℕ) → partner xs j ≡ o → has j (opened xs k) ≡ true
      by outer (Some p) o_is =
          let same : p ≡ e = the p e (sym (ap (λ o. option_or o (end_of xs (i ∷ around))) o_is) ∙ is) in
          inside xs p j k (partner_closes j p c.1 o_is) over (omega (arith, same, le))
      by outer None o_is =
          ap (λ m. has j (opened xs m)) (omega (arith, over))
          ∙ stays (k - suc j) (omega (arith, less, over)) (omega (arith, le, over))
        where
          rest : end_of xs (i ∷ around) ≡ Some e
          rest = sym (ap (λ o. option_or o (end_of xs (i ∷ around))) o_is) ∙ is

          i_less : i < j
          i_less = c.3.0

          inner : (m c' : ℕ) → m < length xs → has j (opened xs m) ≡ true → has i (opened xs (suc m)) ≡ true
              → closed_at xs m ≡ Some c' → j < c'
          inner m c' m_less held outer_held closes =
              let over_i : i < c' = closes_open m c' i closes outer_held in
              ⊎_elim
              (λ le'. ⊎_elim
              (λ same. let j_is : c' ≡ j = same.1 in
              absurd (closed_paired m c' m_less closes (ap (partner xs) j_is ∙ o_is)))
              (λ differs. let inside_j : has c' (opened xs j) ≡ true
              = under m c' j held (closed_is xs m c' closes).held (omega (arith, le'.1, differs.1)) in
              ⊎_elim
              (λ one. absurd (omega (arith, one, over_i)))
              (λ later. absurd (omega (arith, chain_has xs i c' around c.3.3 later, over_i)))
              (has_cases i c' around (ap (has c') c.2 ∙ inside_j)))
              (eqb_tells c' j))
              (λ less'. less'.1)
              (leb_tells c' j)

          stays : (d : ℕ) → suc j + d < length xs → suc j + d ≤ e → has j (opened xs (suc j + d)) ≡ true
          stays zero under_l under_e = ap (λ m. has j (opened xs m)) (omega arith) ∙ just_open j c.1
          stays (suc d) under_l under_e =
              let m : ℕ = suc j + d in
              let held : has j (opened xs m) ≡ true = stays d (omega (arith, under_l)) (omega (arith, under_e)) in
              let outer_held : has i (opened xs (suc m)) ≡ true
              = outer rest (suc m) (omega (arith, under_l)) (omega (arith, i_less)) (omega (arith, under_e)) in
              ap (λ n. has j (opened xs n)) (omega arith)
              ∙ kept_open m j held (not_all xs m i outer_held (omega (arith, i_less)))
              (λ c' closes. inner m c' (omega (arith, under_l)) held outer_held closes)

  -- ---- braces
  -- a `}` that begins its line closes a brace no further in than one that is open
  pub record Low (j : ℕ) (js : List ℕ) : Type 0 where
    pub low : ℕ
    pub is : lowest_brace xs js ≡ Some low
    pub le : low ≤ j

  lowest_at : (k j : ℕ) (js : List ℕ) → Chain xs k js → has j js ≡ true → is_at 123 xs j ≡ true → Low j js
  unfolding lowest_brace Chain
  lowest_at k j [] c held brace = absurd (has_none j held)
  lowest_at k j (n ∷ js) c held brace =
      ⊎_elim
      (λ same. first same (lowest_brace xs js) refl)
      (λ later. let rest = lowest_at n j js c.3 later brace in
      record {
        low = rest.low;
        is = ap (λ o. option_or o (cond (is_at 123 xs n) (Some n) None)) rest.is;
        le = rest.le;
      })
      (has_cases n j js held)
    where
      first : n ≡ j → (o : Option ℕ) → lowest_brace xs js ≡ o → Low j (n ∷ js)
      first same None is = record {
        low = n;
        is = ap (λ o. option_or o (cond (is_at 123 xs n) (Some n) None)) is
            ∙ ap (λ b. cond b (Some n) None) (ap (is_at 123 xs) same ∙ brace);
        le = omega (arith, same);
      }
      first same (Some l) is = record {
        low = l;
        is = ap (λ o. option_or o (cond (is_at 123 xs n) (Some n) None)) is;
        le = omega (arith, chain_has xs n l js c.3 (lowest_closed xs n l js c.3 is).held, same);
      }

  all_closes : (k : ℕ) → ends_all xs k ≡ true → closed_at xs k ≡ lowest_brace xs (opened xs k)
  all_closes k all =
      ap (λ n. cond (n == 41) (nearest 40 xs (opened xs k)) (cond (n == 93) (nearest 91 xs (opened xs k))
      (cond (n == 125 && line) (lowest_brace xs (opened xs k))
      (cond (n == 125) (nearest_brace xs (opened xs k)) None))))
      (eqb-true (sign xs k) 125 (and_parts (is_at 125 xs k) line all).0)
      ∙ ap (λ b. cond b (lowest_brace xs (opened xs k)) (nearest_brace xs (opened xs k)))
      (and_parts (is_at 125 xs k) line all).1
    where
      line : Bool
      line = (at xs k).token.token.starts_line

  -- what has no end around it pairs with nothing
  end_none : (c : ℕ) (js : List ℕ) → has c js ≡ true → end_of xs js ≡ None → partner xs c ≡ None
  unfolding end_of
  end_none c [] held none = absurd (has_none c held)
  end_none c (n ∷ js) held none = by (λ rest later. end_none c js later rest) (partner xs n) refl
    where
      by : (end_of xs js ≡ None → has c js ≡ true → partner xs c ≡ None) → (o : Option ℕ) → partner xs n ≡ o → partner xs c ≡ None
      by outer (Some p) is = absurd (none_some p (sym (sym (ap (λ o. option_or o (end_of xs js)) is) ∙ none)))
      by outer None is =
          ⊎_elim
          (λ same. ap (partner xs) (sym same) ∙ is)
          (λ later. outer (sym (ap (λ o. option_or o (end_of xs js)) is) ∙ none) later)
          (has_cases n c js held)

  -- a brace that has no end is open up to the end of the function
  brace_open : (j : ℕ) → opens xs j ≡ true → is_at 123 xs j ≡ true → end_of xs (j ∷ opened xs j) ≡ None
      → (d : ℕ) → suc j + d < length xs → has j (opened xs (suc j + d)) ≡ true
  brace_open j op brace none zero less = ap (λ m. has j (opened xs m)) (omega arith) ∙ just_open j op
  brace_open j op brace none (suc d) less =
      let held : has j (opened xs (suc j + d)) ≡ true = brace_open j op brace none d (omega (arith, less)) in
      ap (λ n. has j (opened xs n)) (omega arith)
      ∙ kept_open (suc j + d) j held (not_ended (suc j + d) held (omega (arith, less)))
      (λ c closes. inner (suc j + d) c held (omega (arith, less)) closes)
    where
      inner : (m c : ℕ) → has j (opened xs m) ≡ true → m < length xs → closed_at xs m ≡ Some c → j < c
      inner m c held m_less closes =
          ⊎_elim
          (λ le. absurd (closed_paired m c m_less closes (end_none c (j ∷ opened xs j) (member le.1) none)))
          (λ over. over.1)
          (leb_tells c j)
        where
          member : c ≤ j → has c (j ∷ opened xs j) ≡ true
          member le =
              ⊎_elim
              (λ same. let c_is : c ≡ j = same.1 in ap (λ n. has n (j ∷ opened xs j)) c_is ∙ has_first j (opened xs j))
              (λ differs. has_more j c (opened xs j)
              (under m c j held (closed_is xs m c closes).held (omega (arith, le, differs.1))))
              (eqb_tells c j)

      not_ended : (m : ℕ) → has j (opened xs m) ≡ true → m < length xs → ends_all xs m ≡ false
      not_ended m held m_less =
          ⊎_elim
          (λ all. let low = lowest_at m j (opened xs m) (chain_of xs m) held brace in
          absurd (omega (arith, inner m low.low held m_less (all_closes m all ∙ low.is), low.le)))
          (λ isnt. isnt)
          (cases_Bool (ends_all xs m))

  -- a brace, or a bracket that pairs, is open up to its end
  pub open_until : (j k : ℕ) → opens xs j ≡ true
      → (is_at 123 xs j ≡ true) ⊎ (partner xs j ≡ None → ⊥) → j < k → k < length xs
      → k ≤ or_last xs (end_of xs (j ∷ opened xs j)) → has j (opened xs k) ≡ true
  unfolding Chain
  open_until j k op either over less le = by (end_of xs (j ∷ opened xs j)) refl
    where
      chain : Chain xs (suc j) (j ∷ opened xs j)
      chain = (omega arith, op, refl, chain_of xs j)

      by : (o : Option ℕ) → end_of xs (j ∷ opened xs j) ≡ o → has j (opened xs k) ≡ true
      by (Some e) is = open_to (suc j) j (opened xs j) chain e is k less over (omega (arith, le, ap (or_last xs) is))
      by None is =
          ⊎_elim
          (λ brace. ap (λ m. has j (opened xs m)) (omega (arith, over))
          ∙ brace_open j op brace is (k - suc j) (omega (arith, less, over)))
          (λ paired. absurd (paired (end_none j (j ∷ opened xs j) (has_first j (opened xs j)) is)))
          either
