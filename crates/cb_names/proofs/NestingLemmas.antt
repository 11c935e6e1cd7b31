-- Scopes nest, where each `for` stands in a block: the scope of what is declared before a token, and
-- seen there, begins no further in than the innermost scope around that token.
use Rattle.std.proofs.Common.{◌≡◌, ◌∙◌, ◌+◌, ◌-◌, ◌<◌, ◌≤◌, ◌⊎◌, ◌∷◌, [], ℕ, zero, suc, Bool, true, false, List}
use Rattle.std.proofs.Common.{Option, Some, None, ⊎_elim, inl, inr, refl, sym, ap, subst, arith, length}
use Rattle.std.proofs.lemmas.Bool.{and_from, and_parts, cases_Bool, eqb-true, false≢true}
use Rattle.std.proofs.lemmas.Bool.Decides.{eqb_tells, leb_tells}
use Rattle.std.specs.Prelude.{◌==◌, ◌||◌, ◌&&◌, cond, find, not, slice_get}
use Rattle.std.specs.List.{range_with_len}
use Rattle.std.specs.Option.{option_map_or, option_or}
use Rattle.cb_names.specs.declared.scopes.Scope.{Scope}
use Rattle.cb_names.specs.declared.word.Item.{Item}
use Rattle.cb_names.specs.Braces.{is_block, kind_at, kind_in}
use Rattle.cb_names.specs.declared.braces.Brace.TheVariants.{Other}
use Rattle.cb_names.specs.Pairs.{at, beyond, closed_at, innermost, is_at, is_index, lowest_brace, nearest, nearest_brace}
use Rattle.cb_names.specs.Pairs.{opened, opens, partner, sign}
use Rattle.cb_names.specs.Scopes.{begins_for, begins_on, end_of, ends_for, ends_on, first_end, for_before}
use Rattle.cb_names.specs.Scopes.{for_of, is_else, level_of, or_last, scope_at, scope_in, scope_of_bracket, scope_of_for, whole}
use Rattle.cb_names.specs.Statements.{in_block}
use Rattle.cb_names.proofs.BracketLemmas.{Chain, chain_has, chain_of, closed_is, has, self, top_is}
use Rattle.cb_names.proofs.StackLemmas.{closes_open, has_cases, has_first, has_none, none_some, not_behind}
use Rattle.cb_names.proofs.StackLemmas.{open_less, open_opens, open_until, the, under, was_open, within}

-- ---- the first index of a range that passes a test
module _ (p : ℕ → Bool) where
  pub found_is : (a n e : ℕ) → find p (range_with_len a n) ≡ Some e → p e ≡ true
  found_is a zero e is = absurd (none_some e is)
  found_is a (suc n) e is =
      ⊎_elim
      (λ here. ap p (sym (the a e (sym (ap (λ b. cond b (Some a) (find p (range_with_len (a + 1) n))) here) ∙ is))) ∙ here)
      (λ later. found_is (a + 1) n e (sym (ap (λ b. cond b (Some a) (find p (range_with_len (a + 1) n))) later) ∙ is))
      (cases_Bool (p a))

  pub found_from : (a n e : ℕ) → find p (range_with_len a n) ≡ Some e → a ≤ e
  found_from a zero e is = absurd (none_some e is)
  found_from a (suc n) e is =
      ⊎_elim
      (λ here. omega (arith, the a e (sym (ap (λ b. cond b (Some a) (find p (range_with_len (a + 1) n))) here) ∙ is)))
      (λ later. omega (
        arith,
        found_from (a + 1) n e
            (sym (ap (λ b. cond b (Some a) (find p (range_with_len (a + 1) n))) later) ∙ is),
      ))
      (cases_Bool (p a))

  pub none_before : (a n e i : ℕ) → find p (range_with_len a n) ≡ Some e → a ≤ i → i < e → p i ≡ false
  none_before a zero e i is le less = absurd (none_some e is)
  none_before a (suc n) e i is le less =
      ⊎_elim
      (λ here. absurd (omega (arith, the a e (sym (ap (λ b. cond b (Some a) (find p (range_with_len (a + 1) n))) here) ∙ is), le, less)))
      (λ later. ⊎_elim
      (λ same. let i_is : i ≡ a = same.1 in ap p i_is ∙ later)
      (λ differs. none_before (a + 1) n e i
      (sym (ap (λ b. cond b (Some a) (find p (range_with_len (a + 1) n))) later) ∙ is) (omega (arith, le, differs.1)) less)
      (eqb_tells i a))
      (cases_Bool (p a))

  pub none_found : (a n i : ℕ) → find p (range_with_len a n) ≡ None → a ≤ i → i < a + n → p i ≡ false
  none_found a zero i is le less = absurd (omega (arith, le, less))
  none_found a (suc n) i is le less =
      ⊎_elim
      (λ here. absurd (none_some a (sym (sym (ap (λ b. cond b (Some a) (find p (range_with_len (a + 1) n))) here) ∙ is))))
      (λ later. ⊎_elim
      (λ same. let i_is : i ≡ a = same.1 in ap p i_is ∙ later)
      (λ differs. none_found (a + 1) n i
      (sym (ap (λ b. cond b (Some a) (find p (range_with_len (a + 1) n))) later) ∙ is)
      (omega (arith, le, differs.1)) (omega (arith, less)))
      (eqb_tells i a))
      (cases_Bool (p a))

index_is : (j : ℕ) (o : Option ℕ) → is_index j o ≡ true → o ≡ Some j
index_is j None is = absurd (false≢true is)
index_is j (Some i) is = ap (λ n. Some n) (eqb-true i j is)

module _ (xs : List Item) (b : ℕ) where
  -- the innermost bracket is open
  pub top_open : (k j : ℕ) → innermost xs k ≡ Some j → has j (opened xs k) ≡ true
  top_open k j is = ap (has j) (top_is xs k j is).all ∙ has_first j (opened xs j)

  -- ---- the statement of a `for`
  -- the nearest `for` in a bracket whose statement goes on
  pub record Goes (j f k : ℕ) : Type 0 where
    pub begins : begins_on xs j f ≡ true
    pub less : f < k
    pub on : (i : ℕ) → f < i → i < k → ends_on xs b j i ≡ false

  pub goes_is : (j f k : ℕ) → for_before xs b j k ≡ Some f → Goes j f k
  unfolding for_before
  goes_is j f zero is = absurd (none_some f is)
  goes_is j f (suc k) is =
      ⊎_elim
      (λ here. let same : k ≡ f
      = the k f (sym (ap (λ c. cond c (Some k) (cond (ends_on xs b j k) None (for_before xs b j k))) here) ∙ is) in
      record {
        begins = ap (begins_on xs j) (sym same) ∙ here;
        less = omega (arith, same);
        on = λ i over less. absurd (omega (arith, over, less, same));
      })
      (λ later. let rest : cond (ends_on xs b j k) None (for_before xs b j k) ≡ Some f
      = sym (ap (λ c. cond c (Some k) (cond (ends_on xs b j k) None (for_before xs b j k))) later) ∙ is in
      ⊎_elim
      (λ ends. absurd (none_some f (sym (ap (λ c. cond c None (for_before xs b j k)) ends) ∙ rest)))
      (λ on. let g = goes_is j f k (sym (ap (λ c. cond c None (for_before xs b j k)) on) ∙ rest) in
      record {
        begins = g.begins;
        less = omega (arith, g.less);
        on = λ i over less. ⊎_elim
            (λ same. let i_is : i ≡ k = same.1 in ap (ends_on xs b j) i_is ∙ on)
            (λ differs. g.on i over (omega (arith, less, differs.1)))
            (eqb_tells i k);
      })
      (cases_Bool (ends_on xs b j k)))
      (cases_Bool (begins_on xs j k))

  pub record Later (j f k : ℕ) : Type 0 where
    pub nearest : ℕ
    pub is : for_before xs b j k ≡ Some nearest
    pub le : f ≤ nearest

  pub later_is : (j f k : ℕ) → Goes j f k → Later j f k
  unfolding for_before
  later_is j f zero g = absurd (omega (arith, g.less))
  later_is j f (suc k) g =
      ⊎_elim
      (λ here. record {
        nearest = k;
        is = ap (λ c. cond c (Some k) (cond (ends_on xs b j k) None (for_before xs b j k))) here;
        le = omega (arith, g.less);
      })
      (λ isnt. ⊎_elim
      (λ same. let f_is : f ≡ k = same.1 in
      absurd (false≢true (sym isnt ∙ ap (begins_on xs j) (sym f_is) ∙ g.begins)))
      (λ differs. let over : f < k = omega (arith, g.less, differs.1) in
      let rest = later_is j f k (record {
        begins = g.begins;
        less = over;
        on = λ i i_over i_less. g.on i i_over (omega (arith, i_less));
      }) in
      record {
        nearest = rest.nearest;
        is = ap (λ c. cond c (Some k) (cond (ends_on xs b j k) None (for_before xs b j k))) isnt
            ∙ ap (λ c. cond c None (for_before xs b j k)) (g.on k over (omega arith)) ∙ rest.is;
        le = rest.le;
      })
      (eqb_tells f k))
      (cases_Bool (begins_on xs j k))

  -- where a statement ends on the level of a bracket, that is open
  pub end_open : (j e : ℕ) → ends_on xs b j e ≡ true → has j (opened xs e) ≡ true
  end_open j e is = by (closed_at xs e) refl (index_is j (level_of xs e) (and_parts (ends_for xs b e) (is_index j (level_of xs e)) is).1)
    where
      by : (o : Option ℕ) → closed_at xs e ≡ o → option_map_or (λ c. innermost xs c) o (innermost xs e) ≡ Some j
          → has j (opened xs e) ≡ true
      by None o_is level = top_open e j level
      by (Some c) o_is level = within xs e j c (closed_is xs e c o_is).held (top_open c j level)

  -- a sign that is neither a `;` nor a `}` ends no statement
  not_end : (j e : ℕ) → (sign xs e == 59) ≡ false → (sign xs e == 125) ≡ false → ends_on xs b j e ≡ false
  not_end j e semi brace =
      (λ i. ((semi i || (brace i && option_map_or (λ c. is_block (kind_at xs b c)) (partner xs e) false))
      && not (is_else (at xs (suc e)).word)) && is_index j (level_of xs e))

  plain_no_end : (j e : ℕ) → sign xs e ≡ 0 → ends_on xs b j e ≡ false
  plain_no_end j e is = not_end j e (ap (λ n. n == 59) is) (ap (λ n. n == 125) is)

  opening_no_end : (j e : ℕ) → opens xs e ≡ true → ends_on xs b j e ≡ false
  opening_no_end j e op = not_end j e (by 59 refl) (by 125 refl)
    where
      by : (n : ℕ) → (n == 40 || n == 91 || n == 123) ≡ false → (sign xs e == n) ≡ false
      by n closed =
          ⊎_elim
          (λ is. absurd (false≢true (sym closed ∙ ap (λ m. m == 40 || m == 91 || m == 123) (sym (eqb-true (sign xs e) n is)) ∙ op)))
          (λ isnt. isnt)
          (cases_Bool (sign xs e == n))

  -- behind a token that is no sign the same is open
  plain_opened : (f : ℕ) → sign xs f ≡ 0 → opened xs (suc f) ≡ opened xs f
  unfolding opened
  plain_opened f is =
      ap (λ n. cond (n == 40 || n == 91 || n == 123) (f ∷ opened xs f)
      (cond (n == 125 && (at xs f).token.token.starts_line) []
      (option_map_or (λ j. beyond j (opened xs f))
      (cond (n == 41) (nearest 40 xs (opened xs f)) (cond (n == 93) (nearest 91 xs (opened xs f))
      (cond (n == 125 && (at xs f).token.token.starts_line) (lowest_brace xs (opened xs f))
      (cond (n == 125) (nearest_brace xs (opened xs f)) None)))) (opened xs f)))) is

  plain_shut : (f : ℕ) → sign xs f ≡ 0 → opens xs f ≡ true → ⊥
  plain_shut f is op = false≢true (ap (λ n. n == 40 || n == 91 || n == 123) (sym is) ∙ op)

  -- a block is of braces
  block_brace : (j : ℕ) → is_block (kind_at xs b j) ≡ true → is_at 123 xs j ≡ true
  block_brace j is =
      ⊎_elim
      (λ brace. brace)
      (λ other. absurd (false≢true (ap (λ c. is_block (cond c (kind_in xs b j (opened xs j)) Other)) (sym other) ∙ is)))
      (cases_Bool (is_at 123 xs j))

  -- what is open where a bracket is the innermost is no further in
  in_top : (t j n : ℕ) → innermost xs t ≡ Some j → has n (opened xs t) ≡ true → n ≤ j
  in_top t j n is held =
      ⊎_elim
      (λ same. omega (arith, same))
      (λ around. omega (arith, open_less xs j n around))
      (has_cases j n (opened xs j) (ap (has n) (sym (top_is xs t j is).all) ∙ held))

  -- an index is a token, or a bracket that is open there
  abbrev Here : (k t : ℕ) → Type 0
  Here k t = (t ≡ k) ⊎ (has t (opened xs k) ≡ true)

  here_le : (k t : ℕ) → Here k t → t ≤ k
  here_le k t here = ⊎_elim (λ same. omega (arith, same)) (λ held. omega (arith, open_less xs k t held)) here

  here_open : (k t j : ℕ) → Here k t → innermost xs t ≡ Some j → has j (opened xs k) ≡ true
  here_open k t j here is =
      ⊎_elim
      (λ same. ap (λ n. has j (opened xs n)) (sym same) ∙ top_open t j is)
      (λ held. within xs k j t held (top_open t j is))
      here

  -- ---- the kinds of scopes
  module _ (is_list : ℕ → Bool)
      (lists : (j : ℕ) → is_list j ≡ true → partner xs j ≡ None → ⊥) where
    -- the scope of a bracket that is open
    pub record InBracket (k : ℕ) (s : Scope) : Type 0 where
      pub bracket : ℕ
      pub held : has bracket (opened xs k) ≡ true
      pub kind : (is_block (kind_at xs b bracket) ≡ true)
          ⊎ ((is_block (kind_at xs b bracket) ≡ false) × (for_of xs bracket ≡ None) × (is_list bracket ≡ true))
      pub is : s ≡ scope_of_bracket xs bracket

    -- the scope of a `for` in a block
    pub record InFor (k : ℕ) (s : Scope) : Type 0 where
      pub begin : ℕ
      pub bracket : ℕ
      pub top : ℕ
      pub goes : Goes bracket begin top
      pub plain : sign xs begin ≡ 0
      pub block : is_block (kind_at xs b bracket) ≡ true
      pub inner : innermost xs top ≡ Some bracket
      pub here : Here k top
      pub is : s ≡ scope_of_for xs b begin

    abbrev Kind : ℕ → Scope → Type 0
    Kind k s = (s ≡ whole xs) ⊎ (InBracket k s ⊎ InFor k s)

    begins_parts : (j f : ℕ) → begins_on xs j f ≡ true → (begins_for xs f ≡ true) × (innermost xs f ≡ Some j)
    begins_parts j f is =
        let parts = and_parts (begins_for xs f) (is_index j (innermost xs f)) is in
        (parts.0, index_is j (innermost xs f) parts.1)

    pub record Level (f : ℕ) : Type 0 where
      pub bracket : ℕ
      pub is : innermost xs f ≡ Some bracket
      pub block : is_block (kind_at xs b bracket) ≡ true
      pub plain : sign xs f ≡ 0

    -- a scope that is that of a `for` is one of a word directly in a block
    abbrev Fits : Scope → Type 0
    Fits s = begins_for xs s.first ≡ true → (sign xs s.first == 0 && in_block xs b s.first) ≡ true

    level_is : (f : ℕ) (s : Scope) → s ≡ scope_of_for xs b f → Fits s → begins_for xs f ≡ true → Level f
    level_is f s s_is fits begins = by (innermost xs f) refl parts.1
      where
        parts : ((sign xs f == 0) ≡ true) × (in_block xs b f ≡ true)
        parts = and_parts (sign xs f == 0) (in_block xs b f) (subst Fits s_is fits begins)

        by : (o : Option ℕ) → innermost xs f ≡ o → option_map_or (λ j. is_block (kind_at xs b j)) o false ≡ true → Level f
        by None o_is is = absurd (false≢true is)
        by (Some j) o_is is = record { bracket = j; is = o_is; block = is; plain = eqb-true (sign xs f) 0 parts.0 }

    of_is : (j f : ℕ) → for_of xs j ≡ Some f → (begins_for xs f ≡ true) × (j ≡ suc f)
    unfolding for_of
    of_is zero f is = absurd (none_some f is)
    of_is (suc m) f is =
        ⊎_elim
        (λ here. let same : m ≡ f = the m f (sym (ap (λ c. cond c (Some m) None) here) ∙ is) in
        (ap (begins_for xs) (sym same) ∙ here, ap (λ n. suc n) same))
        (λ isnt. absurd (none_some f (sym (ap (λ c. cond c (Some m) None) isnt) ∙ is)))
        (cases_Bool (begins_for xs m))

    -- what the parts of a scope are chosen by
    abbrev listed : ℕ → List ℕ → Scope
    listed j around = cond (is_list j) (scope_of_bracket xs j) (scope_in is_list xs b j around)

    abbrev blocked : (k j : ℕ) → Scope
    blocked k j = option_map_or (scope_of_for xs b) (for_before xs b j k) (scope_of_bracket xs j)

    abbrev other : ℕ → List ℕ → Scope
    other j around = option_map_or (scope_of_for xs b) (for_of xs j) (listed j around)

    kind_in_is : (k t : ℕ) (js : List ℕ) → Chain xs t js → opened xs t ≡ js → Here k t → Fits (scope_in is_list xs b t js)
        → Kind k (scope_in is_list xs b t js)
    unfolding scope_in Chain
    kind_in_is k t [] c is here fits = inl refl
    kind_in_is k t (j ∷ around) c is here fits =
        ⊎_elim
        (λ block. of_block block (for_before xs b j t) refl)
        (λ unblocked. of_other (λ held rest. kind_in_is k j around c.3 (sym c.2) (inr held) rest) unblocked (for_of xs j) refl)
        (cases_Bool (is_block (kind_at xs b j)))
      where
        inner : innermost xs t ≡ Some j
        inner = ap (λ l. slice_get l 0) is

        held : has j (opened xs k) ≡ true
        held = here_open k t j here inner

        of_block : is_block (kind_at xs b j) ≡ true → (o : Option ℕ) → for_before xs b j t ≡ o
            → Kind k (cond (is_block (kind_at xs b j)) (blocked t j) (other j around))
        of_block block None o_is =
            inr (inl (record {
              bracket = j;
              held = held;
              kind = inl block;
              is = ap (λ c. cond c (blocked t j) (other j around)) block
                  ∙ ap (λ o. option_map_or (scope_of_for xs b) o (scope_of_bracket xs j)) o_is;
            }))
        of_block block (Some f) o_is =
            let g = goes_is j f t o_is in
            let path : cond (is_block (kind_at xs b j)) (blocked t j) (other j around) ≡ scope_of_for xs b f
            = ap (λ c. cond c (blocked t j) (other j around)) block
            ∙ ap (λ o. option_map_or (scope_of_for xs b) o (scope_of_bracket xs j)) o_is in
            inr (inr (record {
              begin = f;
              bracket = j;
              top = t;
              goes = g;
              plain = (level_is f _ path fits (begins_parts j f g.begins).0).plain;
              block = block;
              inner = inner;
              here = here;
              is = path;
            }))

        of_list : (has j (opened xs k) ≡ true → Fits (scope_in is_list xs b j around) → Kind k (scope_in is_list xs b j around))
            → is_block (kind_at xs b j) ≡ false → for_of xs j ≡ None
            → Kind k (cond (is_block (kind_at xs b j)) (blocked t j) (other j around))
        of_list outer unblocked none =
            let path : cond (is_block (kind_at xs b j)) (blocked t j) (other j around) ≡ listed j around
            = ap (λ c. cond c (blocked t j) (other j around)) unblocked
            ∙ ap (λ o. option_map_or (scope_of_for xs b) o (listed j around)) none in
            ⊎_elim
            (λ list. inr (inl (record {
              bracket = j;
              held = held;
              kind = inr (unblocked, none, list);
              is = path ∙ ap (λ c. cond c (scope_of_bracket xs j) (scope_in is_list xs b j around)) list;
            })))
            (λ isnt. let out : cond (is_block (kind_at xs b j)) (blocked t j) (other j around) ≡ scope_in is_list xs b j around
            = path ∙ ap (λ c. cond c (scope_of_bracket xs j) (scope_in is_list xs b j around)) isnt in
            subst (Kind k) (sym out) (outer held (subst Fits out fits)))
            (cases_Bool (is_list j))

        of_other : (has j (opened xs k) ≡ true → Fits (scope_in is_list xs b j around) → Kind k (scope_in is_list xs b j around))
            → is_block (kind_at xs b j) ≡ false → (o : Option ℕ) → for_of xs j ≡ o
            → Kind k (cond (is_block (kind_at xs b j)) (blocked t j) (other j around))
        of_other outer unblocked None o_is = of_list outer unblocked o_is
        of_other outer unblocked (Some f) o_is =
            let o = of_is j f o_is in
            let j_is : j ≡ suc f = o.1 in
            let path : cond (is_block (kind_at xs b j)) (blocked t j) (other j around) ≡ scope_of_for xs b f
            = ap (λ c. cond c (blocked t j) (other j around)) unblocked
            ∙ ap (λ o. option_map_or (scope_of_for xs b) o (listed j around)) o_is in
            let level = level_is f _ path fits o.0 in
            inr (inr (record {
              begin = f;
              bracket = level.bracket;
              top = j;
              goes = record {
                begins = and_from (begins_for xs f) (is_index level.bracket (innermost xs f)) o.0
                    (ap (is_index level.bracket) level.is ∙ self level.bracket);
                less = omega (arith, j_is);
                on = λ i over less. absurd (omega (arith, over, less, j_is));
              };
              plain = level.plain;
              block = level.block;
              inner = ap (λ n. innermost xs n) j_is ∙ ap (λ l. slice_get l 0) (plain_opened f level.plain) ∙ level.is;
              here = inr held;
              is = path;
            }))

    kind_is : (k : ℕ) → Fits (scope_at is_list xs b k) → Kind k (scope_at is_list xs b k)
    kind_is k fits = kind_in_is k k (opened xs k) (chain_of xs k) refl (inl refl) fits

    -- ---- where the statement of a `for` ends
    last_is : (f j : ℕ) → innermost xs f ≡ Some j
        → (scope_of_for xs b f).last ≡ or_last xs (option_or (first_end xs b j f) (end_of xs (j ∷ opened xs j)))
    last_is f j is =
        (λ i. or_last xs (option_or (option_map_or (λ n. first_end xs b n f) (is i) None) (end_of xs ((top_is xs f j is).all i))))

    pub record Still (f j k : ℕ) : Type 0 where
      pub held : has j (opened xs k) ≡ true
      pub on : (i : ℕ) → f < i → i < k → ends_on xs b j i ≡ false

    -- up to there its bracket is open, and no statement on its level ends
    still_is : (f j k : ℕ) → innermost xs f ≡ Some j → is_at 123 xs j ≡ true → f < k → k < length xs
        → k ≤ (scope_of_for xs b f).last → Still f j k
    still_is f j k is brace over less le = by (first_end xs b j f) refl
      where
        j_less : j < f
        j_less = (top_is xs f j is).less

        by : (o : Option ℕ) → first_end xs b j f ≡ o → Still f j k
        by (Some e) o_is =
            let k_le : k ≤ e = omega (
              arith,
              le,
              last_is f j is ∙ ap (λ o. or_last xs (option_or o (end_of xs (j ∷ opened xs j)))) o_is,
            ) in
            record {
              held = was_open xs e j k
                  (end_open j e (found_is (ends_on xs b j) f (length xs - f) e o_is)) (omega (arith, j_less, over)) k_le;
              on = λ i i_over i_less.
                  none_before (ends_on xs b j) f (length xs - f) e i o_is (omega (arith, i_over)) (omega (arith, i_less, k_le));
            }
        by None o_is =
            record {
              held = open_until xs j k (top_is xs f j is).opening (inl brace) (omega (arith, j_less, over)) less
                  (omega (arith, le, last_is f j is ∙ ap (λ o. or_last xs (option_or o (end_of xs (j ∷ opened xs j)))) o_is));
              on = λ i i_over i_less.
                  none_found (ends_on xs b j) f (length xs - f) i o_is (omega (arith, i_over)) (omega (arith, i_over, i_less, less));
            }

    -- ---- a token is in the scope around it
    -- no statement ends on the level of a `for` before a token in it
    not_passed : (k j f top e : ℕ) → Goes j f top → sign xs f ≡ 0 → innermost xs top ≡ Some j → Here k top
        → f ≤ e → e < k → ends_on xs b j e ≡ true → ⊥
    not_passed k j f top e g plain inner here from less ends =
        ⊎_elim
        (λ same. let e_is : e ≡ f = same.1 in
        false≢true (sym (ap (ends_on xs b j) e_is ∙ plain_no_end j f plain) ∙ ends))
        (λ behind. ⊎_elim
        (λ le. ⊎_elim
        (λ at_k. omega (arith, at_k, le.1, less))
        (λ held. ⊎_elim
        (λ same. let e_is : e ≡ top = same.1 in
        false≢true (sym (ap (ends_on xs b j) e_is ∙ opening_no_end j top (open_opens xs k top held)) ∙ ends))
        (λ further. let over : top < e = omega (arith, le.1, further.1) in
        level over held (was_open xs k top e held over (omega (arith, less))) (closed_at xs e) refl
        (index_is j (level_of xs e) (and_parts (ends_for xs b e) (is_index j (level_of xs e)) ends).1))
        (eqb_tells e top))
        here)
        (λ before. false≢true (sym (g.on e (omega (arith, from, behind.1)) before.1) ∙ ends))
        (leb_tells top e))
        (eqb_tells e f)
      where
        j_less : j < top
        j_less = (top_is xs top j inner).less

        level : top < e → has top (opened xs k) ≡ true → has top (opened xs e) ≡ true → (o : Option ℕ) → closed_at xs e ≡ o
            → option_map_or (λ c. innermost xs c) o (innermost xs e) ≡ Some j → ⊥
        level over held_k held None o_is is = omega (arith, in_top e j top is held, j_less)
        level over held_k held (Some c) o_is is =
            ⊎_elim
            (λ same. let c_is : c ≡ top = same.1 in
            omega (arith, c_is, closes_open xs e c top o_is (was_open xs k top (suc e) held_k (omega (arith, over)) (omega (arith, less)))))
            (λ differs. ⊎_elim
            (λ le. omega (
              arith,
              (top_is xs c j is).less,
              in_top top j c inner (under xs e c top held (closed_is xs e c o_is).held (omega (arith, le.1, differs.1))),
            ))
            (λ inside. omega (arith, j_less, in_top c j top is (under xs e top c (closed_is xs e c o_is).held held inside.1)))
            (leb_tells c top))
            (eqb_tells c top)

    in_own_for : (k : ℕ) (s : Scope) → k < length xs → InFor k s → k ≤ s.last
    in_own_for k s less r = by (first_end xs b r.bracket r.begin) refl
      where
        level : innermost xs r.begin ≡ Some r.bracket
        level = (begins_parts r.bracket r.begin r.goes.begins).1

        by : (o : Option ℕ) → first_end xs b r.bracket r.begin ≡ o → k ≤ s.last
        by (Some e) o_is =
            let last : s.last ≡ e = ap (λ (x : Scope). x.last) r.is ∙ last_is r.begin r.bracket level
            ∙ ap (λ o. or_last xs (option_or o (end_of xs (r.bracket ∷ opened xs r.bracket)))) o_is in
            ⊎_elim
            (λ le. omega (arith, le.1, last))
            (λ passed. absurd (not_passed k r.bracket r.begin r.top e r.goes r.plain r.inner r.here
            (found_from (ends_on xs b r.bracket) r.begin (length xs - r.begin) e o_is) passed.1
            (found_is (ends_on xs b r.bracket) r.begin (length xs - r.begin) e o_is)))
            (leb_tells k e)
        by None o_is =
            let last : s.last ≡ or_last xs (end_of xs (r.bracket ∷ opened xs r.bracket))
            = ap (λ (x : Scope). x.last) r.is ∙ last_is r.begin r.bracket level
            ∙ ap (λ o. or_last xs (option_or o (end_of xs (r.bracket ∷ opened xs r.bracket)))) o_is in
            omega (arith, last, not_behind xs k r.bracket less (here_open k r.top r.bracket r.here r.inner))

    pub in_own : (k : ℕ) → Fits (scope_at is_list xs b k) → k < length xs → k ≤ (scope_at is_list xs b k).last
    in_own k fits less =
        ⊎_elim
        (λ is. omega (arith, ap (λ (x : Scope). x.last) is, less))
        (λ more. ⊎_elim
        (λ (r : InBracket k (scope_at is_list xs b k)).
        omega (arith, ap (λ (x : Scope). x.last) r.is, not_behind xs k r.bracket less r.held))
        (λ r. in_own_for k (scope_at is_list xs b k) less r)
        more)
        (kind_is k fits)

    -- ---- scopes nest
    -- the scope around a token begins no further out than an index, if that holds of all brackets from a
    -- bracket inwards
    module _ (k low j : ℕ) (inside : (i : ℕ) → has i (opened xs k) ≡ true → j < i → low < i)
        (there : (t : ℕ) → innermost xs t ≡ Some j → Here k t → low ≤ (scope_in is_list xs b t (j ∷ opened xs j)).first) where
      walk : (t : ℕ) (js : List ℕ) → Chain xs t js → opened xs t ≡ js → Here k t → has j js ≡ true
          → low ≤ (scope_in is_list xs b t js).first
      unfolding scope_in Chain
      walk t [] c is here held = absurd (has_none j held)
      walk t (i ∷ around) c is here held =
          ⊎_elim
          (λ same. let path : scope_in is_list xs b t (j ∷ opened xs j) ≡ scope_in is_list xs b t (i ∷ around)
          = ap (scope_in is_list xs b t)
          ((λ n. sym same n ∷ opened xs (sym same n)) ∙ ap (λ l. i ∷ l) (sym c.2)) in
          omega (arith, there t (ap (λ l. slice_get l 0) is ∙ ap (λ n. Some n) same) here, ap (λ (x : Scope). x.first) path))
          (λ later. ⊎_elim
          (λ block. of_block block (for_before xs b i t) refl (over later))
          (λ unblocked. of_other (λ i_held. walk i around c.3 (sym c.2) (inr i_held) later) unblocked (for_of xs i) refl (over later))
          (cases_Bool (is_block (kind_at xs b i))))
          (has_cases i j around held)
        where
          i_held : has i (opened xs k) ≡ true
          i_held = here_open k t i here (ap (λ l. slice_get l 0) is)

          over : has j around ≡ true → low < i
          over later = inside i i_held (chain_less c.3 later)
            where
              chain_less : Chain xs i around → has j around ≡ true → j < i
              chain_less ch h = chain_has xs i j around ch h

          first_is : {s r : Scope} → s ≡ r → s.first ≡ r.first
          first_is e = ap (λ (x : Scope). x.first) e

          of_block : is_block (kind_at xs b i) ≡ true → (o : Option ℕ) → for_before xs b i t ≡ o → low < i
              → low ≤ (cond (is_block (kind_at xs b i)) (blocked t i) (other i around)).first
          of_block block None o_is less =
              omega (
                arith,
                less,
                first_is (ap (λ c. cond c (blocked t i) (other i around)) block
                    ∙ ap (λ o. option_map_or (scope_of_for xs b) o (scope_of_bracket xs i)) o_is),
              )
          of_block block (Some f) o_is less =
              omega (
                arith,
                less,
                (top_is xs f i (begins_parts i f (goes_is i f t o_is).begins).1).less,
                first_is (ap (λ c. cond c (blocked t i) (other i around)) block
                    ∙ ap (λ o. option_map_or (scope_of_for xs b) o (scope_of_bracket xs i)) o_is),
              )

          of_other : (has i (opened xs k) ≡ true → low ≤ (scope_in is_list xs b i around).first)
              → is_block (kind_at xs b i) ≡ false → (o : Option ℕ) → for_of xs i ≡ o → low < i
              → low ≤ (cond (is_block (kind_at xs b i)) (blocked t i) (other i around)).first
          of_other outer unblocked (Some f) o_is less =
              omega (
                arith,
                less,
                (of_is i f o_is).1,
                first_is (ap (λ c. cond c (blocked t i) (other i around)) unblocked
                    ∙ ap (λ o. option_map_or (scope_of_for xs b) o (listed i around)) o_is),
              )
          of_other outer unblocked None o_is less =
              ⊎_elim
              (λ list. omega (
                arith,
                less,
                first_is (ap (λ c. cond c (blocked t i) (other i around)) unblocked
                    ∙ ap (λ o. option_map_or (scope_of_for xs b) o (listed i around)) o_is
                    ∙ ap (λ c. cond c (scope_of_bracket xs i) (scope_in is_list xs b i around)) list),
              ))
              (λ isnt. omega (
                arith,
                outer i_held,
                first_is (ap (λ c. cond c (blocked t i) (other i around)) unblocked
                    ∙ ap (λ o. option_map_or (scope_of_for xs b) o (listed i around)) o_is
                    ∙ ap (λ c. cond c (scope_of_bracket xs i) (scope_in is_list xs b i around)) isnt),
              ))
              (cases_Bool (is_list i))

      at_least : has j (opened xs k) ≡ true → low ≤ (scope_at is_list xs b k).first
      at_least held = walk k (opened xs k) (chain_of xs k) refl (inl refl) held

    nested_bracket : (d k : ℕ) (s : Scope) → d ≤ k → k < length xs → k ≤ s.last → InBracket d s
        → s.first ≤ (scope_at is_list xs b k).first
    unfolding scope_in
    nested_bracket d k s le less in_it r =
        omega (
          arith,
          ap (λ (x : Scope). x.first) r.is,
          at_least k j j (λ i held over. over) there
              (open_until xs j k (open_opens xs d j r.held)
              (⊎_elim (λ block. inl (block_brace j block)) (λ list. inr (lists j list.2)) r.kind)
              (omega (arith, open_less xs d j r.held, le)) less (omega (arith, in_it, ap (λ (x : Scope). x.last) r.is))),
        )
      where
        j : ℕ
        j = r.bracket

        there : (t : ℕ) → innermost xs t ≡ Some j → Here k t → j ≤ (scope_in is_list xs b t (j ∷ opened xs j)).first
        there t inner here =
            ⊎_elim
            (λ block. of_block block (for_before xs b j t) refl)
            (λ list. omega (
              arith,
              ap (λ (x : Scope). x.first) (ap (λ c. cond c (blocked t j) (other j (opened xs j))) list.0
                  ∙ ap (λ o. option_map_or (scope_of_for xs b) o (listed j (opened xs j))) list.1
                  ∙ ap (λ c. cond c (scope_of_bracket xs j) (scope_in is_list xs b j (opened xs j))) list.2),
            ))
            r.kind
          where
            of_block : is_block (kind_at xs b j) ≡ true → (o : Option ℕ) → for_before xs b j t ≡ o
                → j ≤ (cond (is_block (kind_at xs b j)) (blocked t j) (other j (opened xs j))).first
            of_block block None o_is =
                omega (
                  arith,
                  ap (λ (x : Scope). x.first) (ap (λ c. cond c (blocked t j) (other j (opened xs j))) block
                      ∙ ap (λ o. option_map_or (scope_of_for xs b) o (scope_of_bracket xs j)) o_is),
                )
            of_block block (Some f) o_is =
                omega (
                  arith,
                  (top_is xs f j (begins_parts j f (goes_is j f t o_is).begins).1).less,
                  ap (λ (x : Scope). x.first) (ap (λ c. cond c (blocked t j) (other j (opened xs j))) block
                      ∙ ap (λ o. option_map_or (scope_of_for xs b) o (scope_of_bracket xs j)) o_is),
                )

    nested_for : (d k : ℕ) (s : Scope) → d ≤ k → k < length xs → k ≤ s.last → InFor d s
        → s.first ≤ (scope_at is_list xs b k).first
    unfolding scope_in
    nested_for d k s le less in_it r =
        omega (arith, ap (λ (x : Scope). x.first) r.is, at_least k f j inside there still.held)
      where
        f : ℕ
        f = r.begin

        j : ℕ
        j = r.bracket

        level : innermost xs f ≡ Some j
        level = (begins_parts j f r.goes.begins).1

        f_less : f < k
        f_less = omega (arith, r.goes.less, here_le d r.top r.here, le)

        still : Still f j k
        still = still_is f j k level (block_brace j r.block) f_less less (omega (arith, in_it, ap (λ (x : Scope). x.last) r.is))

        inside : (i : ℕ) → has i (opened xs k) ≡ true → j < i → f < i
        inside i held over =
            ⊎_elim
            (λ same. let i_is : i ≡ f = same.1 in
            absurd (plain_shut f r.plain (ap (opens xs) (sym i_is) ∙ open_opens xs k i held)))
            (λ differs. ⊎_elim
            (λ i_le. absurd (omega (
              arith,
              over,
              in_top f j i level (was_open xs k i f held (omega (arith, i_le.1, differs.1)) (omega (arith, f_less))),
            )))
            (λ behind. behind.1)
            (leb_tells i f))
            (eqb_tells i f)

        there : (t : ℕ) → innermost xs t ≡ Some j → Here k t → f ≤ (scope_in is_list xs b t (j ∷ opened xs j)).first
        there t inner here =
            let behind : f < t = ⊎_elim
            (λ same. omega (arith, same, f_less))
            (λ held. inside t held (top_is xs t j inner).less)
            here in
            let l = later_is j f t (record {
              begins = r.goes.begins;
              less = behind;
              on = λ i over i_less. still.on i over (omega (arith, i_less, here_le k t here));
            }) in
            omega (
              arith,
              l.le,
              ap (λ (x : Scope). x.first) (ap (λ c. cond c (blocked t j) (other j (opened xs j))) r.block
                  ∙ ap (λ o. option_map_or (scope_of_for xs b) o (scope_of_bracket xs j)) l.is),
            )

    -- the scope around a token that is seen at another one behind it begins no further in than the
    -- scope around that one
    pub nested : (d k : ℕ) → Fits (scope_at is_list xs b d) → d ≤ k → k < length xs → k ≤ (scope_at is_list xs b d).last
        → (scope_at is_list xs b d).first ≤ (scope_at is_list xs b k).first
    nested d k fits le less in_it =
        ⊎_elim
        (λ is. omega (arith, ap (λ (x : Scope). x.first) is))
        (λ more. ⊎_elim
        (λ r. nested_bracket d k (scope_at is_list xs b d) le less in_it r)
        (λ r. nested_for d k (scope_at is_list xs b d) le less in_it r)
        more)
        (kind_is d fits)
