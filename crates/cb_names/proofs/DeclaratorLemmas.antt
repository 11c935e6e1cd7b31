-- What is found in declarations, one step further.
use Rattle.std.proofs.Common.{◌≡◌, ◌∙◌, ◌+◌, ◌-◌, ◌<◌, ◌≤◌, ◌++◌, [], ℕ, zero, suc, Bool, true, false, List}
use Rattle.std.proofs.Common.{refl, sym, ap, arith, length, take}
use Rattle.std.proofs.lemmas.Bool.{le-ltb, lt-ltb}
use Rattle.std.proofs.lemmas.List.{append_assoc, append-nil}
use Rattle.std.specs.Prelude.{◌&&◌, cond, drop, nat_lt}
use Rattle.cb_scan.specs.Bytes.{comma}
use Rattle.cb_names.specs.Declarators.{Finding, behind_pair, both, comma_from, found_in_parameter, found_in_parameters}
use Rattle.cb_names.specs.Declarators.{found_in_part, found_in_parts, if_so, is_kept, is_stop, is_stray_part, next_token}
use Rattle.cb_names.specs.Declarators.{nothing, part_len, stop_from, tokens_from}
use Rattle.cb_names.specs.Pairs.{innermost, is_at, is_index}
use Rattle.cb_names.specs.declared.word.Item.{Item}

pub fuel : (n s : ℕ) → s < n → n - s ≡ suc (n - (s + 1))
fuel n s less = omega (arith, less)

-- ---- what is found
pub both_nothing : (f : Finding) → both f nothing ≡ f
both_nothing f = (λ i. record { names = append-nil f.names i; lists = append-nil f.lists i })

pub both_assoc : (f g h : Finding) → both (both f g) h ≡ both f (both g h)
both_assoc f g h = (λ i. record {
  names = append_assoc f.names g.names h.names i;
  lists = append_assoc f.lists g.lists h.lists i;
})

module _ (xs : List Item) where
  -- ---- the end of a declaration
  pub stop_here : (n s k : ℕ) → s < n → k < length xs → is_stop xs k ≡ true → stop_from xs (n - s) k ≡ k
  unfolding stop_from
  stop_here n s k less within is =
      ap (λ f. stop_from xs f k) (fuel n s less)
      ∙ (λ i. cond (lt-ltb k (length xs) within i) (cond (is i) k (stop_from xs (n - (s + 1)) (behind_pair xs k))) k)

  pub stop_next : (n s k : ℕ) → s < n → k < length xs → is_stop xs k ≡ false
      → stop_from xs (n - s) k ≡ stop_from xs (n - (s + 1)) (behind_pair xs k)
  unfolding stop_from
  stop_next n s k less within isnt =
      ap (λ f. stop_from xs f k) (fuel n s less)
      ∙ (λ i. cond (lt-ltb k (length xs) within i) (cond (isnt i) k (stop_from xs (n - (s + 1)) (behind_pair xs k))) k)

  -- ---- its tokens
  pub tokens_done : (end f k : ℕ) → end ≤ k → tokens_from xs end f k ≡ []
  unfolding tokens_from
  tokens_done end zero k over = refl
  tokens_done end (suc f) k over =
      ap (λ b. cond b (if_so (is_kept xs k) k ++ tokens_from xs end f (next_token xs k)) []) (le-ltb k end over)

  pub tokens_next : (end n s k : ℕ) → s < n → k < end
      → tokens_from xs end (n - s) k ≡ if_so (is_kept xs k) k ++ tokens_from xs end (n - (s + 1)) (next_token xs k)
  unfolding tokens_from
  tokens_next end n s k less within =
      ap (λ f. tokens_from xs end f k) (fuel n s less)
      ∙ ap (λ b. cond b (if_so (is_kept xs k) k ++ tokens_from xs end (n - (s + 1)) (next_token xs k)) [])
      (lt-ltb k end within)

  pub tokens_empty : (end f k : ℕ) → f ≡ 0 → tokens_from xs end f k ≡ []
  unfolding tokens_from
  tokens_empty end f k is = ap (λ n. tokens_from xs end n k) is

  -- ---- the commas of a list
  pub comma_done : (j end f k : ℕ) → end ≤ k → comma_from xs j end f k ≡ end
  unfolding comma_from
  comma_done j end zero k over = refl
  comma_done j end (suc f) k over =
      ap (λ b. cond b (cond (is_at comma xs k && is_index j (innermost xs k)) k (comma_from xs j end f (suc k))) end)
      (le-ltb k end over)

  pub comma_empty : (j end f k : ℕ) → f ≡ 0 → comma_from xs j end f k ≡ end
  unfolding comma_from
  comma_empty j end f k is = ap (λ n. comma_from xs j end n k) is

  pub comma_here : (j end n s k : ℕ) → s < n → k < end → (is_at comma xs k && is_index j (innermost xs k)) ≡ true
      → comma_from xs j end (n - s) k ≡ k
  unfolding comma_from
  comma_here j end n s k less within is =
      ap (λ f. comma_from xs j end f k) (fuel n s less)
      ∙ (λ i. cond (lt-ltb k end within i) (cond (is i) k (comma_from xs j end (n - (s + 1)) (suc k))) end)

  pub comma_next : (j end n s k : ℕ) → s < n → k < end → (is_at comma xs k && is_index j (innermost xs k)) ≡ false
      → comma_from xs j end (n - s) k ≡ comma_from xs j end (n - (s + 1)) (suc k)
  unfolding comma_from
  comma_next j end n s k less within isnt =
      ap (λ f. comma_from xs j end f k) (fuel n s less)
      ∙ (λ i. cond (lt-ltb k end within i) (cond (isnt i) k (comma_from xs j end (n - (s + 1)) (suc k))) end)

  -- ---- its parameters
  pub parameters_last : (j end n s k c : ℕ) → s < n → c ≡ comma_from xs j end end k → end ≤ c
      → found_in_parameters xs j end (n - s) k ≡ found_in_parameter xs k c
  unfolding found_in_parameters
  parameters_last j end n s k c less is over =
      ap (λ f. found_in_parameters xs j end f k) (fuel n s less)
      ∙ ap (λ c. both (found_in_parameter xs k c)
      (cond (nat_lt c end) (found_in_parameters xs j end (n - (s + 1)) (suc c)) nothing)) (sym is)
      ∙ ap (λ b. both (found_in_parameter xs k c)
      (cond b (found_in_parameters xs j end (n - (s + 1)) (suc c)) nothing)) (le-ltb c end over)
      ∙ both_nothing (found_in_parameter xs k c)

  pub parameters_next : (j end n s k c : ℕ) → s < n → c ≡ comma_from xs j end end k → c < end
      → found_in_parameters xs j end (n - s) k
      ≡ both (found_in_parameter xs k c) (found_in_parameters xs j end (n - (s + 1)) (suc c))
  unfolding found_in_parameters
  parameters_next j end n s k c less is under =
      ap (λ f. found_in_parameters xs j end f k) (fuel n s less)
      ∙ ap (λ c. both (found_in_parameter xs k c)
      (cond (nat_lt c end) (found_in_parameters xs j end (n - (s + 1)) (suc c)) nothing)) (sym is)
      ∙ ap (λ b. both (found_in_parameter xs k c)
      (cond b (found_in_parameters xs j end (n - (s + 1)) (suc c)) nothing)) (lt-ltb c end under)

  pub parameters_empty : (j end f k : ℕ) → f ≡ 0 → found_in_parameters xs j end f k ≡ nothing
  unfolding found_in_parameters
  parameters_empty j end f k is = ap (λ n. found_in_parameters xs j end n k) is

  -- ---- the parts of a declaration
  module _ (of_list : Bool) where
    pub parts_stray : (n s : ℕ) (first : Bool) (ks : List ℕ) (c : ℕ) → s < n → c ≡ part_len xs ks
        → is_stray_part xs (take c ks) ≡ true → found_in_parts xs of_list (n - s) first ks ≡ nothing
    unfolding found_in_parts
    parts_stray n s first ks c less is stray =
        ap (λ f. found_in_parts xs of_list f first ks) (fuel n s less)
        ∙ ap (λ b. cond b nothing (both (found_in_part xs of_list first (take (part_len xs ks) ks))
        (cond (nat_lt (part_len xs ks) (length ks))
        (found_in_parts xs of_list (n - (s + 1)) false (drop (suc (part_len xs ks)) ks)) nothing)))
        (ap (λ m. is_stray_part xs (take m ks)) (sym is) ∙ stray)

    parts_by : (n s : ℕ) (first : Bool) (ks : List ℕ) (c : ℕ) → s < n → c ≡ part_len xs ks
        → is_stray_part xs (take c ks) ≡ false → found_in_parts xs of_list (n - s) first ks
        ≡ both (found_in_part xs of_list first (take c ks)) (cond (nat_lt c (length ks))
        (found_in_parts xs of_list (n - (s + 1)) false (drop (suc c) ks)) nothing)
    unfolding found_in_parts
    parts_by n s first ks c less is plain =
        ap (λ f. found_in_parts xs of_list f first ks) (fuel n s less)
        ∙ ap (λ b. cond b nothing (both (found_in_part xs of_list first (take (part_len xs ks) ks))
        (cond (nat_lt (part_len xs ks) (length ks))
        (found_in_parts xs of_list (n - (s + 1)) false (drop (suc (part_len xs ks)) ks)) nothing)))
        (ap (λ m. is_stray_part xs (take m ks)) (sym is) ∙ plain)
        ∙ ap (λ m. both (found_in_part xs of_list first (take m ks)) (cond (nat_lt m (length ks))
        (found_in_parts xs of_list (n - (s + 1)) false (drop (suc m) ks)) nothing)) (sym is)

    pub parts_last : (n s : ℕ) (first : Bool) (ks : List ℕ) (c : ℕ) → s < n → c ≡ part_len xs ks
        → is_stray_part xs (take c ks) ≡ false → length ks ≤ c
        → found_in_parts xs of_list (n - s) first ks ≡ found_in_part xs of_list first (take c ks)
    parts_last n s first ks c less is plain over =
        parts_by n s first ks c less is plain
        ∙ ap (λ b. both (found_in_part xs of_list first (take c ks))
        (cond b (found_in_parts xs of_list (n - (s + 1)) false (drop (suc c) ks)) nothing)) (le-ltb c (length ks) over)
        ∙ both_nothing (found_in_part xs of_list first (take c ks))

    pub parts_next : (n s : ℕ) (first : Bool) (ks : List ℕ) (c : ℕ) → s < n → c ≡ part_len xs ks
        → is_stray_part xs (take c ks) ≡ false → c < length ks → found_in_parts xs of_list (n - s) first ks
        ≡ both (found_in_part xs of_list first (take c ks)) (found_in_parts xs of_list (n - (s + 1)) false (drop (suc c) ks))
    parts_next n s first ks c less is plain under =
        parts_by n s first ks c less is plain
        ∙ ap (λ b. both (found_in_part xs of_list first (take c ks))
        (cond b (found_in_parts xs of_list (n - (s + 1)) false (drop (suc c) ks)) nothing)) (lt-ltb c (length ks) under)

    pub parts_empty : (f : ℕ) (first : Bool) (ks : List ℕ) → f ≡ 0 → found_in_parts xs of_list f first ks ≡ nothing
    unfolding found_in_parts
    parts_empty f first ks is = ap (λ n. found_in_parts xs of_list n first ks) is
