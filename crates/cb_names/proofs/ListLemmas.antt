-- Each list of parameters that is found in a function pairs.
use Rattle.std.proofs.Common.{◌≡◌, ◌∙◌, ◌⊎◌, ◌∷◌, ◌++◌, [], ℕ, zero, suc, Bool, true, false, List, Option, Some, None}
use Rattle.std.proofs.Common.{⊎_elim, inl, inr, refl, sym, ap, drop, length, take}
use Rattle.std.proofs.lemmas.Bool.{and_parts, eqb-true, false≢true}
use Rattle.std.proofs.lemmas.List.Folds.{list_any-append}
use Rattle.std.specs.Prelude.{◌==◌, ◌||◌, ◌&&◌, cond, nat_lt}
use Rattle.std.specs.Option.{option_map_or}
use Rattle.cb_names.specs.declared.word.Item.{Item}
use Rattle.cb_names.specs.Declarators.{Finding, begins_list, comma_from, found_in_declaration, found_in_list}
use Rattle.cb_names.specs.Declarators.{found_in_parameter, found_in_parameters, found_in_part, found_in_parts, if_so}
use Rattle.cb_names.specs.Declarators.{is_one_of, is_stray_part, lists_behind, lists_in, nothing, part_len, stop, tokens_between}
use Rattle.cb_names.specs.Pairs.{is_at, is_index, partner}
use Rattle.cb_names.specs.Scoped.{begins_declaration, begins_old, contains, found_at, found_before, is_head_list}
use Rattle.cb_names.specs.Scoped.{is_list, own_list}

or_cases : (a b : Bool) → (a || b) ≡ true → (a ≡ true) ⊎ (b ≡ true)
or_cases true b is = inl refl
or_cases false b is = inr is

module _ (xs : List Item) where
  -- each index of a list begins parentheses that pair
  abbrev Pair : List ℕ → Type 0
  Pair ks = (k : ℕ) → contains ks k ≡ true → partner xs k ≡ None → ⊥

  none_pair : Pair []
  none_pair k is = absurd (false≢true is)

  both_pair : (ks ls : List ℕ) → Pair ks → Pair ls → Pair (ks ++ ls)
  both_pair ks ls p q k is =
      ⊎_elim (λ one. p k one) (λ two. q k two)
      (or_cases (contains ks k) (contains ls k) (sym (list_any-append (λ x. x == k) ks ls) ∙ is))

  so_pair : (c : Bool) (n : ℕ) → (c ≡ true → partner xs n ≡ None → ⊥) → Pair (if_so c n)
  so_pair false n pairs k is none = absurd (false≢true is)
  so_pair true n pairs k is none =
      ⊎_elim
      (λ here. pairs refl (ap (partner xs) (eqb-true n k here) ∙ none))
      (λ no. false≢true no)
      (or_cases (n == k) false is)

  cond_pair : (c : Bool) (f g : Finding) → Pair f.lists → Pair g.lists → Pair (cond c f g).lists
  cond_pair true f g p q = p
  cond_pair false f g p q = q

  list_pairs : (name function pointer : Option ℕ) (q p k : ℕ) → begins_list xs name function pointer q p k ≡ true
      → partner xs k ≡ None → ⊥
  list_pairs name function pointer q p k is none =
      false≢true (ap (λ o. option_map_or (λ c. true) o false) (sym none)
      ∙ (and_parts (is_at 40 xs k) paired (and_parts (is_at 40 xs k && paired) placed is).0).1)
    where
      paired : Bool
      paired = option_map_or (λ c. true) (partner xs k) false

      placed : Bool
      placed = is_one_of name function p || (is_at 41 xs p && is_one_of name function q) || is_index p pointer

  behind_pair : (begins : ℕ → ℕ → ℕ → Bool) → ((q p k : ℕ) → begins q p k ≡ true → partner xs k ≡ None → ⊥)
      → (q p : ℕ) (ks : List ℕ) → Pair (lists_behind begins q p ks)
  unfolding lists_behind
  behind_pair begins pairs q p [] = none_pair
  behind_pair begins pairs q p (k ∷ ks) =
      both_pair (if_so (begins q p k) k) (lists_behind begins p k ks) (so_pair (begins q p k) k (pairs q p k))
      (behind_pair begins pairs p k ks)

  in_pair : (name function : Option ℕ) (ks : List ℕ) → Pair (lists_in xs name function ks)
  in_pair name function ks = behind_pair _ (λ q p k is none. list_pairs name function _ q p k is none) _ _ _

  part_pair : (of_list first : Bool) (ks : List ℕ) → Pair (found_in_part xs of_list first ks).lists
  part_pair of_list first ks = in_pair _ _ ks

  parts_pair : (of_list : Bool) (fuel : ℕ) (first : Bool) (ks : List ℕ) → Pair (found_in_parts xs of_list fuel first ks).lists
  unfolding found_in_parts
  parts_pair of_list zero first ks = none_pair
  parts_pair of_list (suc fuel) first ks =
      let n : ℕ = part_len xs ks in
      cond_pair (is_stray_part xs (take n ks)) nothing _ none_pair
      (both_pair _ _ (part_pair of_list first (take n ks))
      (cond_pair (nat_lt n (length ks)) (found_in_parts xs of_list fuel false (drop (suc n) ks)) nothing
      (parts_pair of_list fuel false (drop (suc n) ks)) none_pair))

  declaration_pair : (of_list : Bool) (k : ℕ) → Pair (found_in_declaration xs of_list k).lists
  declaration_pair of_list k =
      let ks : List ℕ = tokens_between xs k (stop xs k) in parts_pair of_list (suc (length ks)) true ks

  parameter_pair : (start end : ℕ) → Pair (found_in_parameter xs start end).lists
  parameter_pair start end = cond_pair _ nothing _ none_pair (part_pair true true _)

  parameters_pair : (j end fuel k : ℕ) → Pair (found_in_parameters xs j end fuel k).lists
  unfolding found_in_parameters
  parameters_pair j end zero k = none_pair
  parameters_pair j end (suc fuel) k =
      let c : ℕ = comma_from xs j end end k in
      both_pair _ _ (parameter_pair k c)
      (cond_pair (nat_lt c end) (found_in_parameters xs j end fuel (suc c)) nothing (parameters_pair j end fuel (suc c)) none_pair)

  of_list_pair : (j : ℕ) → Pair (found_in_list xs j).lists
  of_list_pair j = by (partner xs j)
    where
      by : (o : Option ℕ) → Pair (option_map_or (λ end. found_in_parameters xs j end (suc end) (suc j)) o nothing).lists
      by None = none_pair
      by (Some end) = parameters_pair j end (suc end) (suc j)

  at_pair : (own : Option ℕ) (b : ℕ) (list : Bool) (k : ℕ) → Pair (found_at xs own b list k).lists
  at_pair own b list k =
      cond_pair (begins_declaration xs b k) _ _ (declaration_pair false k)
      (cond_pair (begins_old xs own b k) _ _ (declaration_pair true k)
      (cond_pair (is_head_list xs own b k || list) _ nothing (of_list_pair k) none_pair))

  before_pair : (own : Option ℕ) (b k : ℕ) → Pair (found_before xs own b k).lists
  unfolding found_before
  before_pair own b zero = none_pair
  before_pair own b (suc k) =
      both_pair _ _ (before_pair own b k) (at_pair own b (contains (found_before xs own b k).lists k) k)

  -- a list of parameters that is a scope pairs
  pub lists_pair : (m b k : ℕ) → is_list xs m b k ≡ true → partner xs k ≡ None → ⊥
  lists_pair m b k = before_pair (own_list xs m) b (length xs) k
