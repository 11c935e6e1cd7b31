-- The names of a part, and of the function that it declares, are tokens of the part.
use Rattle.std.proofs.Common.{◌≡◌, ℕ, zero, suc, ◌+◌, ◌-◌, ◌<◌, ◌≤◌, Bool, true, false, List, [], ◌∷◌}
use Rattle.std.proofs.Common.{sym, subst, arith, drop, length, Option, Some, None, ⊎_elim}
use Rattle.std.proofs.lemmas.Bool.{cases_Bool, false≢true}
use Rattle.std.proofs.lemmas.List.{reverse-append}
use Rattle.std.specs.Prelude.{◌&&◌, cond, nat_le, filter, not, reverse, slice_get, if◌then◌else◌}
use Rattle.std.specs.List.{AllByRecursion, flat_map, list_any, range_with_len}
use Rattle.std.specs.Option.{MatchOption, option_map, option_map_or, option_or}
use Rattle.cb_scan.specs.declared.rules.wide.called.CalledName.{CalledName}
use Rattle.cb_scan.specs.declared.rules.wide.token.WideToken.{WideToken}
use Rattle.cb_scan.specs.rules.wide.Declarations.{Part, before_value, has_value}
use Rattle.cb_scan.specs.rules.wide.Levels.{Numbered, is_byte, is_outer_byte, numbered_at}
use Rattle.cb_scan.specs.rules.wide.Names.{after_pointer, begins_with, begins_with_word, called_inside}
use Rattle.cb_scan.specs.rules.wide.Names.{called_name, closes_and_opens, first_of, from_free_name}
use Rattle.cb_scan.specs.rules.wide.Names.{is_candidate, is_trailing, last_index, last_name, last_of, names}
use Rattle.cb_scan.specs.rules.wide.Names.{part_name, tail, tail_begin, tail_name, uncalled_name}
use Rattle.cb_scan.specs.rules.wide.Names.{parts_tail, words_and_stars}
use Rattle.cb_scan.specs.rules.wide.Prototypes.{begins_in_parentheses, called_at, called_pointer}
use Rattle.cb_scan.specs.rules.wide.Prototypes.{declared_at, is_called, is_enclosed, pointer_from}
use Rattle.cb_scan.specs.rules.wide.Prototypes.{prototype_in, prototype_name, tail_prototype}
use Rattle.cb_scan.specs.rules.wide.Prototypes.{uncalled_prototype, wraps_parameters}
use Rattle.cb_scan.specs.rules.wide.Words.{is_wide_name}
use Rattle.cb_scan.proofs.WithinLemmas.{all-append, all-take}

module _ (P : WideToken → Type 0) where
  -- all of some tokens have it, and a token has it if there is one
  abbrev pub All : List Numbered → Type 0
  All xs = AllByRecursion (λ (m : Numbered). P m.item) xs

  abbrev pub If : Option WideToken → Type 0
  If o = MatchOption o (Unit {0}) P

  abbrev Named : Option CalledName → Type 0
  Named o = MatchOption o (Unit {0}) (λ c. P c.name)

  first_if : (xs : List Numbered) → All xs → If (first_of xs)
  first_if [] all = tt
  first_if (x ∷ xs) all = all.0

  last_if : (xs : List Numbered) → All xs → If (last_of xs)
  unfolding last_of
  last_if [] all = tt
  last_if (x ∷ []) all = all.0
  last_if (x ∷ y ∷ xs) all = last_if (y ∷ xs) all.1

  -- ---- a called name
  last_name_if : (words : List Numbered) → All words → Named (last_name words)
  last_name_if words all = by_last (last_of words) (last_if words all)
    where
      by_last : (o : Option WideToken) → If o
          → Named (option_map_or (λ (x : WideToken). if is_wide_name x.role
          then Some (record { name = x; starred = list_any (is_byte 42) words }) else None) o None)
      by_last None has = tt
      by_last (Some x) has =
          elim (is_wide_name x.role) as (λ b. Named (cond b
          (Some (record { name = x; starred = list_any (is_byte 42) words })) None))
          [ true ↦ has | false ↦ tt ]

  inside_if : (xs : List Numbered) → All xs → Named (called_inside xs)
  inside_if xs all =
      let words = words_and_stars xs in
      elim (nat_le 2 (length words) && closes_and_opens (drop (length words) xs)) as
      (λ b. Named (cond b (last_name words) None)) [
        | true ↦ last_name_if words (all-take (λ (m : Numbered). P m.item) _ xs all)
        | false ↦ tt
      ]

  either_named : (a b : Option CalledName) → Named a → Named b → Named (option_or a b)
  either_named None b has_a has_b = has_b
  either_named (Some c) b has_a has_b = has_a

  called_if : (xs : List Numbered) → All xs → Named (called_name xs)
  unfolding called_name
  called_if [] all = tt
  called_if (x ∷ xs) all =
      either_named (if is_outer_byte 40 x then called_inside xs else None) (called_name xs)
      (elim (is_outer_byte 40 x) as (λ b. Named (cond b (called_inside xs) None))
      [ true ↦ inside_if xs all.1 | false ↦ tt ])
      (called_if xs all.1)

  -- ---- a pointer
  pointer_if : (xs : List Numbered) → All xs → MatchOption (after_pointer xs) (Unit {0}) All
  unfolding after_pointer
  pointer_if [] all = tt
  pointer_if (x ∷ xs) all =
      elim (is_outer_byte 40 x && begins_with 42 xs) as
      (λ b. MatchOption (cond b (Some xs) (after_pointer xs)) (Unit {0}) All)
      [ true ↦ all.1 | false ↦ pointer_if xs all.1 ]

  free_all : (xs : List Numbered) → All xs → All (from_free_name xs)
  unfolding from_free_name
  free_all [] all = tt
  free_all (x ∷ xs) all =
      elim (names x && not (begins_with_word xs)) as (λ b. All (cond b (x ∷ xs) (from_free_name xs)))
      [ true ↦ all | false ↦ free_all xs all.1 ]

  -- ---- the tail
  at_index : (xs : List Numbered) (k : ℕ) → k < length xs → All xs → P (numbered_at xs k).item
  at_index [] k less all = absurd (omega arith)
  at_index (x ∷ xs) zero less all = all.0
  at_index (x ∷ xs) (suc k) less all = at_index xs k (omega arith) all.1

  abbrev Below : ℕ → ℕ → Type 0
  Below n k = k < n

  range_below : (n from len : ℕ) → from + len ≤ n → AllByRecursion (Below n) (range_with_len from len)
  range_below n from zero le = tt
  range_below n from (suc len) le = (omega arith, range_below n (from + 1) len (omega arith))

  begin_within : (xs : List Numbered) (k : ℕ) → tail_begin xs k ≤ k
  unfolding tail_begin
  begin_within xs zero = omega arith
  begin_within xs (suc k) =
      let less = begin_within xs k in
      elim (parts_tail (numbered_at xs k)) as (λ b. cond b (suc k) (tail_begin xs k) ≤ suc k)
      [ true ↦ omega arith | false ↦ omega arith ]

  tail_below : (xs : List Numbered) → AllByRecursion (Below (length xs)) (tail xs)
  tail_below xs =
      let n = length xs in
      let less = begin_within xs n in
      range_below n (tail_begin xs n) (n - tail_begin xs n) (omega arith)

  all_filter : {X : Type 0} (Q : X → Type 0) (test : X → Bool) (xs : List X) → AllByRecursion Q xs
      → AllByRecursion Q (filter test xs)
  all_filter Q test [] all = tt
  all_filter Q test (x ∷ xs) all =
      elim (test x) as (λ b. AllByRecursion Q (cond b (x ∷ filter test xs) (filter test xs)))
      [ true ↦ (all.0, all_filter Q test xs all.1) | false ↦ all_filter Q test xs all.1 ]

  all_reverse : {X : Type 0} (Q : X → Type 0) (xs : List X) → AllByRecursion Q xs → AllByRecursion Q (reverse xs)
  all_reverse Q [] all = tt
  all_reverse Q (x ∷ xs) all =
      subst (AllByRecursion Q) (sym (reverse-append (x ∷ []) xs))
      (all-append Q (reverse xs) (x ∷ []) (all_reverse Q xs all.1) (all.0, tt))

  first_has : {X : Type 0} (Q : X → Type 0) (xs : List X) → AllByRecursion Q xs
      → MatchOption (slice_get xs 0) (Unit {0}) Q
  first_has Q [] all = tt
  first_has Q (x ∷ xs) all = all.0

  tail_name_if : (first : Bool) (xs : List Numbered) → All xs → If (tail_name first xs)
  tail_name_if first xs all =
      let ks = filter (λ k. is_candidate first xs k && not (is_trailing first xs k)) (tail xs) in
      by_last (last_index ks)
      (first_has (Below (length xs)) (reverse ks) (all_reverse (Below (length xs)) ks
      (all_filter (Below (length xs)) _ (tail xs) (tail_below xs))))
    where
      by_last : (o : Option ℕ) → MatchOption o (Unit {0}) (Below (length xs))
          → If (option_map (λ k. (numbered_at xs k).item) o)
      by_last None less = tt
      by_last (Some k) less = at_index xs k less all

  -- ---- the name
  pub name_if : (p : Part) → All p.tokens → If (part_name p)
  name_if p all =
      by_called (called_name (before_value p.tokens)) (called_if (before_value p.tokens) some)
    where
      some : All (before_value p.tokens)
      some = all-take (λ (m : Numbered). P m.item) _ p.tokens all

      by_pointer : (o : Option (List Numbered)) → MatchOption o (Unit {0}) All
          → If (option_map_or (λ rest. first_of (from_free_name rest)) o
          (tail_name p.first (before_value p.tokens)))
      by_pointer None has = tail_name_if p.first (before_value p.tokens) some
      by_pointer (Some rest) has = first_if (from_free_name rest) (free_all rest has)

      by_called : (o : Option CalledName) → Named o
          → If (option_map_or (λ called. Some called.name) o
          (uncalled_name p.first (before_value p.tokens)))
      by_called None has = by_pointer (after_pointer (before_value p.tokens)) (pointer_if (before_value p.tokens) some)
      by_called (Some c) has = has

  -- ---- the function that a part declares

  -- the four tokens of a name in parentheses are there
  enclosed_below : (xs : List Numbered) (k : ℕ) → begins_in_parentheses (drop k xs) ≡ true → suc k < length xs
  enclosed_below [] zero is = absurd (false≢true is)
  enclosed_below [] (suc k) is = absurd (false≢true is)
  enclosed_below (a ∷ []) zero is = absurd (false≢true is)
  enclosed_below (a ∷ b ∷ xs) zero is = omega arith
  enclosed_below (x ∷ xs) (suc k) is = let less = enclosed_below xs k is in omega arith

  called_at_if : (xs : List Numbered) (k : ℕ) → k < length xs → All xs → P (called_at xs k)
  called_at_if xs zero less all = at_index xs zero less all
  called_at_if xs (suc k) less all =
      elim (wraps_parameters xs (suc k)) as
      (λ b. P (cond b (numbered_at xs k).item (numbered_at xs (suc k)).item))
      [ true ↦ at_index xs k (omega arith) all | false ↦ at_index xs (suc k) less all ]

  declared_if : (first : Bool) (xs : List Numbered) (k : ℕ) → k < length xs → All xs
      → AllByRecursion P (declared_at first xs k)
  declared_if first xs k less all =
      ⊎_elim
      (λ is.
      subst (λ b. AllByRecursion P (cond b ((numbered_at xs (suc k)).item ∷ [])
      (if is_called first xs k then called_at xs k ∷ [] else []))) (sym is)
      (at_index xs (suc k) (enclosed_below xs k (and_last _ _ is)) all, tt))
      (λ isnt.
      subst (λ b. AllByRecursion P (cond b ((numbered_at xs (suc k)).item ∷ [])
      (if is_called first xs k then called_at xs k ∷ [] else []))) (sym isnt)
      (elim (is_called first xs k) as (λ b. AllByRecursion P (cond b (called_at xs k ∷ []) []))
      [ true ↦ (called_at_if xs k less all, tt) | false ↦ tt ]))
      (cases_Bool (is_enclosed first xs k))
    where
      and_last : (a b : Bool) → (a && b) ≡ true → b ≡ true
      and_last true b is = is
      and_last false b is = absurd (false≢true is)

  all_declared : (first : Bool) (xs : List Numbered) → All xs → (ks : List ℕ)
      → AllByRecursion (Below (length xs)) ks → AllByRecursion P (flat_map (declared_at first xs) ks)
  all_declared first xs all [] less = tt
  all_declared first xs all (k ∷ ks) less =
      all-append P (declared_at first xs k) (flat_map (declared_at first xs) ks)
      (declared_if first xs k less.0 all) (all_declared first xs all ks less.1)

  tail_prototype_if : (first : Bool) (xs : List Numbered) → All xs → If (tail_prototype first xs)
  tail_prototype_if first xs all =
      first_has P (flat_map (declared_at first xs) (tail xs))
      (all_declared first xs all (tail xs) (tail_below xs))

  uncalled_if : (first : Bool) (xs : List Numbered) → All xs → If (uncalled_prototype first xs)
  uncalled_if first xs all =
      by_first (pointer_from xs) (by_pointer (after_pointer xs) (pointer_if xs all))
    where
      by_pointer : (o : Option (List Numbered)) → MatchOption o (Unit {0}) All
          → All (option_map_or from_free_name o [])
      by_pointer None has = tt
      by_pointer (Some rest) has = free_all rest has

      by_first : (ys : List Numbered) → All ys
          → If (option_map_or (λ (name : WideToken). called_pointer ys) (first_of ys)
          (tail_prototype first xs))
      by_first [] has = tail_prototype_if first xs all
      by_first (y ∷ ys) has =
          elim (begins_with 40 ys) as (λ b. If (cond b (Some y.item) None)) [ true ↦ has.0 | false ↦ tt ]

  prototype_in_if : (first : Bool) (xs : List Numbered) → All xs → If (prototype_in first xs)
  prototype_in_if first xs all = by_called (called_name xs) (called_if xs all)
    where
      by_called : (o : Option CalledName) → Named o
          → If (option_map_or (λ (c : CalledName). if c.starred then None else Some c.name) o
          (uncalled_prototype first xs))
      by_called None has = uncalled_if first xs all
      by_called (Some c) has = elim (c.starred) as (λ b. If (cond b None (Some c.name))) [ true ↦ tt | false ↦ has ]

  pub prototype_if : (p : Part) → All p.tokens → If (prototype_name p)
  prototype_if p all =
      elim (has_value p.tokens) as (λ b. If (cond b None (prototype_in p.first p.tokens)))
      [ true ↦ tt | false ↦ prototype_in_if p.first p.tokens all ]
