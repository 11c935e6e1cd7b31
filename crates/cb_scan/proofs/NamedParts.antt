-- What the wide profile finds as the name of a part is a name by its role.
use Rattle.std.proofs.Common.{◌≡◌, ℕ, zero, suc, cond, sym, Bool, true, false, List, [], ◌∷◌, drop}
use Rattle.std.proofs.Common.{length, refl, Option, Some, None}
use Rattle.std.specs.Prelude.{◌&&◌, filter, if◌then◌else◌, nat_le, not, reverse}
use Rattle.std.specs.List.{AllByRecursion, flat_map}
use Rattle.std.specs.Option.{MatchOption, option_map, option_map_or}
use Rattle.std.proofs.lemmas.Bool.{true≢false}
use Rattle.cb_scan.specs.rules.wide.Declarations.{Part, before_value, has_value}
use Rattle.cb_scan.specs.rules.wide.Levels.{Numbered, is_outer_byte, numbered_at}
use Rattle.cb_scan.specs.rules.wide.Names.{after_pointer, begins_with, begins_with_word}
use Rattle.cb_scan.specs.rules.wide.Names.{called_inside, called_name, closes_and_opens, first_of}
use Rattle.cb_scan.specs.rules.wide.Names.{from_free_name, is_candidate, is_trailing, last_index}
use Rattle.cb_scan.specs.rules.wide.Names.{last_name, last_of, names, part_name, tail, tail_name}
use Rattle.cb_scan.specs.rules.wide.Names.{uncalled_name, words_and_stars}
use Rattle.cb_scan.specs.rules.wide.Prototypes.{begins_in_parentheses, called_at, called_pointer}
use Rattle.cb_scan.specs.rules.wide.Prototypes.{declared_at, is_called, is_enclosed, pointer_from}
use Rattle.cb_scan.specs.rules.wide.Prototypes.{prototype_in, prototype_name, tail_prototype}
use Rattle.cb_scan.specs.rules.wide.Prototypes.{uncalled_prototype, wraps_parameters}
use Rattle.cb_scan.specs.rules.wide.Words.{is_wide_name}
use Rattle.cb_scan.proofs.NamedLists.{all-reverse, and-first, and-second, each-flat, first-has}
use Rattle.cb_scan.proofs.NamedLists.{made-has, mapped-has, or-has, tested, unless-has}

-- ---- a called name
inside-role : (xs : List Numbered)
    → MatchOption (called_inside xs) (Unit {0}) (λ c. is_wide_name c.name.role ≡ true)
inside-role xs =
    let words = words_and_stars xs in
    elim (nat_le 2 (length words) && closes_and_opens (drop (length words) xs)) as
    (λ b. MatchOption (cond b (last_name words) None) (Unit {0})
    (λ c. is_wide_name c.name.role ≡ true))
    [ true ↦ made-has _ (λ x. is_wide_name x.role) _ (λ x is. is) (last_of words) | false ↦ tt ]

called-role : (xs : List Numbered)
    → MatchOption (called_name xs) (Unit {0}) (λ c. is_wide_name c.name.role ≡ true)
unfolding called_name
called-role [] = tt
called-role (x ∷ xs) =
    or-has (λ c. is_wide_name c.name.role ≡ true)
    (if is_outer_byte 40 x then called_inside xs else None) (called_name xs)
    (elim (is_outer_byte 40 x) as (λ b. MatchOption (cond b (called_inside xs) None) (Unit {0})
    (λ c. is_wide_name c.name.role ≡ true)) [ true ↦ inside-role xs | false ↦ tt ])
    (called-role xs)

-- ---- a pointer
free-role : (xs : List Numbered)
    → MatchOption (first_of (from_free_name xs)) (Unit {0}) (λ x. is_wide_name x.role ≡ true)
unfolding from_free_name
free-role [] = tt
free-role (x ∷ xs) =
    (elim (names x && not (begins_with_word xs)) as
    (λ b. (names x && not (begins_with_word xs)) ≡ b
    → MatchOption (first_of (cond b (x ∷ xs) (from_free_name xs))) (Unit {0})
    (λ x. is_wide_name x.role ≡ true))
    [ true ↦ λ is. and-first _ _ is | false ↦ λ _. free-role xs ]) refl

-- ---- the tail
tail-role : (first : Bool) (xs : List Numbered)
    → MatchOption (tail_name first xs) (Unit {0}) (λ x. is_wide_name x.role ≡ true)
tail-role first xs =
    by_last (last_index (filter test (tail xs)))
    (first-has (λ k. test k ≡ true) (reverse (filter test (tail xs)))
    (all-reverse (λ k. test k ≡ true) (filter test (tail xs)) (tested test (tail xs))))
  where
    test : ℕ → Bool
    test k = is_candidate first xs k && not (is_trailing first xs k)

    by_last : (o : Option ℕ) → MatchOption o (Unit {0}) (λ k. test k ≡ true)
        → MatchOption (option_map (λ k. (numbered_at xs k).item) o) (Unit {0})
        (λ x. is_wide_name x.role ≡ true)
    by_last None is = tt
    by_last (Some k) is =
        and-second _ _ (and-first _ _ (and-first _ _ (and-first _ _ (and-first _ _ is))))

-- ---- the name
uncalled-role : (first : Bool) (xs : List Numbered)
    → MatchOption (uncalled_name first xs) (Unit {0}) (λ x. is_wide_name x.role ≡ true)
uncalled-role first xs = by_pointer (after_pointer xs)
  where
    by_pointer : (o : Option (List Numbered))
        → MatchOption (option_map_or (λ rest. first_of (from_free_name rest)) o
        (tail_name first xs)) (Unit {0}) (λ x. is_wide_name x.role ≡ true)
    by_pointer None = tail-role first xs
    by_pointer (Some rest) = free-role rest

pub part-role : (p : Part)
    → MatchOption (part_name p) (Unit {0}) (λ x. is_wide_name x.role ≡ true)
part-role p =
    let xs = before_value p.tokens in
    mapped-has (λ c. is_wide_name c.name.role ≡ true) (λ x. is_wide_name x.role ≡ true) _
    (λ c is. is) (called_name xs) (uncalled_name p.first xs) (called-role xs)
    (uncalled-role p.first xs)

-- ---- the function that a part declares
enclosed-role : (xs : List Numbered) (k : ℕ) → begins_in_parentheses (drop k xs) ≡ true
    → is_wide_name (numbered_at xs (suc k)).item.role ≡ true
enclosed-role [] zero is = absurd (true≢false (sym is))
enclosed-role [] (suc k) is = absurd (true≢false (sym is))
enclosed-role (a ∷ []) zero is = absurd (true≢false (sym is))
enclosed-role (a ∷ b ∷ []) zero is = absurd (true≢false (sym is))
enclosed-role (a ∷ b ∷ c ∷ []) zero is = absurd (true≢false (sym is))
enclosed-role (a ∷ b ∷ c ∷ d ∷ xs) zero is =
    and-second _ _ (and-first _ _ (and-first _ _ is))
enclosed-role (x ∷ xs) (suc k) is = enclosed-role xs k is

called_at-role : (first : Bool) (xs : List Numbered) (k : ℕ) → is_called first xs k ≡ true
    → is_wide_name (called_at xs k).role ≡ true
called_at-role first xs k is =
    by_index k (and-second _ _ (and-first _ _ (and-first _ _ (and-first _ _ (and-first _ _
    (and-first _ _ is))))))
  where
    by_index : (k : ℕ) → names (numbered_at xs k) ≡ true
        → is_wide_name (called_at xs k).role ≡ true
    by_index zero named = named
    by_index (suc k) named =
        (elim (wraps_parameters xs (suc k)) as (λ b. wraps_parameters xs (suc k) ≡ b
        → is_wide_name (cond b (numbered_at xs k).item (numbered_at xs (suc k)).item).role ≡ true)
        [ true ↦ λ wraps. and-first _ _ wraps | false ↦ λ _. named ]) refl

declared-role : (first : Bool) (xs : List Numbered) (k : ℕ)
    → AllByRecursion (λ x. is_wide_name x.role ≡ true) (declared_at first xs k)
declared-role first xs k =
    (elim (is_enclosed first xs k) as (λ b. is_enclosed first xs k ≡ b
    → AllByRecursion (λ x. is_wide_name x.role ≡ true) (cond b ((numbered_at xs (suc k)).item ∷ [])
    (if is_called first xs k then called_at xs k ∷ [] else []))) [
      | true ↦ λ is. (enclosed-role xs k (and-second _ _ is), tt)
      | false ↦ λ _. (elim (is_called first xs k) as (λ b. is_called first xs k ≡ b
          → AllByRecursion (λ x. is_wide_name x.role ≡ true) (cond b (called_at xs k ∷ []) []))
          [ true ↦ λ is. (called_at-role first xs k is, tt) | false ↦ λ _. tt ]) refl
    ]) refl

tail_prototype-role : (first : Bool) (xs : List Numbered)
    → MatchOption (tail_prototype first xs) (Unit {0}) (λ x. is_wide_name x.role ≡ true)
tail_prototype-role first xs =
    first-has (λ x. is_wide_name x.role ≡ true) (flat_map (declared_at first xs) (tail xs))
    (each-flat (λ x. is_wide_name x.role ≡ true) (declared_at first xs) (declared-role first xs)
    (tail xs))

uncalled_prototype-role : (first : Bool) (xs : List Numbered)
    → MatchOption (uncalled_prototype first xs) (Unit {0}) (λ x. is_wide_name x.role ≡ true)
uncalled_prototype-role first xs =
    by_first (pointer_from xs) (by_pointer (after_pointer xs))
  where
    by_pointer : (o : Option (List Numbered))
        → MatchOption (first_of (option_map_or from_free_name o [])) (Unit {0})
        (λ x. is_wide_name x.role ≡ true)
    by_pointer None = tt
    by_pointer (Some rest) = free-role rest

    by_first : (ys : List Numbered)
        → MatchOption (first_of ys) (Unit {0}) (λ x. is_wide_name x.role ≡ true)
        → MatchOption (option_map_or (λ name. called_pointer ys) (first_of ys)
        (tail_prototype first xs)) (Unit {0}) (λ x. is_wide_name x.role ≡ true)
    by_first [] is = tail_prototype-role first xs
    by_first (y ∷ ys) is =
        elim (begins_with 40 ys) as (λ b. MatchOption (cond b (Some y.item) None) (Unit {0})
        (λ x. is_wide_name x.role ≡ true)) [ true ↦ is | false ↦ tt ]

pub prototype-role : (p : Part)
    → MatchOption (prototype_name p) (Unit {0}) (λ x. is_wide_name x.role ≡ true)
prototype-role p =
    let xs = p.tokens in
    elim (has_value xs) as (λ b. MatchOption (cond b None (prototype_in p.first xs)) (Unit {0})
    (λ x. is_wide_name x.role ≡ true)) [
      | true ↦ tt
      | false ↦ unless-has (λ c. is_wide_name c.name.role ≡ true)
          (λ x. is_wide_name x.role ≡ true) _ _ (λ c is. is) (called_name xs)
          (uncalled_prototype p.first xs) (called-role xs) (uncalled_prototype-role p.first xs)
    ]
