-- The names of typedefs are tokens of the code.
use Rattle.std.proofs.Common.{◌≤◌, ◌<◌, ◌+◌, ◌-◌, ℕ, zero, suc, true, false, List, [], ◌∷◌, Option}
use Rattle.std.proofs.Common.{Some, None, length, arith}
use Rattle.std.specs.Prelude.{◌&&◌, ◌||◌, ◌==◌, cond, not}
use Rattle.std.specs.List.{AllByRecursion, flat_map, range_with_len}
use Rattle.std.specs.Option.{MatchOption, option_map_or, option_to_list}
use Rattle.cb_scan.specs.declared.lex.token.Token.{Token}
use Rattle.cb_scan.specs.Definitions.{IsWithin}
use Rattle.cb_scan.specs.rules.Depth.{depth, no_token, token_at}
use Rattle.cb_scan.specs.lex.Tokens.{is_mark, is_name_token}
use Rattle.cb_scan.specs.rules.Typedefs.{Nested, begins_with_star, last_name, name_after_stars}
use Rattle.cb_scan.specs.rules.Typedefs.{nested, nesting_after, part_name, parts, parts_here}
use Rattle.cb_scan.specs.rules.Typedefs.{pointer_name, taken, taken_at, typedef_at, typedef_names}
use Rattle.cb_scan.specs.rules.Typedefs.{typedef_stop, begins_typedef, ends_declaration, typedefs}
use Rattle.cb_scan.proofs.WithinLemmas.{all-append, all-split, found_among}

-- the span of a token lies in the text
abbrev pub SpanWithin : List ℕ → Token → Type 0
SpanWithin text t = IsWithin text t.span

-- ---- places in a list
-- a range up to a bound stays below it
pub range_below : (k n bound : ℕ) → k + n ≤ bound → AllByRecursion (λ j. j < bound) (range_with_len k n)
range_below k zero bound le = tt
range_below k (suc n) bound le = (omega arith, range_below (k + 1) n bound (omega arith))

-- a token of the list, or none after its end
pub at_any : (P : Token → Type 0) (ts : List Token) (k : ℕ) → (length ts ≤ k → P no_token) → AllByRecursion P ts
    → P (token_at ts k)
at_any P [] k none a = none (omega arith)
at_any P (t ∷ ts) zero none a = a.0
at_any P (t ∷ ts) (suc k) none a = at_any P ts k (λ past. none (omega arith)) a.1

-- ---- typedefs
pub all_taken : (P : Token → Type 0) (ts : List Token) (k n : ℕ) → k + n ≤ length ts → AllByRecursion P ts
    → AllByRecursion P (flat_map (taken_at ts) (range_with_len k n))
all_taken P ts k zero within a = tt
all_taken P ts k (suc n) within a =
    all-append P (taken_at ts k) (flat_map (taken_at ts) (range_with_len (k + 1) n))
    (elim (depth ts k == 0 && not
    (is_mark 123 (token_at ts k).role || is_mark 125 (token_at ts k).role)) as (λ b. AllByRecursion P
    (cond b (token_at ts k ∷ []) [])) [ true ↦ (at_any P ts k (λ past. absurd (omega arith)) a, tt) | false ↦ tt ])
    (all_taken P ts (k + 1) n (omega arith) a)

module _ (P : Token → Type 0) where
  pub all_nested : (n : ℕ) (ts : List Token) → AllByRecursion P ts
      → AllByRecursion (λ (x : Nested). P x.token) (nested n ts)
  unfolding nested
  all_nested n [] a = tt
  all_nested n (t ∷ ts) a = (a.0, all_nested (nesting_after t n) ts a.1)

  pub all_last : (found : Option Token) (xs : List Nested) → MatchOption found (Unit {0}) P
      → AllByRecursion (λ (x : Nested). P x.token) xs → MatchOption (last_name found xs) (Unit {0}) P
  unfolding last_name
  all_last found [] f a = f
  all_last found (x ∷ xs) f a =
      all_last (cond (is_name_token x.token.role && x.nesting == 0) (Some x.token) found) xs
      (elim (is_name_token x.token.role
      && x.nesting == 0) as (λ b. MatchOption (cond b (Some x.token) found) (Unit {0}) P)
      [ true ↦ a.0 | false ↦ f ])
      a.1

  pub all_after_stars : (xs : List Nested) → AllByRecursion (λ (x : Nested). P x.token) xs
      → MatchOption (name_after_stars xs) (Unit {0}) P
  unfolding name_after_stars
  all_after_stars [] a = tt
  all_after_stars (x ∷ xs) a =
      elim (is_mark 42 x.token.role) as (λ b. MatchOption
      (cond b (name_after_stars xs) (cond (is_name_token x.token.role) (Some x.token) None)) (Unit {0}) P) [
        | true ↦ all_after_stars xs a.1
        | false ↦ elim (is_name_token x.token.role) as (λ b. MatchOption (cond b (Some x.token) None) (Unit {0}) P)
            [ true ↦ a.0 | false ↦ tt ]
      ]

  pub all_pointer : (xs : List Nested) → AllByRecursion (λ (x : Nested). P x.token) xs
      → MatchOption (pointer_name xs) (Unit {0}) P
  unfolding pointer_name
  all_pointer [] a = tt
  all_pointer (x ∷ xs) a =
      elim (is_mark 40 x.token.role
      && begins_with_star xs) as (λ b. MatchOption
      (cond b (option_map_or (λ name. Some name) (name_after_stars xs) (pointer_name xs)) (pointer_name xs))
      (Unit {0}) P) [
        | true ↦ elim (name_after_stars xs) as (λ o. MatchOption o (Unit {0}) P
            → MatchOption (option_map_or (λ name. Some name) o (pointer_name xs)) (Unit {0}) P)
            [ None ↦ λ _. all_pointer xs a.1 | Some t ↦ λ p. p ] (all_after_stars xs a.1)
        | false ↦ all_pointer xs a.1
      ]

  pub all_part : (part : List Nested) → AllByRecursion (λ (x : Nested). P x.token) part
      → AllByRecursion P (part_name part)
  all_part part a =
      elim (pointer_name part) as (λ o. MatchOption o (Unit {0}) P
      → AllByRecursion P (option_map_or (λ name. name ∷ []) o (option_to_list (last_name None part)))) [
        | None ↦ λ _. elim (last_name None part) as (λ o. MatchOption o (Unit {0}) P
            → AllByRecursion P (option_to_list o)) [ None ↦ λ _. tt | Some t ↦ λ p. (p, tt) ] (all_last None part tt a)
        | Some t ↦ λ p. (p, tt)
      ] (all_pointer part a)

  pub all_parts : (ls : List (List Nested)) → AllByRecursion (AllByRecursion (λ (x : Nested). P x.token)) ls
      → AllByRecursion P (flat_map part_name ls)
  all_parts [] a = tt
  all_parts (l ∷ ls) a = all-append P (part_name l) (flat_map part_name ls) (all_part l a.0) (all_parts ls a.1)

  pub all_typedef_names : (ts : List Token) → AllByRecursion P ts → AllByRecursion P (typedef_names ts)
  all_typedef_names ts a =
      all_parts (parts ts) (all-split (λ (x : Nested). P x.token) parts_here (nested 0 ts) (all_nested 0 ts a))

  pub all_typedef_at : (ts : List Token) (k : ℕ) → k < length ts → AllByRecursion P ts
      → AllByRecursion P (typedef_at ts k)
  all_typedef_at ts k within a =
      elim (begins_typedef ts k) as (λ b. AllByRecursion P
      (cond b (option_map_or (λ j. cond (ends_declaration ts j) (typedef_names (taken ts k j)) [])
      (typedef_stop ts (suc k)) []) [])) [
        | true ↦ elim (typedef_stop ts (suc k)) as (λ o. MatchOption o (Unit {0}) (λ j. j < length ts)
            → AllByRecursion P (option_map_or (λ j. cond (ends_declaration ts j) (typedef_names (taken ts k j)) []) o
            [])) [
              | None ↦ λ _. tt
              | Some j ↦ λ below. elim (ends_declaration ts j) as (λ b. AllByRecursion P
                  (cond b (typedef_names (taken ts k j)) []))
                  [ true ↦ all_typedef_names (taken ts k j) (all_taken P ts k (j - k) (omega arith) a) | false ↦ tt ]
            ] (found_among (λ j. j < length ts) (λ j. ends_declaration ts j || begins_typedef ts j)
            (range_with_len (suc k) (length ts - suc k))
            (range_below (suc k) (length ts - suc k) (length ts) (omega arith)))
        | false ↦ tt
      ]

  pub all_typedefs_from : (ts : List Token) (k n : ℕ) → k + n ≤ length ts → AllByRecursion P ts
      → AllByRecursion P (flat_map (typedef_at ts) (range_with_len k n))
  all_typedefs_from ts k zero within a = tt
  all_typedefs_from ts k (suc n) within a =
      all-append P (typedef_at ts k) _ (all_typedef_at ts k (omega arith) a)
      (all_typedefs_from ts (k + 1) n (omega arith) a)

  pub all_typedefs : (ts : List Token) → AllByRecursion P ts → AllByRecursion P (typedefs ts)
  all_typedefs ts a = all_typedefs_from ts 0 (length ts) (omega arith) a
