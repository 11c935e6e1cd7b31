-- The segments before a token, a token at a time.
use Rattle.std.proofs.Common.{◌≡◌, ◌∙◌, ◌+◌, ℕ, zero, suc, Bool, true, false, List, [], ◌∷◌, ◌++◌}
use Rattle.std.proofs.Common.{Option, Some, None, refl, sym, ap, subst, fold, map, take, zero-add}
use Rattle.std.proofs.Common.{arith}
use Rattle.std.proofs.lemmas.List.{reverse-append}
use Rattle.std.proofs.lemmas.List.Elements.{filter-append}
use Rattle.std.specs.Prelude.{◌||◌, cond, filter, find, if◌then◌else◌, not, reverse}
use Rattle.std.specs.List.{AllByRecursion, prefix_len, range_with_len, take_while}
use Rattle.std.specs.Option.{option_map, option_map_or}
use Rattle.cb_scan.specs.declared.facts.Def.{Def}
use Rattle.cb_scan.specs.declared.lex.token.Token.{Token}
use Rattle.cb_scan.specs.rules.Depth.{is_stop, token_at}
use Rattle.cb_scan.specs.rules.Heads.{called_name, head, signed}
use Rattle.cb_scan.specs.rules.OldStyle.{is_declaration, is_opening, nearest_opening, old_signature}
use Rattle.cb_scan.specs.rules.OldStyle.{semicolons_before, signature_of, stops_before}
use Rattle.cb_scan.specs.lex.Tokens.{is_mark}
use Rattle.cb_scan.specs.steps.Heads.{add, empty_head, next_opened}
use Rattle.cb_scan.proofs.HeadLemmas.{declares_of, opened_of, opens_of, signature_def}

range_last : (a n j : ℕ) → a + n ≡ j → range_with_len a (suc n) ≡ range_with_len a n ++ j ∷ []
range_last a zero j e = let same : a ≡ j = omega arith in ap (λ k. k ∷ []) same
range_last a (suc n) j e = ap (λ l. a ∷ l) (range_last (a + 1) n j (omega arith))

-- one more token is a stop or is none
stops_next : (ts : List Token) (k : ℕ)
    → stops_before ts (suc k) ≡ cond (is_stop ts k) (k ∷ stops_before ts k) (stops_before ts k)
stops_next ts k =
    ap (λ l. reverse (filter (is_stop ts) l))
    (range_last 0 k k (zero-add k))
    ∙ ap reverse (filter-append (is_stop ts) (range_with_len 0 k) (k ∷ []))
    ∙ reverse-append (filter (is_stop ts) (range_with_len 0 k)) (filter (is_stop ts) (k ∷ []))
    ∙ elim (is_stop ts k) as (λ b. reverse (cond b (k ∷ []) []) ++ stops_before ts k
    ≡ cond b (k ∷ stops_before ts k) (stops_before ts k)) [ true ↦ refl | false ↦ refl ]

while_cons : {X : Type 0} (p : X → Bool) (x : X) (xs : List X)
    → take_while p (x ∷ xs) ≡ cond (p x) (x ∷ take_while p xs) []
while_cons p x xs =
    let one : 1 + prefix_len p xs ≡ suc (prefix_len p xs) = omega arith in
    elim (p x) as (λ b. take (cond b (1 + prefix_len p xs) 0) (x ∷ xs) ≡ cond b (x ∷ take_while p xs) []) [
      | true ↦ ap (λ n. take n (x ∷ xs)) one
      | false ↦ refl
    ]

pub semicolons_next : (ts : List Token) (k : ℕ)
    → semicolons_before ts (suc k) ≡ cond (is_stop ts k)
    (cond (is_mark 59 (token_at ts k).role) (k ∷ semicolons_before ts k) []) (semicolons_before ts k)
semicolons_next ts k =
    ap (take_while (λ j. is_mark 59 (token_at ts j).role)) (stops_next ts k)
    ∙ elim (is_stop ts k) as (λ b. take_while (λ j. is_mark 59 (token_at ts j).role)
    (cond b (k ∷ stops_before ts k) (stops_before ts k))
    ≡ cond b (cond (is_mark 59 (token_at ts k).role) (k ∷ semicolons_before ts k) []) (semicolons_before ts k)) [
      | true ↦ while_cons (λ j. is_mark 59 (token_at ts j).role) k (stops_before ts k)
      | false ↦ refl
    ]

-- what holds of the stops up to a place holds of these
module _ (P : ℕ → ℕ → Type 0) (ts : List Token) (on : (j k : ℕ) → P j k → P j (suc k))
    (here : (k : ℕ) → P k (suc k)) where
  onward : (k : ℕ) (js : List ℕ) → AllByRecursion (λ j. P j k) js → AllByRecursion (λ j. P j (suc k)) js
  onward k [] a = tt
  onward k (j ∷ js) a = (on j k a.0, onward k js a.1)

  one_more : (k : ℕ) → AllByRecursion (λ j. P j (suc k)) (semicolons_before ts k)
      → AllByRecursion (λ j. P j (suc k)) (semicolons_before ts (suc k))
  one_more k later =
      subst (AllByRecursion (λ j. P j (suc k))) (sym (semicolons_next ts k))
      (elim (is_stop ts k) as (λ b. AllByRecursion (λ j. P j (suc k))
      (cond b (cond (is_mark 59 (token_at ts k).role) (k ∷ semicolons_before ts k) []) (semicolons_before ts k))) [
        | true ↦ elim (is_mark 59 (token_at ts k).role) as
            (λ b. AllByRecursion (λ j. P j (suc k)) (cond b (k ∷ semicolons_before ts k) []))
            [ true ↦ (here k, later) | false ↦ tt ]
        | false ↦ later
      ])

  pub all_semicolons : (k : ℕ) → AllByRecursion (λ j. P j k) (semicolons_before ts k)
  all_semicolons zero = tt
  all_semicolons (suc k) = one_more k (onward k (semicolons_before ts k) (all_semicolons k))

-- ---- the opening among some segments
nearest_cons : (h : List Token) (ss : List (List Token))
    → nearest_opening (h ∷ ss)
    ≡ cond (is_opening h || not (is_declaration h)) (cond (is_opening h) (Some h) None) (nearest_opening ss)
nearest_cons h ss =
    elim (is_opening h || not (is_declaration h)) as
    (λ b. option_map_or (λ s. if is_opening s then Some s else None)
    (cond b (Some h) (find (λ s. is_opening s || not (is_declaration s)) ss)) None
    ≡ cond b (cond (is_opening h) (Some h) None) (nearest_opening ss)) [ true ↦ refl | false ↦ refl ]

-- one segment more
next_is : (h : List Token) (ss : List (List Token))
    → next_opened (fold add empty_head h) (option_map signature_def (signature_of ss))
    ≡ option_map signature_def (signature_of (h ∷ ss))
next_is h ss =
    (λ i. if opens_of h i then opened_of h i
    else (if declares_of h i then option_map signature_def (signature_of ss) else None))
    ∙ elim (is_opening h) as (λ a. (if a then option_map signature_def (signed h (called_name h))
    else (if is_declaration h then option_map signature_def (signature_of ss) else None))
    ≡ option_map signature_def (option_map_or (λ s. signed s (called_name s))
    (cond (a || not (is_declaration h)) (cond a (Some h) None) (nearest_opening ss)) None)) [
      | true ↦ refl
      | false ↦ elim (is_declaration h) as
          (λ b. (if b then option_map signature_def (signature_of ss) else None)
          ≡ option_map signature_def (option_map_or (λ s. signed s (called_name s))
          (cond (not b) None (nearest_opening ss)) None)) [ true ↦ refl | false ↦ refl ]
    ]
    ∙ ap (λ o. option_map signature_def (option_map_or (λ s. signed s (called_name s)) o None))
    (sym (nearest_cons h ss))

-- one token more, by the segments before each `;`
pub opened_along : (h : ℕ → List Token) (ts : List Token) (k : ℕ)
    → (if is_stop ts k then (if is_mark 59 (token_at ts k).role
    then next_opened (fold add empty_head (h k))
    (option_map signature_def (signature_of (map h (semicolons_before ts k)))) else None)
    else option_map signature_def (signature_of (map h (semicolons_before ts k))))
    ≡ option_map signature_def (signature_of (map h (semicolons_before ts (suc k))))
opened_along h ts k =
    let given : List ℕ → Option Def = λ js. option_map signature_def (signature_of (map h js)) in
    let before = semicolons_before ts k in
    let opened = next_opened (fold add empty_head (h k)) (given before) in
    elim (is_stop ts k) as (λ b.
    (if b then (if is_mark 59 (token_at ts k).role then opened else None) else given before)
    ≡ given (cond b (cond (is_mark 59 (token_at ts k).role) (k ∷ before) []) before)) [
      | true ↦ elim (is_mark 59 (token_at ts k).role) as
          (λ b. (if b then opened else None) ≡ given (cond b (k ∷ before) []))
          [ true ↦ next_is (h k) (map h before) | false ↦ refl ]
      | false ↦ refl
    ]
    ∙ ap given (sym (semicolons_next ts k))

-- one token more
pub opened_next : (ts : List Token) (k : ℕ)
    → (if is_stop ts k then (if is_mark 59 (token_at ts k).role
    then next_opened (fold add empty_head (head ts k))
    (option_map signature_def (old_signature ts k)) else None)
    else option_map signature_def (old_signature ts k))
    ≡ option_map signature_def (old_signature ts (suc k))
opened_next ts k = opened_along (head ts) ts k
