-- Rows that are equal to none before.
use Rattle.std.proofs.Common.{◌≡◌, ◌∙◌, sym, ap, refl, ◌≤◌, Bool, true, false, not, ◌&&◌, ◌||◌}
use Rattle.std.proofs.Common.{cond, List, [], ◌∷◌, ◌++◌, filter, length, arith}
use Rattle.std.specs.List.{list_any}
use Rattle.cb_desk.specs.Answer.{AnswerRow, row_eq, distinct}
use Rattle.cb_desk.specs.steps.LookBack.{fresh}
use Rattle.cb_desk.proofs.EqualRows.{row_same, row_itself}

-- equality of rows goes both ways
row-eq-turned : (r q : AnswerRow) → row_eq r q ≡ row_eq q r
row-eq-turned r q = by_cases (row_eq r q) (row_eq q r) refl refl
  where
    by_cases : (a b : Bool) → row_eq r q ≡ a → row_eq q r ≡ b → a ≡ b
    by_cases true true e k = refl
    by_cases false false e k = refl
    by_cases true false e k =
        let same = row_same r q e in sym (row_itself r) ∙ ap (λ x. row_eq x r) same ∙ k
    by_cases false true e k =
        let same = row_same q r k in sym e ∙ ap (λ x. row_eq r x) same ∙ row_itself r

any-append : (r : AnswerRow) (xs : List AnswerRow) (q : AnswerRow)
    → list_any (row_eq r) (xs ++ q ∷ []) ≡ list_any (row_eq r) xs || row_eq r q
any-append r [] q = elim (row_eq r q) as (λ b. b || false ≡ b) [ true ↦ refl | false ↦ refl ]
any-append r (x ∷ xs) q =
    elim (row_eq r x) as
    (λ b. b || list_any (row_eq r) (xs ++ q ∷ []) ≡ (b || list_any (row_eq r) xs) || row_eq r q) [
      | true ↦ refl
      | false ↦ any-append r xs q
    ]

-- what is kept of what is kept
twice : (p q s : AnswerRow → Bool) → ((x : AnswerRow) → s x ≡ p x && q x) → (xs : List AnswerRow)
    → filter s xs ≡ filter p (filter q xs)
twice p q s both [] = refl
twice p q s both (x ∷ xs) =
    let later = twice p q s both xs in
    ap (λ b. cond b (x ∷ filter s xs) (filter s xs)) (both x)
    ∙ (elim (q x) as (λ b. cond (p x && b) (x ∷ filter s xs) (filter s xs)
    ≡ filter p (cond b (x ∷ filter q xs) (filter q xs))) [
      | true ↦ elim (p x) as (λ a. cond (a && true) (x ∷ filter s xs) (filter s xs)
          ≡ cond a (x ∷ filter p (filter q xs)) (filter p (filter q xs))) [
            | true ↦ ap (λ l. x ∷ l) later
            | false ↦ later
          ]
      | false ↦ elim (p x) as
          (λ a. cond (a && false) (x ∷ filter s xs) (filter s xs) ≡ filter p (filter q xs)) [
            | true ↦ later
            | false ↦ later
          ]
    ])

-- those that are equal to none that was seen
abbrev unseen : List AnswerRow → AnswerRow → Bool
unseen seen q = not (list_any (row_eq q) seen)

unseen-more : (seen : List AnswerRow) (r q : AnswerRow)
    → unseen (seen ++ r ∷ []) q ≡ unseen seen q && not (row_eq r q)
unseen-more seen r q =
    ap not (any-append q seen r) ∙ ap (λ b. not (list_any (row_eq q) seen || b)) (row-eq-turned q r)
    ∙ by_cases (list_any (row_eq q) seen) (row_eq r q)
  where
    by_cases : (a b : Bool) → not (a || b) ≡ not a && not b
    by_cases true b = refl
    by_cases false b = refl

fresh-unseen : (seen rows : List AnswerRow) → fresh seen rows ≡ filter (unseen seen) (distinct rows)
unfolding fresh distinct
fresh-unseen seen [] = refl
fresh-unseen seen (r ∷ rs) =
    ap (λ l. cond (list_any (row_eq r) seen) l (r ∷ l))
    (fresh-unseen (seen ++ r ∷ []) rs ∙ twice (unseen seen) (λ q. not (row_eq r q))
    (unseen (seen ++ r ∷ [])) (unseen-more seen r) (distinct rs))
    ∙ by_cases (list_any (row_eq r) seen)
  where
    by_cases : (b : Bool)
        → cond b (filter (unseen seen) (filter (λ q. not (row_eq r q)) (distinct rs)))
        (r ∷ filter (unseen seen) (filter (λ q. not (row_eq r q)) (distinct rs)))
        ≡ cond (not b) (r ∷ filter (unseen seen) (filter (λ q. not (row_eq r q)) (distinct rs)))
        (filter (unseen seen) (filter (λ q. not (row_eq r q)) (distinct rs)))
    by_cases true = refl
    by_cases false = refl

all-unseen : (rows : List AnswerRow) → filter (unseen []) rows ≡ rows
all-unseen [] = refl
all-unseen (r ∷ rows) = ap (λ l. r ∷ l) (all-unseen rows)

-- before any row was seen
pub fresh-distinct : (rows : List AnswerRow) → fresh [] rows ≡ distinct rows
fresh-distinct rows = fresh-unseen [] rows ∙ all-unseen (distinct rows)

-- there are no more of them than rows
pub fresh-few : (seen rows : List AnswerRow) → length (fresh seen rows) ≤ length rows
unfolding fresh
fresh-few seen [] = omega arith
fresh-few seen (r ∷ rs) =
    let later = fresh-few (seen ++ r ∷ []) rs in
    elim (list_any (row_eq r) seen) as (λ b.
    length (cond b (fresh (seen ++ r ∷ []) rs) (r ∷ fresh (seen ++ r ∷ []) rs)) ≤ length (r ∷ rs)) [
      | true ↦ omega (arith, later)
      | false ↦ omega (arith, later)
    ]
