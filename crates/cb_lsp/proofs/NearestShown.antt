-- What is kept of the definitions of a name is what is shown.
use Rattle.std.proofs.Common.{◌≡◌, ◌∙◌, ◌≤◌, ◌||◌, ◌&&◌, cond, not, refl, sym, subst, ap, ℕ, Bool, true}
use Rattle.std.proofs.Common.{false, List, [], ◌∷◌, ◌+◌, suc, filter, length, map, take, arith}
use Rattle.std.proofs.Common.{if◌then◌else◌}
use Rattle.std.specs.List.{AllByRecursion, list_any, prefix_len, take-map, take_while}
use Rattle.std.specs.Str.{bytes_eq}
use Rattle.std.proofs.lemmas.List.Sums.{take_while-cons}
use Rattle.cb_scan.proofs.FactsWithin.{all_in_order}
use Rattle.cb_scan.proofs.WithinLemmas.{all-filter}
use Rattle.cb_scan.specs.Order.{in_order, put}
use Rattle.cb_tags.specs.TagLines.{Tag}
use Rattle.cb_lsp.specs.Nearest.{as_near, counts, included_or_near, is_as_near, is_in_view}
use Rattle.cb_lsp.specs.Nearest.{is_included_function, is_members, is_object, is_own, is_preferred}
use Rattle.cb_lsp.specs.Nearest.{is_source, narrowed, own_or_near, rank, shown, shown_by, shown_of}
use Rattle.cb_lsp.specs.Nearest.{takes}
use Rattle.cb_lsp.specs.declared.nearest.Kinds.{Kinds}

-- ---- of what elements stand for

pub any-map : {X Y : Type 0} (h : X → Y) (p : Y → Bool) (xs : List X)
    → list_any (λ x. p (h x)) xs ≡ list_any p (map h xs)
any-map h p [] = refl
any-map h p (x ∷ xs) = ap (λ b. p (h x) || b) (any-map h p xs)

-- ---- one definition, and none

module _ (from : List ℕ) (inside : List ℕ → Bool) (t : Tag) where
  narrowed-one : (p : Tag → Bool) → narrowed p (t ∷ []) ≡ t ∷ []
  narrowed-one p =
      elim (p t) as (λ b. (if b || false then cond b (t ∷ []) [] else (t ∷ [])) ≡ t ∷ []) [
        | true ↦ refl
        | false ↦ refl
      ]

  near-one : included_or_near from inside (t ∷ []) ≡ t ∷ []
  unfolding in_order put
  near-one =
      let rest = in_order (rank from inside) (narrowed (λ (u : Tag). is_object u.kind) (t ∷ [])) in
      let function = list_any (is_included_function inside) (t ∷ []) in
      (elim (inside t.file) as (λ b. inside t.file ≡ b
      → (if b || false then in_order (rank from inside) (filter (counts inside function) (t ∷ []))
      else as_near from rest) ≡ t ∷ []) [
        | true ↦ λ e.
            ap (λ b. in_order (rank from inside)
            (cond (b || (not function && is_object t.kind && is_source t.file)) (t ∷ []) [])) e
        | false ↦ λ e.
            ap (λ us. as_near from (in_order (rank from inside) us))
            (narrowed-one (λ (u : Tag). is_object u.kind))
      ]) refl

  own-one : own_or_near from inside (t ∷ []) ≡ t ∷ []
  own-one =
      elim (bytes_eq t.file from) as (λ b. (if b || false then cond b (t ∷ []) []
      else included_or_near from inside (t ∷ [])) ≡ t ∷ []) [
        | true ↦ refl
        | false ↦ near-one
      ]

  by-one : (ds : Bool) → shown_by from inside ds (t ∷ []) ≡ t ∷ []
  by-one ds =
      elim (is_own from ds t) as (λ b. (if b || false then cond b (t ∷ []) []
      else own_or_near from inside (narrowed (λ (u : Tag). is_preferred ds u.kind)
      (narrowed (is_in_view inside) (t ∷ [])))) ≡ t ∷ []) [
        | true ↦ refl
        | false ↦
            ap (λ us. own_or_near from inside (narrowed (λ (u : Tag). is_preferred ds u.kind) us))
            (narrowed-one (is_in_view inside))
            ∙ ap (own_or_near from inside) (narrowed-one (λ (u : Tag). is_preferred ds u.kind))
            ∙ own-one
      ]

-- one definition is shown, wherever it is
pub shown-few : (from : List ℕ) (inside : List ℕ → Bool) (ds : Bool) (ts : List Tag)
    → length ts ≤ 1 → ts ≡ shown_by from inside ds ts
unfolding in_order
shown-few from inside ds [] few = refl
shown-few from inside ds (t ∷ []) few = sym (by-one from inside t ds)
shown-few from inside ds (t ∷ u ∷ ts) few = absurd (omega (arith, few))

-- ---- each is one of the definitions

module _ (P : Tag → Type 0) where
  narrowed-all : (test : Tag → Bool) (ts : List Tag) → AllByRecursion P ts
      → AllByRecursion P (narrowed test ts)
  narrowed-all test ts all =
      elim (list_any test ts) as (λ b. AllByRecursion P (if b then filter test ts else ts)) [
        | true ↦ all-filter P test ts all
        | false ↦ all
      ]

  front-all : (p : Tag → Bool) (ts : List Tag) → AllByRecursion P ts
      → AllByRecursion P (take_while p ts)
  front-all p [] all = tt
  front-all p (t ∷ ts) all =
      subst (AllByRecursion P) (sym (take_while-cons p t ts))
      (elim (p t) as (λ b. AllByRecursion P (cond b (t ∷ take_while p ts) [])) [
        | true ↦ (all.0, front-all p ts all.1)
        | false ↦ tt
      ])

  as_near-all : (from : List ℕ) (ts : List Tag) → AllByRecursion P ts
      → AllByRecursion P (as_near from ts)
  as_near-all from [] all = tt
  as_near-all from (t ∷ ts) all =
      (all.0, front-all (is_as_near from t) ts all.1)

  near-all : (from : List ℕ) (inside : List ℕ → Bool) (ts : List Tag) → AllByRecursion P ts
      → AllByRecursion P (included_or_near from inside ts)
  near-all from inside ts all =
      let r = rank from inside in
      let function = list_any (is_included_function inside) ts in
      let object = λ (t : Tag). is_object t.kind in
      elim (list_any (λ (t : Tag). inside t.file) ts) as (λ b. AllByRecursion P
      (if b then in_order r (filter (counts inside function) ts)
      else as_near from (in_order r (narrowed object ts)))) [
        | true ↦ all_in_order r P _ (all-filter P (counts inside function) ts all)
        | false ↦ as_near-all from _ (all_in_order r P _ (narrowed-all object ts all))
      ]

  own-all : (from : List ℕ) (inside : List ℕ → Bool) (ts : List Tag) → AllByRecursion P ts
      → AllByRecursion P (own_or_near from inside ts)
  own-all from inside ts all =
      let own = λ (t : Tag). bytes_eq t.file from in
      elim (list_any own ts) as (λ b. AllByRecursion P
      (if b then filter own ts else included_or_near from inside ts)) [
        | true ↦ all-filter P own ts all
        | false ↦ near-all from inside ts all
      ]

  by-all : (from : List ℕ) (inside : List ℕ → Bool) (ds : Bool) (ts : List Tag)
      → AllByRecursion P ts → AllByRecursion P (shown_by from inside ds ts)
  by-all from inside ds ts all =
      let own = is_own from ds in
      let preferred = λ (t : Tag). is_preferred ds t.kind in
      elim (list_any own ts) as (λ b. AllByRecursion P (if b then filter own ts
      else own_or_near from inside (narrowed preferred (narrowed (is_in_view inside) ts)))) [
        | true ↦ all-filter P own ts all
        | false ↦
            own-all from inside _
            (narrowed-all preferred _ (narrowed-all (is_in_view inside) ts all))
      ]

  shown_of-all : (from : List ℕ) (inside : List ℕ → Bool) (members ds : Bool) (ts : List Tag)
      → AllByRecursion P ts → AllByRecursion P (shown_of from inside members ds ts)
  shown_of-all from inside true ds ts all = all
  shown_of-all from inside false ds ts all = by-all from inside ds ts all

  pub shown-all : (from : List ℕ) (inside : List ℕ → Bool) (ks : Kinds) (ds : Bool) (ts : List Tag)
      → AllByRecursion P ts → AllByRecursion P (shown from inside ks ds ts)
  shown-all from inside ks ds ts all =
      shown_of-all from inside (is_members ks) ds _
      (all-filter P (λ (t : Tag). takes ks t.kind) ts all)

-- ---- those at the front that are as near as the first one

take_while-front : (p : Tag → Bool) (ts : List Tag) → take (prefix_len p ts) ts ≡ take_while p ts
take_while-front p [] = refl
take_while-front p (t ∷ ts) =
    let one : 1 + prefix_len p ts ≡ suc (prefix_len p ts) = omega arith in
    (elim (p t) as (λ b. take (cond b (1 + prefix_len p ts) 0) (t ∷ ts)
    ≡ cond b (t ∷ take_while p ts) []) [
      | true ↦ ap (λ n. take n (t ∷ ts)) one ∙ ap (λ us. t ∷ us) (take_while-front p ts)
      | false ↦ refl
    ])
    ∙ sym (take_while-cons p t ts)

prefix-map : {X : Type 0} (h : X → Tag) (p : Tag → Bool) (xs : List X)
    → prefix_len (λ x. p (h x)) xs ≡ prefix_len p (map h xs)
prefix-map h p [] = refl
prefix-map h p (x ∷ xs) = ap (λ n. cond (p (h x)) (1 + n) 0) (prefix-map h p xs)

pub as_near-front : {X : Type 0} (h : X → Tag) (from : List ℕ) (rows : List X) (first : X)
    (more : List X) (n : ℕ) → rows ≡ first ∷ more
    → n ≡ prefix_len (λ r. is_as_near from (h first) (h r)) more
    → map h (take (n + 1) rows) ≡ as_near from (map h rows)
as_near-front h from rows first more n is counted =
    let p = is_as_near from (h first) in
    let more-n : n + 1 ≡ suc (prefix_len p (map h more)) =
    ap (λ k. k + 1) (counted ∙ prefix-map h p more) ∙ omega arith in
    sym (take-map h (n + 1) rows)
    ∙ (λ i. take (more-n i) (map h (is i)))
    ∙ ap (λ us. h first ∷ us) (take_while-front p (map h more))
    ∙ ap (λ rs. as_near from (map h rs)) (sym is)
