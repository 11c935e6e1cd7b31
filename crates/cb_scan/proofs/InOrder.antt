-- The facts of a text are in order.
use Rattle.std.proofs.Common.{◌≡◌, ◌∙◌, ◌⊎◌, ◌≤◌, ◌<◌, ℕ, Bool, true, false, List, [], ◌∷◌, drop, map, refl, sym}
use Rattle.std.proofs.Common.{ap, inl, inr, arith, ⊎_elim}
use Rattle.std.proofs.lemmas.Bool.{cases_Bool, cond-false, cond-true, eqb-true, false≢true, ltb-true}
use Rattle.std.specs.Prelude.{◌==◌, cond, filter, nat_lt, not}
use Rattle.std.specs.Cmp.Lexicographic.{slice_cmp}
use Rattle.std.specs.List.{AllByRecursion}
use Rattle.std.specs.Ordering.{is_gt, nat_cmp, ordering_then}
use Rattle.std.specs.declared.cmp.Ordering.TheVariants.{Equal, Greater}
use Rattle.cb_scan.specs.steps.Cut.{pieces}
use Rattle.cb_scan.specs.declared.facts.Call.{Call}
use Rattle.cb_scan.specs.declared.facts.Def.{Def}
use Rattle.cb_scan.specs.declared.facts.Include.{Include}
use Rattle.cb_scan.specs.declared.facts.Use.{Use}
use Rattle.cb_scan.specs.declared.profile.Profile.{Profile}
use Rattle.cb_scan.specs.declared.profile.Rules.{Rules}
use Rattle.cb_scan.specs.declared.profile.Rules.TheVariants.{Prototypes, Standard, Wide}
use Rattle.cb_scan.specs.Definitions.{definitions_from}
use Rattle.cb_scan.specs.Order.{AreInOrder, AreOrdered, IsDefBefore, call_key, def_key, goes_first, in_order, kind_rank}
use Rattle.cb_scan.specs.Profiles.{all_definitions, definitions_by, facts_in, functions_by, kept}
use Rattle.cb_scan.specs.Profiles.{is_declaration}
use Rattle.cb_scan.specs.rules.Scope.{scope_among}
use Rattle.cb_scan.specs.rules.Uses.{use_of}
use Rattle.cb_scan.specs.rules.wide.Kinds.{wide_found}
use Rattle.cb_scan.specs.steps.Scopes.{include_place, token_place}
use Rattle.cb_scan.proofs.OrderLemmas.{Sorted, in_order_sorted}
use Rattle.cb_scan.proofs.ScopeLemmas.{Ordered, headers_in_order, names_in_order}
use Rattle.cb_scan.proofs.WithinLemmas.{all-filter}

-- the first number of a key decides, and at equal ones the rest
first_decides : (a b : ℕ) (xs ys : List ℕ) → not (is_gt (slice_cmp nat_cmp (a ∷ xs) (b ∷ ys))) ≡ true
    → (a < b) ⊎ ((a ≡ b) × (not (is_gt (slice_cmp nat_cmp xs ys)) ≡ true))
first_decides a b xs ys is =
    ⊎_elim
    (λ below. inl (ltb-true a b below))
    (λ not_below.
    let decided : not (is_gt (ordering_then (cond (a == b) Equal Greater) (slice_cmp nat_cmp xs ys))) ≡ true =
    sym (ap (λ o. not (is_gt (ordering_then o (slice_cmp nat_cmp xs ys)))) (cond-false _ _ _ not_below)) ∙ is in
    ⊎_elim
    (λ same. inr (
      eqb-true a b same,
      sym (ap (λ o. not (is_gt (ordering_then o (slice_cmp nat_cmp xs ys)))) (cond-true _ _ _ same)) ∙ decided,
    ))
    (λ other. absurd (false≢true
    (sym (ap (λ o. not (is_gt (ordering_then o (slice_cmp nat_cmp xs ys)))) (cond-false _ _ _ other)) ∙ decided)))
    (cases_Bool (a == b)))
    (cases_Bool (nat_lt a b))

no_later : (a b : ℕ) (xs ys : List ℕ) → not (is_gt (slice_cmp nat_cmp (a ∷ xs) (b ∷ ys))) ≡ true → a ≤ b
no_later a b xs ys is = ⊎_elim (λ below. omega (arith, below)) (λ same. omega (arith, same.0))
    (first_decides a b xs ys is)

def_before : (d e : Def) → goes_first def_key d e ≡ true → IsDefBefore d e
def_before d e is =
    ⊎_elim (λ below. inl below)
    (λ same. inr (
      same.0,
      no_later (kind_rank d.kind) (kind_rank e.kind) (drop 2 (def_key d))
          (drop 2 (def_key e)) same.1,
    ))
    (first_decides d.name.start e.name.start (drop 1 (def_key d)) (drop 1 (def_key e)) is)

call_before : (c d : Call) → goes_first call_key c d ≡ true → c.callee.start ≤ d.callee.start
call_before c d is = no_later c.callee.start d.callee.start (drop 1 (call_key c)) (drop 1 (call_key d)) is

-- sorted by a key is ordered by what the key says
module _ {X : Type 0} (key : X → List ℕ) (R : X → X → Type 0)
    (says : (x y : X) → goes_first key x y ≡ true → R x y) where
  each : (x : X) (ys : List X) → AllByRecursion (λ y. goes_first key x y ≡ true) ys → AllByRecursion (R x) ys
  each x [] a = tt
  each x (y ∷ ys) a = (says x y a.0, each x ys a.1)

  sorted_ordered : (xs : List X) → Sorted key xs → AreOrdered R xs
  unfolding AreOrdered
  sorted_ordered [] s = tt
  sorted_ordered (x ∷ xs) s = (each x xs s.0, sorted_ordered xs s.1)

-- places in order, also of what is made of each element
module _ {A B : Type 0} (place : A → ℕ) (give : A → B) (place_of : B → ℕ)
    (kept : (a : A) → place_of (give a) ≡ place a) where
  none_before : (p q : ℕ) (xs : List A) → p ≤ q → Ordered place q xs
      → AllByRecursion (λ b. p ≤ place_of b) (map give xs)
  none_before p q [] le o = tt
  none_before p q (x ∷ xs) le o = (omega (arith, kept x, o.0), none_before p (place x) xs (omega (arith, o.0)) o.1)

  places_ordered : (p : ℕ) (xs : List A) → Ordered place p xs
      → AreOrdered (λ a b. place_of a ≤ place_of b) (map give xs)
  unfolding AreOrdered
  places_ordered p [] o = tt
  places_ordered p (x ∷ xs) o =
      (none_before (place_of (give x)) (place x) xs (omega (arith, kept x)) o.1, places_ordered (place x) xs o.1)

-- what passes a test is ordered as it was
kept_ordered : {X : Type 0} (R : X → X → Type 0) (test : X → Bool) (xs : List X) → AreOrdered R xs
    → AreOrdered R (filter test xs)
unfolding AreOrdered
kept_ordered R test [] s = tt
kept_ordered R test (x ∷ xs) s =
    elim (test x) as (λ b. AreOrdered R (cond b (x ∷ filter test xs) (filter test xs))) [
      | true ↦ (all-filter (R x) test xs s.0, kept_ordered R test xs s.1)
      | false ↦ kept_ordered R test xs s.1
    ]

pub ordered_defs : (ds : List Def) → AreOrdered IsDefBefore (in_order def_key ds)
ordered_defs ds = sorted_ordered def_key IsDefBefore def_before _ (in_order_sorted def_key ds)

-- the definitions are in order by all rules
definitions_ordered : (rules : Rules) (text : List ℕ)
    → AreOrdered IsDefBefore (definitions_by rules text (pieces text))
unfolding definitions_from
definitions_ordered Standard text = ordered_defs _
definitions_ordered Wide text =
    kept_ordered IsDefBefore (λ d. not (is_declaration d.kind)) (all_definitions text (pieces text))
    (ordered_defs (wide_found text (pieces text)))
definitions_ordered Prototypes text = ordered_defs (wide_found text (pieces text))

-- what is kept is in order
all_kept : {X : Type 0} (R : X → X → Type 0) (b : Bool) (xs : List X) → AreOrdered R xs
    → AreOrdered R (kept b xs)
unfolding AreOrdered
all_kept R true xs s = s
all_kept R false xs s = tt

-- the facts of a text are in order
pub facts_in_order : (profile : Profile) (text : List ℕ) → AreInOrder (facts_in profile text)
facts_in_order profile text =
    let w = profile.wanted in
    let s = scope_among text (pieces text) (functions_by profile.rules text (pieces text)) in
    record {
      defs = all_kept IsDefBefore w.defs _ (definitions_ordered profile.rules text);
      uses = all_kept (λ (u v : Use). u.name.start ≤ v.name.start) w.uses _
          (places_ordered token_place (use_of s) (λ u. u.name.start) (λ t. refl) 0 _
          (names_in_order text));
      calls = all_kept (λ (c d : Call). c.callee.start ≤ d.callee.start) w.calls _
          (sorted_ordered call_key (λ c d. c.callee.start ≤ d.callee.start) call_before _
          (in_order_sorted call_key _));
      includes = all_kept (λ (i j : Include). i.header.start ≤ j.header.start) w.includes _
          (places_ordered include_place
          (λ (i : Include). record i { scope = s i.header.start }) (λ i. i.header.start)
          (λ i. refl) 0 _ (headers_in_order text));
    }
