-- File names that ascend.
use Rattle.std.proofs.Common.{◌≡◌, ◌∙◌, Bool, true, false, List, [], ◌∷◌, refl, sym, ap, subst}
use Rattle.std.proofs.Common.{filter}
use Rattle.std.proofs.lemmas.Bool.{true≢false, false≢true}
use Rattle.std.proofs.lemmas.Cmp.{nat_list_cmp_total}
use Rattle.std.proofs.lemmas.Map.Text.{is_eq-slice_cmp}
use Rattle.std.specs.Prelude.{cond, not, ◌||◌, ℕ}
use Rattle.std.specs.Cmp.Lexicographic.{slice_cmp}
use Rattle.std.specs.List.{AllByRecursion, list_any}
use Rattle.std.specs.Ordering.{is_eq, is_gt, nat_cmp, ordering_reverse}
use Rattle.std.specs.Str.{bytes_eq}
use Rattle.std.specs.declared.cmp.Ordering.{Ordering}
use Rattle.std.specs.declared.cmp.Ordering.TheVariants.{Less, Equal, Greater}
use Rattle.cb_scan.specs.Order.{AreOrdered, goes_first, put}
use Rattle.cb_scan.proofs.FactsWithin.{all_put}
use Rattle.cb_scan.proofs.OrderLemmas.{Sorted}
use Rattle.cb_index.specs.Archived.{Archived, name_of}
use Rattle.cb_index.specs.Files.{AreAscending, shown_name}
use Rattle.cb_index.specs.declared.entry.Shown.{Shown}
use Rattle.cb_index.proofs.InOrderLemmas.{all_filter}

-- ---- file names in order
abbrev Names : List ℕ → List ℕ → Ordering
Names = slice_cmp nat_cmp

sorted_later : (a : Archived) (s : Shown) (shown : List Shown)
    → AllByRecursion (λ (t : Shown). Names (name_of a s.name) (name_of a t.name) ≡ Less) shown
    → AllByRecursion (λ (t : Shown). goes_first (shown_name a) s t ≡ true) shown
sorted_later a s [] up = tt
sorted_later a s (t ∷ shown) up = (ap (λ o. not (is_gt o)) up.0, sorted_later a s shown up.1)

pub ascending_sorted : (a : Archived) (shown : List Shown) → AreAscending a shown
    → Sorted (shown_name a) shown
unfolding AreOrdered
ascending_sorted a [] up = tt
ascending_sorted a (s ∷ shown) up = (sorted_later a s shown up.0, ascending_sorted a shown up.1)

module _ (a : Archived) (s : Shown) where
  abbrev IsOther : Shown → Type 0
  IsOther t = bytes_eq (name_of a s.name) (name_of a t.name) ≡ false

  pub split_or : (p q : Bool) → (p || q) ≡ false → (p ≡ false) × (q ≡ false)
  split_or true q is = absurd (true≢false is)
  split_or false q is = (refl, is)

  pub others : (shown : List Shown)
      → list_any (λ (t : Shown). bytes_eq (name_of a s.name) (name_of a t.name)) shown ≡ false
      → AllByRecursion (λ (t : Shown). bytes_eq (name_of a s.name) (name_of a t.name) ≡ false) shown
  others [] none = tt
  others (t ∷ shown) none =
      let parts = split_or (bytes_eq (name_of a s.name) (name_of a t.name))
      (list_any (λ (t : Shown). bytes_eq (name_of a s.name) (name_of a t.name)) shown) none in
      (parts.0, others shown parts.1)

  pub strict : (x y : List ℕ) → not (is_gt (Names x y)) ≡ true → bytes_eq x y ≡ false
      → Names x y ≡ Less
  strict x y first other = by_order (Names x y) refl first
    where
      by_order : (o : Ordering) → Names x y ≡ o → not (is_gt o) ≡ true → Names x y ≡ Less
      by_order Less is le = is
      by_order Equal is le =
          absurd (true≢false (sym (sym (is_eq-slice_cmp x y) ∙ ap is_eq is) ∙ other))
      by_order Greater is le = absurd (false≢true le)

  turned_less : (x y : List ℕ) → not (is_gt (Names x y)) ≡ false → Names y x ≡ Less
  turned_less x y isnt = by_order (Names x y) refl isnt
    where
      by_order : (o : Ordering) → Names x y ≡ o → not (is_gt o) ≡ false → Names y x ≡ Less
      by_order Less is le = absurd (true≢false le)
      by_order Equal is le = absurd (true≢false le)
      by_order Greater is le = nat_list_cmp_total.antisymm y x ∙ ap ordering_reverse is

  abbrev pub After : Shown → Shown → Type 0
  After r t = Names (name_of a r.name) (name_of a t.name) ≡ Less

  pub before_all : (t : Shown) (shown : List Shown) → After s t → AllByRecursion (After t) shown
      → AllByRecursion (After s) shown
  before_all t [] less up = tt
  before_all t (r ∷ shown) less up = (
    nat_list_cmp_total.trans (name_of a s.name) (name_of a t.name) (name_of a r.name) less up.0,
    before_all t shown less up.1,
  )

  pub ascending_put : (shown : List Shown)
      → AllByRecursion (λ (t : Shown). bytes_eq (name_of a s.name) (name_of a t.name) ≡ false) shown
      → AreAscending a shown → AreAscending a (put (shown_name a) s shown)
  unfolding put AreOrdered
  ascending_put [] other up = (tt, tt)
  ascending_put (t ∷ shown) other up =
      by_test (goes_first (shown_name a) s t) refl (ascending_put shown other.1 up.1)
    where
      by_test : (b : Bool) → goes_first (shown_name a) s t ≡ b
          → AreAscending a (put (shown_name a) s shown)
          → AreAscending a (put (shown_name a) s (t ∷ shown))
      by_test true first later =
          let less = strict (name_of a s.name) (name_of a t.name) first other.0 in
          subst (λ b. AreAscending a (cond b (s ∷ t ∷ shown) (t ∷ put (shown_name a) s shown)))
          (sym first)
          ((less, before_all t shown less up.0), up)
      by_test false isnt later =
          subst (λ b. AreAscending a (cond b (s ∷ t ∷ shown) (t ∷ put (shown_name a) s shown)))
          (sym isnt) (
            all_put (shown_name a) (After t) s shown
                (turned_less (name_of a s.name) (name_of a t.name) isnt) up.0,
            later,
          )

-- some of them
pub ascending_filter : (a : Archived) (p : Shown → Bool) (shown : List Shown) → AreAscending a shown
    → AreAscending a (filter p shown)
unfolding AreOrdered
ascending_filter a p [] up = tt
ascending_filter a p (s ∷ shown) up =
    elim (p s) as (λ b. AreAscending a (cond b (s ∷ filter p shown) (filter p shown))) [
      | true ↦ (
        all_filter p (λ (t : Shown). Names (name_of a s.name) (name_of a t.name) ≡ Less) shown up.0,
        ascending_filter a p shown up.1,
      )
      | false ↦ ascending_filter a p shown up.1
    ]
