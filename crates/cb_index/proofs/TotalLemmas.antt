-- How many facts are shown, while versions come and go.
use Rattle.std.proofs.Common.{◌≡◌, ◌∙◌, ◌≤◌, ◌<◌, ◌+◌, ℕ, Bool, true, false, List, [], ◌∷◌, ◌++◌}
use Rattle.std.proofs.Common.{refl, sym, ap, length, take, filter, arith}
use Rattle.std.proofs.lemmas.List.Sums.{sum_by-cons}
use Rattle.std.specs.Prelude.{cond, nat_eq, not, slice_get, sum_by, Option, Some}
use Rattle.std.specs.List.{AllByRecursion}
use Rattle.cb_scan.specs.Order.{goes_first, in_order, put}
use Rattle.cb_scan.proofs.FunctionsRise.{all_implied}
use Rattle.cb_index.specs.Scanned.{Scanned}
use Rattle.cb_index.specs.Archived.{Archived, text_at}
use Rattle.cb_index.specs.Files.{AreAscending, IsThere, call_count, def_count, shown_under, total}
use Rattle.cb_index.specs.Files.{use_count}
use Rattle.cb_index.specs.Shelved.{AreTotals}
use Rattle.cb_index.specs.declared.entry.Shown.{Shown}
use Rattle.cb_index.specs.declared.totals.Totals.{Totals}
use Rattle.cb_index.proofs.IndexLemmas.{out_sum}
use Rattle.cb_index.proofs.ListedLemmas.{ascending_apart}
use Rattle.cb_index.proofs.FrontLemmas.{slice_get_front, slice_get_left}
use Rattle.cb_index.proofs.TextLemmas.{same_text}

-- ---- one count of what is shown
module _ (count : Option Scanned → ℕ) (a : Archived) where
  abbrev size : Shown → ℕ
  size s = count (text_at a s.version)

  pub total_append : (xs ys : List Shown)
      → total count a (xs ++ ys) ≡ total count a xs + total count a ys
  total_append [] ys = let e : 0 + total count a ys ≡ total count a ys = omega arith in sym e
  total_append (s ∷ xs) ys = let e = total_append xs ys in omega (arith, e)

  pub total_put : (key : Shown → List ℕ) (s : Shown) (ys : List Shown)
      → total count a (put key s ys) ≡ count (text_at a s.version) + total count a ys
  unfolding put
  total_put key s [] = refl
  total_put key s (t ∷ ys) =
      elim (goes_first key s t) as (λ b. total count a (cond b (s ∷ t ∷ ys) (t ∷ put key s ys))
      ≡ count (text_at a s.version) + total count a (t ∷ ys))
      [ true ↦ refl | false ↦ let e = total_put key s ys in omega (arith, e) ]

  pub total_in_order : (key : Shown → List ℕ) (xs : List Shown)
      → total count a (in_order key xs) ≡ total count a xs
  unfolding in_order
  total_in_order key [] = refl
  total_in_order key (s ∷ xs) =
      total_put key s (in_order key xs)
      ∙ ap (λ n. count (text_at a s.version) + n) (total_in_order key xs)

  pub total_both : (key : Shown → List ℕ) (xs ys : List Shown) (room : ℕ)
      → total count a (in_order key (xs ++ ys)) ≤ room
      → total count a xs + total count a ys ≤ room
  total_both key xs ys room fits =
      let e = total_in_order key (xs ++ ys) ∙ total_append xs ys in omega (arith, e, fits)

  -- what is left is no more
  pub total_filter : (q : Shown → Bool) (ss : List Shown)
      → total count a (filter q ss) ≤ total count a ss
  total_filter q [] = omega arith
  total_filter q (s ∷ ss) =
      let later = total_filter q ss in
      elim (q s) as
      (λ b. total count a (cond b (s ∷ filter q ss) (filter q ss)) ≤ total count a (s ∷ ss))
      [ true ↦ omega (arith, later) | false ↦ omega (arith, later) ]

  total_sum : (shown : List Shown) → total count a shown ≡ sum_by size shown
  total_sum [] = refl
  total_sum (s ∷ shown) = ap (λ n. size s + n) (total_sum shown) ∙ sym (sum_by-cons size s shown)

  -- what is shown under a name, and the others
  pub total_out : (name : ℕ) (shown : List Shown) (one : Shown) → shown_under name shown ≡ Some one
      → AreAscending a shown
      → total count a shown
      ≡ count (text_at a one.version)
      + total count a (filter (λ (s : Shown). not (nat_eq s.name name)) shown)
  total_out name shown one is up =
      total_sum shown ∙ out_sum a name size shown one is (ascending_apart a shown up)
      ∙ ap (λ n. size one + n)
      (sym (total_sum (filter (λ (s : Shown). not (nat_eq s.name name)) shown)))

  -- its facts are no more than those of all
  pub total_over : (name : ℕ) (shown : List Shown) (one : Shown) (n : ℕ)
      → shown_under name shown ≡ Some one → AreAscending a shown
      → n ≡ total count a shown → count (text_at a one.version) ≤ n
  total_over name shown one n under up is =
      let e = total_out name shown one under up in omega (arith, e, is)

  pub total_left : (q : Shown → Bool) (shown left : List Shown) (n : ℕ) → left ≡ filter q shown
      → n ≡ total count a shown
      → total count a left ≤ n
  total_left q shown left n is all =
      let fewer = total_filter q shown in
      let e = ap (total count a) is in
      omega (arith, fewer, e, all)

-- ---- the archive changes elsewhere
module _ (count : Option Scanned → ℕ) (a b : Archived) where
  -- only the texts of an archive are counted
  pub same_total : a.profile ≡ b.profile → a.texts ≡ b.texts → (ss : List Shown)
      → total count a ss ≡ total count b ss
  same_total profile texts [] = refl
  same_total profile texts (s ∷ ss) =
      λ i. count (same_text b a profile s.version (ap (λ l. slice_get l s.version) texts) i)
      + same_total profile texts ss i

  total_agrees : (ss : List Shown)
      → AllByRecursion (λ (s : Shown). text_at a s.version ≡ text_at b s.version) ss
      → total count a ss ≡ total count b ss
  total_agrees [] all = refl
  total_agrees (s ∷ ss) all = λ i. count (all.0 i) + total_agrees ss all.1 i

  pub total_more : (texts : List (List ℕ)) → b.profile ≡ a.profile → b.texts ≡ a.texts ++ texts
      → (ss : List Shown)
      → AllByRecursion (λ (s : Shown). s.version < length a.texts) ss
      → total count a ss ≡ total count b ss
  total_more texts profile is ss below =
      total_agrees ss (all_implied (λ (s : Shown). s.version < length a.texts)
      (λ (s : Shown). text_at a s.version ≡ text_at b s.version)
      (λ s low. sym (same_text a b profile s.version
      (ap (λ l. slice_get l s.version) is ∙ slice_get_left a.texts texts s.version low)))
      ss below)

  pub total_front : (versions : ℕ) → b.profile ≡ a.profile → b.texts ≡ take versions a.texts
      → (ss : List Shown)
      → AllByRecursion (λ (s : Shown). s.version < versions) ss
      → total count a ss ≡ total count b ss
  total_front versions profile is ss below =
      total_agrees ss (all_implied (λ (s : Shown). s.version < versions)
      (λ (s : Shown). text_at a s.version ≡ text_at b s.version)
      (λ s low.
      sym (same_text a b profile s.version
      (ap (λ l. slice_get l s.version) is ∙ slice_get_front versions a.texts s.version low)))
      ss below)

-- ---- the totals
pub totals_none : (a : Archived) (shown : List Shown) → shown ≡ []
    → AreTotals a shown (record { defs = 0; uses = 0; calls = 0 })
totals_none a shown none = record {
  defs = ap (total def_count a) (sym none);
  uses = ap (total use_count a) (sym none);
  calls = ap (total call_count a) (sym none);
}

module _ (a b : Archived) (shown shown_then : List Shown) (n : Totals) where
  pub totals_by : ((count : Option Scanned → ℕ) → total count a shown ≡ total count b shown_then)
      → AreTotals a shown n → AreTotals b shown_then n
  totals_by same are = record {
    defs = are.defs ∙ same def_count;
    uses = are.uses ∙ same use_count;
    calls = are.calls ∙ same call_count;
  }

  -- the same texts and the same is shown
  pub totals_moved : b.profile ≡ a.profile → b.texts ≡ a.texts → shown_then ≡ shown
      → AreTotals a shown n → AreTotals b shown_then n
  totals_moved profile texts is =
      totals_by (λ count.
      same_total count a b (sym profile) (sym texts) shown ∙ ap (total count b) (sym is))

module _ (a b : Archived) (shown : List Shown) (n : Totals) where
  pub totals_more : (texts : List (List ℕ)) → b.profile ≡ a.profile → b.texts ≡ a.texts ++ texts
      → AllByRecursion (IsThere a) shown
      → AreTotals a shown n → AreTotals b shown n
  totals_more texts profile is there =
      totals_by a b shown shown n (λ count. total_more count a b texts profile is shown
      (all_implied (IsThere a) (λ (s : Shown). s.version < length a.texts)
      (λ s at. at.1) shown there))

  pub totals_front : (versions names : ℕ) → b.profile ≡ a.profile
      → b.texts ≡ take versions a.texts
      → AllByRecursion (λ (s : Shown). (s.version < versions) × (s.name < names)) shown
      → AreTotals a shown n → AreTotals b shown n
  totals_front versions names profile is below =
      totals_by a b shown shown n (λ count. total_front count a b versions profile is shown
      (all_implied (λ (s : Shown). (s.version < versions) × (s.name < names))
      (λ (s : Shown). s.version < versions) (λ s at. at.0) shown below))

-- the totals with the facts of some more
pub record AreWith (a : Archived) (news : List Shown) (n m : Totals) : Type 0 where
  pub defs : m.defs ≡ n.defs + total def_count a news
  pub uses : m.uses ≡ n.uses + total use_count a news
  pub calls : m.calls ≡ n.calls + total call_count a news

module _ (a : Archived) (key : Shown → List ℕ) (shown news shown_then : List Shown) (n m : Totals)
    (more : AreWith a news n m) where
  pub totals_each : shown_then ≡ in_order key (shown ++ news) → AreTotals a shown n
      → AreTotals a shown_then m
  totals_each is are =
      let all : (count : Option Scanned → ℕ)
      → total count a shown_then ≡ total count a shown + total count a news =
      λ count. ap (total count a) is ∙ total_in_order count a key (shown ++ news)
      ∙ total_append count a shown news in
      record {
        defs =
            let e = more.defs in let f = are.defs in let g = all def_count in
            omega (arith, e, f, g);
        uses =
            let e = more.uses in let f = are.uses in let g = all use_count in
            omega (arith, e, f, g);
        calls =
            let e = more.calls in let f = are.calls in let g = all call_count in
            omega (arith, e, f, g);
      }

-- the totals without the facts of one
module _ (a : Archived) (name : ℕ) (shown shown_then : List Shown) (one : Shown)
    (n m : Totals) where
  pub totals_out : shown_under name shown ≡ Some one → AreAscending a shown
      → shown_then ≡ filter (λ (s : Shown). not (nat_eq s.name name)) shown
      → m.defs + def_count (text_at a one.version) ≡ n.defs
      → m.uses + use_count (text_at a one.version) ≡ n.uses
      → m.calls + call_count (text_at a one.version) ≡ n.calls
      → AreTotals a shown n → AreTotals a shown_then m
  totals_out under up is defs uses calls are =
      let all : (count : Option Scanned → ℕ)
      → total count a shown ≡ count (text_at a one.version) + total count a shown_then =
      λ count. total_out count a name shown one under up
      ∙ ap (λ l. count (text_at a one.version) + total count a l) (sym is) in
      record {
        defs = let f = are.defs in let g = all def_count in omega (arith, defs, f, g);
        uses = let f = are.uses in let g = all use_count in omega (arith, uses, f, g);
        calls = let f = are.calls in let g = all call_count in omega (arith, calls, f, g);
      }
