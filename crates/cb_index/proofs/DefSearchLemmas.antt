-- A search that gives the least of what is behind the last one gives all in order.
use Rattle.std.proofs.Common.{◌≡◌, ◌∙◌, ℕ, Bool, true, false, List, [], ◌∷◌, ◌++◌, Some, None}
use Rattle.std.proofs.Common.{refl, sym, ap, subst, filter, length, map, append-nil}
use Rattle.std.proofs.Common.{append_assoc, arith, ◌≤◌}
use Rattle.std.proofs.lemmas.Bool.{true≢false}
use Rattle.std.proofs.lemmas.Cmp.{nat_list_cmp_total, tied_itself}
use Rattle.std.proofs.lemmas.List.Elements.{filter-append}
use Rattle.std.proofs.lemmas.List.Sums.{sum_by-append, sum_by-cons}
use Rattle.std.proofs.lemmas.Option.{none-some}
use Rattle.std.specs.Prelude.{cond, not, ◌&&◌, Option}
use Rattle.std.specs.List.{AllByRecursion}
use Rattle.std.specs.Ordering.{is_lt}
use Rattle.cb_scan.specs.Order.{AreOrdered, goes_first, in_order, put}
use Rattle.cb_scan.proofs.FactsWithin.{all_in_order, all_put}
use Rattle.cb_scan.proofs.OrderLemmas.{Sorted, both_first, first_trans, goes_itself}
use Rattle.cb_scan.proofs.OrderLemmas.{in_order_sorted, other_first}
use Rattle.cb_index.specs.Scanned.{Scanned, facts_of}
use Rattle.cb_index.specs.Archived.{Archived}
use Rattle.cb_index.specs.Entries.{file_key, sort_key}
use Rattle.cb_index.specs.Files.{AreAscending}
use Rattle.cb_index.specs.Held.{AreRising, all_entries}
use Rattle.cb_index.specs.Kinds.{def_kind, keyer_of, lister_of}
use Rattle.cb_index.specs.Orders.{numbered, prefixed}
use Rattle.cb_index.specs.steps.DefSearch.{earlier_of, first_among}
use Rattle.cb_index.specs.steps.ToCome.{GoesOn, earlier, first_of, is_asked, is_later, is_to_come}
use Rattle.cb_index.specs.steps.ToCome.{to_come}
use Rattle.cb_index.specs.declared.entry.Asked.{Asked}
use Rattle.cb_index.specs.declared.entry.Asked.TheVariants.{Every}
use Rattle.cb_index.specs.declared.tags.DefSearch.{DefSearch}
use Rattle.cb_index.specs.declared.entry.Posting.{Posting}
use Rattle.cb_index.specs.declared.entry.Shown.{Shown}
use Rattle.cb_index.specs.declared.entry.IndexKind.{IndexKind}
use Rattle.cb_index.proofs.EntryLemmas.{sort_exact}
use Rattle.cb_index.proofs.InOrderLemmas.{all_filter, filter_in_order, length_in_order, same_order}
use Rattle.cb_index.proofs.IndexLemmas.{ComesFirst, all_ordered}
use Rattle.cb_index.proofs.RiseLemmas.{defs_rise, tags_rise}

-- ---- tests
module _ {X : Type 0} where
  pub filter_all : (p : X → Bool) (xs : List X) → AllByRecursion (λ x. p x ≡ true) xs
      → filter p xs ≡ xs
  filter_all p [] all = refl
  filter_all p (x ∷ xs) all =
      ap (λ b. cond b (x ∷ filter p xs) (filter p xs)) all.0
      ∙ ap (λ l. x ∷ l) (filter_all p xs all.1)

  -- one test after another
  filter_twice : (p q r : X → Bool) → ((x : X) → (q x && p x) ≡ r x) → (xs : List X)
      → filter p (filter q xs) ≡ filter r xs
  filter_twice p q r same [] = refl
  filter_twice p q r same (x ∷ xs) = by_test (q x) (same x) (filter_twice p q r same xs)
    where
      by_test : (b : Bool) → (b && p x) ≡ r x → filter p (filter q xs) ≡ filter r xs
          → filter p (cond b (x ∷ filter q xs) (filter q xs))
          ≡ cond (r x) (x ∷ filter r xs) (filter r xs)
      by_test true here later =
          (λ i. cond (here i) (x ∷ later i) (later i))
      by_test false here later = later ∙ ap (λ c. cond c (x ∷ filter r xs) (filter r xs)) here

filter_short : {X : Type 0} (p : X → Bool) (xs : List X) → length (filter p xs) ≤ length xs
filter_short p [] = omega arith
filter_short p (x ∷ xs) =
    let later = filter_short p xs in
    elim (p x) as (λ b. length (cond b (x ∷ filter p xs) (filter p xs)) ≤ length (x ∷ xs))
    [ true ↦ omega (arith, later) | false ↦ omega (arith, later) ]

every : {X : Type 0} (xs : List X) → AllByRecursion (λ (_ : X). true ≡ true) xs
every [] = tt
every (x ∷ xs) = (refl, every xs)

-- all are asked for
pub all_asked : (kind : IndexKind) (a : Archived) (es : List Posting)
    → filter (is_asked kind a Every) es ≡ es
all_asked kind a es = filter_all (is_asked kind a Every) es (every es)

-- ---- elements of which no two are one
abbrev pub Differ : {X : Type 0} → X → X → Type 0
Differ x y = x ≡ y → ⊥

module _ {X : Type 0} (key : X → List ℕ) where
  differ_put : (x : X) (ys : List X) → AllByRecursion (Differ x) ys → AreOrdered Differ ys
      → AreOrdered Differ (put key x ys)
  unfolding put AreOrdered
  differ_put x [] other apart = (tt, tt)
  differ_put x (y ∷ ys) other apart =
      elim (goes_first key x y) as
      (λ b. AreOrdered Differ (cond b (x ∷ y ∷ ys) (y ∷ put key x ys))) [
        | true ↦ (other, apart)
        | false ↦ (
          all_put key (Differ y) x ys (λ is. other.0 (sym is)) apart.0,
          differ_put x ys other.1 apart.1,
        )
      ]

  differ_in_order : (xs : List X) → AreOrdered Differ xs → AreOrdered Differ (in_order key xs)
  unfolding in_order AreOrdered
  differ_in_order [] apart = tt
  differ_in_order (x ∷ xs) apart =
      differ_put x (in_order key xs) (all_in_order key (Differ x) xs apart.0)
      (differ_in_order xs apart.1)

  differ_filter : (p : X → Bool) (xs : List X) → AreOrdered Differ xs
      → AreOrdered Differ (filter p xs)
  unfolding AreOrdered
  differ_filter p [] apart = tt
  differ_filter p (x ∷ xs) apart =
      elim (p x) as (λ b. AreOrdered Differ (cond b (x ∷ filter p xs) (filter p xs))) [
        | true ↦ (all_filter p (Differ x) xs apart.0, differ_filter p xs apart.1)
        | false ↦ differ_filter p xs apart.1
      ]

-- ---- what goes behind the first
module _ {X : Type 0} (key : X → List ℕ) (exact : (x y : X) → key x ≡ key y → x ≡ y) where
  abbrev behind : X → X → Bool
  behind e x = not (goes_first key x e)

  -- no other goes before it
  all_behind : (e : X) (xs : List X) → AllByRecursion (λ x. goes_first key e x ≡ true) xs
      → AllByRecursion (Differ e) xs → AllByRecursion (λ x. behind e x ≡ true) xs
  all_behind e [] first other = tt
  all_behind e (x ∷ xs) first other =
      (by_test (goes_first key x e) refl, all_behind e xs first.1 other.1)
    where
      by_test : (b : Bool) → goes_first key x e ≡ b → not b ≡ true
      by_test true is = absurd (other.0 (exact e x (both_first (key e) (key x) (key x) first.0 is)))
      by_test false is = refl

  behind_first : (e : X) (xs : List X) → Sorted key (e ∷ xs) → AllByRecursion (Differ e) xs
      → filter (behind e) (e ∷ xs) ≡ xs
  behind_first e xs s other =
      ap (λ b. cond (not b) (e ∷ filter (behind e) xs) (filter (behind e) xs)) (goes_itself key e)
      ∙ filter_all (behind e) xs (all_behind e xs s.0 other)

  -- the first of all in order, and those behind it in order
  pub first_and_rest : (e : X) (rest xs : List X) → AreOrdered Differ xs
      → in_order key xs ≡ e ∷ rest
      → rest ≡ in_order key (filter (behind e) xs)
  unfolding AreOrdered
  first_and_rest e rest xs apart is =
      let other = subst (AreOrdered Differ) is (differ_in_order key xs apart) in
      sym (behind_first e rest (subst (Sorted key) is (in_order_sorted key xs)) other.0)
      ∙ ap (filter (behind e)) (sym is) ∙ filter_in_order key exact (behind e) xs

  -- one more element
  pub one_more : (x : X) (xs : List X) → in_order key (xs ++ x ∷ []) ≡ put key x (in_order key xs)
  unfolding in_order
  one_more x xs =
      same_order key exact (xs ++ x ∷ []) (x ∷ xs)
      (λ f.
      let both = sum_by-append f xs (x ∷ []) in
      let one = sum_by-cons f x [] in
      let all = sum_by-cons f x xs in
      omega (arith, both, one, all))

-- ---- entries
module _ (a : Archived) where
  -- entries that go by file and number differ
  pub come_differ : (e f : Posting) → ComesFirst a e f → Differ e f
  come_differ e f first is =
      true≢false (sym (ap is_lt (subst (ComesFirst a e) (sym is) first))
      ∙ ap is_lt (tied_itself nat_list_cmp_total (file_key a e)))

rising_defs : (by : Bool) (t : Option Scanned) → AreRising (lister_of (def_kind by) t)
rising_defs false t = defs_rise t
rising_defs true t = tags_rise t

module _ {X : Type 0} (R Q : X → X → Type 0) (less : (x y : X) → R x y → Q x y) where
  all_less : (x : X) (ys : List X) → AllByRecursion (R x) ys → AllByRecursion (Q x) ys
  all_less x [] all = tt
  all_less x (y ∷ ys) all = (less x y all.0, all_less x ys all.1)

  ordered_less : (xs : List X) → AreOrdered R xs → AreOrdered Q xs
  unfolding AreOrdered
  ordered_less [] all = tt
  ordered_less (x ∷ xs) all = (all_less x xs all.0, ordered_less xs all.1)

all_passed : {X : Type 0} (p : X → Bool) (xs : List X)
    → AllByRecursion (λ x. p x ≡ true) (filter p xs)
all_passed p [] = tt
all_passed p (x ∷ xs) = by_test (p x) refl (all_passed p xs)
  where
    by_test : (b : Bool) → p x ≡ b → AllByRecursion (λ y. p y ≡ true) (filter p xs)
        → AllByRecursion (λ y. p y ≡ true) (cond b (x ∷ filter p xs) (filter p xs))
    by_test true is later = (is, later)
    by_test false is later = later

front_and : (b c : Bool) → (b && c) ≡ true → b ≡ true
front_and true c is = refl
front_and false c is = is

-- ---- one entry after another
module _ (kind : IndexKind) (a : Archived) (asked : Asked) where
  abbrev order : Posting → List ℕ
  order = sort_key (keyer_of kind) a

  -- what goes behind an entry that is still to come goes behind the last one
  later_still : (last : Option Posting) (e x : Posting) → is_later (keyer_of kind) a last e ≡ true
      → not (goes_first order x e) ≡ true → is_later (keyer_of kind) a last x ≡ true
  later_still None e x later behind = refl
  later_still (Some l) e x later behind = by_test (goes_first order x l) refl
    where
      not_true : (b : Bool) → not b ≡ true → b ≡ false
      not_true true is = absurd (true≢false (sym is))
      not_true false is = refl

      by_test : (b : Bool) → goes_first order x l ≡ b → not b ≡ true
      by_test true is =
          absurd (true≢false (sym (first_trans (order x) (order l) (order e) is
          (other_first (order e) (order l) (order l) (not_true (goes_first order e l) later)))
          ∙ not_true (goes_first order x e) behind))
      by_test false is = refl

  -- of those still to come, the ones behind one of them are still to come once it was given
  still_to_come : (last : Option Posting) (e : Posting) → is_later (keyer_of kind) a last e ≡ true
      → (x : Posting)
      → (is_to_come kind a asked last x && not (goes_first order x e))
      ≡ is_to_come kind a asked (Some e) x
  still_to_come last e later x = by_test (not (goes_first order x e)) refl
    where
      gone : (b : Bool) → (b && false) ≡ false
      gone true = refl
      gone false = refl

      kept : (b : Bool) → (b && true) ≡ b
      kept true = refl
      kept false = refl

      by_test : (b : Bool) → not (goes_first order x e) ≡ b
          → (is_to_come kind a asked last x && b) ≡ (b && is_asked kind a asked x)
      by_test true is =
          kept (is_to_come kind a asked last x)
          ∙ ap (λ b. b && is_asked kind a asked x) (later_still last e x later is)
      by_test false is = gone (is_to_come kind a asked last x)

  -- the first of those still to come, and those that are still to come once it was given
  pub next_to_come : (all : List Posting) → AreOrdered Differ all → (last : Option Posting)
      (e : Posting)
      → first_of (to_come kind a asked last all) ≡ Some e
      → to_come kind a asked last all ≡ e ∷ to_come kind a asked (Some e) all
  next_to_come all apart last e is = by_list (to_come kind a asked last all) refl is
    where
      given : (z : Posting) (rest : List Posting) → to_come kind a asked last all ≡ z ∷ rest
          → z ∷ rest ≡ z ∷ to_come kind a asked (Some z) all
      given z rest are =
          let passed = subst (AllByRecursion (λ x. is_to_come kind a asked last x ≡ true)) are
          (all_in_order order (λ x. is_to_come kind a asked last x ≡ true)
          (filter (is_to_come kind a asked last) all)
          (all_passed (is_to_come kind a asked last) all)) in
          let later =
          front_and (is_later (keyer_of kind) a last z) (is_asked kind a asked z) passed.0 in
          ap (λ l. z ∷ l)
          (first_and_rest order (sort_exact (keyer_of kind) a) z rest
          (filter (is_to_come kind a asked last) all)
          (differ_filter order (is_to_come kind a asked last) all apart) are
          ∙ ap (in_order order)
          (filter_twice (λ x. not (goes_first order x z)) (is_to_come kind a asked last)
          (is_to_come kind a asked (Some z)) (still_to_come last z later) all))

      or_first : Option Posting → Posting → Posting
      or_first None d = d
      or_first (Some x) d = x

      by_list : (zs : List Posting) → to_come kind a asked last all ≡ zs → first_of zs ≡ Some e
          → zs ≡ e ∷ to_come kind a asked (Some e) all
      by_list [] are first = absurd (none-some e first)
      by_list (z ∷ rest) are first =
          subst (λ x. z ∷ rest ≡ x ∷ to_come kind a asked (Some x) all)
          (ap (λ o. or_first o z) first)
          (given z rest are)

  -- one more entry is still to come
  pub earlier_is : (last : Option Posting) (e : Posting) (seen : List Posting)
      (first : Option Posting)
      → first ≡ first_of (to_come kind a asked last seen) → is_to_come kind a asked last e ≡ true
      → Some (earlier (keyer_of kind) a first e)
      ≡ first_of (to_come kind a asked last (seen ++ e ∷ []))
  unfolding put
  earlier_is last e seen first is passes =
      let old = to_come kind a asked last seen in
      ap (λ f. Some (earlier (keyer_of kind) a f e)) is ∙ by_list old
      ∙ ap first_of (sym (ap (in_order order)
      (filter-append (is_to_come kind a asked last) seen (e ∷ [])
      ∙ ap (λ b. filter (is_to_come kind a asked last) seen ++ cond b (e ∷ []) []) passes)
      ∙ one_more order (sort_exact (keyer_of kind) a) e (filter (is_to_come kind a asked last)
      seen)))
    where
      by_test : (b : Bool) (z : Posting) (zs : List Posting)
          → Some (cond b e z) ≡ first_of (cond b (e ∷ z ∷ zs) (z ∷ put order e zs))
      by_test true z zs = refl
      by_test false z zs = refl

      by_list : (zs : List Posting)
          → Some (earlier (keyer_of kind) a (first_of zs) e) ≡ first_of (put order e zs)
      by_list [] = refl
      by_list (z ∷ zs) = by_test (goes_first order e z) z zs

  -- one that is not still to come
  pub not_to_come : (last : Option Posting) (e : Posting) (seen : List Posting)
      → is_to_come kind a asked last e ≡ false
      → to_come kind a asked last seen ≡ to_come kind a asked last (seen ++ e ∷ [])
  not_to_come last e seen fails =
      ap (in_order order) (sym (filter-append (is_to_come kind a asked last) seen (e ∷ [])
      ∙ ap (λ b. filter (is_to_come kind a asked last) seen ++ cond b (e ∷ []) []) fails
      ∙ append-nil (filter (is_to_come kind a asked last) seen)))

  -- they are no more than all
  pub few_to_come : (last : Option Posting) (es : List Posting)
      → length (to_come kind a asked last es) ≤ length es
  few_to_come last es =
      let same = length_in_order order (filter (is_to_come kind a asked last) es) in
      let fewer = filter_short (is_to_come kind a asked last) es in
      omega (arith, same, fewer)

-- before any is given, those that are asked for are still to come
pub asked_first : (kind : IndexKind) (a : Archived) (asked : Asked) (es : List Posting)
    → to_come kind a asked None es
    ≡ filter (is_asked kind a asked) (in_order (sort_key (keyer_of kind) a) es)
asked_first kind a asked es =
    sym (filter_in_order (sort_key (keyer_of kind) a) (sort_exact (keyer_of kind) a)
    (is_asked kind a asked) es)

-- the entries of a version that is there
pub listed_defs : (by : Bool) (text : Scanned)
    → numbered 0 (map (prefixed by text.bytes) (facts_of text).defs) ≡ lister_of (def_kind by) (Some
    text)
listed_defs false text = refl
listed_defs true text = refl

-- ---- the first one is found
module _ (s : DefSearch) where
  abbrev Come : List Posting → List Posting
  Come es = to_come (def_kind s.by_tag_name) s.archive.now s.asked s.last es

  pub among_both : (before : Option Posting) (xs ys : List Posting)
      → first_among s before (xs ++ ys) ≡ first_among s (first_among s before xs) ys
  among_both before [] ys = refl
  among_both before (x ∷ xs) ys = among_both (earlier_of s before x) xs ys

  abbrev All : List Shown → List Posting
  All shown = all_entries (lister_of (def_kind s.by_tag_name)) s.archive.now shown

  -- one version after another
  one_seen : (before : Option Posting) (e : Posting) (seen : List Posting)
      → before ≡ first_of (Come seen)
      → earlier_of s before e ≡ first_of (Come (seen ++ e ∷ []))
  one_seen before e seen is =
      by_test (is_to_come (def_kind s.by_tag_name) s.archive.now s.asked s.last e)
      refl
    where
      by_test : (b : Bool)
          → is_to_come (def_kind s.by_tag_name) s.archive.now s.asked s.last e ≡ b
          → cond b (Some (earlier (keyer_of (def_kind s.by_tag_name)) s.archive.now before e))
          before
          ≡ first_of (Come (seen ++ e ∷ []))
      by_test true passes =
          earlier_is (def_kind s.by_tag_name) s.archive.now s.asked s.last
          e seen before is passes
      by_test false fails =
          is ∙ ap first_of (not_to_come (def_kind s.by_tag_name) s.archive.now
          s.asked s.last e seen fails)

  all_seen : (before : Option Posting) (seen es : List Posting) → before ≡ first_of (Come seen)
      → first_among s before es ≡ first_of (Come (seen ++ es))
  all_seen before seen [] is = is ∙ ap (λ l. first_of (Come l)) (sym (append-nil seen))
  all_seen before seen (e ∷ es) is =
      all_seen (earlier_of s before e) (seen ++ e ∷ []) es (one_seen before e seen is)
      ∙ ap (λ l. first_of (Come l)) (append_assoc seen (e ∷ []) es)

  pub among_all : (es : List Posting) → first_among s None es ≡ first_of (Come es)
  unfolding in_order
  among_all es = all_seen None [] es refl

-- a search of files whose names ascend goes on
pub goes_on : (by : Bool) (a : Archived) (asked : Asked) (shown : List Shown)
    → AreAscending a shown
    → GoesOn (def_kind by) a asked (all_entries (lister_of (def_kind by)) a shown)
goes_on by a asked shown up last e is =
    let all = all_entries (lister_of (def_kind by)) a shown in
    next_to_come (def_kind by) a asked all
    (ordered_less (ComesFirst a) Differ (come_differ a) all
    (all_ordered a (lister_of (def_kind by)) (rising_defs by) shown up)) last e is
