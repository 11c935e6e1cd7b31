-- An index whose newest versions wait.
use Rattle.std.proofs.Common.{◌≡◌, ◌∙◌, ◌≤◌, ◌<◌, ◌+◌, ℕ, Bool, true, false, List, [], ◌∷◌, ◌++◌}
use Rattle.std.proofs.Common.{Some, None, refl, sym, ap, append-nil, append_assoc, subst, length}
use Rattle.std.proofs.Common.{filter, take, drop, cond, suc, arith}
use Rattle.std.proofs.Math.Bool.{or-false}
use Rattle.std.proofs.lemmas.Bool.{true≢false}
use Rattle.std.proofs.lemmas.Bool.Decides.{Decides-eqb}
use Rattle.std.proofs.lemmas.List.Elements.{filter-append}
use Rattle.std.proofs.lemmas.List.{length-append}
use Rattle.std.proofs.lemmas.List.Sums.{sum_by-append}
use Rattle.std.proofs.lemmas.Option.{none-some}
use Rattle.std.proofs.lemmas.Slice.Eq.{bytes_eq-Decides}
use Rattle.std.specs.Prelude.{nat_eq, not, sum_by, slice_index_or, Option, ◌||◌}
use Rattle.std.specs.List.{AllByRecursion, list_any, prefix_len}
use Rattle.std.specs.Str.{bytes_eq}
use Rattle.cb_scan.specs.Order.{AreOrdered, goes_first, in_order, put}
use Rattle.cb_scan.proofs.FactsWithin.{all_in_order}
use Rattle.cb_scan.proofs.FunctionsRise.{all_implied}
use Rattle.cb_scan.proofs.OrderLemmas.{in_order_sum}
use Rattle.cb_index.specs.Scanned.{Scanned}
use Rattle.cb_index.specs.Archived.{Archived, name_of}
use Rattle.cb_index.specs.Entries.{Keyer, sort_key}
use Rattle.cb_index.specs.Files.{AreApart, AreAscending, is_shown, shown_key, shown_name}
use Rattle.cb_index.specs.Files.{shown_under, total}
use Rattle.cb_index.specs.Held.{Indexed, Lister, all_entries, entries_of}
use Rattle.cb_index.specs.Names.{AreSingle, is_among}
use Rattle.cb_index.specs.Shelved.{Covers, IsIndexOf}
use Rattle.cb_index.specs.declared.entry.Posting.{Posting}
use Rattle.cb_index.specs.declared.entry.Shown.{Shown}
use Rattle.cb_index.proofs.EntryLemmas.{sort_exact}
use Rattle.cb_index.proofs.IndexLemmas.{IsSame, indexed_out, indexed_same, indexed_take, is_other}
use Rattle.cb_index.proofs.IndexLemmas.{length_all}
use Rattle.cb_index.proofs.InOrderLemmas.{all_filter, filter_in_order, in_order_cong}
use Rattle.cb_index.proofs.InOrderLemmas.{length_in_order, same_order, sum_flat}
use Rattle.cb_index.proofs.ListedLemmas.{IsApart, apart_append, apart_both, none_shown}
use Rattle.cb_index.proofs.ListedLemmas.{order_by_name, shown_exact}
use Rattle.cb_index.proofs.TotalLemmas.{total_append, total_in_order}

-- ---- what holds of all in order holds of all
module _ (key : Shown → List ℕ) (P : Shown → Type 0) where
  all_unput : (s : Shown) (shown : List Shown) → AllByRecursion P (put key s shown)
      → P s × AllByRecursion P shown
  unfolding put
  all_unput s [] all = all
  all_unput s (t ∷ shown) all = by_test (goes_first key s t) (λ rest. all_unput s shown rest) all
    where
      by_test : (b : Bool) → (AllByRecursion P (put key s shown) → P s × AllByRecursion P shown)
          → AllByRecursion P (cond b (s ∷ t ∷ shown) (t ∷ put key s shown))
          → P s × (P t × AllByRecursion P shown)
      by_test true later all = all
      by_test false later all = let rest = later all.1 in (rest.0, (all.0, rest.1))

  pub all_unordered : (shown : List Shown) → AllByRecursion P (in_order key shown)
      → AllByRecursion P shown
  unfolding in_order
  all_unordered [] all = tt
  all_unordered (s ∷ shown) all =
      let first = all_unput s (in_order key shown) all in (first.0, all_unordered shown first.1)

  pub all_front : (xs ys : List Shown) → AllByRecursion P (xs ++ ys) → AllByRecursion P xs
  all_front [] ys all = tt
  all_front (x ∷ xs) ys all = (all.0, all_front xs ys all.1)

-- ---- file names that are apart
module _ (a : Archived) where
  pub apart_front : (xs ys : List Shown) → AreApart a (xs ++ ys) → AreApart a xs
  unfolding AreOrdered
  apart_front [] ys apart = tt
  apart_front (x ∷ xs) ys apart =
      (all_front (shown_name a) (IsApart a x) xs ys apart.0, apart_front xs ys apart.1)

  pub apart_back : (xs ys : List Shown) → AreApart a (xs ++ ys) → AreApart a ys
  unfolding AreOrdered
  apart_back [] ys apart = apart
  apart_back (x ∷ xs) ys apart = apart_back xs ys apart.1

  all_single : (x : Shown) (xs : List Shown) → AllByRecursion (IsApart a x) xs
      → AllByRecursion (λ (y : Shown). nat_eq x.name y.name ≡ false) xs
  all_single x [] apart = tt
  all_single x (y ∷ xs) apart = (by_test (nat_eq x.name y.name) refl, all_single x xs apart.1)
    where
      by_test : (b : Bool) → nat_eq x.name y.name ≡ b → b ≡ false
      by_test true eq = absurd (true≢false
          (sym ((bytes_eq-Decides (name_of a x.name) (name_of a y.name)).1
          (ap (name_of a) ((Decides-eqb x.name y.name).0 eq))) ∙ apart.0))
      by_test false eq = refl

  -- names that are apart have numbers of their own
  pub apart_single : (xs : List Shown) → AreApart a xs → AreSingle xs
  unfolding AreOrdered
  apart_single [] apart = tt
  apart_single (x ∷ xs) apart = (all_single x xs apart.0, apart_single xs apart.1)

  pub apart_filter : (p : Shown → Bool) (xs : List Shown) → AreApart a xs → AreApart a (filter p xs)
  unfolding AreOrdered
  apart_filter p [] apart = tt
  apart_filter p (x ∷ xs) apart =
      elim (p x) as (λ b. AreApart a (cond b (x ∷ filter p xs) (filter p xs))) [
        | true ↦ (all_filter p (IsApart a x) xs apart.0, apart_filter p xs apart.1)
        | false ↦ apart_filter p xs apart.1
      ]

  -- those that stay are in the order in which all were
  pub filter_by_name : (p : Shown → Bool) (xs : List Shown) → AreApart a xs
      → filter p (in_order (shown_name a) xs) ≡ in_order (shown_name a) (filter p xs)
  filter_by_name p xs apart =
      ap (filter p) (sym (order_by_name a xs apart))
      ∙ filter_in_order (shown_key a) (shown_exact a) p xs
      ∙ order_by_name a (filter p xs) (apart_filter p xs apart)

  -- lists with the same members are in one order
  pub same_by_name : (xs ys : List Shown) → AreApart a xs → AreApart a ys
      → ((f : Shown → ℕ) → sum_by f xs ≡ sum_by f ys)
      → in_order (shown_name a) xs ≡ in_order (shown_name a) ys
  same_by_name xs ys first second same =
      sym (order_by_name a xs first) ∙ same_order (shown_key a) (shown_exact a) xs ys same
      ∙ order_by_name a ys second

-- ---- the version under a name
module _ (a : Archived) (name : ℕ) where
  abbrev pub has : Shown → Bool
  has s = nat_eq s.name name

  abbrev name_or : ℕ → Option Shown → ℕ
  name_or n None = n
  name_or n (Some s) = s.name

  -- two of one name are not apart
  one_name : (s t : Shown) → nat_eq s.name name ≡ true → nat_eq t.name name ≡ true
      → bytes_eq (name_of a s.name) (name_of a t.name) ≡ true
  one_name s t first second =
      (bytes_eq-Decides (name_of a s.name) (name_of a t.name)).1
      (ap (name_of a)
      ((Decides-eqb s.name name).0 first ∙ sym ((Decides-eqb t.name name).0 second)))

  -- which of two comes first does not matter
  swapped : (s t : Shown) (rest : Option Shown) → IsApart a s t
      → cond (nat_eq t.name name) (Some t) (cond (nat_eq s.name name) (Some s) rest)
      ≡ cond (nat_eq s.name name) (Some s) (cond (nat_eq t.name name) (Some t) rest)
  swapped s t rest apart = by_tests (nat_eq s.name name) (nat_eq t.name name) refl refl
    where
      by_tests : (p q : Bool) → nat_eq s.name name ≡ p → nat_eq t.name name ≡ q
          → cond q (Some t) (cond p (Some s) rest) ≡ cond p (Some s) (cond q (Some t) rest)
      by_tests true true first second =
          absurd (true≢false (sym (one_name s t first second) ∙ apart))
      by_tests true false first second = refl
      by_tests false true first second = refl
      by_tests false false first second = refl

  under_put : (s : Shown) (shown : List Shown) → AllByRecursion (IsApart a s) shown
      → shown_under name (put (shown_name a) s shown) ≡ shown_under name (s ∷ shown)
  unfolding put
  under_put s [] apart = refl
  under_put s (t ∷ shown) apart =
      elim (goes_first (shown_name a) s t) as
      (λ b. shown_under name (cond b (s ∷ t ∷ shown) (t ∷ put (shown_name a) s shown))
      ≡ shown_under name (s ∷ t ∷ shown)) [
        | true ↦ refl
        | false ↦ ap (λ o. cond (nat_eq t.name name) (Some t) o) (under_put s shown apart.1)
            ∙ swapped s t (shown_under name shown) apart.0
      ]

  -- it is shown under that name
  pub under_named : (shown : List Shown) (one : Shown) → shown_under name shown ≡ Some one
      → one.name ≡ name
  under_named [] one is = absurd (none-some one is)
  under_named (s ∷ shown) one is =
      by_test (nat_eq s.name name) refl (λ rest. under_named shown one rest) is
    where
      by_test : (b : Bool) → nat_eq s.name name ≡ b
          → (shown_under name shown ≡ Some one → one.name ≡ name)
          → cond b (Some s) (shown_under name shown) ≡ Some one → one.name ≡ name
      by_test true eq later is =
          ap (λ o. name_or s.name o) (sym is) ∙ (Decides-eqb s.name name).0 eq
      by_test false eq later is = later is

  -- it is what is shown under its own name
  pub under_itself : (shown : List Shown) (one : Shown) → shown_under name shown ≡ Some one
      → shown_under one.name shown ≡ Some one
  under_itself shown one under = ap (λ n. shown_under n shown) (under_named shown one under) ∙ under

  -- it is found in any order
  under_in_order : (shown : List Shown) → AreApart a shown
      → shown_under name (in_order (shown_name a) shown) ≡ shown_under name shown
  unfolding in_order AreOrdered
  under_in_order [] apart = refl
  under_in_order (s ∷ shown) apart =
      under_put s (in_order (shown_name a) shown)
      (all_in_order (shown_name a) (IsApart a s) shown apart.0)
      ∙ ap (λ o. cond (nat_eq s.name name) (Some s) o) (under_in_order shown apart.1)

  -- none is shown under a name that none has
  pub none_if : (ys : List Shown) → list_any has ys ≡ false → shown_under name ys ≡ None
  none_if [] none = refl
  none_if (y ∷ ys) none = by_test (nat_eq y.name name) (λ rest. none_if ys rest) none
    where
      by_test : (b : Bool) → (list_any has ys ≡ false → shown_under name ys ≡ None)
          → (b || list_any has ys) ≡ false
          → cond b (Some y) (shown_under name ys) ≡ None
      by_test true later none = absurd (true≢false none)
      by_test false later none = later none

  -- it is among the first where it is not among the last
  under_front : (xs ys : List Shown) → list_any has ys ≡ false
      → shown_under name (xs ++ ys) ≡ shown_under name xs
  under_front [] ys none = none_if ys none
  under_front (x ∷ xs) ys none =
      ap (λ o. cond (nat_eq x.name name) (Some x) o) (under_front xs ys none)

  -- the last stay where it is not among them
  pub last_stay : (ys : List Shown) → list_any has ys ≡ false
      → filter (λ (s : Shown). not (nat_eq s.name name)) ys ≡ ys
  last_stay [] none = refl
  last_stay (y ∷ ys) none = by_test (nat_eq y.name name) (λ rest. last_stay ys rest) none
    where
      by_test : (b : Bool) → (list_any has ys ≡ false → filter (is_other a name) ys ≡ ys)
          → (b || list_any has ys) ≡ false
          → cond (not b) (y ∷ filter (is_other a name) ys) (filter (is_other a name) ys) ≡ y ∷ ys
      by_test true later none = absurd (true≢false none)
      by_test false later none = ap (λ l. y ∷ l) (later none)

  none_named : (x : Shown) → nat_eq x.name name ≡ true → (ys : List Shown)
      → AllByRecursion (IsApart a x) ys → list_any has ys ≡ false
  none_named x first [] apart = refl
  none_named x first (y ∷ ys) apart =
      by_test (nat_eq y.name name) refl (none_named x first ys apart.1)
    where
      by_test : (b : Bool) → nat_eq y.name name ≡ b → list_any has ys ≡ false
          → (b || list_any has ys) ≡ false
      by_test true eq later = absurd (true≢false (sym (one_name x y first eq) ∙ apart.0))
      by_test false eq later = later

  all_back : (x : Shown) (xs ys : List Shown) → AllByRecursion (IsApart a x) (xs ++ ys)
      → AllByRecursion (IsApart a x) ys
  all_back x [] ys apart = apart
  all_back x (y ∷ xs) ys apart = all_back x xs ys apart.1

  -- the first stay where it is among the last
  pub first_stay : (xs ys : List Shown) → AreApart a (xs ++ ys) → list_any has ys ≡ true
      → filter (λ (s : Shown). not (nat_eq s.name name)) xs ≡ xs
  unfolding AreOrdered
  first_stay [] ys apart some = refl
  first_stay (x ∷ xs) ys apart some =
      by_test (nat_eq x.name name) refl (first_stay xs ys apart.1 some)
    where
      by_test : (b : Bool) → nat_eq x.name name ≡ b → filter (is_other a name) xs ≡ xs
          → cond (not b) (x ∷ filter (is_other a name) xs) (filter (is_other a name) xs) ≡ x ∷ xs
      by_test true eq later =
          absurd (true≢false (sym some ∙ none_named x eq ys (all_back x xs ys apart.0)))
      by_test false eq later = ap (λ l. x ∷ l) later

-- ---- where a version waits
module _ (a : Archived) (name : ℕ) where
  abbrev others_before : List Shown → ℕ
  others_before ys = prefix_len (λ (s : Shown). not (nat_eq s.name name)) ys

  -- none waits under the name where all are passed
  pub none_waits : (ys : List Shown) → others_before ys ≡ length ys
      → list_any (has a name) ys ≡ false
  none_waits [] all = refl
  none_waits (y ∷ ys) all = by_test (nat_eq y.name name) (λ rest. none_waits ys rest) all
    where
      by_test : (b : Bool) → (others_before ys ≡ length ys → list_any (has a name) ys ≡ false)
          → cond (not b) (1 + others_before ys) 0 ≡ suc (length ys)
          → (b || list_any (has a name) ys) ≡ false
      by_test true later all = absurd (omega (arith, all))
      by_test false later all = later (omega (arith, all))

  -- one waits where not all are passed
  pub one_waits : (ys : List Shown) → others_before ys < length ys → list_any (has a name) ys ≡ true
  one_waits [] less = absurd (omega (arith, less))
  one_waits (y ∷ ys) less = by_test (nat_eq y.name name) (λ rest. one_waits ys rest) less
    where
      by_test : (b : Bool) → (others_before ys < length ys → list_any (has a name) ys ≡ true)
          → cond (not b) (1 + others_before ys) 0 < suc (length ys)
          → (b || list_any (has a name) ys) ≡ true
      by_test true later less = refl
      by_test false later less = later (omega (arith, less))

  -- it is the one that stands there
  pub one_there : (ys : List Shown) (d : Shown) → others_before ys < length ys
      → shown_under name ys ≡ Some (slice_index_or ys (others_before ys) d)
  one_there [] d less = absurd (omega (arith, less))
  one_there (y ∷ ys) d less = by_test (nat_eq y.name name) (λ rest. one_there ys d rest) less
    where
      by_test : (b : Bool)
          → (others_before ys < length ys
          → shown_under name ys ≡ Some (slice_index_or ys (others_before ys) d))
          → cond (not b) (1 + others_before ys) 0 < suc (length ys)
          → cond b (Some y) (shown_under name ys)
          ≡ Some (slice_index_or (y ∷ ys) (cond (not b) (1 + others_before ys) 0) d)
      by_test true later less = refl
      by_test false later less =
          let step : 1 + others_before ys ≡ suc (others_before ys) = omega arith in
          subst (λ n. shown_under name ys ≡ Some (slice_index_or (y ∷ ys) n d)) (sym step)
          (later (omega (arith, less)))

  -- without it the others are left
  pub others_left : (ys : List Shown) → AreApart a ys → others_before ys < length ys
      → take (others_before ys) ys ++ drop (suc (others_before ys)) ys
      ≡ filter (λ (s : Shown). not (nat_eq s.name name)) ys
  unfolding AreOrdered
  others_left [] apart less = absurd (omega (arith, less))
  others_left (y ∷ ys) apart less =
      by_test (nat_eq y.name name) refl (λ rest. others_left ys apart.1 rest) less
    where
      by_test : (b : Bool) → nat_eq y.name name ≡ b
          → (others_before ys < length ys → take (others_before ys) ys
          ++ drop (suc (others_before ys)) ys ≡ filter (is_other a name) ys)
          → cond (not b) (1 + others_before ys) 0 < suc (length ys)
          → take (cond (not b) (1 + others_before ys) 0) (y ∷ ys)
          ++ drop (suc (cond (not b) (1 + others_before ys) 0)) (y ∷ ys)
          ≡ cond (not b) (y ∷ filter (is_other a name) ys) (filter (is_other a name) ys)
      by_test true eq later less = sym (last_stay a name ys (none_named a name y eq ys apart.0))
      by_test false eq later less =
          let step : 1 + others_before ys ≡ suc (others_before ys) = omega arith in
          subst (λ n. take n (y ∷ ys) ++ drop (suc n) (y ∷ ys) ≡ y ∷ filter (is_other a name) ys)
          (sym step)
          (ap (λ l. y ∷ l) (later (omega (arith, less))))

-- ---- what is there, what waits and what is held
module _ (keyer : Keyer) (lister : Lister) (a : Archived) where
  pub covers_none : (shown : List Shown) (x : Indexed) → shown ≡ [] → x.held ≡ [] → x.pending ≡ []
      → Covers keyer lister a shown x
  unfolding in_order AreOrdered
  covers_none shown x none held waiting = record {
    sorted = [];
    held = held;
    all = none ∙ ap (in_order (shown_name a)) (sym waiting);
    apart = subst (AreApart a) (sym waiting) tt;
  }

  -- the same is held and waits
  pub covers_as : (shown then : List Shown) (x y : Indexed) → then ≡ shown → y.held ≡ x.held
      → y.pending ≡ x.pending
      → Covers keyer lister a shown x → Covers keyer lister a then y
  covers_as shown then x y same held waiting is = record {
    sorted = is.sorted;
    held = held ∙ is.held;
    all = same ∙ is.all ∙ ap (λ l. in_order (shown_name a) (is.sorted ++ l)) (sym waiting);
    apart = subst (λ l. AreApart a (is.sorted ++ l)) (sym waiting) is.apart;
  }

  -- those that are new wait
  pub covers_more : (shown news : List Shown) (x y : Indexed) → AreAscending a shown
      → AreApart a news
      → list_any (is_shown a shown) news ≡ false → y.held ≡ x.held → y.pending ≡ x.pending ++ news
      → Covers keyer lister a shown x
      → Covers keyer lister a (in_order (shown_name a) (shown ++ news)) y
  covers_more shown news x y up apart none held waiting is =
      let old : List Shown = is.sorted ++ x.pending in
      let assoc : old ++ news ≡ is.sorted ++ (x.pending ++ news) =
      append_assoc is.sorted x.pending news in
      let across : AllByRecursion (λ n. AllByRecursion (IsApart a n) old) news =
      all_implied (λ n. AllByRecursion (IsApart a n) shown) (λ n. AllByRecursion (IsApart a n) old)
      (λ n all. all_unordered (shown_name a) (IsApart a n) old
      (subst (AllByRecursion (IsApart a n)) is.all all)) news
      (none_shown a shown news none) in
      let both : AreApart a (old ++ news) = apart_append a old news is.apart apart across in
      record {
        sorted = is.sorted;
        held = held ∙ is.held;
        all =
            same_by_name a (shown ++ news) (old ++ news)
            (apart_both a shown news up apart none) both (λ f.
            let first = sum_by-append f shown news in
            let second = sum_by-append f old news in
            let moved = ap (sum_by f) is.all ∙ in_order_sum (shown_name a) f old in
            omega (arith, first, second, moved))
            ∙ ap (in_order (shown_name a)) (assoc ∙ ap (λ l. is.sorted ++ l) (sym waiting));
        apart = subst (AreApart a) (assoc ∙ ap (λ l. is.sorted ++ l) (sym waiting)) both;
      }

  -- some go, of those that are held and of those that wait
  pub covers_fewer : (stays : Shown → Bool) (shown : List Shown) (x y : Indexed)
      (is : Covers keyer lister a shown x)
      → y.held ≡ in_order (sort_key keyer a) (all_entries lister a (filter stays is.sorted))
      → y.pending ≡ filter stays x.pending → Covers keyer lister a (filter stays shown) y
  covers_fewer stays shown x y is held waiting =
      let parts : filter stays (is.sorted ++ x.pending) ≡ filter stays is.sorted ++ y.pending =
      filter-append stays is.sorted x.pending
      ∙ ap (λ l. filter stays is.sorted ++ l) (sym waiting) in
      record {
        sorted = filter stays is.sorted;
        held = held;
        all =
            ap (filter stays) is.all ∙ filter_by_name a stays (is.sorted ++ x.pending) is.apart
            ∙ ap (in_order (shown_name a)) parts;
        apart = subst (AreApart a) parts (apart_filter a stays (is.sorted ++ x.pending) is.apart);
      }

  -- those of many names go
  pub covers_hidden : (stays : ℕ → Bool) (shown then : List Shown) (x y : Indexed)
      → then ≡ filter (λ (s : Shown). stays s.name) shown
      → y.held ≡ filter (λ (e : Posting). stays e.name) x.held
      → y.pending ≡ filter (λ (s : Shown). stays s.name) x.pending
      → Covers keyer lister a shown x → Covers keyer lister a then y
  covers_hidden stays shown then x y left held waiting is =
      subst (λ l. Covers keyer lister a l y) (sym left)
      (covers_fewer (λ (s : Shown). stays s.name) shown x y is
      (held ∙ indexed_take lister a stays keyer is.sorted x.held is.held) waiting)

  -- one that waits goes
  pub covers_unwaited : (name : ℕ) (shown : List Shown) (x y : Indexed)
      → others_before a name x.pending < length x.pending
      → y.held ≡ x.held → y.pending ≡ take (others_before a name x.pending) x.pending
      ++ drop (suc (others_before a name x.pending)) x.pending
      → Covers keyer lister a shown x
      → Covers keyer lister a (filter (λ (s : Shown). not (nat_eq s.name name)) shown) y
  covers_unwaited name shown x y less held waiting is =
      covers_fewer (λ (s : Shown). not (nat_eq s.name name)) shown x y is
      (held ∙ is.held ∙ ap (λ l. in_order (sort_key keyer a) (all_entries lister a l))
      (sym (first_stay a name is.sorted x.pending is.apart (one_waits a name x.pending less))))
      (waiting ∙ others_left a name x.pending (apart_back a is.sorted x.pending is.apart) less)

  -- one that is held goes
  pub covers_held : (one : Shown) (shown : List Shown) (x : Indexed)
      → list_any (λ (s : Shown). nat_eq s.name one.name) x.pending ≡ false
      → shown_under one.name shown ≡ Some one → (is : Covers keyer lister a shown x)
      → x.held ≡ in_order (sort_key keyer a) (entries_of lister a one
      ++ all_entries lister a (filter (λ (s : Shown). not (nat_eq s.name one.name)) is.sorted))
  covers_held one shown x none under is =
      indexed_out a one.name keyer lister is.sorted one x.held
      (sym (under_front a one.name is.sorted x.pending none)
      ∙ sym (under_in_order a one.name (is.sorted ++ x.pending) is.apart)
      ∙ ap (shown_under one.name) (sym is.all) ∙ under)
      (apart_front a is.sorted x.pending is.apart) is.held

  pub covers_unheld : (one : Shown) (shown : List Shown) (x y : Indexed)
      → list_any (λ (s : Shown). nat_eq s.name one.name) x.pending ≡ false
      → (is : Covers keyer lister a shown x)
      → y.held ≡ in_order (sort_key keyer a)
      (all_entries lister a (filter (λ (s : Shown). not (nat_eq s.name one.name)) is.sorted))
      → y.pending ≡ x.pending
      → Covers keyer lister a (filter (λ (s : Shown). not (nat_eq s.name one.name)) shown) y
  covers_unheld one shown x y none is held waiting =
      covers_fewer (λ (s : Shown). not (nat_eq s.name one.name)) shown x y is held
      (waiting ∙ sym (last_stay a one.name x.pending none))

  -- one that is held goes by a pass over all
  pub covers_passed : (one : Shown) (shown : List Shown) (x y : Indexed)
      → list_any (λ (s : Shown). nat_eq s.name one.name) x.pending ≡ false
      → y.held ≡ filter (λ (e : Posting). not (is_among (one.name ∷ []) e.name)) x.held
      → y.pending ≡ x.pending → Covers keyer lister a shown x
      → Covers keyer lister a (filter (λ (s : Shown). not (nat_eq s.name one.name)) shown) y
  covers_passed one shown x y none held waiting is =
      covers_hidden (λ n. not (nat_eq n one.name)) shown
      (filter (λ (s : Shown). not (nat_eq s.name one.name)) shown) x y refl
      (held ∙ (λ i. filter (λ (e : Posting). not (or-false (nat_eq e.name one.name) i)) x.held))
      (waiting ∙ sym (last_stay a one.name x.pending none)) is

  -- ---- what waits is put in order
  pub covers_settled : (shown : List Shown) (x y : Indexed)
      → y.held ≡ in_order (sort_key keyer a) (x.held ++ all_entries lister a x.pending)
      → y.pending ≡ []
      → Covers keyer lister a shown x → Covers keyer lister a shown y
  covers_settled shown x y held waiting is =
      let all : List Shown = is.sorted ++ x.pending in
      let none : all ++ y.pending ≡ all = ap (λ l. all ++ l) waiting ∙ append-nil all in
      record {
        sorted = all;
        held =
            held ∙ same_order (sort_key keyer a) (sort_exact keyer a)
            (x.held ++ all_entries lister a x.pending) (all_entries lister a all) (λ f.
            let size : Shown → ℕ = λ s. sum_by f (entries_of lister a s) in
            let both = sum_by-append f x.held (all_entries lister a x.pending) in
            let old =
            ap (sum_by f) is.held
            ∙ in_order_sum (sort_key keyer a) f (all_entries lister a is.sorted) in
            let first = sum_flat (entries_of lister a) f is.sorted in
            let last = sum_flat (entries_of lister a) f x.pending in
            let whole = sum_flat (entries_of lister a) f all in
            let parts = sum_by-append size is.sorted x.pending in
            omega (arith, both, old, first, last, whole, parts));
        all = is.all ∙ ap (in_order (shown_name a)) (sym none);
        apart = subst (AreApart a) (sym none) is.apart;
      }

  -- where nothing waits all is held
  pub covers_read : (shown : List Shown) (x : Indexed) → x.pending ≡ []
      → Covers keyer lister a shown x → IsIndexOf keyer lister a shown x.held
  covers_read shown x none is =
      is.held ∙ same_order (sort_key keyer a) (sort_exact keyer a) (all_entries lister a is.sorted)
      (all_entries lister a shown) (λ f.
      let size : Shown → ℕ = λ s. sum_by f (entries_of lister a s) in
      let old = sum_flat (entries_of lister a) f is.sorted in
      let all = sum_flat (entries_of lister a) f shown in
      let moved : sum_by size shown ≡ sum_by size is.sorted =
      ap (sum_by size) is.all ∙ in_order_sum (shown_name a) size (is.sorted ++ x.pending)
      ∙ ap (λ l. sum_by size (is.sorted ++ l)) none ∙ ap (sum_by size) (append-nil is.sorted) in
      omega (arith, old, all, moved))

  -- no more versions wait than are shown
  pub covers_length : (shown : List Shown) (x : Indexed) → Covers keyer lister a shown x
      → length x.pending ≤ length shown
  covers_length shown x is =
      let all = ap length is.all ∙ length_in_order (shown_name a) (is.sorted ++ x.pending) in
      let both = length-append is.sorted x.pending in
      omega (arith, all, both)

  -- what is held and what waits have no more entries than there are facts
  pub covers_fits : (count : Option Scanned → ℕ)
      → ((t : Option Scanned) → length (lister t) ≤ count t)
      → (shown : List Shown) (x : Indexed) (n room : ℕ) → n ≡ total count a shown → n ≤ room
      → Covers keyer lister a shown x
      → length x.held + length (all_entries lister a x.pending) ≤ room
  covers_fits count fewer shown x n room all fits is =
      let held =
      ap length is.held ∙ length_in_order (sort_key keyer a) (all_entries lister a is.sorted) in
      let first = length_all lister count fewer a is.sorted in
      let last = length_all lister count fewer a x.pending in
      let whole =
      ap (total count a) is.all ∙ total_in_order count a (shown_name a) (is.sorted ++ x.pending)
      ∙ total_append count a is.sorted x.pending in
      omega (arith, held, first, last, whole, all, fits)

-- ---- the archive changes elsewhere
module _ (keyer : Keyer) (lister : Lister) (a b : Archived) where
  apart_later : (s : Shown) → IsSame a b s → (shown : List Shown)
      → AllByRecursion (IsSame a b) shown
      → AllByRecursion (IsApart a s) shown → AllByRecursion (IsApart b s) shown
  apart_later s same [] all apart = tt
  apart_later s same (t ∷ shown) all apart =
      ((λ i. bytes_eq (same.1 i) (all.0.1 i)) ∙ apart.0, apart_later s same shown all.1 apart.1)

  same_apart : (shown : List Shown) → AllByRecursion (IsSame a b) shown → AreApart a shown
      → AreApart b shown
  unfolding AreOrdered
  same_apart [] all apart = tt
  same_apart (s ∷ shown) all apart =
      (apart_later s all.0 shown all.1 apart.0, same_apart shown all.1 apart.1)

  pub covers_same : (shown : List Shown) (x : Indexed) → AllByRecursion (IsSame a b) shown
      → Covers keyer lister a shown x
      → Covers keyer lister b shown x
  covers_same shown x same is =
      let both : List Shown = is.sorted ++ x.pending in
      let all : AllByRecursion (IsSame a b) both =
      all_unordered (shown_name a) (IsSame a b) both
      (subst (AllByRecursion (IsSame a b)) is.all same) in
      record {
        sorted = is.sorted;
        held =
            indexed_same keyer lister a b is.sorted x.held
            (all_front (shown_name a) (IsSame a b) is.sorted x.pending all) is.held;
        all = is.all ∙ in_order_cong (shown_name a) (shown_name b) both
            (all_implied (IsSame a b) (λ s. shown_name a s ≡ shown_name b s)
            (λ s one. sym one.1) both all);
        apart = same_apart both all is.apart;
      }
