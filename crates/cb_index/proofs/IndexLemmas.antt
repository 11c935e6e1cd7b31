-- What an index holds while versions come and go.
use Rattle.std.proofs.Common.{◌≡◌, ◌∙◌, ◌≤◌, ◌<◌, ◌+◌, ℕ, suc, Bool, true, false, List, [], ◌∷◌}
use Rattle.std.proofs.Common.{◌++◌, Some, None, refl, sym, ap, subst, length, map, drop, drop-cons}
use Rattle.std.proofs.Common.{filter, get_or, arith}
use Rattle.std.proofs.lemmas.Bool.{true≢false}
use Rattle.std.proofs.lemmas.Bool.Decides.{Decides-eqb}
use Rattle.std.proofs.lemmas.Cmp.{nat_cmp_total, nat_list_cmp_total, tied_itself}
use Rattle.std.proofs.lemmas.List.Elements.{filter-append}
use Rattle.std.proofs.lemmas.List.{length-append, length-map}
use Rattle.std.proofs.lemmas.List.Sums.{sum_by-append, sum_by-cons}
use Rattle.std.proofs.lemmas.Option.{none-some}
use Rattle.std.proofs.lemmas.Slice.Eq.{bytes_eq-Decides}
use Rattle.std.specs.Prelude.{cond, nat_eq, not, sum_by, Option}
use Rattle.std.specs.Cmp.{nat_cmp_is}
use Rattle.std.specs.Cmp.Lexicographic.{slice_cmp}
use Rattle.std.specs.List.{AllByRecursion}
use Rattle.std.specs.Str.{bytes_eq}
use Rattle.std.specs.Ordering.{nat_cmp, ordering_then}
use Rattle.std.specs.declared.cmp.Ordering.TheVariants.{Less, Equal}
use Rattle.cb_scan.specs.Order.{AreOrdered, in_order}
use Rattle.cb_scan.proofs.FunctionsRise.{all_implied}
use Rattle.cb_scan.proofs.WithinLemmas.{all-append}
use Rattle.cb_index.specs.Scanned.{Scanned}
use Rattle.cb_index.specs.Archived.{Archived, name_of, text_at}
use Rattle.cb_index.specs.Entries.{Keyer, file_key, numbers, sort_key}
use Rattle.cb_index.specs.Files.{AreApart, AreAscending, shown_under, total}
use Rattle.cb_index.specs.Held.{AreRising, Listed, Lister, all_entries, entries_of, entry_of}
use Rattle.cb_index.specs.Held.{listed_of}
use Rattle.cb_index.specs.Shelved.{IsIndexOf}
use Rattle.cb_index.specs.declared.entry.Posting.{Posting}
use Rattle.cb_index.specs.declared.entry.Shown.{Shown}
use Rattle.cb_index.proofs.EntryLemmas.{file_cmp, sort_exact}
use Rattle.cb_index.proofs.InOrderLemmas.{filter_in_order, in_order_cong, same_order, sum_flat}

-- ---- the entries of one version
abbrev pub IsUnder : Shown → Posting → Type 0
IsUnder s e = (e.name ≡ s.name) × (e.version ≡ s.version)

under_all : (s : Shown) (items : List Listed) → AllByRecursion (IsUnder s) (map (entry_of s) items)
under_all s [] = tt
under_all s (item ∷ items) = ((refl, refl), under_all s items)

-- ---- an index takes a version in
-- ---- an index takes many versions in
-- ---- and lets some go, by the numbers of their names
module _ (lister : Lister) (a : Archived) (stays : ℕ → Bool) where
  nothing : (b : Bool) → ◌≡◌ {A = List Posting} [] (cond b [] [])
  nothing true = refl
  nothing false = refl

  kept_of : (s : Shown) (items : List Listed)
      → filter (λ (e : Posting). stays e.name) (map (entry_of s) items)
      ≡ cond (stays s.name) (map (entry_of s) items) []
  kept_of s [] = nothing (stays s.name)
  kept_of s (item ∷ items) =
      step (stays s.name) (entry_of s item)
      (filter (λ (e : Posting). stays e.name) (map (entry_of s) items))
      (map (entry_of s) items) (kept_of s items)
    where
      step : (b : Bool) (e : Posting) (kept es : List Posting) → kept ≡ cond b es []
          → cond b (e ∷ kept) kept ≡ cond b (e ∷ es) []
      step true e kept es is = ap (λ l. e ∷ l) is
      step false e kept es is = is

  kept_all : (shown : List Shown)
      → filter (λ (e : Posting). stays e.name) (all_entries lister a shown)
      ≡ all_entries lister a (filter (λ (s : Shown). stays s.name) shown)
  kept_all [] = refl
  kept_all (s ∷ shown) =
      filter-append (λ (e : Posting). stays e.name) (entries_of lister a s)
      (all_entries lister a shown)
      ∙ (λ i. kept_of s (listed_of lister a s.version) i ++ kept_all shown i)
      ∙ elim (stays s.name) as (λ b.
      cond b (entries_of lister a s) []
      ++ all_entries lister a (filter (λ (t : Shown). stays t.name) shown)
      ≡ all_entries lister a (cond b (s ∷ filter (λ (t : Shown). stays t.name) shown)
      (filter (λ (t : Shown). stays t.name) shown))) [ true ↦ refl | false ↦ refl ]

  pub indexed_take : (keyer : Keyer) (shown : List Shown) (es : List Posting)
      → IsIndexOf keyer lister a shown es
      → IsIndexOf keyer lister a (filter (λ (s : Shown). stays s.name) shown)
      (filter (λ (e : Posting). stays e.name) es)
  indexed_take keyer shown es is =
      ap (filter (λ (e : Posting). stays e.name)) is
      ∙ filter_in_order (sort_key keyer a) (sort_exact keyer a) (λ (e : Posting). stays e.name)
      (all_entries lister a shown)
      ∙ ap (in_order (sort_key keyer a)) (kept_all shown)

-- ---- and lets one version go
module _ (a : Archived) (name : ℕ) where
  abbrev pub is_other : Shown → Bool
  is_other s = not (nat_eq s.name name)

  -- nothing goes where nothing is shown under the name
  pub none_under : (shown : List Shown) → shown_under name shown ≡ None
      → filter (λ (s : Shown). not (nat_eq s.name name)) shown ≡ shown
  none_under [] is = refl
  none_under (s ∷ shown) is = by_test (nat_eq s.name name) refl (none_under shown)
    where
      by_test : (b : Bool) → nat_eq s.name name ≡ b
          → (shown_under name shown ≡ None → filter is_other shown ≡ shown)
          → filter is_other (s ∷ shown) ≡ s ∷ shown
      by_test true eq later =
          absurd (none-some s (sym is ∙ ap (λ b. cond b (Some s) (shown_under name shown)) eq))
      by_test false eq later =
          ap (λ b. cond (not b) (s ∷ filter is_other shown) (filter is_other shown)) eq
          ∙ ap (λ l. s ∷ l)
          (later (sym (ap (λ b. cond b (Some s) (shown_under name shown)) eq) ∙ is))

  -- all that have another file name stay
  pub later_stay : (s : Shown) → s.name ≡ name → (shown : List Shown)
      → AllByRecursion (λ (t : Shown). bytes_eq (name_of a s.name) (name_of a t.name) ≡ false) shown
      → filter (λ (t : Shown). not (nat_eq t.name name)) shown ≡ shown
  later_stay s same [] apart = refl
  later_stay s same (t ∷ shown) apart =
      by_test (nat_eq t.name name) refl (later_stay s same shown apart.1)
    where
      by_test : (b : Bool) → nat_eq t.name name ≡ b → filter is_other shown ≡ shown
          → filter is_other (t ∷ shown) ≡ t ∷ shown
      by_test true eq later =
          let equal : s.name ≡ t.name = same ∙ sym ((Decides-eqb t.name name).0 eq) in
          absurd (true≢false (sym ((bytes_eq-Decides (name_of a s.name) (name_of a t.name)).1
          (ap (name_of a) equal)) ∙ apart.0))
      by_test false eq later =
          ap (λ b. cond (not b) (t ∷ filter is_other shown) (filter is_other shown)) eq
          ∙ ap (λ l. t ∷ l) later

  abbrev shown_or : Shown → Option Shown → Shown
  shown_or d None = d
  shown_or d (Some s) = s

  -- what is shown under the name, and the others
  module _ (size : Shown → ℕ) where
    pub out_sum : (shown : List Shown) (one : Shown) → shown_under name shown ≡ Some one
        → AreApart a shown
        → sum_by size shown
        ≡ size one + sum_by size (filter (λ (s : Shown). not (nat_eq s.name name)) shown)
    unfolding AreOrdered
    out_sum [] one is up = absurd (none-some one is)
    out_sum (s ∷ shown) one is up =
        by_test (nat_eq s.name name) refl (λ under. out_sum shown one under up.1)
      where
        by_test : (b : Bool) → nat_eq s.name name ≡ b
            → (shown_under name shown ≡ Some one
            → sum_by size shown ≡ size one + sum_by size (filter is_other shown))
            → sum_by size (s ∷ shown) ≡ size one + sum_by size (filter is_other (s ∷ shown))
        by_test true eq rest =
            let first : Some s ≡ Some one =
            sym (ap (λ b. cond b (Some s) (shown_under name shown)) eq) ∙ is in
            let same : s ≡ one = ap (shown_or s) first in
            sum_by-cons size s shown
            ∙ (λ i. size (same i)
            + sum_by size (sym (later_stay s ((Decides-eqb s.name name).0 eq) shown up.0) i))
            ∙ ap (λ b. size one + sum_by size
            (cond (not b) (s ∷ filter is_other shown) (filter is_other shown))) (sym eq)
        by_test false eq rest =
            let later = rest (sym (ap (λ b. cond b (Some s) (shown_under name shown)) eq) ∙ is) in
            let whole = sum_by-cons size s shown in
            let kept = sum_by-cons size s (filter is_other shown) in
            let stays : sum_by size (filter is_other (s ∷ shown))
            ≡ sum_by size (s ∷ filter is_other shown) =
            ap (λ b. sum_by size (cond (not b) (s ∷ filter is_other shown) (filter is_other shown)))
            eq in
            omega (arith, later, whole, kept, stays)

  -- an index has the entries of what is shown under the name, and those of the others
  pub indexed_out : (keyer : Keyer) (lister : Lister) (shown : List Shown)
      (one : Shown) (es : List Posting)
      → shown_under name shown ≡ Some one → AreApart a shown → IsIndexOf keyer lister a shown es
      → es ≡ in_order (sort_key keyer a)
      (entries_of lister a one
      ++ all_entries lister a (filter (λ (s : Shown). not (nat_eq s.name name)) shown))
  indexed_out keyer lister shown one es under up is =
      is
      ∙ same_order (sort_key keyer a) (sort_exact keyer a) (all_entries lister a shown)
      (entries_of lister a one
      ++ all_entries lister a (filter (λ (s : Shown). not (nat_eq s.name name)) shown))
      (λ f.
      let whole = sum_flat (entries_of lister a) f shown in
      let left = sum_flat (entries_of lister a) f (filter is_other shown) in
      let out = out_sum (λ s. sum_by f (entries_of lister a s)) shown one under up in
      let both =
      sum_by-append f (entries_of lister a one) (all_entries lister a (filter is_other shown)) in
      omega (arith, whole, left, out, both))

-- ---- the archive changes elsewhere
abbrev pub IsSame : Archived → Archived → Shown → Type 0
IsSame a b s =
    (text_at b s.version ≡ text_at a s.version)
    × (name_of b s.name ≡ name_of a s.name)

module _ (keyer : Keyer) (lister : Lister) (a b : Archived) where
  same_entries : (shown : List Shown) → AllByRecursion (IsSame a b) shown
      → all_entries lister b shown ≡ all_entries lister a shown
  same_entries [] all = refl
  same_entries (s ∷ shown) all =
      λ i. map (entry_of s) (lister (all.0.0 i)) ++ same_entries shown all.1 i

  same_key : (s : Shown) → IsSame a b s → (e : Posting) → IsUnder s e
      → sort_key keyer a e ≡ sort_key keyer b e
  unfolding sort_key
  same_key s same e of =
      let text : text_at a e.version ≡ text_at b e.version =
      ap (text_at a) of.1 ∙ sym same.0 ∙ sym (ap (text_at b) of.1) in
      let name : name_of a e.name ≡ name_of b e.name =
      ap (name_of a) of.0 ∙ sym same.1 ∙ sym (ap (name_of b) of.0) in
      λ i. e.prefix
      ∷ (map suc (keyer (text i) (name i) e.number) ++ (0 ∷ (map suc (name i) ++ (0 ∷ numbers e))))

  same_keys : (shown : List Shown) → AllByRecursion (IsSame a b) shown
      → AllByRecursion (λ e. sort_key keyer a e ≡ sort_key keyer b e) (all_entries lister a shown)
  same_keys [] all = tt
  same_keys (s ∷ shown) all =
      all-append (λ e. sort_key keyer a e ≡ sort_key keyer b e) (entries_of lister a s)
      (all_entries lister a shown)
      (all_implied (IsUnder s) (λ e. sort_key keyer a e ≡ sort_key keyer b e) (same_key s all.0)
      (entries_of lister a s) (under_all s (listed_of lister a s.version)))
      (same_keys shown all.1)

  -- what an index holds depends on what stands under its numbers alone
  pub indexed_same : (shown : List Shown) (es : List Posting) → AllByRecursion (IsSame a b) shown
      → IsIndexOf keyer lister a shown es → IsIndexOf keyer lister b shown es
  indexed_same shown es all is =
      is ∙ in_order_cong (sort_key keyer a) (sort_key keyer b) (all_entries lister a shown)
      (same_keys shown all)
      ∙ ap (in_order (sort_key keyer b)) (sym (same_entries shown all))

-- ---- there is room for the entries where there is room for the facts
module _ (lister : Lister) (count : Option Scanned → ℕ)
    (fewer : (t : Option Scanned) → length (lister t) ≤ count t) (a : Archived) where
  pub length_all : (shown : List Shown) → length (all_entries lister a shown) ≤ total count a shown
  length_all [] = omega arith
  length_all (s ∷ shown) =
      let both : length (entries_of lister a s ++ all_entries lister a shown)
      ≡ length (entries_of lister a s) + length (all_entries lister a shown) =
      length-append (entries_of lister a s) (all_entries lister a shown) in
      let one : length (entries_of lister a s) ≡ length (lister (text_at a s.version)) =
      length-map (listed_of lister a s.version) (entry_of s) in
      omega (arith, both, one, fewer (text_at a s.version), length_all shown)

-- ---- the entries of one version after another
module _ (lister : Lister) (a : Archived) (shown : List Shown) (i : ℕ) (d : Shown)
    (es old : List Posting) (room : ℕ) where
  pub next_fits : i < length shown
      → es ++ all_entries lister a (drop i shown) ≡ old ++ all_entries lister a shown
      → length old + length (all_entries lister a shown) ≤ room
      → length es + length (listed_of lister a (get_or shown i d).version) ≤ room
  next_fits below is enough =
      let s : Shown = get_or shown i d in
      let later : List Posting = all_entries lister a (drop (suc i) shown) in
      let whole : length (es ++ (entries_of lister a s ++ later))
      ≡ length (old ++ all_entries lister a shown) =
      ap (λ l. length (es ++ all_entries lister a l)) (sym (drop-cons shown i d below))
      ∙ ap length is in
      let front = length-append es (entries_of lister a s ++ later) in
      let back = length-append (entries_of lister a s) later in
      let all = length-append old (all_entries lister a shown) in
      let one = length-map (listed_of lister a s.version) (entry_of s) in
      omega (arith, whole, front, back, all, one, enough)

-- ---- two lists that are ordered, one after the other
pub ordered-append : {X : Type 0} (R : X → X → Type 0) (xs ys : List X) → AreOrdered R xs
    → AreOrdered R ys
    → AllByRecursion (λ x. AllByRecursion (R x) ys) xs → AreOrdered R (xs ++ ys)
unfolding AreOrdered
ordered-append R [] ys front back across = back
ordered-append R (x ∷ xs) ys front back across =
    (all-append (R x) xs ys front.0 across.0, ordered-append R xs ys front.1 back across.1)

-- ---- entries go by file and number
-- e comes before f in the order of files
abbrev pub ComesFirst : Archived → Posting → Posting → Type 0
ComesFirst a e f = slice_cmp nat_cmp (file_key a e) (file_key a f) ≡ Less

module _ (a : Archived) where
  pub by_number : (e f : Posting) → e.name ≡ f.name → e.version ≡ f.version → e.number < f.number
      → ComesFirst a e f
  by_number e f name version less =
      let number : nat_cmp e.number f.number ≡ Less =
      sym (nat_cmp_is e.number f.number Less less) in
      let names : nat_cmp e.name f.name ≡ Equal =
      subst (λ n. nat_cmp e.name n ≡ Equal) name (tied_itself nat_cmp_total e.name) in
      let versions : nat_cmp e.version f.version ≡ Equal =
      subst (λ n. nat_cmp e.version n ≡ Equal) version (tied_itself nat_cmp_total e.version) in
      let files : slice_cmp nat_cmp (name_of a e.name) (name_of a f.name) ≡ Equal =
      subst (λ n. slice_cmp nat_cmp (name_of a e.name) (name_of a n) ≡ Equal) name
      (tied_itself nat_list_cmp_total (name_of a e.name)) in
      sym (file_cmp a e f)
      ∙ (λ i. ordering_then (files i) (ordering_then (names i) (ordering_then (versions i)
      (ordering_then (number i) (slice_cmp nat_cmp (e.rows ∷ []) (f.rows ∷ []))))))

  by_name : (e f : Posting) → slice_cmp nat_cmp (name_of a e.name) (name_of a f.name) ≡ Less
      → ComesFirst a e f
  by_name e f less =
      sym (file_cmp a e f)
      ∙ ap (λ o. ordering_then o (slice_cmp nat_cmp (numbers e) (numbers f))) less

  behind : (s : Shown) (item : Listed) (items : List Listed)
      → AllByRecursion (λ (j : Listed). item.number < j.number) items
      → AllByRecursion (ComesFirst a (entry_of s item)) (map (entry_of s) items)
  behind s item [] up = tt
  behind s item (j ∷ items) up =
      (by_number (entry_of s item) (entry_of s j) refl refl up.0, behind s item items up.1)

  one_ordered : (s : Shown) (items : List Listed) → AreRising items
      → AreOrdered (ComesFirst a) (map (entry_of s) items)
  unfolding AreOrdered
  one_ordered s [] up = tt
  one_ordered s (item ∷ items) up = (behind s item items up.0, one_ordered s items up.1)

  module _ (lister : Lister) (rising : (t : Option Scanned) → AreRising (lister t)) where
    later_files : (s : Shown) (e : Posting) → e.name ≡ s.name → (shown : List Shown)
        → AllByRecursion
        (λ (t : Shown). slice_cmp nat_cmp (name_of a s.name) (name_of a t.name) ≡ Less) shown
        → AllByRecursion (ComesFirst a e) (all_entries lister a shown)
    later_files s e is [] all = tt
    later_files s e is (t ∷ shown) all =
        all-append (ComesFirst a e) (entries_of lister a t) (all_entries lister a shown)
        (all_implied (IsUnder t) (ComesFirst a e)
        (λ f of.
        by_name e f ((λ i. slice_cmp nat_cmp (name_of a (is i)) (name_of a (of.0 i))) ∙ all.0))
        (entries_of lister a t) (under_all t (listed_of lister a t.version)))
        (later_files s e is shown all.1)

    -- the entries of files that ascend go by file and number
    pub all_ordered : (shown : List Shown) → AreAscending a shown
        → AreOrdered (ComesFirst a) (all_entries lister a shown)
    unfolding AreOrdered
    all_ordered [] up = tt
    all_ordered (s ∷ shown) up =
        ordered-append (ComesFirst a) (entries_of lister a s) (all_entries lister a shown)
        (one_ordered s (listed_of lister a s.version) (rising (text_at a s.version)))
        (all_ordered shown up.1)
        (all_implied (IsUnder s) (λ e. AllByRecursion (ComesFirst a e) (all_entries lister a shown))
        (λ e of. later_files s e of.0 shown up.0)
        (entries_of lister a s) (under_all s (listed_of lister a s.version)))
