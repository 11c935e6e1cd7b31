-- Parts between which the prefixes change are put in order each for itself.
use Rattle.std.proofs.Common.{◌≡◌, ◌∙◌, ◌≤◌, ◌<◌, ◌+◌, ◌++◌, ℕ, zero, suc, Bool, true, false}
use Rattle.std.proofs.Common.{List, [], ◌∷◌, set}
use Rattle.std.proofs.Common.{refl, sym, ap, map, take, drop, length, get_or, arith}
use Rattle.std.proofs.lemmas.Bool.{false≢true}
use Rattle.std.proofs.lemmas.Bool.Decides.{Decides-eqb, nat_tests}
use Rattle.std.proofs.lemmas.Cmp.{nat_cmp_total, tied_itself}
use Rattle.std.proofs.lemmas.List.{take-append-drop}
use Rattle.std.proofs.lemmas.List.Sums.{sum_by-append}
use Rattle.std.specs.Prelude.{nat_eq, not, sum_by, ◌&&◌}
use Rattle.std.specs.Cmp.Lexicographic.{slice_cmp}
use Rattle.std.specs.List.{AllByRecursion, list_all}
use Rattle.std.specs.List.Sorted.{IsPartitionPoint}
use Rattle.std.specs.Ordering.{is_gt, nat_cmp, ordering_then}
use Rattle.std.specs.declared.cmp.Ordering.TheVariants.{Less}
use Rattle.cb_scan.specs.Order.{AreOrdered, goes_first, in_order}
use Rattle.cb_scan.proofs.FactsWithin.{all_in_order}
use Rattle.cb_scan.proofs.FunctionsRise.{all_implied}
use Rattle.cb_scan.proofs.KeyOrder.{prefix_first as words_first, then_assoc}
use Rattle.cb_scan.proofs.OrderLemmas.{Sorted, in_order_sorted, in_order_sum, unique}
use Rattle.cb_scan.proofs.WithinLemmas.{all-append}
use Rattle.cb_index.specs.Archived.{Archived}
use Rattle.cb_index.specs.Entries.{Keyer, bytes_key, file_key, key_of, sort_key}
use Rattle.cb_index.specs.steps.Quick.{IsBoundary, IsDeep, with_prefix}
use Rattle.cb_index.specs.declared.entry.Posting.{Posting}
use Rattle.cb_index.proofs.EntryLemmas.{bytes_cmp, sort_exact}
use Rattle.cb_index.proofs.InOrderLemmas.{in_order_agree, map_in_order}
use Rattle.cb_index.proofs.SortedLemmas.{all_behind, all_upto}

-- ---- prefixes
number_less : (x y : ℕ) → x < y → nat_cmp x y ≡ Less
number_less x y less = grind (arith, nat_tests, less)

-- a place where a test on the prefix parts the entries
pub parted_at : (p : Posting → Bool) (bound n : ℕ) (es : List Posting)
    → ((e : Posting) → p e ≡ true → e.prefix < bound)
    → ((e : Posting) → p e ≡ false → bound ≤ e.prefix) → n ≤ length es
    → IsPartitionPoint (λ e. p e ≡ true) (λ e. p e ≡ false) es n → IsBoundary es n
parted_at p bound n es ahead behind within parted = (
  within,
  (
    bound,
    all_implied (λ e. p e ≡ true) (λ (e : Posting). e.prefix < bound) ahead (take n es)
        (all_upto (λ e. p e ≡ true) n es within parted.0),
    all_implied (λ e. p e ≡ false) (λ (e : Posting). bound ≤ e.prefix) behind (drop n es)
        (all_behind (λ e. p e ≡ false) n es parted.1),
  ),
)

-- ---- parts
module _ (keyer : Keyer) (a : Archived) where
  prefix_first : (e f : Posting) → e.prefix < f.prefix → goes_first (sort_key keyer a) e f ≡ true
  unfolding sort_key
  prefix_first e f less =
      ap (λ o.
      not (is_gt (ordering_then o (slice_cmp nat_cmp (bytes_key keyer a e) (bytes_key keyer a f)))))
      (number_less e.prefix f.prefix less)

  before_all : (p : ℕ) (e : Posting) (fs : List Posting) → e.prefix < p
      → AllByRecursion (λ (f : Posting). p ≤ f.prefix) fs
      → AllByRecursion (λ f. goes_first (sort_key keyer a) e f ≡ true) fs
  before_all p e [] ahead behind = tt
  before_all p e (f ∷ fs) ahead behind =
      (prefix_first e f (omega (arith, ahead, behind.0)), before_all p e fs ahead behind.1)

  sorted_parts : (p : ℕ) (es fs : List Posting) → AllByRecursion (λ (e : Posting). e.prefix < p) es
      → AllByRecursion (λ (f : Posting). p ≤ f.prefix) fs → Sorted (sort_key keyer a) es
      → Sorted (sort_key keyer a) fs
      → Sorted (sort_key keyer a) (es ++ fs)
  sorted_parts p [] fs ahead behind s t = t
  sorted_parts p (e ∷ es) fs ahead behind s t = (
    all-append (λ f. goes_first (sort_key keyer a) e f ≡ true) es fs s.0
        (before_all p e fs ahead.0 behind),
    sorted_parts p es fs ahead.1 behind s.1 t,
  )

  pub parts_order : (n : ℕ) (es : List Posting) → IsBoundary es n
      → in_order (sort_key keyer a) (take n es) ++ in_order (sort_key keyer a) (drop n es)
      ≡ in_order (sort_key keyer a) es
  parts_order n es parted =
      let key = sort_key keyer a in
      let front = in_order key (take n es) in
      let back = in_order key (drop n es) in
      let p = parted.1.0 in
      unique key (sort_exact keyer a) (front ++ back) (in_order key es)
      (sorted_parts p front back
      (all_in_order key (λ (e : Posting). e.prefix < p) (take n es) parted.1.1)
      (all_in_order key (λ (e : Posting). p ≤ e.prefix) (drop n es) parted.1.2)
      (in_order_sorted key (take n es)) (in_order_sorted key (drop n es)))
      (in_order_sorted key es)
      (λ f. sum_by-append f front back
      ∙ (λ i. in_order_sum key f (take n es) i + in_order_sum key f (drop n es) i)
      ∙ sym (sum_by-append f (take n es) (drop n es)) ∙ ap (sum_by f) (take-append-drop n es)
      ∙ sym (in_order_sum key f es))

-- ---- words of keys
common_front : (front r s : List ℕ)
    → slice_cmp nat_cmp (front ++ r) (front ++ s) ≡ slice_cmp nat_cmp r s
common_front [] r s = refl
common_front (x ∷ front) r s =
    ap (λ o. ordering_then o (slice_cmp nat_cmp (front ++ r) (front ++ s)))
    (tied_itself nat_cmp_total x)
    ∙ common_front front r s

-- entries that have a prefix are not changed by it
pub all_prefixed : (p : ℕ) (es : List Posting)
    → list_all (λ (e : Posting). nat_eq e.prefix p) es ≡ true → map (with_prefix p) es ≡ es
all_prefixed p [] all = refl
all_prefixed p (e ∷ es) all = by_test (nat_eq e.prefix p) refl all (all_prefixed p es)
  where
    by_test : (b : Bool) → nat_eq e.prefix p ≡ b
        → (b && list_all (λ (f : Posting). nat_eq f.prefix p) es) ≡ true
        → (list_all (λ (f : Posting). nat_eq f.prefix p) es ≡ true → map (with_prefix p) es ≡ es)
        → map (with_prefix p) (e ∷ es) ≡ e ∷ es
    by_test false is all later = absurd (false≢true all)
    by_test true is all later =
        let same : e.prefix ≡ p = (Decides-eqb e.prefix p).0 is in
        λ i. with_prefix (sym same i) e ∷ later all i

-- an entry that is given a word is the same but for that
pub same_but_words : (p word : ℕ) (es : List Posting) (i : ℕ) (e : Posting) → i < length es
    → e ≡ get_or es i e
    → map (with_prefix p) (set es i (with_prefix word e)) ≡ map (with_prefix p) es
same_but_words p word [] i e below is = absurd (omega (arith, below))
same_but_words p word (f ∷ es) zero e below is = ap (λ x. with_prefix p x ∷ map (with_prefix p) es)
    is
same_but_words p word (f ∷ es) (suc i) e below is =
    ap (λ l. with_prefix p f ∷ l) (same_but_words p word es i e (omega (arith, below)) is)

pub one_more : (P : Posting → Type 0) (es : List Posting) (i : ℕ) (e : Posting) → i < length es
    → AllByRecursion P (take i es) → P e → AllByRecursion P (take (suc i) (set es i e))
one_more P [] i e below all here = absurd (omega (arith, below))
one_more P (f ∷ es) zero e below all here = (here, tt)
one_more P (f ∷ es) (suc i) e below all here =
    (all.0, one_more P es i e (omega (arith, below)) all.1 here)

module _ (keyer : Keyer) (a : Archived) (front : List ℕ) (p : ℕ) where
  abbrev key : Posting → List ℕ
  key = sort_key keyer a

  -- words of keys with one front settle no comparison otherwise than the keys do
  word_cmp : (e f : Posting) → IsDeep keyer a front e → IsDeep keyer a front f
      → slice_cmp nat_cmp (key e) (key f)
      ≡ slice_cmp nat_cmp (key (with_prefix p e)) (key (with_prefix p f))
  unfolding sort_key
  word_cmp e f (r, key_e, in_r, word_e) (s, key_f, in_s, word_f) =
      let words = nat_cmp e.prefix f.prefix in
      let keys = slice_cmp nat_cmp (key_of keyer a e) (key_of keyer a f) in
      let files = slice_cmp nat_cmp (file_key a e) (file_key a f) in
      let rests : keys ≡ slice_cmp nat_cmp r s =
      (λ i. slice_cmp nat_cmp (key_e i) (key_f i)) ∙ common_front front r s in
      let settled : ordering_then words keys ≡ keys =
      (λ i. ordering_then (nat_cmp (word_e i) (word_f i)) (rests i)) ∙ words_first r s in_r in_s
      ∙ sym rests in
      ap (ordering_then words) (sym (bytes_cmp keyer a e f)) ∙ sym (then_assoc words keys files)
      ∙ ap (λ o. ordering_then o files) settled ∙ bytes_cmp keyer a e f
      ∙ sym (ap (λ o. ordering_then o (slice_cmp nat_cmp (bytes_key keyer a e) (bytes_key keyer a
      f)))
      (tied_itself nat_cmp_total p))

  all_agree : (e : Posting) (fs : List Posting) → IsDeep keyer a front e
      → AllByRecursion (IsDeep keyer a front) fs
      → AllByRecursion
      (λ f. goes_first key e f ≡ goes_first (λ x. key (with_prefix p x)) e f) fs
  all_agree e [] deep all = tt
  all_agree e (f ∷ fs) deep all =
      (ap (λ o. not (is_gt o)) (word_cmp e f deep all.0), all_agree e fs deep all.1)

  pairs_agree : (es : List Posting) → AllByRecursion (IsDeep keyer a front) es
      → AreOrdered (λ e f. goes_first key e f ≡ goes_first (λ x. key (with_prefix p x)) e f) es
  unfolding AreOrdered
  pairs_agree [] all = tt
  pairs_agree (e ∷ es) all = (all_agree e es all.0 all.1, pairs_agree es all.1)

  same_keys : (es : List Posting)
      → AllByRecursion (λ e. key (with_prefix p e) ≡ key (with_prefix p e)) es
  same_keys [] = tt
  same_keys (e ∷ es) = (refl, same_keys es)

  -- entries in the order of their words are in order
  pub words_order : (es : List Posting) → AllByRecursion (IsDeep keyer a front) es
      → map (with_prefix p) (in_order (sort_key keyer a) es)
      ≡ in_order (sort_key keyer a) (map (with_prefix p) es)
  words_order es all =
      ap (map (with_prefix p))
      (in_order_agree key (λ x. key (with_prefix p x)) es (pairs_agree es all))
      ∙ map_in_order (λ x. key (with_prefix p x)) key (with_prefix p) es (same_keys es)
