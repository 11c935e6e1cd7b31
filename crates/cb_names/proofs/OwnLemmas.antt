-- The tokens that mean something in their function alone: where a name does not stand there are none;
-- and how tokens before a place are counted from another place on.
use Rattle.std.proofs.Common.{◌≡◌, ◌∙◌, ◌+◌, ◌<◌, ◌≤◌, ◌++◌, ◌∷◌, [], ℕ, suc, Bool, true, false, List, ⊎_elim, ap, arith, length, map, refl, sym}
use Rattle.std.proofs.Math.Bool.{and-false}
use Rattle.std.proofs.lemmas.Bool.{cases_Bool, false≢true, le-ltb, lt-ltb, ltb-true}
use Rattle.std.proofs.lemmas.List.{append-nil, take_more}
use Rattle.std.proofs.lemmas.Grind.{flat_map-append}
use Rattle.std.specs.Prelude.{◌&&◌, ◌||◌, cond, drop, filter, nat_lt, slice_index_or, take}
use Rattle.std.specs.List.{AllByRecursion, flat_map, list_any, range_with_len}
use Rattle.cb_names.specs.Bindings.{declares_name, scope_of}
use Rattle.cb_names.specs.Functions.{IsItemOf, before, start}
use Rattle.cb_names.specs.HardAttributes.{without_hard}
use Rattle.cb_names.specs.Labels.{is_spelled, names_label, span}
use Rattle.cb_names.specs.OwnNames.{is_bound, is_own, own_in}
use Rattle.cb_names.specs.Pairs.{at}
use Rattle.cb_names.specs.Spaces.{is_ordinary}
use Rattle.cb_names.specs.declared.word.Item.{Item}
use Rattle.cb_names.proofs.LabelLemmas.{all_kept_of}
use Rattle.cb_scan.proofs.WithinLemmas.{all-drop, all-take}

neither : (a b : Bool) → (a || b) ≡ false → (a ≡ false) × (b ≡ false)
neither true b is = absurd (false≢true (sym is))
neither false b is = (refl, is)

filter_none : (p q : ℕ → Bool) (ks : List ℕ) → ((k : ℕ) → q k ≡ false → p k ≡ false) → list_any q ks ≡ false
    → filter p ks ≡ []
filter_none p q [] less none = refl
filter_none p q (k ∷ ks) less none =
    let both = neither (q k) (list_any q ks) none in
    ap (λ b. cond b (k ∷ filter p ks) (filter p ks)) (less k both.0) ∙ filter_none p q ks less both.1

module _ (text : List ℕ) (xs : List Item) (m b : ℕ) (name : List ℕ) where
  unspelled : (k : ℕ) → is_spelled text xs k name ≡ false → is_own text xs m b name k ≡ false
  unspelled k isnt =
      ap (λ c. (names_label xs b k && c)
      || ((is_ordinary xs b k && c) && is_bound (declares_name text xs m b name) (scope_of xs m b) k)) isnt
      ∙ (λ i. and-false (names_label xs b k) i
      || (and-false (is_ordinary xs b k) i && is_bound (declares_name text xs m b name) (scope_of xs m b) k))

  pub none_own : list_any (λ k. is_spelled text xs k name) (range_with_len 0 (length xs)) ≡ false
      → own_in text xs m b name ≡ []
  none_own none = ap (map (λ k. span (at xs k))) (filter_none _ _ (range_with_len 0 (length xs)) unspelled none)

-- so many more begin before a later place
pub further : (from place : ℕ) → from ≤ place → (xs : List Item)
    → before place xs ≡ before from xs + before place (drop (before from xs) xs)
further from place le [] = refl
further from place le (x ∷ xs) =
    let a = before from xs in
    let t = before place (drop a xs) in
    let sum : 1 + (a + t) ≡ (1 + a) + t = omega arith in
    let next : suc a ≡ 1 + a = omega arith in
    let none : before place (x ∷ xs) ≡ 0 + before place (x ∷ xs) = omega arith in
    ⊎_elim
    (λ is. let later = lt-ltb (start x) place (omega (arith, le, ltb-true (start x) from is)) in
    ap (λ c. cond c (1 + before place xs) 0) later
    ∙ ap (λ n. 1 + n) (further from place le xs)
    ∙ sum
    ∙ ap (λ n. (1 + a) + before place (drop n (x ∷ xs))) next
    ∙ sym (ap (λ c. cond c (1 + a) 0 + before place (drop (cond c (1 + a) 0) (x ∷ xs))) is))
    (λ isnt. none ∙ sym (ap (λ c. cond c (1 + a) 0 + before place (drop (cond c (1 + a) 0) (x ∷ xs))) isnt))
    (cases_Bool (nat_lt (start x) from))

-- none begins before the first place
pub none_before : (xs : List Item) → before 0 xs ≡ 0
none_before [] = refl
none_before (x ∷ xs) = ap (λ c. cond c (1 + before 0 xs) 0) (le-ltb (start x) 0 (omega arith))

-- one function more is looked at
pub flat_more : {X A : Type 0} (f : X → List A) (xs : List X) (i : ℕ) (d : X) → i < length xs
    → flat_map f (take (i + 1) xs) ≡ flat_map f (take i xs) ++ f (slice_index_or xs i d)
flat_more f xs i d less =
    ap (flat_map f) (take_more xs i d less)
    ∙ flat_map-append f (take i xs) (slice_index_or xs i d ∷ [])
    ∙ ap (λ l. flat_map f (take i xs) ++ l) (append-nil (f (slice_index_or xs i d)))

-- the tokens of a function lie in the text, and so do all that are of no attribute
pub all_extent : (text : List ℕ) (ys : List Item) (start end : ℕ) → AllByRecursion (IsItemOf text) ys
    → AllByRecursion (IsItemOf text) (without_hard (drop start (take end ys)))
all_extent text ys start end all =
    all_kept_of text (drop start (take end ys))
    (all-drop (IsItemOf text) start (take end ys) (all-take (IsItemOf text) end ys all))
