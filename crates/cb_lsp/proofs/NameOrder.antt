-- Names that come to their places in the order of their bytes stand in it, each once.
use Rattle.std.proofs.Common.{◌≡◌, ◌∙◌, ◌||◌, ℕ, Bool, true, false, List, [], ◌∷◌, Ordering, Less, Equal}
use Rattle.std.proofs.Common.{Greater, ap, fold, refl, sym}
use Rattle.std.proofs.lemmas.Cmp.{nat_list_cmp_total}
use Rattle.std.proofs.lemmas.Map.Text.{is_eq-slice_cmp}
use Rattle.std.proofs.lemmas.Slice.Eq.{bytes_eq-Decides}
use Rattle.std.specs.BTreeSet.{insert_key}
use Rattle.std.specs.Cmp.Lexicographic.{slice_cmp}
use Rattle.std.specs.List.{AllByRecursion, list_any}
use Rattle.std.specs.List.Sorted.{IsStrictlySortedBy}
use Rattle.std.specs.Ordering.{is_eq, match_ordering, nat_cmp, ordering_reverse}
use Rattle.std.specs.Str.{bytes_eq}
use Rattle.cb_lsp.specs.Completions.{in_name_order}

abbrev order : (a b : List ℕ) → Ordering
order = slice_cmp nat_cmp

abbrev put : List (List ℕ) → List ℕ → List (List ℕ)
put = insert_key order

abbrev Sorted : List (List ℕ) → Type 0
Sorted = IsStrictlySortedBy order

-- ---- order

all_above : (k x : List ℕ) (xs : List (List ℕ)) → order k x ≡ Less
    → AllByRecursion (λ y. order x y ≡ Less) xs → AllByRecursion (λ y. order k y ≡ Less) xs
all_above k x [] less all = tt
all_above k x (y ∷ ys) less all =
    (nat_list_cmp_total.trans k x y less all.0, all_above k x ys less all.1)

all_put : (x k : List ℕ) (ys : List (List ℕ)) → order x k ≡ Less
    → AllByRecursion (λ y. order x y ≡ Less) ys → AllByRecursion (λ y. order x y ≡ Less) (put ys k)
all_put x k [] less all = (less, tt)
all_put x k (y ∷ ys) less all = by_order (order k y) (all_put x k ys less all.1)
  where
    by_order : (o : Ordering) → AllByRecursion (λ z. order x z ≡ Less) (put ys k)
        → AllByRecursion (λ z. order x z ≡ Less)
        (match_ordering o (k ∷ y ∷ ys) (y ∷ ys) (y ∷ put ys k))
    by_order Less later = (less, all)
    by_order Equal later = all
    by_order Greater later = (all.0, later)

put_sorted : (k : List ℕ) (ys : List (List ℕ)) → Sorted ys → Sorted (put ys k)
unfolding IsStrictlySortedBy
put_sorted k [] s = (tt, tt)
put_sorted k (y ∷ ys) s = by_order (order k y) refl (put_sorted k ys s.1)
  where
    by_order : (o : Ordering) → order k y ≡ o → Sorted (put ys k)
        → Sorted (match_ordering o (k ∷ y ∷ ys) (y ∷ ys) (y ∷ put ys k))
    by_order Less is later = ((is, all_above k y ys is s.0), s)
    by_order Equal is later = s
    by_order Greater is later =
        (all_put y k ys (nat_list_cmp_total.antisymm y k ∙ ap ordering_reverse is) s.0, later)

folded_sorted : (names done : List (List ℕ)) → Sorted done → Sorted (fold put done names)
folded_sorted [] done s = s
folded_sorted (n ∷ ns) done s = folded_sorted ns (put done n) (put_sorted n done s)

pub stand_in_order : (names : List (List ℕ)) → Sorted (in_name_order names)
unfolding IsStrictlySortedBy
stand_in_order names = folded_sorted names [] tt

-- ---- the same names

abbrev has : List (List ℕ) → List ℕ → Bool
has names name = list_any (bytes_eq name) names

once_more : (a r : Bool) → (a || r) ≡ (a || (a || r))
once_more true r = refl
once_more false r = refl

swap_first : (a b r : Bool) → (a || (b || r)) ≡ (b || (a || r))
swap_first true true r = refl
swap_first true false r = refl
swap_first false b r = refl

none_more : (a : Bool) → a ≡ (a || false)
none_more true = refl
none_more false = refl

regroup : (a d r : Bool) → ((a || d) || r) ≡ (d || (a || r))
regroup true true r = refl
regroup true false r = refl
regroup false d r = refl

module _ (name : List ℕ) where
  put_has : (k : List ℕ) (ys : List (List ℕ)) → has (put ys k) name ≡ (bytes_eq name k || has ys name)
  put_has k [] = refl
  put_has k (y ∷ ys) = by_order (order k y) refl (put_has k ys)
    where
      by_order : (o : Ordering) → order k y ≡ o
          → has (put ys k) name ≡ (bytes_eq name k || has ys name)
          → has (match_ordering o (k ∷ y ∷ ys) (y ∷ ys) (y ∷ put ys k)) name
          ≡ (bytes_eq name k || (bytes_eq name y || has ys name))
      by_order Less is later = refl
      by_order Equal is later =
          let same : k ≡ y = (bytes_eq-Decides k y).0 (sym (is_eq-slice_cmp k y) ∙ ap is_eq is) in
          once_more (bytes_eq name y) (has ys name)
          ∙ ap (λ b. b || (bytes_eq name y || has ys name)) (ap (bytes_eq name) (sym same))
      by_order Greater is later =
          ap (λ b. bytes_eq name y || b) later
          ∙ swap_first (bytes_eq name y) (bytes_eq name k) (has ys name)

  folded_has : (names done : List (List ℕ))
      → has (fold put done names) name ≡ (has done name || has names name)
  folded_has [] done = none_more (has done name)
  folded_has (n ∷ ns) done =
      folded_has ns (put done n)
      ∙ ap (λ b. b || has ns name) (put_has n done)
      ∙ regroup (bytes_eq name n) (has done name) (has ns name)

  pub has_same : (names : List (List ℕ)) → has (in_name_order names) name ≡ has names name
  has_same names = folded_has names []
