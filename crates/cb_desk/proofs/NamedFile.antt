-- The file of a name among files that ascend by name.
use Rattle.std.proofs.Common.{◌≡◌, ◌∙◌, sym, ap, refl, ℕ, zero, suc, ◌<◌, Bool, true, false}
use Rattle.std.proofs.Common.{List, [], ◌∷◌, map, length, drop, get_or, Some, arith, nat_cmp, is_lt}
use Rattle.std.proofs.Common.{is_eq, Ordering, Less, Equal, Greater, bytes_eq}
use Rattle.std.specs.List.{AllByRecursion, AllWithin}
use Rattle.std.specs.List.Sorted.{IsStrictlySortedBy, IsPartitionedBy}
use Rattle.std.specs.Cmp.Lexicographic.{slice_cmp}
use Rattle.std.specs.Ordering.{ordering_reverse}
use Rattle.std.proofs.lemmas.Cmp.{nat_list_cmp_total}
use Rattle.std.proofs.lemmas.Map.Text.{is_eq-slice_cmp}
use Rattle.std.proofs.lemmas.Slice.Eq.{bytes_eq-Decides}
use Rattle.cb_desk.specs.World.{File, is_named, has_file, text_of_file, IsAscending}
use Rattle.cb_desk.specs.steps.Named.{file_named}
use Rattle.cb_desk.proofs.Placed.{by_name, less-from}

-- the order of a name and another
abbrev against : List ℕ → File → Ordering
against name f = slice_cmp nat_cmp f.name name

lower-differs : (o : Ordering) → is_lt o ≡ true → is_eq o ≡ false
lower-differs Less e = refl
lower-differs Equal e = cc
lower-differs Greater e = refl

-- a lower name is another name
lower-other : (name : List ℕ) (f : File) → is_lt (against name f) ≡ true → is_named name f ≡ false
lower-other name f e = sym (is_eq-slice_cmp f.name name) ∙ lower-differs (against name f) e

above-from : (o : Ordering) → is_lt o ≡ false → is_eq o ≡ false → ordering_reverse o ≡ Less
above-from Less e k = cc
above-from Equal e k = cc
above-from Greater e k = refl

reversed-other : (o : Ordering) → o ≡ Less → is_eq (ordering_reverse o) ≡ false
reversed-other o e = rw e refl

-- a name that is neither lower nor the same is higher
higher : (name : List ℕ) (f : File) → is_lt (against name f) ≡ false → is_named name f ≡ false
    → slice_cmp nat_cmp name f.name ≡ Less
higher name f out other =
    nat_list_cmp_total.antisymm name f.name
    ∙ above-from (against name f) out (is_eq-slice_cmp f.name name ∙ other)

higher-other : (name : List ℕ) (f : File) → slice_cmp nat_cmp name f.name ≡ Less
    → is_named name f ≡ false
higher-other name f up =
    sym (is_eq-slice_cmp f.name name) ∙ ap is_eq (nat_list_cmp_total.antisymm f.name name)
    ∙ reversed-other (slice_cmp nat_cmp name f.name) up

-- no file above a higher name has the name
none-above : (name : List ℕ) (f : File) (gs : List File) → slice_cmp nat_cmp name f.name ≡ Less
    → AllByRecursion (λ g. by_name f g ≡ Less) gs → has_file gs name ≡ false
none-above name f [] up all = refl
none-above name f (g ∷ gs) up all =
    rw (higher-other name g (nat_list_cmp_total.trans name f.name g.name up all.0))
    (none-above name f gs up all.1)

file-same : (f : File) (name bytes : List ℕ) → bytes_eq f.name name ≡ true → bytes ≡ f.bytes
    → f ≡ record { name = name; bytes = bytes }
file-same f name bytes named is =
    let same = (bytes_eq-Decides f.name name).0 named in
    rw (← same, is) refl

module _ {X : Type 0} (v : X → File) (name : List ℕ) where
  -- the name of a file is below the name
  abbrev pub below : X → Bool
  below x = is_lt (against name (v x))

  all-at : (P : File → Type 0) (xs : List X) (j : ℕ) (d : X) → AllByRecursion P (map v xs)
      → j < length xs → P (v (get_or xs j d))
  all-at P [] j d all within = absurd (omega arith)
  all-at P (x ∷ xs) zero d all within = all.0
  all-at P (x ∷ xs) (suc j) d all within = all-at P xs j d all.1 (omega arith)

  -- files that ascend are parted by whether they are below a name
  pub parted : (xs : List X) → IsAscending (map v xs) → IsPartitionedBy below xs
  unfolding IsStrictlySortedBy
  parted [] up i j d le within is = absurd (omega arith)
  parted (x ∷ xs) up zero zero d le within is = is
  parted (x ∷ xs) up zero (suc j) d le within is =
      let more : by_name (v x) (v (get_or xs j d)) ≡ Less =
      all-at (λ g. by_name (v x) g ≡ Less) xs j d up.0 (omega arith) in
      ap is_lt
      (nat_list_cmp_total.trans (v x).name (v (get_or xs j d)).name name more (less-from _ is))
  parted (x ∷ xs) up (suc i) zero d le within is = absurd (omega arith)
  parted (x ∷ xs) up (suc i) (suc j) d le within is =
      parted xs up.1 i j d (omega arith) (omega arith) is

  -- the first that is not below has the name
  pub found-at : (xs : List X) (i : ℕ) (x : X) (more : List X)
      → AllWithin (λ x. below x ≡ true) xs 0 i → drop i xs ≡ x ∷ more
      → is_named name (v x) ≡ true → Some (v x) ≡ file_named (map v xs) name
  unfolding text_of_file
  found-at [] zero x more before split is = cc
  found-at [] (suc i) x more before split is = cc
  found-at (y ∷ ys) zero x more before split is =
      let same : x ≡ y = cc in
      let here = ap (λ z. is_named name (v z)) (sym same) ∙ is in
      ap (λ z. Some (v z)) same ∙ rw here (ap Some (file-same (v y) name (v y).bytes here refl))
  found-at (y ∷ ys) (suc i) x more before split is =
      let other : is_named name (v y) ≡ false =
      lower-other name (v y) (before 0 x (omega arith) (omega arith)) in
      rw other
      (found-at ys i x more (λ k e a b. before (suc k) e (omega arith) (omega arith)) split is)

  none-from : (xs : List X) (d : X) → IsAscending (map v xs)
      → AllWithin (λ x. below x ≡ false) xs 0 (length xs)
      → (0 < length xs → is_named name (v (get_or xs 0 d)) ≡ false)
      → has_file (map v xs) name ≡ false
  unfolding IsStrictlySortedBy
  none-from [] d up after other = refl
  none-from (x ∷ xs) d up after other =
      let here = other (omega arith) in
      rw here (none-above name (v x) (map v xs)
      (higher name (v x) (after 0 d (omega arith) (omega arith)) here) up.0)

  -- or no file has it
  pub none-at : (xs : List X) (i : ℕ) (d : X) → IsAscending (map v xs)
      → AllWithin (λ x. below x ≡ true) xs 0 i → AllWithin (λ x. below x ≡ false) xs i (length xs)
      → (i < length xs → is_named name (v (get_or xs i d)) ≡ false)
      → has_file (map v xs) name ≡ false
  unfolding IsStrictlySortedBy
  none-at xs zero d up before after other = none-from xs d up after other
  none-at [] (suc i) d up before after other = refl
  none-at (x ∷ xs) (suc i) d up before after other =
      let here : is_named name (v x) ≡ false =
      lower-other name (v x) (before 0 d (omega arith) (omega arith)) in
      rw here (none-at xs i d up.1 (λ k e a b. before (suc k) e (omega arith) (omega arith))
      (λ k e a b. after (suc k) e (omega arith) (omega arith)) (λ within. other (omega arith)))
