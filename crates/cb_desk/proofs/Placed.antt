-- The place of a file among files that ascend by name.
use Rattle.std.proofs.Common.{◌≡◌, ◌∙◌, sym, ap, refl, ℕ, suc, Bool, true, false, not, ◌||◌, cond}
use Rattle.std.proofs.Common.{List, [], ◌∷◌, ◌++◌, filter, map, take, drop, length, count_by}
use Rattle.std.proofs.Common.{insert, nat_cmp, is_lt, Ordering, Less, Equal, Greater}
use Rattle.std.specs.List.{AllByRecursion, list_any}
use Rattle.std.proofs.lemmas.List.{map-append, take-map, drop-map}
use Rattle.std.specs.List.Sorted.{IsStrictlySortedBy}
use Rattle.std.specs.Cmp.Lexicographic.{slice_cmp}
use Rattle.std.proofs.lemmas.Cmp.{nat_list_cmp_total}
use Rattle.std.proofs.lemmas.List.Sums.{length-filter}
use Rattle.cb_desk.specs.World.{File, IsAscending}
use Rattle.cb_desk.specs.Files.{is_before, with_file}

-- the order of the files of a world
abbrev pub by_name : File → File → Ordering
by_name f g = slice_cmp nat_cmp f.name g.name

pub less-from : (o : Ordering) → is_lt o ≡ true → o ≡ Less
less-from Less e = refl
less-from Equal e = cc
less-from Greater e = cc

lt-from : (o : Ordering) → o ≡ Less → is_lt o ≡ true
lt-from o e = rw e refl

-- a file above one that is not below f is not below f
not_before-above : (f x y : File) → is_before f x ≡ false → by_name x y ≡ Less
    → is_before f y ≡ false
not_before-above f x y out up =
    (elim (is_before f y) as (λ b. is_before f y ≡ b → b ≡ false) [
      | true ↦ λ h. let through =
          nat_list_cmp_total.trans x.name y.name f.name up (less-from _ h) in
          let bad : is_before f x ≡ true = lt-from _ through in cc
      | false ↦ λ h. refl
    ]) refl

pub none_before : (f x : File) (ys : List File) → is_before f x ≡ false
    → AllByRecursion (λ y. by_name x y ≡ Less) ys → filter (is_before f) ys ≡ []
none_before f x [] out up = refl
none_before f x (y ∷ ys) out up = rw (not_before-above f x y out up.0) (none_before f x ys out up.1)

pub all_after : (f x : File) (ys : List File) → is_before f x ≡ false
    → AllByRecursion (λ y. by_name x y ≡ Less) ys → filter (λ g. not (is_before f g)) ys ≡ ys
all_after f x [] out up = refl
all_after f x (y ∷ ys) out up =
    rw (not_before-above f x y out up.0) (ap (λ zs. y ∷ zs) (all_after f x ys out up.1))

-- the files below f come first, so their number is its place
pub insert-placed : (f : File) (files : List File) → IsAscending files
    → insert files (length (filter (is_before f) files)) f ≡ with_file f files
unfolding IsStrictlySortedBy
insert-placed f [] up = refl
insert-placed f (x ∷ xs) up =
    (elim (is_before f x) as (λ b. is_before f x ≡ b
    → insert (x ∷ xs) (length (cond b (x ∷ filter (is_before f) xs) (filter (is_before f) xs))) f
    ≡ cond b (x ∷ filter (is_before f) xs) (filter (is_before f) xs) ++ f ∷ cond (not b)
    (x ∷ filter (λ g. not (is_before f g)) xs) (filter (λ g. not (is_before f g)) xs)) [
      | true ↦ λ h. ap (λ zs. x ∷ zs) (insert-placed f xs up.1)
      | false ↦ λ h. rw (none_before f x xs h up.0, all_after f x xs h up.0) refl
    ]) refl

pub list_any-map : {X Y : Type 0} (p : Y → Bool) (h : X → Y) (xs : List X)
    → list_any p (map h xs) ≡ list_any (λ x. p (h x)) xs
list_any-map p h [] = refl
list_any-map p h (x ∷ xs) = ap (λ b. p (h x) || b) (list_any-map p h xs)

pub length-filter-map : {X Y : Type 0} (p : Y → Bool) (h : X → Y) (xs : List X)
    → length (filter (λ x. p (h x)) xs) ≡ length (filter p (map h xs))
length-filter-map p h [] = refl
length-filter-map p h (x ∷ xs) =
    elim (p (h x)) as
    (λ b. length (cond b (x ∷ filter (λ y. p (h y)) xs) (filter (λ y. p (h y)) xs))
    ≡ length (cond b (h x ∷ filter p (map h xs)) (filter p (map h xs)))) [
      | true ↦ ap suc (length-filter-map p h xs)
      | false ↦ length-filter-map p h xs
    ]

pub map-filter : {X Y : Type 0} (h : X → Y) (p : Y → Bool) (xs : List X)
    → map h (filter (λ x. p (h x)) xs) ≡ filter p (map h xs)
map-filter h p [] = refl
map-filter h p (x ∷ xs) =
    elim (p (h x)) as (λ b. map h (cond b (x ∷ filter (λ y. p (h y)) xs) (filter (λ y. p (h y)) xs))
    ≡ cond b (h x ∷ filter p (map h xs)) (filter p (map h xs))) [
      | true ↦ ap (λ ys. h x ∷ ys) (map-filter h p xs)
      | false ↦ map-filter h p xs
    ]

pub map-insert : {X Y : Type 0} (h : X → Y) (xs : List X) (i : ℕ) (x : X)
    → map h (insert xs i x) ≡ insert (map h xs) i (h x)
map-insert h xs i x =
    map-append h (take i xs) (x ∷ drop i xs) ∙ rw (take-map h i xs, drop-map h i xs) refl

-- files with one more at its place
pub placed : {X : Type 0} (h : X → File) (x : X) (xs : List X) (n : ℕ) → IsAscending (map h xs) → n
    ≡ count_by (λ a. is_before (h x) (h a)) xs → map h (insert xs n x) ≡ with_file (h x) (map h xs)
placed h x xs n up place =
    let counted : n ≡ length (filter (is_before (h x)) (map h xs)) =
    place ∙ sym (length-filter (λ a. is_before (h x) (h a)) xs)
    ∙ length-filter-map (is_before (h x)) h xs in
    map-insert h xs n x ∙ ap (λ m. insert (map h xs) m (h x)) counted
    ∙ insert-placed (h x) (map h xs) up
