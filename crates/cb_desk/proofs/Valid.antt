-- Files with one more, and without one, keep every limit.
use Rattle.std.proofs.Common.{◌≡◌, ◌∙◌, refl, ℕ, ◌+◌, ◌<◌, ◌≤◌, Bool, true, false, not, ◌||◌, cond}
use Rattle.std.proofs.Common.{List, [], ◌∷◌, ◌++◌, filter, length, length-append, arith, IsTrue}
use Rattle.std.proofs.Common.{nat_cmp, is_lt, is_eq, Ordering, Less, Equal, Greater, bytes_eq}
use Rattle.std.specs.List.{AllByRecursion, list_any}
use Rattle.std.specs.List.Sorted.{IsStrictlySortedBy}
use Rattle.std.specs.Cmp.Lexicographic.{slice_cmp}
use Rattle.std.specs.Ordering.{ordering_reverse}
use Rattle.std.proofs.lemmas.Cmp.{nat_list_cmp_total}
use Rattle.std.proofs.lemmas.Map.Text.{is_eq-slice_cmp}
use Rattle.std.proofs.lemmas.List.Filters.{length-filter_both}
use Rattle.std.proofs.lemmas.List.Kept.{IsStrictlySortedBy-filter}
use Rattle.cb_tags.specs.Names.{is_file_name}
use Rattle.cb_desk.specs.World.{AreValidFiles, File, WorldBounds, has_file, is_named}
use Rattle.cb_desk.specs.Files.{is_before, with_file, without_file}
use Rattle.cb_desk.proofs.Placed.{by_name, less-from}

pub all-filter : {X : Type 0} (P : X → Type 0) (p : X → Bool) (xs : List X) → AllByRecursion P xs
    → AllByRecursion P (filter p xs)
all-filter P p [] all = all
all-filter P p (x ∷ xs) all =
    elim (p x) as (λ b. AllByRecursion P (cond b (x ∷ filter p xs) (filter p xs))) [
      | true ↦ (all.0, all-filter P p xs all.1)
      | false ↦ all-filter P p xs all.1
    ]

pub all-join : {X : Type 0} (P : X → Type 0) (xs ys : List X) → AllByRecursion P xs
    → AllByRecursion P ys → AllByRecursion P (xs ++ ys)
all-join P [] ys all more = more
all-join P (x ∷ xs) ys all more = (all.0, all-join P xs ys all.1 more)

pub all-along : {X : Type 0} (P Q : X → Type 0) (xs : List X) → ((x : X) → P x → Q x)
    → AllByRecursion P xs → AllByRecursion Q xs
all-along P Q [] along all = all
all-along P Q (x ∷ xs) along all = (along x all.0, all-along P Q xs along all.1)

pub all-passed : {X : Type 0} (p : X → Bool) (xs : List X)
    → AllByRecursion (λ x. p x ≡ true) (filter p xs)
all-passed p [] = tt
all-passed p (x ∷ xs) =
    (elim (p x) as
    (λ b. p x ≡ b → AllByRecursion (λ y. p y ≡ true) (cond b (x ∷ filter p xs) (filter p xs))) [
      | true ↦ λ h. (h, all-passed p xs)
      | false ↦ λ h. all-passed p xs
    ]) refl

-- sorted files, one above them all, and sorted files above that one
sorted-join : (f : File) (xs ys : List File) → IsStrictlySortedBy by_name xs
    → IsStrictlySortedBy by_name ys → AllByRecursion (λ x. by_name x f ≡ Less) xs
    → AllByRecursion (λ y. by_name f y ≡ Less) ys → IsStrictlySortedBy by_name (xs ++ f ∷ ys)
unfolding IsStrictlySortedBy
sorted-join f [] ys up more below above = (above, more)
sorted-join f (x ∷ xs) ys up more below above = (
  all-join (λ y. by_name x y ≡ Less) xs (f ∷ ys)
      up.0 (
        below.0,
        all-along (λ y. by_name f y ≡ Less) (λ y. by_name x y ≡ Less) ys
            (λ y h. nat_list_cmp_total.trans x.name f.name y.name below.0 h) above,
      ),
  sorted-join f xs ys up.1 more below.1 above,
)

pub none-named : (name : List ℕ) (files : List File) → list_any (λ f. bytes_eq f.name name) files
    ≡ false → AllByRecursion (λ (f : File). bytes_eq f.name name ≡ false) files
none-named name [] e = tt
none-named name (x ∷ xs) e =
    (elim (bytes_eq x.name name) as
    (λ b. bytes_eq x.name name ≡ b → b || list_any (λ f. bytes_eq f.name name) xs ≡ false
    → AllByRecursion (λ (f : File). bytes_eq f.name name ≡ false) (x ∷ xs)) [
      | true ↦ λ h k. cc
      | false ↦ λ h k. (h, none-named name xs k)
    ]) refl e

above-from : (o : Ordering) → not (is_lt o) ≡ true → is_eq o ≡ false → ordering_reverse o ≡ Less
above-from Less e k = cc
above-from Equal e k = cc
above-from Greater e k = refl

-- what is not below f and has another name is above it
above-f : (f y : File) → not (is_before f y) ≡ true → bytes_eq y.name f.name ≡ false
    → by_name f y ≡ Less
above-f f y out other =
    nat_list_cmp_total.antisymm f.name y.name
    ∙ above-from (slice_cmp nat_cmp y.name f.name) out (is_eq-slice_cmp y.name f.name ∙ other)

pub all-both : {X : Type 0} (P Q R : X → Type 0) (xs : List X) → ((x : X) → P x → Q x → R x)
    → AllByRecursion P xs → AllByRecursion Q xs → AllByRecursion R xs
all-both P Q R [] both all more = all
all-both P Q R (x ∷ xs) both all more = (both x all.0 more.0, all-both P Q R xs both all.1 more.1)

-- valid files with one more of a good name that is new, not too large, and fewer files than the
-- limit
pub with_file-valid : (b : WorldBounds) (files : List File) (f : File) → AreValidFiles b files
    → is_file_name f.name ≡ true → has_file files f.name ≡ false → length f.bytes ≤ b.file_bytes
    → length files < b.files → AreValidFiles b (with_file f files)
with_file-valid b files f valid good fresh small room =
    let after : File → Bool = λ g. not (is_before f g) in
    let split : length (filter (is_before f) files) + length (filter after files) ≡ length files =
    length-filter_both (is_before f) after (λ g. refl) files in
    let fresh-all = none-named f.name files fresh in
    record {
      names =
          all-join (λ (g : File). IsTrue (is_file_name g.name)) (filter (is_before f) files)
          (f ∷ filter after files)
          (all-filter (λ (g : File). IsTrue (is_file_name g.name)) (is_before f) files valid.names)
          (good, all-filter (λ (g : File). IsTrue (is_file_name g.name)) after files valid.names);
      sizes =
          all-join (λ (g : File). length g.bytes ≤ b.file_bytes) (filter (is_before f) files)
          (f ∷ filter after files)
          (all-filter (λ (g : File). length g.bytes ≤ b.file_bytes) (is_before f) files valid.sizes)
          (small, all-filter (λ (g : File). length g.bytes ≤ b.file_bytes) after files valid.sizes);
      count = omega (arith, length-append (filter (is_before f) files) (f ∷ filter after files));
      ascending =
          sorted-join f (filter (is_before f) files) (filter after files)
          (IsStrictlySortedBy-filter by_name (is_before f) files valid.ascending)
          (IsStrictlySortedBy-filter by_name after files valid.ascending)
          (all-along (λ (x : File). is_before f x ≡ true) (λ x. by_name x f ≡ Less) (filter
          (is_before f) files) (λ x h. less-from (by_name x f) h) (all-passed (is_before f) files))
          (all-both (λ (y : File). after y ≡ true) (λ y. bytes_eq y.name f.name ≡ false) (λ y.
          by_name f y ≡ Less)
          (filter after files) (λ y h k. above-f f y h k) (all-passed after files)
          (all-filter (λ (y : File). bytes_eq y.name f.name ≡ false) after files fresh-all));
    }

pub length-kept : {X : Type 0} (p : X → Bool) (xs : List X) → length (filter p xs) ≤ length xs
length-kept p xs =
    let split = length-filter_both p (λ x. not (p x)) (λ x. refl) xs in omega (arith, split)

-- valid files without that of a name
pub without_file-valid : (b : WorldBounds) (files : List File) (name : List ℕ)
    → AreValidFiles b files → AreValidFiles b (without_file name files)
without_file-valid b files name valid = record {
  names =
      all-filter (λ (g : File). IsTrue (is_file_name g.name))
      (λ f. not (is_named name f)) files valid.names;
  sizes =
      all-filter (λ (g : File). length g.bytes ≤ b.file_bytes)
      (λ f. not (is_named name f)) files valid.sizes;
  count =
      let few = length-kept (λ f. not (is_named name f)) files in let count = valid.count in
      omega (arith, few, count);
  ascending = IsStrictlySortedBy-filter by_name (λ f. not (is_named name f)) files valid.ascending;
}

-- they are fewer where the name is there
pub without_file-fewer : (files : List File) (name : List ℕ) → has_file files name ≡ true
    → length (without_file name files) < length files
without_file-fewer [] name there = cc
without_file-fewer (f ∷ files) name there =
    (elim (is_named name f) as (λ b. b || has_file files name ≡ true → length
    (cond (not b) (f ∷ without_file name files) (without_file name files)) < length (f ∷ files)) [
      | true ↦ λ _. let few = length-kept (λ g. not (is_named name g)) files in omega (arith, few)
      | false ↦ λ e. let fewer = without_file-fewer files name e in omega (arith, fewer)
    ]) there
