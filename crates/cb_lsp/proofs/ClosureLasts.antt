-- Last parts: a file of a header in a folder has that of the header, and so has each that is called
-- so.
use Rattle.std.proofs.Common.{◌≡◌, ◌∙◌, ◌||◌, ◌+◌, ◌-◌, ◌==◌, ℕ, suc, List, [], ◌∷◌, ◌++◌, Bool}
use Rattle.std.proofs.Common.{true, false, not, ap, sym, Option, Some, None, refl, subst, filter}
use Rattle.std.proofs.Common.{take}
use Rattle.std.proofs.Common.{drop, length, map, arith, inl, inr, ⊎_elim, ◌⊎◌}
use Rattle.std.specs.Prelude.{cond, if◌then◌else◌, nat_le, codes, reverse}
use Rattle.std.specs.Borrow.{Bor}
use Rattle.std.specs.Cmp.Lexicographic.{slice_cmp}
use Rattle.std.specs.Ordering.{is_eq, nat_cmp}
use Rattle.std.proofs.lemmas.Map.Text.{is_eq-slice_cmp}
use Rattle.std.specs.List.{prefix_len, suffix_len}
use Rattle.std.specs.Option.{option_map_or, option_or}
use Rattle.std.specs.Str.{bytes_eq}
use Rattle.std.proofs.Math.Seq.{drop-append-add, take-append_seam}
use Rattle.std.proofs.lemmas.Bool.{or_cases}
use Rattle.std.proofs.lemmas.Bool.Decides.{Decides-eqb}
use Rattle.std.proofs.lemmas.List.{length-append, length-drop, length-reverse, reverse-append}
use Rattle.std.proofs.lemmas.List.{take-append-drop}
use Rattle.std.proofs.lemmas.List.Sums.{suffix_len-le-length}
use Rattle.std.proofs.lemmas.Slice.Eq.{bytes_eq-Decides}
use Rattle.cb_desk.specs.Answer.{ends_in, is_header}
use Rattle.cb_desk.specs.World.{File}
use Rattle.cb_lsp.specs.Closures.{beside, folder_around, folder_from, if_there, meant}
use Rattle.cb_lsp.specs.Closures.{nearest_of}
use Rattle.cb_lsp.specs.Headers.{files_named, folder_length, folder_of, without_dots}
use Rattle.cb_lsp.specs.steps.Closures.{beside_among, has_last, if_among, is_one_of, last_of}
use Rattle.cb_lsp.specs.steps.Closures.{names_of}
use Rattle.cb_lsp.proofs.ClosureHeaders.{named-filter, named-found}
use Rattle.cb_lsp.proofs.Truths.{and_second}

-- ---- what follows the last slash
abbrev is_other : ℕ → Bool
is_other b = not (b == 47)

prefix_stops : (xs ys : List ℕ) → prefix_len is_other (xs ++ 47 ∷ ys) ≡ prefix_len is_other xs
prefix_stops [] ys = refl
prefix_stops (x ∷ xs) ys = ap (λ n. cond (is_other x) (1 + n) 0) (prefix_stops xs ys)

joined : (xs ys : List ℕ) → (xs ++ 47 ∷ []) ++ ys ≡ xs ++ 47 ∷ ys
joined [] ys = refl
joined (x ∷ xs) ys = ap (λ zs. x ∷ zs) (joined xs ys)

suffix_stops : (xs ys : List ℕ) → suffix_len is_other (xs ++ 47 ∷ ys) ≡ suffix_len is_other ys
suffix_stops xs ys =
    ap (prefix_len is_other) (reverse-append xs (47 ∷ ys)
    ∙ ap (λ zs. zs ++ reverse xs) (reverse-append (47 ∷ []) ys)
    ∙ joined (reverse ys) (reverse xs))
    ∙ prefix_stops (reverse ys) (reverse xs)

last_past : (xs ys : List ℕ) → last_of (xs ++ 47 ∷ ys) ≡ last_of ys
last_past xs ys =
    let within = suffix_len-le-length is_other ys in
    let sizes : length ((xs ++ 47 ∷ []) ++ ys) ≡ length (xs ++ 47 ∷ []) + length ys =
    length-append (xs ++ 47 ∷ []) ys in
    let same : folder_length ((xs ++ 47 ∷ []) ++ ys) ≡ length (xs ++ 47 ∷ []) + folder_length ys =
    ap (λ n. length ((xs ++ 47 ∷ []) ++ ys) - n)
    (ap (suffix_len is_other) (joined xs ys) ∙ suffix_stops xs ys)
    ∙ omega (arith, within, sizes) in
    ap last_of (sym (joined xs ys))
    ∙ ap (λ n. drop n ((xs ++ 47 ∷ []) ++ ys)) same
    ∙ drop-append-add (xs ++ 47 ∷ []) ys (folder_length ys)

-- ---- folders end in a slash
abbrev IsFolder : List ℕ → Type 0
IsFolder base = (base ≡ []) ⊎ ((front : List ℕ) × (base ≡ front ++ 47 ∷ []))

last_in : (base rest : List ℕ) → IsFolder base → last_of (base ++ rest) ≡ last_of rest
last_in base rest is = ⊎_elim
    (λ (none : base ≡ []). ap (λ b. last_of (b ++ rest)) none)
    (λ (some : (front : List ℕ) × (base ≡ front ++ 47 ∷ [])).
    ap (λ b. last_of (b ++ rest)) some.1 ∙ ap last_of (joined some.0 rest) ∙ last_past some.0 rest)
    is

reverse_twice : (xs : List ℕ) → reverse (reverse xs) ≡ xs
reverse_twice [] = refl
reverse_twice (x ∷ xs) =
    ap reverse (reverse-append (x ∷ []) xs) ∙ reverse-append (reverse xs) (x ∷ [])
    ∙ ap (λ zs. x ∷ zs) (reverse_twice xs)

stops_at : (r : List ℕ) → (drop (prefix_len is_other r) r ≡ [])
    ⊎ ((rest : List ℕ) × (drop (prefix_len is_other r) r ≡ 47 ∷ rest))
stops_at [] = inl refl
stops_at (b ∷ bs) = by_test (b == 47) refl (stops_at bs)
  where
    by_test : (t : Bool) → (b == 47) ≡ t
        → (drop (prefix_len is_other bs) bs ≡ [])
        ⊎ ((rest : List ℕ) × (drop (prefix_len is_other bs) bs ≡ 47 ∷ rest))
        → (drop (cond (not t) (1 + prefix_len is_other bs) 0) (b ∷ bs) ≡ [])
        ⊎ ((rest : List ℕ) × (drop (cond (not t) (1 + prefix_len is_other bs) 0) (b ∷ bs)
        ≡ 47 ∷ rest))
    by_test true is rest = inr (bs, ap (λ n. n ∷ bs) ((Decides-eqb b 47).0 is))
    by_test false is rest =
        let up : suc (prefix_len is_other bs) ≡ 1 + prefix_len is_other bs = omega arith in
        subst (λ (n : ℕ). (drop n (b ∷ bs) ≡ [])
        ⊎ ((tail : List ℕ) × (drop n (b ∷ bs) ≡ 47 ∷ tail))) up rest

folder_is : (name : List ℕ) → IsFolder (folder_of name)
folder_is name = ⊎_elim
    (λ (none : drop k r ≡ []). inl (whole ∙ ap reverse none))
    (λ (some : (rest : List ℕ) × (drop k r ≡ 47 ∷ rest)).
    inr (reverse some.0, whole ∙ ap reverse some.1 ∙ reverse-append (47 ∷ []) some.0))
    (stops_at r)
  where
    r : List ℕ
    r = reverse name

    k : ℕ
    k = prefix_len is_other r

    halves : name ≡ reverse (drop k r) ++ reverse (take k r)
    halves =
        sym (reverse_twice name) ∙ ap reverse (sym (take-append-drop k r))
        ∙ reverse-append (take k r) (drop k r)

    size : folder_length name ≡ length (reverse (drop k r))
    size =
        ap (λ n. n - k) (sym (length-reverse name)) ∙ sym (length-drop k r)
        ∙ sym (length-reverse (drop k r))

    whole : folder_of name ≡ reverse (drop k r)
    whole =
        ap (λ n. take n name) size
        ∙ ap (take (length (reverse (drop k r)))) halves
        ∙ take-append_seam (reverse (drop k r)) (reverse (take k r))

around_is : (folder around : List ℕ) → folder_around folder ≡ Some around → IsFolder around
around_is folder around is = by_test (nat_le (length folder) 1) is
  where
    by_test : (b : Bool)
        → (if b then None else Some (folder_of (take (length folder - 1) folder))) ≡ Some around
        → IsFolder around
    by_test true is = absurd cc
    by_test false is =
        let same : folder_of (take (length folder - 1) folder) ≡ around = cc in
        subst IsFolder same (folder_is (take (length folder - 1) folder))

from_is : (header folder base : List ℕ) → IsFolder folder → folder_from header folder ≡ Some base
    → IsFolder base
unfolding folder_from
from_is [] folder base at is = let same : folder ≡ base = cc in subst IsFolder same at
from_is (a ∷ []) folder base at is = let same : folder ≡ base = cc in subst IsFolder same at
from_is (a ∷ b ∷ []) folder base at is = let same : folder ≡ base = cc in subst IsFolder same at
from_is (a ∷ b ∷ c ∷ rest) folder base at is =
    by_tests (bytes_eq (a ∷ b ∷ []) (codes "./")) (bytes_eq (a ∷ b ∷ c ∷ []) (codes "../"))
    (λ i. from_is (c ∷ rest) folder base at i)
    (λ around j i. from_is rest around base j i) is
  where
    by_tests : (one two : Bool)
        → (folder_from (c ∷ rest) folder ≡ Some base → IsFolder base)
        → ((around : List ℕ) → IsFolder around → folder_from rest around ≡ Some base
        → IsFolder base)
        → (if one then folder_from (c ∷ rest) folder
        else (if two then option_map_or (folder_from rest) (folder_around folder) None
        else Some folder)) ≡ Some base → IsFolder base
    by_tests true two here up is = here is
    by_tests false true here up is = by_around (folder_around folder) refl is
      where
        by_around : (o : Option (List ℕ)) → folder_around folder ≡ o
            → option_map_or (folder_from rest) o None ≡ Some base → IsFolder base
        by_around None none is = absurd cc
        by_around (Some around) some is = up around (around_is folder around some) is
    by_tests false false here up is =
        let same : folder ≡ base = cc in subst IsFolder same at

-- ---- names with the last part of a header
one_of_last : (p : List ℕ → Bool) (names : List (List ℕ)) (target : List ℕ) → p target ≡ true
    → is_one_of (filter p names) target ≡ is_one_of names target
one_of_last p [] target is = refl
one_of_last p (n ∷ ns) target is = by_test (p n) refl (one_of_last p ns target is)
  where
    by_test : (b : Bool) → p n ≡ b → is_one_of (filter p ns) target ≡ is_one_of ns target
        → is_one_of (cond b (n ∷ filter p ns) (filter p ns)) target ≡ is_one_of (n ∷ ns) target
    by_test true test rest = ap (λ c. bytes_eq n target || c) rest
    by_test false test rest = rest ∙ by_same (bytes_eq n target) refl
      where
        by_same : (c : Bool) → bytes_eq n target ≡ c
            → is_one_of ns target ≡ (c || is_one_of ns target)
        by_same true same =
            let equal : n ≡ target = (bytes_eq-Decides n target).0 same in
            let bad : false ≡ true = sym test ∙ ap p equal ∙ is in absurd cc
        by_same false same = refl

filter_twice : (p q : List ℕ → Bool) (names : List (List ℕ))
    → ((name : List ℕ) → q name ≡ true → p name ≡ true)
    → filter q (filter p names) ≡ filter q names
filter_twice p q [] narrow = refl
filter_twice p q (n ∷ ns) narrow = by_tests (p n) (q n) refl (narrow n) (filter_twice p q ns narrow)
  where
    by_tests : (b c : Bool) → q n ≡ c → (q n ≡ true → b ≡ true)
        → filter q (filter p ns) ≡ filter q ns
        → filter q (cond b (n ∷ filter p ns) (filter p ns)) ≡ cond c (n ∷ filter q ns) (filter q ns)
    by_tests true true test down rest =
        ap (λ d. cond d (n ∷ filter q (filter p ns)) (filter q (filter p ns))) test
        ∙ ap (λ ms. n ∷ ms) rest
    by_tests true false test down rest =
        ap (λ d. cond d (n ∷ filter q (filter p ns)) (filter q (filter p ns))) test ∙ rest
    by_tests false true test down rest = let bad : false ≡ true = down test in absurd cc
    by_tests false false test down rest = rest

called_last : (header name : List ℕ) → is_header header name ≡ true
    → has_last (last_of header) name ≡ true
called_last header name is = (bytes_eq-Decides (last_of name) (last_of header)).1 (⊎_elim
    (λ (same : bytes_eq name header ≡ true). ap last_of ((bytes_eq-Decides name header).0 same))
    (λ (ends : ends_in (47 ∷ header) name ≡ true).
    let n = length name - length (47 ∷ header) in
    let end : drop n name ≡ 47 ∷ header =
    (bytes_eq-Decides (drop n name) (47 ∷ header)).0
    (and_second (nat_le (length (47 ∷ header)) (length name))
    (bytes_eq (drop n name) (47 ∷ header)) ends) in
    ap last_of (sym (take-append-drop n name) ∙ ap (λ zs. take n name ++ zs) end)
    ∙ last_past (take n name) header)
    (or_cases (bytes_eq name header) (ends_in (47 ∷ header) name) is))

-- ---- one name is added
no_end : (xs : List (List ℕ)) → xs ≡ xs ++ []
no_end [] = refl
no_end (x ∷ xs) = ap (λ ys. x ∷ ys) (no_end xs)

map_end : (keys : List (Bor (List ℕ))) (key : Bor (List ℕ))
    → map (λ (k : Bor (List ℕ)). k.now) (keys ++ key ∷ [])
    ≡ map (λ (k : Bor (List ℕ)). k.now) keys ++ key.now ∷ []
map_end [] key = refl
map_end (k ∷ ks) key = ap (λ ys. k.now ∷ ys) (map_end ks key)

module _ {X : Type 0} (items : X → List (Bor (List ℕ))) (old new : List ℕ → Option X) (value : X)
    (before : List (Bor (List ℕ))) (last : List ℕ) (name : Bor (List ℕ))
    (is : last ≡ last_of name.now)
    (put : (q : List ℕ) → new q ≡ cond (is_eq (slice_cmp nat_cmp last q)) (Some value) (old q))
    (behind : items value ≡ before ++ name ∷ []) where
  abbrev pub names_at : Option X → List (List ℕ)
  names_at o = option_map_or (λ v. map (λ (k : Bor (List ℕ)). k.now) (items v)) o []

  pub lists_one : map (λ (k : Bor (List ℕ)). k.now) before ≡ names_at (old last) → (q : List ℕ)
      → names_at (new q) ≡ names_at (old q) ++ filter (has_last q) (name.now ∷ [])
  lists_one was q =
      ap names_at (put q ∙ ap (λ b. cond b (Some value) (old q)) (is_eq-slice_cmp last q))
      ∙ by_same (bytes_eq last q) refl
    where
      by_same : (b : Bool) → bytes_eq last q ≡ b
          → names_at (cond b (Some value) (old q))
          ≡ names_at (old q) ++ filter (has_last q) (name.now ∷ [])
      by_same true same =
          let equal : last ≡ q = (bytes_eq-Decides last q).0 same in
          ap (map (λ (k : Bor (List ℕ)). k.now)) behind ∙ map_end before name
          ∙ ap (λ ns. ns ++ name.now ∷ []) (was ∙ ap (λ r. names_at (old r)) equal)
          ∙ ap (λ b. names_at (old q) ++ cond b (name.now ∷ []) [])
          (sym (ap (λ r. bytes_eq r q) (sym is) ∙ same))
      by_same false same =
          no_end (names_at (old q))
          ∙ ap (λ b. names_at (old q) ++ cond b (name.now ∷ []) [])
          (sym (ap (λ r. bytes_eq r q) (sym is) ∙ same))

-- what a header means is found among the files with its last part
module _ (fs : List File) (from header : List ℕ) where
  abbrev rest : List ℕ
  rest = without_dots header

  abbrev lasts : List (List ℕ)
  lasts = filter (has_last (last_of rest)) (names_of fs)

  beside_last : beside_among lasts (folder_of from) header ≡ beside fs (folder_of from) header
  beside_last = by_base (folder_from header (folder_of from)) refl
    where
      by_base : (o : Option (List ℕ)) → folder_from header (folder_of from) ≡ o
          → option_map_or (λ (base : List ℕ). if_among lasts (base ++ rest)) o None
          ≡ option_map_or (λ (base : List ℕ). if_there fs (base ++ rest)) o None
      by_base None is = refl
      by_base (Some base) is =
          let ends : has_last (last_of rest) (base ++ rest) ≡ true =
          (bytes_eq-Decides (last_of (base ++ rest)) (last_of rest)).1
          (last_in base rest (from_is header (folder_of from) base (folder_is from) is)) in
          ap (λ b. if b then Some (base ++ rest) else None)
          (one_of_last (has_last (last_of rest)) (names_of fs) (base ++ rest) ends
          ∙ sym (named-found (base ++ rest) fs))

  near_last : filter (is_header rest) lasts ≡ files_named rest fs
  near_last =
      filter_twice (has_last (last_of rest)) (is_header rest) (names_of fs) (called_last rest)
      ∙ sym (named-filter rest fs)

  pub meant_by : (names : List (List ℕ)) → names ≡ lasts
      → option_or (beside_among names (folder_of from) header)
      (nearest_of from (filter (is_header rest) names)) ≡ meant fs from header
  meant_by names is =
      ap (λ ns. option_or (beside_among ns (folder_of from) header)
      (nearest_of from (filter (is_header rest) ns))) is
      ∙ (λ i. option_or (beside_last i) (nearest_of from (near_last i)))

  pub meant_none : [] ≡ lasts → None ≡ meant fs from header
  meant_none is =
      ap (λ o. option_or o None) (none (folder_from header (folder_of from))) ∙ meant_by [] is
    where
      none : (o : Option (List ℕ))
          → None ≡ option_map_or (λ (base : List ℕ). if_among [] (base ++ rest)) o None
      none None = refl
      none (Some base) = refl
