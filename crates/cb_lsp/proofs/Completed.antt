-- The names that complete a word are read from the definitions in order, from the word on.
use Rattle.std.proofs.Common.{◌≡◌, ◌∙◌, ℕ, Bool, true, false, not, List, [], ◌∷◌, filter, cond}
use Rattle.std.proofs.Common.{None, Some, Less, Equal, Greater, Ordering, refl, sym, ap, subst}
use Rattle.std.proofs.Common.{◌≤◌, ◌<◌, arith, length, take, nat_eq}
use Rattle.std.proofs.lemmas.Bool.{true≢false, false≢true}
use Rattle.std.proofs.lemmas.Bool.Decides.{Decides-eqb}
use Rattle.std.proofs.lemmas.Cmp.{nat_cmp_total, tied_itself}
use Rattle.std.specs.Prelude.{◌&&◌, Option, if◌then◌else◌}
use Rattle.std.specs.Cmp.Lexicographic.{pointwise, slice_cmp}
use Rattle.std.specs.List.{AllByRecursion, flat_map, starts_with}
use Rattle.std.specs.Ordering.{is_gt, nat_cmp, ordering_reverse, ordering_then}
use Rattle.std.specs.Str.{bytes_eq}
use Rattle.cb_desk.proofs.PlaceLemmas.{same-name}
use Rattle.cb_desk.proofs.Valid.{all-along, all-passed}
use Rattle.cb_desk.specs.World.{File, World}
use Rattle.cb_index.specs.Rows.{file_tags, is_named_from, tags_by_name, tags_from_name}
use Rattle.cb_index.proofs.DefSearchLemmas.{filter_all}
use Rattle.cb_index.proofs.InOrderLemmas.{all_filter}
use Rattle.cb_scan.proofs.KeyOrder.{same_number}
use Rattle.cb_scan.proofs.OrderLemmas.{Sorted, in_order_sorted}
use Rattle.cb_scan.specs.declared.profile.Profile.{Profile}
use Rattle.cb_scan.specs.Order.{goes_first, in_order}
use Rattle.cb_tags.specs.TagLines.{Tag}
use Rattle.cb_wire.specs.Completions.{completion_list}
use Rattle.cb_lsp.specs.Completions.{begin_with, completing, completions_before, completions_of}
use Rattle.cb_lsp.specs.Completions.{first_of_each}
use Rattle.cb_lsp.specs.steps.Completions.{names_behind}
use Rattle.cb_lsp.specs.steps.Meanings.{IsUpTo}
use Rattle.cb_lsp.proofs.Reaches.{apart, swapped}

-- ---- names that begin with a word

split-and : (b c : Bool) → (b && c) ≡ true → (b ≡ true) × (c ≡ true)
split-and true c is = (refl, is)
split-and false c is = absurd (false≢true is)

-- they are not less than it
begun-upto : (word name : List ℕ) → starts_with nat_eq name word ≡ true → IsUpTo word name
begun-upto [] [] is = refl
begun-upto [] (y ∷ ys) is = refl
begun-upto (x ∷ xs) [] is = absurd (false≢true is)
begun-upto (x ∷ xs) (y ∷ ys) is =
    let both = split-and (nat_eq x y) (pointwise nat_eq xs (take (length xs) ys)) is in
    let same : x ≡ y = (Decides-eqb x y).0 both.0 in
    ap (λ o. is_gt (ordering_then o (slice_cmp nat_cmp xs ys)))
    (subst (λ n. nat_cmp x n ≡ Equal) same (tied_itself nat_cmp_total x))
    ∙ begun-upto xs ys both.1

-- so does what stands between the word and one of them
between-begins : (word name later : List ℕ) → IsUpTo word name → IsUpTo name later
    → starts_with nat_eq later word ≡ true → starts_with nat_eq name word ≡ true
between-begins [] name later low high is = refl
between-begins (x ∷ xs) [] later low high is = absurd (true≢false low)
between-begins (x ∷ xs) (y ∷ ys) [] low high is = absurd (false≢true is)
between-begins (x ∷ xs) (y ∷ ys) (z ∷ zs) low high is =
    let both = split-and (nat_eq x z) (pointwise nat_eq xs (take (length xs) zs)) is in
    let same : z ≡ x = sym ((Decides-eqb x z).0 both.0) in
    by-order (nat_cmp x y) refl
    (subst (λ n. is_gt (ordering_then (nat_cmp y n) (slice_cmp nat_cmp ys zs)) ≡ false) same high)
    (λ lower higher. between-begins xs ys zs lower higher both.1)
  where
    by-order : (o : Ordering) → nat_cmp x y ≡ o
        → is_gt (ordering_then (nat_cmp y x) (slice_cmp nat_cmp ys zs)) ≡ false
        → (IsUpTo xs ys → IsUpTo ys zs → starts_with nat_eq ys xs ≡ true)
        → starts_with nat_eq (y ∷ ys) (x ∷ xs) ≡ true
    by-order Less is up begins =
        absurd (true≢false (ap (λ o. is_gt (ordering_then o (slice_cmp nat_cmp ys zs)))
        (sym (nat_cmp_total.antisymm y x ∙ ap ordering_reverse is)) ∙ up))
    by-order Greater is up begins =
        absurd (true≢false (ap (λ o. is_gt (ordering_then o (slice_cmp nat_cmp xs ys))) (sym is)
        ∙ low))
    by-order Equal is up begins =
        let tied : nat_cmp y x ≡ Equal =
        nat_cmp_total.antisymm y x ∙ ap ordering_reverse is in
        let here : nat_eq x y ≡ true = (Decides-eqb x y).1 (same_number x y is) in
        let later = begins
        (ap (λ o. is_gt (ordering_then o (slice_cmp nat_cmp xs ys))) (sym is) ∙ low)
        (ap (λ o. is_gt (ordering_then o (slice_cmp nat_cmp ys zs))) (sym tied) ∙ up) in
        λ i. here i && later i

-- ---- some of a list

none-kept : (p : Tag → Bool) (ts : List Tag) → AllByRecursion (λ t. p t ≡ false) ts
    → filter p ts ≡ []
none-kept p [] all = refl
none-kept p (t ∷ ts) all =
    ap (λ b. cond b (t ∷ filter p ts) (filter p ts)) all.0 ∙ none-kept p ts all.1

kept-twice : (p q : Tag → Bool) (ts : List Tag)
    → filter p (filter q ts) ≡ filter q (filter p ts)
kept-twice p q [] = refl
kept-twice p q (t ∷ ts) = by-tests (p t) (q t) refl refl (kept-twice p q ts)
  where
    by-tests : (b c : Bool) → p t ≡ b → q t ≡ c
        → filter p (filter q ts) ≡ filter q (filter p ts)
        → filter p (cond c (t ∷ filter q ts) (filter q ts))
        ≡ filter q (cond b (t ∷ filter p ts) (filter p ts))
    by-tests true true bp cq later =
        ap (λ b. cond b (t ∷ filter p (filter q ts)) (filter p (filter q ts))) bp
        ∙ ap (λ l. t ∷ l) later
        ∙ sym (ap (λ c. cond c (t ∷ filter q (filter p ts)) (filter q (filter p ts))) cq)
    by-tests true false bp cq later =
        later ∙ sym (ap (λ c. cond c (t ∷ filter q (filter p ts)) (filter q (filter p ts))) cq)
    by-tests false true bp cq later =
        ap (λ b. cond b (t ∷ filter p (filter q ts)) (filter p (filter q ts))) bp ∙ later
    by-tests false false bp cq later = later

-- ---- of definitions of one name the first

abbrev other : List ℕ → Tag → Bool
other name u = not (bytes_eq u.name name)

firsts-kept : (name : List ℕ) (ts : List Tag)
    → filter (other name) (first_of_each ts) ≡ first_of_each (filter (other name) ts)
firsts-kept name [] = refl
firsts-kept name (t ∷ ts) = by-test (bytes_eq t.name name) refl (firsts-kept name ts)
  where
    by-test : (b : Bool) → bytes_eq t.name name ≡ b
        → filter (other name) (first_of_each ts) ≡ first_of_each (filter (other name) ts)
        → cond (not b) (t ∷ filter (other name) (filter (other t.name) (first_of_each ts)))
        (filter (other name) (filter (other t.name) (first_of_each ts)))
        ≡ first_of_each (cond (not b) (t ∷ filter (other name) ts) (filter (other name) ts))
    by-test true is later =
        ap (λ n. filter (other name) (filter (other n) (first_of_each ts)))
        (same-name t.name name is)
        ∙ filter_all (other name) (filter (other name) (first_of_each ts))
        (all-passed (other name) (first_of_each ts))
        ∙ later
    by-test false is later =
        ap (λ l. t ∷ l) (kept-twice (other name) (other t.name) (first_of_each ts)
        ∙ ap (filter (other t.name)) later)

-- ---- definitions by name

abbrev name_key : Tag → List ℕ
name_key t = t.name

upto-of : (b : Bool) → not b ≡ true → b ≡ false
upto-of true is = absurd (false≢true is)
upto-of false is = refl

sorted-kept : (p : Tag → Bool) (ts : List Tag) → Sorted name_key ts
    → Sorted name_key (filter p ts)
sorted-kept p [] s = tt
sorted-kept p (t ∷ ts) s =
    elim (p t) as (λ b. Sorted name_key (cond b (t ∷ filter p ts) (filter p ts))) [
      | true ↦
          (all_filter p (λ u. goes_first name_key t u ≡ true) ts s.0, sorted-kept p ts s.1)
      | false ↦ sorted-kept p ts s.1
    ]

abbrev Behind : Tag → List Tag → Type 0
Behind t us = AllByRecursion (λ u. goes_first name_key t u ≡ true) us

all-upto : (t : Tag) (us : List Tag) → Behind t us
    → AllByRecursion (λ (u : Tag). IsUpTo t.name u.name) us
all-upto t [] all = tt
all-upto t (u ∷ us) all = (upto-of _ all.0, all-upto t us all.1)

-- behind a name and another one there is none of the first
all-other : (name : List ℕ) (t : Tag) (us : List Tag) → IsUpTo name t.name
    → bytes_eq t.name name ≡ false → Behind t us
    → AllByRecursion (λ u. other name u ≡ true) us
all-other name t [] low isnt all = tt
all-other name t (u ∷ us) low isnt all = (
  ap not (swapped u.name name
      ∙ apart name t.name u.name low (upto-of _ all.0) (swapped name t.name ∙ isnt)),
  all-other name t us low isnt all.1,
)

module _ (word : List ℕ) where
  abbrev begins : Tag → Bool
  begins t = starts_with nat_eq t.name word

  none-begins : (t : Tag) (us : List Tag) → IsUpTo word t.name → begins t ≡ false → Behind t us
      → AllByRecursion (λ u. begins u ≡ false) us
  none-begins t [] low isnt all = tt
  none-begins t (u ∷ us) low isnt all = (
    (elim (begins u) as (λ b. begins u ≡ b → b ≡ false) [
      | true ↦ λ is. absurd (true≢false
          (sym (between-begins word t.name u.name low (upto-of _ all.0) is) ∙ isnt))
      | false ↦ λ is. refl
    ]) refl,
    none-begins t us low isnt all.1,
  )

  -- a name that was not given yet
  new-name : (t : Tag) (ts : List Tag) → IsUpTo word t.name → Behind t ts
      → names_behind word (Some t.name) ts
      ≡ first_of_each (begin_with word (filter (other t.name) ts))
      → (if begins t then t ∷ names_behind word (Some t.name) ts else [])
      ≡ first_of_each (begin_with word (t ∷ ts))
  new-name t ts low all later = by-test (begins t) refl
    where
      by-test : (b : Bool) → begins t ≡ b
          → (if b then t ∷ names_behind word (Some t.name) ts else [])
          ≡ first_of_each (cond b (t ∷ filter begins ts) (filter begins ts))
      by-test true is =
          ap (λ l. t ∷ l) (later ∙ ap first_of_each (kept-twice begins (other t.name) ts)
          ∙ sym (firsts-kept t.name (filter begins ts)))
      by-test false is =
          ap first_of_each (sym (none-kept begins ts (none-begins t ts low is all)))

  -- those of other names than the last one
  abbrev but_last : Option (List ℕ) → List Tag → List Tag
  but_last None ts = ts
  but_last (Some name) ts = filter (other name) ts

  abbrev IsBehind : Option (List ℕ) → List Tag → Type 0
  IsBehind None ts = Unit {0}
  IsBehind (Some name) ts = AllByRecursion (λ (t : Tag). IsUpTo name t.name) ts

  pub names-behind : (last : Option (List ℕ)) (ts : List Tag) → Sorted name_key ts
      → AllByRecursion (λ (t : Tag). IsUpTo word t.name) ts → IsBehind last ts
      → names_behind word last ts ≡ first_of_each (begin_with word (but_last last ts))
  unfolding names_behind
  names-behind None [] s low behind = refl
  names-behind (Some name) [] s low behind = refl
  names-behind None (t ∷ ts) s low behind =
      new-name t ts low.0 s.0
      (names-behind (Some t.name) ts s.1 low.1 (all-upto t ts s.0))
  names-behind (Some name) (t ∷ ts) s low behind =
      by-test (bytes_eq t.name name) refl
      (names-behind (Some name) ts s.1 low.1 behind.1)
      (names-behind (Some t.name) ts s.1 low.1 (all-upto t ts s.0))
    where
      by-test : (b : Bool) → bytes_eq t.name name ≡ b
          → names_behind word (Some name) ts
          ≡ first_of_each (begin_with word (filter (other name) ts))
          → names_behind word (Some t.name) ts
          ≡ first_of_each (begin_with word (filter (other t.name) ts))
          → (if b then names_behind word (Some name) ts
          else (if begins t then t ∷ names_behind word (Some t.name) ts else []))
          ≡ first_of_each (begin_with word
          (cond (not b) (t ∷ filter (other name) ts) (filter (other name) ts)))
      by-test true is passed new = passed
      by-test false is passed new =
          new-name t ts low.0 s.0 new
          ∙ ap (λ l. first_of_each (begin_with word (t ∷ l)))
          (sym (filter_all (other name) ts (all-other name t ts behind.0 is s.0)))

  all-from : (ts : List Tag)
      → AllByRecursion (λ (t : Tag). IsUpTo word t.name) (filter (is_named_from word) ts)
  all-from ts =
      all-along (λ (t : Tag). is_named_from word t ≡ true)
      (λ (t : Tag). IsUpTo word t.name) (filter (is_named_from word) ts)
      (λ t is. upto-of _ is) (all-passed (is_named_from word) ts)

  -- what begins with the word is not less than it
  from-begun : (ts : List Tag)
      → begin_with word (filter (is_named_from word) ts) ≡ begin_with word ts
  from-begun ts =
      kept-twice begins (is_named_from word) ts
      ∙ filter_all (is_named_from word) (filter begins ts)
      (all-along (λ (t : Tag). begins t ≡ true) (λ (t : Tag). is_named_from word t ≡ true)
      (filter begins ts) (λ t is. ap not (begun-upto word t.name is)) (all-passed begins ts))

  pub names-are : (p : Profile) (fs : List File)
      → names_behind word None (tags_from_name p word fs)
      ≡ first_of_each (begin_with word (tags_by_name p fs))
  unfolding tags_from_name tags_by_name
  names-are p fs =
      let all = flat_map (file_tags p) fs in
      let ts = in_order name_key all in
      names-behind None (filter (is_named_from word) ts)
      (sorted-kept (is_named_from word) ts (in_order_sorted name_key all)) (all-from ts) tt
      ∙ ap first_of_each (from-begun ts)

-- ---- a word that is empty, or is not

pub none-complete : (w : World) (own : List (List ℕ)) (word : List ℕ) → length word < 1
    → completions_before w own word ≡ completion_list true []
none-complete w own [] none = refl
none-complete w own (b ∷ bs) none = absurd (omega (arith, none))

pub some-complete : (w : World) (own : List (List ℕ)) (word : List ℕ) → 1 ≤ length word
    → completions_of (completing w own word) ≡ completions_before w own word
some-complete w own [] some = absurd (omega (arith, some))
some-complete w own (b ∷ bs) some = refl
