-- The files that have a mark, found by the marks.
use Rattle.std.proofs.Common.{◌≡◌, ◌∙◌, sym, ap, refl, subst, ℕ, zero, suc, Bool, true, false}
use Rattle.std.proofs.Common.{cond, List, [], ◌∷◌, ◌||◌, filter, drop, length, arith, nat_cmp}
use Rattle.std.proofs.Common.{is_lt, Less, bytes_eq}
use Rattle.std.proofs.lemmas.Cmp.{nat_list_cmp_total}
use Rattle.std.specs.Cmp.Lexicographic.{slice_cmp}
use Rattle.std.specs.List.{AllByRecursion, AllWithin, list_any, prefix_len}
use Rattle.std.specs.List.Sorted.{IsStrictlySortedBy}
use Rattle.cb_scan.specs.Order.{AreOrdered}
use Rattle.cb_index.specs.Archived.{Archived, name_of}
use Rattle.cb_index.specs.Files.{AreAscending, file_of}
use Rattle.cb_index.specs.declared.entry.Shown.{Shown}
use Rattle.cb_desk.specs.declared.places.FileLine.{FileLine}
use Rattle.cb_desk.specs.Places.{is_in}
use Rattle.cb_desk.specs.World as world
use Rattle.cb_desk.specs.World.{is_named}
use Rattle.cb_desk.specs.steps.Named.{IsFirst, IsNotFirst}
use Rattle.cb_desk.specs.steps.Records.{place_in}
use Rattle.cb_desk.specs.steps.Replaced.{has_mark, places_in}
use Rattle.cb_desk.proofs.MarksFound.{all_from, all_out, ascend_after, is_here, less_apart}
use Rattle.cb_desk.proofs.MarksFound.{no_lower, one_more, strictly}
use Rattle.cb_desk.proofs.PlaceLemmas.{name-same, same-name}
use Rattle.cb_desk.proofs.Placed.{less-from}
use Rattle.cb_desk.proofs.Valid.{all-filter}

-- ---- lists
none_any : {X : Type 0} (p : X → Bool) (xs : List X) → AllByRecursion (λ x. p x ≡ false) xs
    → list_any p xs ≡ false
none_any p [] all = refl
none_any p (x ∷ xs) all = ap (λ b. b || list_any p xs) all.0 ∙ none_any p xs all.1

-- what has one name has no other
apart : (x y z : List ℕ) → bytes_eq x y ≡ true → bytes_eq z y ≡ false → bytes_eq x z ≡ false
apart x y z same other = by_test (bytes_eq x z) refl
  where
    by_test : (b : Bool) → bytes_eq x z ≡ b → bytes_eq x z ≡ false
    by_test true is =
        let both : bytes_eq z y ≡ true = subst (λ n. bytes_eq n y ≡ true) (same-name x z is) same in
        cc
    by_test false is = is

module _ (a : Archived) where
  -- the file of a version is below a name, or it is not
  abbrev Below : List ℕ → Shown → Type 0
  Below name s = is_lt (slice_cmp nat_cmp (name_of a s.name) name) ≡ true

  abbrev NotBelow : List ℕ → Shown → Type 0
  NotBelow name s = is_lt (slice_cmp nat_cmp (name_of a s.name) name) ≡ false

  -- the file of a version has another name
  abbrev IsOther : List ℕ → Shown → Type 0
  IsOther name s = is_named name (file_of a s) ≡ false

  -- files go on in order
  files_after : (ss : List Shown) (i : ℕ) → AreAscending a ss → AreAscending a (drop i ss)
  unfolding AreOrdered
  files_after ss zero up = up
  files_after [] (suc i) up = up
  files_after (s ∷ ss) (suc i) up = files_after ss i up.1

  -- ---- names
  above_unnamed : (name : List ℕ) (ss : List Shown)
      → AllByRecursion (λ (s : Shown). slice_cmp nat_cmp name (name_of a s.name) ≡ Less) ss
      → AllByRecursion (IsOther name) ss
  above_unnamed name [] all = tt
  above_unnamed name (s ∷ ss) all =
      (less_apart name (name_of a s.name) all.0, above_unnamed name ss all.1)

  above_all : (name : List ℕ) (s : Shown) (ss : List Shown)
      → slice_cmp nat_cmp name (name_of a s.name) ≡ Less
      → AllByRecursion
      (λ (t : Shown). slice_cmp nat_cmp (name_of a s.name) (name_of a t.name) ≡ Less) ss
      → AllByRecursion (λ (t : Shown). slice_cmp nat_cmp name (name_of a t.name) ≡ Less) ss
  above_all name s [] less all = tt
  above_all name s (t ∷ ss) less all = (
    nat_list_cmp_total.trans name (name_of a s.name) (name_of a t.name) less all.0,
    above_all name s ss less all.1,
  )

  -- behind a file of the name no other has it
  behind_named : (name : List ℕ) (s : Shown) (ss : List Shown) → AreAscending a (s ∷ ss)
      → is_named name (file_of a s) ≡ true
      → AllByRecursion (IsOther name) ss
  unfolding AreOrdered
  behind_named name s ss up is =
      above_unnamed name ss
      (subst (λ n. AllByRecursion (λ (t : Shown). slice_cmp nat_cmp n (name_of a t.name) ≡ Less) ss)
      (same-name (name_of a s.name) name is) up.0)

  -- where no file is below the name and the first has another, none has it
  none_named : (name : List ℕ) (ss : List Shown) → AreAscending a ss
      → AllByRecursion (NotBelow name) ss → IsNotFirst a name ss
      → AllByRecursion (IsOther name) ss
  unfolding AreOrdered
  none_named name [] up out other = tt
  none_named name (s ∷ ss) up out other =
      let less : slice_cmp nat_cmp name (name_of a s.name) ≡ Less =
      strictly name (name_of a s.name) (no_lower (name_of a s.name) name out.0) other in
      (other, above_unnamed name ss (above_all name s ss less up.0))

  -- ---- marks
  abbrev later : List ℕ → List FileLine → List FileLine
  later name ms = drop (prefix_len (is_here a name) ms) ms

  -- the marks in the file of a name are none of a file with another name
  skipped : (name : List ℕ) (ms : List FileLine) (s : Shown) → IsOther name s
      → has_mark a ms s ≡ has_mark a (later name ms) s
  skipped name [] s other = refl
  skipped name (m ∷ ms) s other = by_test (is_here a name m) refl (skipped name ms s other)
    where
      by_test : (b : Bool) → is_here a name m ≡ b → has_mark a ms s ≡ has_mark a (later name ms) s
          → has_mark a (m ∷ ms) s ≡ has_mark a (later name (m ∷ ms)) s
      by_test true is rest =
          rw is (ap (λ b. b || has_mark a ms s)
          (apart (name_of a m.name) name (name_of a s.name) is other)
          ∙ rest
          ∙ ap (λ n. has_mark a (drop n (m ∷ ms)) s)
          (sym (one_more a name (prefix_len (is_here a name) ms))))
      by_test false is rest = rw is refl

  skipped_all : (name : List ℕ) (ms : List FileLine) (ss : List Shown)
      → AllByRecursion (IsOther name) ss
      → filter (has_mark a ms) ss ≡ filter (has_mark a (later name ms)) ss
  skipped_all name ms [] all = refl
  skipped_all name ms (s ∷ ss) all =
      let rest = skipped_all name ms ss all.1 in
      λ i. cond (skipped name ms s all.0 i) (s ∷ rest i) (rest i)

  -- files below that of the first mark have none
  below_unmarked : (m : FileLine) (ms : List FileLine) (s : Shown)
      → world.AreAscending (places_in a (m ∷ ms))
      → Below (name_of a m.name) s → has_mark a (m ∷ ms) s ≡ false
  unfolding IsStrictlySortedBy
  below_unmarked m ms s up below =
      let less = less-from (slice_cmp nat_cmp (name_of a s.name) (name_of a m.name)) below in
      none_any (is_in (name_of a s.name)) (places_in a (m ∷ ms)) (
        less_apart (name_of a s.name) (name_of a m.name) less,
        all_out a (name_of a s.name) m ms less up.0,
      )

  passed : (m : FileLine) (ms : List FileLine) (ss : List Shown) (i : ℕ)
      → world.AreAscending (places_in a (m ∷ ms))
      → AllWithin (Below (name_of a m.name)) ss 0 i
      → filter (has_mark a (m ∷ ms)) ss ≡ filter (has_mark a (m ∷ ms)) (drop i ss)
  passed m ms ss zero up below = refl
  passed m ms [] (suc i) up below = refl
  passed m ms (s ∷ ss) (suc i) up below =
      ap (λ b. cond b (s ∷ filter (has_mark a (m ∷ ms)) ss) (filter (has_mark a (m ∷ ms)) ss))
      (below_unmarked m ms s up (below 0 s (omega arith) (omega arith)))
      ∙ passed m ms ss i up (λ k d low high. below (suc k) d (omega arith) (omega (arith, high)))

  -- ---- a step
  module _ (m : FileLine) (ms : List FileLine)
      (marks_up : world.AreAscending (places_in a (m ∷ ms))) (ss : List Shown)
      (up : AreAscending a ss) (i : ℕ)
      (before : AllWithin (Below (name_of a m.name)) ss 0 i) where
    -- the file of the first mark is there
    first_found : (s : Shown) (more : List Shown) → IsFirst a (name_of a m.name) s more (drop i ss)
        → filter (has_mark a (m ∷ ms)) ss
        ≡ s ∷ filter (has_mark a (later (name_of a m.name) (m ∷ ms))) more
    first_found s more is =
        let name = name_of a m.name in
        let here : is_in (name_of a s.name) (place_in a m) ≡ true =
        subst (λ n. bytes_eq name n ≡ true) (sym (same-name (name_of a s.name) name is.1))
        (name-same name) in
        let others =
        behind_named name s more (subst (AreAscending a) is.0 (files_after ss i up)) is.1 in
        passed m ms ss i marks_up before
        ∙ ap (filter (has_mark a (m ∷ ms))) is.0
        ∙ ap (λ b. cond (b || has_mark a ms s) (s ∷ filter (has_mark a (m ∷ ms)) more)
        (filter (has_mark a (m ∷ ms)) more)) here
        ∙ ap (λ rest. s ∷ rest) (skipped_all name (m ∷ ms) more others)

    -- it is not there
    first_passed : AllWithin (NotBelow (name_of a m.name)) ss i (length ss)
        → IsNotFirst a (name_of a m.name) (drop i ss)
        → filter (has_mark a (m ∷ ms)) ss
        ≡ filter (has_mark a (later (name_of a m.name) (m ∷ ms))) (drop i ss)
    first_passed after other =
        let name = name_of a m.name in
        passed m ms ss i marks_up before
        ∙ skipped_all name (m ∷ ms) (drop i ss)
        (none_named name (drop i ss) (files_after ss i up)
        (all_from (NotBelow name) ss i after) other)

  -- what follows the first file ascends too
  pub more_ascend : (name : List ℕ) (s : Shown) (more files : List Shown)
      → IsFirst a name s more files → AreAscending a files → AreAscending a more
  unfolding AreOrdered
  more_ascend name s more files is up = (subst (AreAscending a) is.0 up).1

  pub files_on : (ss here : List Shown) (i : ℕ) → here ≡ drop i ss → AreAscending a ss
      → AreAscending a here
  files_on ss here i is up = subst (AreAscending a) (sym is) (files_after ss i up)

  pub marks_on : (ms left : List FileLine) (i : ℕ) → left ≡ drop i ms
      → world.AreAscending (places_in a ms) → world.AreAscending (places_in a left)
  marks_on ms left i is up =
      subst (λ l. world.AreAscending (places_in a l)) (sym is) (ascend_after a [] ms i up)

  -- some of the files ascend too
  pub some_ascend : (p : Shown → Bool) (ss : List Shown) → AreAscending a ss
      → AreAscending a (filter p ss)
  unfolding AreOrdered
  some_ascend p [] up = tt
  some_ascend p (s ∷ ss) up =
      elim (p s) as (λ b. AreOrdered
      (λ (s t : Shown). slice_cmp nat_cmp (name_of a s.name) (name_of a t.name) ≡ Less)
      (cond b (s ∷ filter p ss) (filter p ss)))
      [ true ↦ (all-filter _ p ss up.0, some_ascend p ss up.1) | false ↦ some_ascend p ss up.1 ]

  -- ---- a step in the words of the code
  module _ (ms : List FileLine) (ss : List Shown)
      (marks_up : world.AreAscending (places_in a ms)) (up : AreAscending a ss)
      (m : FileLine) (rest : List FileLine) (split : ms ≡ m ∷ rest) (name : List ℕ)
      (named : name ≡ name_of a m.name)
      (i k : ℕ) (before : AllWithin (Below name) ss 0 i)
      (after : AllWithin (NotBelow name) ss i (length ss))
      (count : k ≡ prefix_len (is_here a name) ms) where
    split_up : world.AreAscending (places_in a (m ∷ rest))
    split_up = subst (λ l. world.AreAscending (places_in a l)) split marks_up

    low : AllWithin (Below (name_of a m.name)) ss 0 i
    low = subst (λ n. AllWithin (Below n) ss 0 i) named before

    high : AllWithin (NotBelow (name_of a m.name)) ss i (length ss)
    high = subst (λ n. AllWithin (NotBelow n) ss i (length ss)) named after

    dropped : drop k ms ≡ later (name_of a m.name) (m ∷ rest)
    dropped =
        ap (λ n. drop n ms) count
        ∙ (λ j. drop (prefix_len (is_here a (named j)) (split j)) (split j))

    pub found_is : (s : Shown) (more here : List Shown) (left : List FileLine)
        → here ≡ drop i ss → left ≡ drop k ms → IsFirst a name s more here
        → filter (has_mark a ms) ss ≡ s ∷ filter (has_mark a left) more
    found_is s more here left here_is left_is is =
        ap (λ l. filter (has_mark a l) ss) split
        ∙ first_found m rest split_up ss up i low s more
        (subst (λ n. IsFirst a n s more (drop i ss)) named
        (subst (IsFirst a name s more) here_is is))
        ∙ ap (λ l. s ∷ filter (has_mark a l) more) (sym (left_is ∙ dropped))

    pub passed_is : (here : List Shown) (left : List FileLine) → here ≡ drop i ss
        → left ≡ drop k ms → IsNotFirst a name here
        → filter (has_mark a ms) ss ≡ filter (has_mark a left) here
    passed_is here left here_is left_is other =
        ap (λ l. filter (has_mark a l) ss) split
        ∙ first_passed m rest split_up ss up i low high
        (subst (λ n. IsNotFirst a n (drop i ss)) named (subst (IsNotFirst a name) here_is other))
        ∙ (λ j. filter (has_mark a (sym (left_is ∙ dropped) j)) (sym here_is j))

  no_files : (ss : List Shown) → filter (has_mark a []) ss ≡ []
  no_files [] = refl
  no_files (s ∷ ss) = no_files ss

  -- without marks no file has one
  pub none_left : (ms : List FileLine) (ss : List Shown) → length ms ≡ 0
      → filter (has_mark a ms) ss ≡ []
  none_left [] ss none = no_files ss
  none_left (m ∷ ms) ss none = absurd (omega (arith, none))
