-- A file is hidden, or another one is shown.
use Rattle.std.proofs.Common.{◌≡◌, ◌∙◌, ◌<◌, ℕ, zero, suc, Bool, true, false, List, [], ◌∷◌, ◌++◌}
use Rattle.std.proofs.Common.{refl, sym, ap, subst, filter, not, ◌||◌, cond, arith, append-nil}
use Rattle.std.proofs.Common.{Some, ⊎_elim}
use Rattle.std.proofs.lemmas.Bool.{cases_Bool, true≢false}
use Rattle.std.proofs.lemmas.Bool.Decides.{nat_tests}
use Rattle.std.proofs.lemmas.Cmp.{nat_list_cmp_total}
use Rattle.std.proofs.lemmas.List.Sums.{sum_by-append, sum_by-cons}
use Rattle.std.proofs.lemmas.Slice.Eq.{bytes_eq-Decides}
use Rattle.std.specs.Prelude.{nat_eq, slice_get, slice_index_or, sum_by}
use Rattle.std.specs.Cmp.Lexicographic.{slice_cmp}
use Rattle.std.specs.List.{AllByRecursion}
use Rattle.std.specs.List.Sorted.{IsStrictlyIncreasing}
use Rattle.std.specs.Ordering.{is_gt, is_lt, nat_cmp, ordering_reverse}
use Rattle.std.specs.Str.{bytes_eq}
use Rattle.std.specs.declared.cmp.Ordering.{Ordering}
use Rattle.std.specs.declared.cmp.Ordering.TheVariants.{Less, Equal, Greater}
use Rattle.cb_scan.specs.Order.{AreOrdered, goes_first, in_order, put}
use Rattle.cb_scan.proofs.OrderLemmas.{not_less}
use Rattle.cb_index.specs.Archived.{Archived, name_of}
use Rattle.cb_index.specs.Files.{AreApart, AreAscending, file_of, files_of, is_shown, shown_key}
use Rattle.cb_index.specs.Files.{shown_name}
use Rattle.cb_index.specs.Names.{is_among, names_of}
use Rattle.cb_index.specs.declared.entry.Shown.{Shown}
use Rattle.cb_index.proofs.InOrderLemmas.{same_order}
use Rattle.cb_index.proofs.AscendLemmas.{ascending_filter, ascending_sorted}
use Rattle.cb_index.proofs.ListedLemmas.{apart_both, ascending_apart, bytes_other, order_by_name}
use Rattle.cb_index.proofs.ListedLemmas.{other_turned, shown_exact}
use Rattle.cb_desk.specs.Files.{is_before, with_file, without_file}
use Rattle.cb_desk.specs.World.{File, text_of_file}
use Rattle.cb_desk.specs.steps.Records.{without}
use Rattle.cb_desk.proofs.Placed.{all_after, none_before}
use Rattle.cb_desk.proofs.PlacePlans.{put_first, settled, without_none}

-- what holds of all holds of one of them
pub all_among : (P : Shown → Type 0) (ss : List Shown) (h : Shown) (i : ℕ) → slice_get ss i ≡ Some h
    → AllByRecursion P ss → P h
all_among P [] h i is all = cc
all_among P (s ∷ ss) h zero is all = let same : s ≡ h = cc in subst P same all.0
all_among P (s ∷ ss) h (suc i) is all = all_among P ss h i is all.1

number_same : (m n : ℕ) → nat_eq m n ≡ true → m ≡ n
number_same m n is = grind (arith, nat_tests, is)

pub number_itself : (n : ℕ) → nat_eq n n ≡ true
number_itself n = grind (arith, nat_tests)

pub number_below : (m n : ℕ) → m < n → nat_eq m n ≡ false
number_below m n below = grind (arith, nat_tests, below)

or_false : (b : Bool) → (b || false) ≡ b
or_false true = refl
or_false false = refl

-- files with one more, by whether it stands behind the first
abbrev placed_as : File → File → List File → Bool → List File
placed_as f g fs b = cond b (g ∷ filter (is_before f) fs) (filter (is_before f) fs)
    ++ f ∷ cond (not b) (g ∷ filter (λ h. not (is_before f h)) fs)
    (filter (λ h. not (is_before f h)) fs)

module _ (a : Archived) where
  abbrev pub IsOther : Shown → Shown → Type 0
  IsOther s t = bytes_eq (name_of a s.name) (name_of a t.name) ≡ false

  abbrev pub After : Shown → Shown → Type 0
  After s t = slice_cmp nat_cmp (name_of a s.name) (name_of a t.name) ≡ Less

  -- names of other bytes have other numbers
  pub number_other : (s t : Shown) → IsOther s t → nat_eq t.name s.name ≡ false
  number_other s t other =
      ⊎_elim
      (λ is. absurd (true≢false (sym ((bytes_eq-Decides (name_of a s.name) (name_of a t.name)).1
      (ap (name_of a) (sym (number_same t.name s.name is)))) ∙ other)))
      (λ isnt. isnt) (cases_Bool (nat_eq t.name s.name))

  -- what has another name stays
  stays : (h t : Shown) → IsOther h t → not (is_among (names_of (h ∷ [])) t.name) ≡ true
  stays h t other = ap not (or_false (nat_eq t.name h.name) ∙ number_other h t other)

  goes : (h : Shown) → not (is_among (names_of (h ∷ [])) h.name) ≡ false
  goes h = ap not (or_false (nat_eq h.name h.name) ∙ number_itself h.name)

  untouched : (h : Shown) (ss : List Shown) → AllByRecursion (IsOther h) ss
      → without (h ∷ []) ss ≡ ss
  untouched h [] all = refl
  untouched h (t ∷ ss) all =
      ap (λ b. cond b (t ∷ without (h ∷ []) ss) (without (h ∷ []) ss)) (stays h t all.0)
      ∙ ap (λ l. t ∷ l) (untouched h ss all.1)

  pub all_other : (s : Shown) (ss : List Shown) → AllByRecursion (After s) ss
      → AllByRecursion (IsOther s) ss
  all_other s [] all = tt
  all_other s (t ∷ ss) all =
      (bytes_other (name_of a s.name) (name_of a t.name) all.0, all_other s ss all.1)

  all_first : (s : Shown) (ss : List Shown) → AllByRecursion (After s) ss
      → AllByRecursion (λ t. goes_first (shown_name a) s t ≡ true) ss
  all_first s [] all = tt
  all_first s (t ∷ ss) all = (ap (λ o. not (is_gt o)) all.0, all_first s ss all.1)

  goes_later : (s t : Shown) → After t s → goes_first (shown_name a) s t ≡ false
  goes_later s t less =
      ap (λ o. not (is_gt o))
      (nat_list_cmp_total.antisymm (name_of a s.name) (name_of a t.name) ∙ ap ordering_reverse less)

  not_shown : (s : Shown) (ss : List Shown) → AllByRecursion (IsOther s) ss
      → is_shown a ss s ≡ false
  not_shown s [] all = refl
  not_shown s (t ∷ ss) all = ap (λ b. b || is_shown a ss s) all.0 ∙ not_shown s ss all.1

  -- ---- one is hidden
  pub others : (ss : List Shown) (h : Shown) (i : ℕ) → slice_get ss i ≡ Some h → AreAscending a ss
      → AllByRecursion (IsOther h) (without (h ∷ []) ss)
  unfolding AreOrdered
  others [] h i is up = cc
  others (t ∷ ss) h zero is up =
      let same : t ≡ h = cc in
      let later : AllByRecursion (IsOther h) ss =
      subst (λ s. AllByRecursion (IsOther s) ss) same (all_other t ss up.0) in
      subst (λ s. AllByRecursion (IsOther h) (without (h ∷ []) (s ∷ ss))) (sym same)
      (subst (λ b. AllByRecursion (IsOther h)
      (cond b (h ∷ without (h ∷ []) ss) (without (h ∷ []) ss))) (sym (goes h))
      (subst (AllByRecursion (IsOther h)) (sym (untouched h ss later)) later))
  others (t ∷ ss) h (suc i) is up =
      let other : IsOther h t =
      other_turned (name_of a t.name) (name_of a h.name)
      (all_among (IsOther t) ss h i is (all_other t ss up.0)) in
      subst (λ b. AllByRecursion (IsOther h)
      (cond b (t ∷ without (h ∷ []) ss) (without (h ∷ []) ss))) (sym (stays h t other))
      (other, others ss h i is up.1)

  put_back : (ss : List Shown) (h : Shown) (i : ℕ) → slice_get ss i ≡ Some h → AreAscending a ss
      → put (shown_name a) h (without (h ∷ []) ss) ≡ ss
  unfolding put AreOrdered
  put_back [] h i is up = cc
  put_back (t ∷ ss) h zero is up =
      let same : t ≡ h = cc in
      let later : AllByRecursion (After h) ss =
      subst (λ s. AllByRecursion (After s) ss) same up.0 in
      subst (λ s. put (shown_name a) h (without (h ∷ []) (s ∷ ss)) ≡ s ∷ ss) (sym same)
      (ap (λ b. put (shown_name a) h (cond b (h ∷ without (h ∷ []) ss) (without (h ∷ []) ss)))
      (goes h)
      ∙ ap (put (shown_name a) h) (untouched h ss (all_other h ss later))
      ∙ put_first (shown_name a) h ss (all_first h ss later))
  put_back (t ∷ ss) h (suc i) is up =
      let less : After t h = all_among (After t) ss h i is up.0 in
      let other : IsOther h t =
      other_turned (name_of a t.name) (name_of a h.name)
      (bytes_other (name_of a t.name) (name_of a h.name) less) in
      ap (λ b. put (shown_name a) h (cond b (t ∷ without (h ∷ []) ss) (without (h ∷ []) ss)))
      (stays h t other)
      ∙ ap (λ b. cond b (h ∷ t ∷ without (h ∷ []) ss)
      (t ∷ put (shown_name a) h (without (h ∷ []) ss))) (goes_later h t less)
      ∙ ap (λ l. t ∷ l) (put_back ss h i is up.1)

  -- ---- one is shown
  module _ (rest : List Shown) (s : Shown) (up : AreAscending a rest)
      (other : AllByRecursion (IsOther s) rest) where
    pub apart_more : AreApart a (rest ++ s ∷ [])
    unfolding AreOrdered
    apart_more =
        apart_both a rest (s ∷ []) up (tt, tt)
        (or_false (is_shown a rest s) ∙ not_shown s rest other)

    apart_first : AreApart a (s ∷ rest)
    unfolding AreOrdered
    apart_first = (other, ascending_apart a rest up)

    same_members : (f : Shown → ℕ) → sum_by f (rest ++ s ∷ []) ≡ sum_by f (s ∷ rest)
    same_members f =
        let both = sum_by-append f rest (s ∷ []) in
        let one = sum_by-cons f s [] in
        let first = sum_by-cons f s rest in
        omega (arith, both, one, first)

    pub order_more : in_order (shown_name a) (rest ++ s ∷ []) ≡ put (shown_name a) s rest
    unfolding in_order
    order_more =
        sym (order_by_name a (rest ++ s ∷ []) apart_more)
        ∙ same_order (shown_key a) (shown_exact a) (rest ++ s ∷ []) (s ∷ rest) same_members
        ∙ order_by_name a (s ∷ rest) apart_first
        ∙ ap (put (shown_name a) s) (settled (shown_name a) rest (ascending_sorted a rest up))

  -- hidden again it leaves the others
  taken_again : (rest : List Shown) (s : Shown) → AllByRecursion (IsOther s) rest
      → without (s ∷ []) (put (shown_name a) s rest) ≡ rest
  unfolding put
  taken_again [] s other = ap (λ b. cond b (s ∷ []) []) (goes s)
  taken_again (t ∷ rest) s other =
      elim (goes_first (shown_name a) s t) as
      (λ b. without (s ∷ []) (cond b (s ∷ t ∷ rest) (t ∷ put (shown_name a) s rest)) ≡ t ∷ rest) [
        | true ↦ ap (λ b. cond b (s ∷ without (s ∷ []) (t ∷ rest)) (without (s ∷ []) (t ∷ rest)))
            (goes s) ∙ untouched s (t ∷ rest) other
        | false ↦ ap (λ b. cond b (t ∷ without (s ∷ []) (put (shown_name a) s rest))
            (without (s ∷ []) (put (shown_name a) s rest))) (stays s t other.0)
            ∙ ap (λ l. t ∷ l) (taken_again rest s other.1)
      ]

  -- ---- their files
  all_above : (s : Shown) (ss : List Shown) → AllByRecursion (After s) ss → AllByRecursion
      (λ (g : File). slice_cmp nat_cmp (name_of a s.name) g.name ≡ Less) (files_of a ss)
  all_above s [] all = tt
  all_above s (t ∷ ss) all = (all.0, all_above s ss all.1)

  -- the file stands at its place
  pub file_put : (rest : List Shown) (s : Shown) → AreAscending a rest
      → files_of a (put (shown_name a) s rest) ≡ with_file (file_of a s) (files_of a rest)
  unfolding put AreOrdered
  file_put [] s up = refl
  file_put (t ∷ rest) s up =
      by_test (is_before (file_of a s) (file_of a t)) refl (file_put rest s up.1)
    where
      is_less : (o : Ordering) → is_lt o ≡ true → o ≡ Less
      is_less Less e = refl
      is_less Equal e = cc
      is_less Greater e = cc

      by_test : (b : Bool) → is_before (file_of a s) (file_of a t) ≡ b
          → files_of a (put (shown_name a) s rest) ≡ with_file (file_of a s) (files_of a rest)
          → files_of a (put (shown_name a) s (t ∷ rest))
          ≡ with_file (file_of a s) (files_of a (t ∷ rest))
      by_test true before later =
          ap (λ b. files_of a (cond b (s ∷ t ∷ rest) (t ∷ put (shown_name a) s rest)))
          (goes_later s t (is_less _ before))
          ∙ ap (λ l. file_of a t ∷ l) later
          ∙ sym (ap (placed_as (file_of a s) (file_of a t) (files_of a rest)) before)
      by_test false isnt later =
          let above = all_above t rest up.0 in
          ap (λ b. files_of a (cond b (s ∷ t ∷ rest) (t ∷ put (shown_name a) s rest)))
          (not_less (name_of a s.name) (name_of a t.name) [] isnt)
          ∙ sym (ap (placed_as (file_of a s) (file_of a t) (files_of a rest)) isnt
          ∙ (λ i. none_before (file_of a s) (file_of a t) (files_of a rest) isnt above i
          ++ file_of a s ∷ file_of a t
          ∷ all_after (file_of a s) (file_of a t) (files_of a rest) isnt above i))

  -- the files without that of the name
  all_named_other : (h : Shown) (ss : List Shown) → AllByRecursion (IsOther h) ss
      → without_file (name_of a h.name) (files_of a ss) ≡ files_of a ss
  all_named_other h [] all = refl
  all_named_other h (t ∷ ss) all =
      ap (λ b. cond (not b) (file_of a t ∷ without_file (name_of a h.name) (files_of a ss))
      (without_file (name_of a h.name) (files_of a ss)))
      (other_turned (name_of a h.name) (name_of a t.name) all.0)
      ∙ ap (λ l. file_of a t ∷ l) (all_named_other h ss all.1)

  pub files_without : (ss : List Shown) (h : Shown) (i : ℕ) → slice_get ss i ≡ Some h
      → AreAscending a ss
      → files_of a (without (h ∷ []) ss) ≡ without_file (name_of a h.name) (files_of a ss)
  unfolding AreOrdered
  files_without [] h i is up = cc
  files_without (t ∷ ss) h zero is up =
      let same : t ≡ h = cc in
      let later : AllByRecursion (IsOther h) ss =
      subst (λ s. AllByRecursion (IsOther s) ss) same (all_other t ss up.0) in
      subst (λ s. files_of a (without (h ∷ []) (s ∷ ss))
      ≡ without_file (name_of a h.name) (files_of a (s ∷ ss))) (sym same)
      (ap (λ b. files_of a (cond b (h ∷ without (h ∷ []) ss) (without (h ∷ []) ss))) (goes h)
      ∙ ap (files_of a) (untouched h ss later) ∙ sym (all_named_other h ss later)
      ∙ sym (ap (λ b. cond (not b) (file_of a h ∷ without_file (name_of a h.name) (files_of a ss))
      (without_file (name_of a h.name) (files_of a ss)))
      ((bytes_eq-Decides (name_of a h.name) (name_of a h.name)).1 refl)))
  files_without (t ∷ ss) h (suc i) is up =
      let after : IsOther t h = all_among (IsOther t) ss h i is (all_other t ss up.0) in
      ap (λ b. files_of a (cond b (t ∷ without (h ∷ []) ss) (without (h ∷ []) ss)))
      (stays h t (other_turned (name_of a t.name) (name_of a h.name) after))
      ∙ ap (λ l. file_of a t ∷ l) (files_without ss h i is up.1)
      ∙ sym (ap (λ b. cond (not b) (file_of a t ∷ without_file (name_of a h.name) (files_of a ss))
      (without_file (name_of a h.name) (files_of a ss))) after)

  -- the text of the file of the name
  pub text_shown : (ss : List Shown) (h : Shown) (i : ℕ) → slice_get ss i ≡ Some h
      → AreAscending a ss
      → text_of_file (files_of a ss) (name_of a h.name) ≡ slice_index_or a.texts h.version []
  unfolding AreOrdered text_of_file
  text_shown [] h i is up = cc
  text_shown (t ∷ ss) h zero is up =
      let same : t ≡ h = cc in
      subst (λ s. text_of_file (files_of a (s ∷ ss)) (name_of a h.name)
      ≡ slice_index_or a.texts h.version []) (sym same)
      (ap (λ b. cond b (slice_index_or a.texts h.version [])
      (text_of_file (files_of a ss) (name_of a h.name)))
      ((bytes_eq-Decides (name_of a h.name) (name_of a h.name)).1 refl))
  text_shown (t ∷ ss) h (suc i) is up =
      ap (λ b. cond b (slice_index_or a.texts t.version [])
      (text_of_file (files_of a ss) (name_of a h.name)))
      (all_among (IsOther t) ss h i is (all_other t ss up.0))
      ∙ text_shown ss h i is up.1

-- ---- what is hidden, and what is shown
pub record Hides (a : Archived) (shown hides : List Shown) : Type 0 where
  pub rise : IsStrictlyIncreasing (names_of hides)
  pub left : AreAscending a (without hides shown)
  pub apart : AreApart a (without hides shown ++ hides)
  pub back : in_order (shown_name a) (without hides shown ++ hides) ≡ shown

pub record Shows (a : Archived) (rest shows : List Shown) : Type 0 where
  pub rise : IsStrictlyIncreasing (names_of shows)
  pub apart : AreApart a (rest ++ shows)
  pub taken : without shows (in_order (shown_name a) (rest ++ shows)) ≡ rest

module _ (a : Archived) where
  pub hides_none : (shown : List Shown) → AreAscending a shown → Hides a shown []
  hides_none shown up =
      let same : without [] shown ++ [] ≡ shown =
      append-nil (without [] shown) ∙ without_none shown in
      record {
        rise = λ i below. absurd (omega (arith, below));
        left = subst (AreAscending a) (sym (without_none shown)) up;
        apart = subst (AreApart a) (sym same) (ascending_apart a shown up);
        back =
            ap (in_order (shown_name a)) same
            ∙ settled (shown_name a) shown (ascending_sorted a shown up);
      }

  pub hides_one : (shown : List Shown) (h : Shown) (i : ℕ) → slice_get shown i ≡ Some h
      → AreAscending a shown → Hides a shown (h ∷ [])
  hides_one shown h i is up =
      let left =
      ascending_filter a (λ (s : Shown). not (is_among (names_of (h ∷ [])) s.name)) shown up in
      let other = others a shown h i is up in
      record {
        rise = λ i below. absurd (omega (arith, below));
        left = left;
        apart = apart_more a (without (h ∷ []) shown) h left other;
        back = order_more a (without (h ∷ []) shown) h left other ∙ put_back a shown h i is up;
      }

  pub shows_none : (rest : List Shown) → AreAscending a rest → Shows a rest []
  shows_none rest up =
      let same : rest ++ [] ≡ rest = append-nil rest in
      record {
        rise = λ i below. absurd (omega (arith, below));
        apart = subst (AreApart a) (sym same) (ascending_apart a rest up);
        taken =
            ap (λ l. without [] (in_order (shown_name a) l)) same
            ∙ ap (without []) (settled (shown_name a) rest (ascending_sorted a rest up))
            ∙ without_none rest;
      }

  pub shows_one : (rest : List Shown) (s : Shown) → AreAscending a rest
      → AllByRecursion (IsOther a s) rest → Shows a rest (s ∷ [])
  shows_one rest s up other = record {
    rise = λ i below. absurd (omega (arith, below));
    apart = apart_more a rest s up other;
    taken = ap (without (s ∷ [])) (order_more a rest s up other) ∙ taken_again a rest s other;
  }
