-- A version is let go, and the last one gets its number.
use Rattle.std.proofs.Common.{◌≡◌, ◌∙◌, ◌≤◌, ◌<◌, ◌+◌, ◌-◌, ℕ, zero, suc, Bool, true, false, List, []}
use Rattle.std.proofs.Common.{◌∷◌, Option, None, Some, refl, sym, ap, subst, length, map, take, set}
use Rattle.std.proofs.Common.{◌++◌, MatchOption, is_none, filter, get_or, arith, ⊎_elim, inl, inr, cond, nat_eq}
use Rattle.std.proofs.Common.{length-take-le, swap_remove}
use Rattle.std.proofs.Math.Bool.{or-true}
use Rattle.std.proofs.lemmas.Bool.{cases_lt, true≢false}
use Rattle.std.proofs.lemmas.Bool.Decides.{Decides-eqb}
use Rattle.std.proofs.lemmas.Cmp.{nat_list_cmp_total}
use Rattle.std.proofs.lemmas.List.{get_or-map, length-map, length-set, map-set, take-map}
use Rattle.std.proofs.lemmas.Option.{slice_get-get_or}
use Rattle.std.proofs.lemmas.Slice.Eq.{bytes_eq-Decides}
use Rattle.std.specs.Prelude.{not, slice_get, slice_index_or, ◌||◌}
use Rattle.std.specs.Cmp.Lexicographic.{slice_cmp}
use Rattle.std.specs.List.{AllByRecursion, list_any}
use Rattle.std.specs.Option.{option_map}
use Rattle.std.specs.Ordering.{is_gt, nat_cmp, ordering_reverse}
use Rattle.std.specs.Str.{bytes_eq}
use Rattle.std.specs.declared.cmp.Ordering.TheVariants.{Less, Greater}
use Rattle.cb_scan.specs.Order.{AreOrdered, goes_first, put}
use Rattle.cb_index.specs.Archived.{Archived, name_of, text_at}
use Rattle.cb_index.specs.Files.{AreAscending, IsThere, call_count, def_count, file_of, files_of}
use Rattle.cb_index.specs.Blocks.{joined}
use Rattle.cb_index.specs.Compact.{ShowsSame, shows_version}
use Rattle.cb_index.specs.Files.{shown_name, total, use_count}
use Rattle.cb_index.specs.Names.{names_of}
use Rattle.cb_index.specs.Scanned.{Scanned}
use Rattle.cb_index.specs.Shelved.{CanShow, KeepsRoom, Shelved}
use Rattle.cb_index.specs.steps.Compact.{IsAmong, renumbered}
use Rattle.cb_index.specs.declared.entry.Shown.{Shown}
use Rattle.cb_index.proofs.AscendLemmas.{ascending_sorted}
use Rattle.cb_index.proofs.FrontLemmas.{slice_get_front}
use Rattle.cb_index.proofs.InOrderLemmas.{all_filter, length_put, map_put}
use Rattle.cb_index.proofs.IndexLemmas.{IsSame, later_stay}
use Rattle.cb_index.proofs.ListedLemmas.{ascending_apart, bytes_other, other_turned}
use Rattle.cb_index.proofs.TotalLemmas.{total_put}

-- ---- tests
split_none : (p q : Bool) → (p || q) ≡ false → (p ≡ false) × (q ≡ false)
split_none true q is = absurd (true≢false is)
split_none false q is = (refl, is)

same_number : (m n : ℕ) → nat_eq m n ≡ true → m ≡ n
same_number m n is = (Decides-eqb m n).0 is

equal_number : (m n : ℕ) → m ≡ n → nat_eq m n ≡ true
equal_number m n is = (Decides-eqb m n).1 is

other_number : (m n : ℕ) → nat_eq m n ≡ false → m ≡ n → ⊥
other_number m n isnt is = true≢false (sym (equal_number m n is) ∙ isnt)

unequal_number : (m n : ℕ) → (m ≡ n → ⊥) → nat_eq m n ≡ false
unequal_number m n other = by_test (nat_eq m n) refl
  where
    by_test : (b : Bool) → nat_eq m n ≡ b → nat_eq m n ≡ false
    by_test true is = absurd (other (same_number m n is))
    by_test false isnt = isnt

-- a number below a count, which is not the last one
below_last : (n count : ℕ) → n < count → (n ≡ count - 1 → ⊥) → n < count - 1
below_last n count below other =
    ⊎_elim (λ is. is) (λ above. absurd (other (omega (arith, above, below)))) (cases_lt n (count - 1))

-- ---- elements of a list
pub all_first : {X : Type 0} (P : X → Type 0) (n : ℕ) (xs : List X) → AllByRecursion P xs
    → AllByRecursion P (take n xs)
all_first P zero xs all = tt
all_first P (suc n) [] all = tt
all_first P (suc n) (x ∷ xs) all = (all.0, all_first P n xs all.1)

pub all_at : {X : Type 0} (P : X → Type 0) (xs : List X) (i : ℕ) (d : X) → i < length xs
    → AllByRecursion P xs → P (get_or xs i d)
all_at P [] i d below all = absurd (omega (arith, below))
all_at P (x ∷ xs) zero d below all = all.0
all_at P (x ∷ xs) (suc i) d below all = all_at P xs i d (omega (arith, below)) all.1

-- ---- a list whose last element takes the place of another one
set_other : (xs : List (List ℕ)) (v i : ℕ) (x : List ℕ) → (i ≡ v → ⊥)
    → slice_get (set xs v x) i ≡ slice_get xs i
set_other [] v i x other = refl
set_other (y ∷ ys) zero zero x other = absurd (other refl)
set_other (y ∷ ys) zero (suc i) x other = refl
set_other (y ∷ ys) (suc v) zero x other = refl
set_other (y ∷ ys) (suc v) (suc i) x other = set_other ys v i x (λ is. other (ap suc is))

set_same : (xs : List (List ℕ)) (v : ℕ) (x : List ℕ) → v < length xs
    → slice_get (set xs v x) v ≡ Some x
set_same [] v x below = absurd (omega (arith, below))
set_same (y ∷ ys) zero x below = refl
set_same (y ∷ ys) (suc v) x below = set_same ys v x (omega (arith, below))

module _ (xs : List (List ℕ)) (v : ℕ) (below : v < length xs) where
  pub left_length : length (swap_remove xs v []) + 1 ≡ length xs
  left_length =
      let all = length-set xs v (get_or xs (length xs - 1) []) in
      let fits : length xs - 1 ≤ length (set xs v (get_or xs (length xs - 1) [])) =
      omega (arith, all) in
      let e = length-take-le (length xs - 1) (set xs v (get_or xs (length xs - 1) [])) fits in
      omega (arith, e, below)

  left_other : (i : ℕ) → i < length xs - 1 → (i ≡ v → ⊥)
      → slice_get (swap_remove xs v []) i ≡ slice_get xs i
  left_other i low other =
      slice_get_front (length xs - 1) (set xs v (get_or xs (length xs - 1) [])) i low
      ∙ set_other xs v i (get_or xs (length xs - 1) []) other

  left_last : v < length xs - 1 → slice_get (swap_remove xs v []) v ≡ slice_get xs (length xs - 1)
  left_last low =
      slice_get_front (length xs - 1) (set xs v (get_or xs (length xs - 1) [])) v low
      ∙ set_same xs v (get_or xs (length xs - 1) []) below
      ∙ sym (slice_get-get_or xs (length xs - 1) [] (omega (arith, below)))

pub map_left : {X : Type 0} (f : X → List ℕ) (xs : List X) (i : ℕ) (d : X) → i < length xs
    → map f (swap_remove xs i d) ≡ swap_remove (map f xs) i []
map_left f xs i d below =
    let x = get_or xs (length xs - 1) d in
    let many = sym (length-map xs f) in
    let at : f x ≡ get_or (map f xs) (length xs - 1) [] =
    sym (get_or-map f xs (length xs - 1) d [] (omega (arith, below))) in
    sym (take-map f (length xs - 1) (set xs i x))
    ∙ ap (take (length xs - 1)) (map-set f xs i x ∙ ap (set (map f xs) i) at)
    ∙ ap (λ n. take (n - 1) (set (map f xs) i (get_or (map f xs) (n - 1) []))) many

-- ---- what is shown, with another number for the last version
module _ (last v : ℕ) where
  abbrev moved : Shown → Shown
  moved = renumbered last v

  moved_name : (s : Shown) → (moved s).name ≡ s.name
  moved_name s =
      elim (nat_eq s.version last) as
      (λ b. (cond b (record s { version = v }) s).name ≡ s.name) [ true ↦ refl | false ↦ refl ]

  pub numbers_moved : (ss : List Shown) → names_of (map moved ss) ≡ names_of ss
  numbers_moved [] = refl
  numbers_moved (s ∷ ss) = λ i. moved_name s i ∷ numbers_moved ss i

  all_named : (a : Archived) (ss : List Shown)
      → AllByRecursion (λ s. shown_name a s ≡ shown_name a (moved s)) ss
  all_named a [] = tt
  all_named a (s ∷ ss) = (ap (name_of a) (sym (moved_name s)), all_named a ss)

  -- where nothing shows the last version all stay as they are
  pub stay_all : (ss : List Shown) → shows_version last ss ≡ false → map moved ss ≡ ss
  stay_all [] none = refl
  stay_all (s ∷ ss) none =
      let parts = split_none (nat_eq s.version last) (shows_version last ss) none in
      λ i. cond (parts.0 i) (record s { version = v }) s ∷ stay_all ss parts.1 i

  -- what shows one version shows another one then
  shows_then : (u w : ℕ)
      → ((s : Shown) → nat_eq s.version u ≡ true → nat_eq (moved s).version w ≡ true)
      → (ss : List Shown) → shows_version u ss ≡ true → shows_version w (map moved ss) ≡ true
  shows_then u w to [] is = is
  shows_then u w to (s ∷ ss) is =
      by_test (nat_eq s.version u) refl (λ rest. shows_then u w to ss rest) is
    where
      by_test : (b : Bool) → nat_eq s.version u ≡ b
          → (shows_version u ss ≡ true → shows_version w (map moved ss) ≡ true)
          → (b || shows_version u ss) ≡ true
          → (nat_eq (moved s).version w || shows_version w (map moved ss)) ≡ true
      by_test true here later is = ap (λ b. b || shows_version w (map moved ss)) (to s here)
      by_test false other later is =
          ap (λ b. nat_eq (moved s).version w || b) (later is) ∙ or-true (nat_eq (moved s).version w)

  others_shown : (u : ℕ) → (u ≡ last → ⊥) → (ss : List Shown) → shows_version u ss ≡ true
      → shows_version u (map moved ss) ≡ true
  others_shown u other = shows_then u u to
    where
      to : (s : Shown) → nat_eq s.version u ≡ true → nat_eq (moved s).version u ≡ true
      to s is =
          ap (λ b. nat_eq (cond b (record s { version = v }) s).version u)
          (unequal_number s.version last (λ e. other (sym (same_number s.version u is) ∙ e))) ∙ is

  last_shown : (ss : List Shown) → shows_version last ss ≡ true
      → shows_version v (map moved ss) ≡ true
  last_shown = shows_then last v to
    where
      to : (s : Shown) → nat_eq s.version last ≡ true → nat_eq (moved s).version v ≡ true
      to s is =
          ap (λ b. nat_eq (cond b (record s { version = v }) s).version v) is
          ∙ equal_number v v refl

-- ---- the texts
abbrev or_nil : Option (List ℕ) → List ℕ
or_nil None = []
or_nil (Some x) = x

got : (xs : List (List ℕ)) (i : ℕ) → slice_index_or xs i [] ≡ or_nil (slice_get xs i)
got [] i = refl
got (x ∷ xs) zero = refl
got (x ∷ xs) (suc i) = got xs i

module _ (a b : Archived) (v : ℕ) (below : v < length a.texts) (profile : b.profile ≡ a.profile)
    (names : b.names ≡ a.names) (texts : b.texts ≡ swap_remove a.texts v []) where
  abbrev last : ℕ
  last = length a.texts - 1

  abbrev with_number : Shown → Shown
  with_number = renumbered last v

  -- a version that is there and stays
  abbrev Stays : Shown → Type 0
  Stays s = (s.version < length a.texts) × (nat_eq s.version v ≡ false)

  pub all_stay : (ss : List Shown) → AllByRecursion (IsThere a) ss → shows_version v ss ≡ false
      → AllByRecursion Stays ss
  all_stay [] there hidden = tt
  all_stay (s ∷ ss) there hidden =
      let parts = split_none (nat_eq s.version v) (shows_version v ss) hidden in
      ((there.0.1, parts.0), all_stay ss there.1 parts.1)

  bytes_there : (s : Shown) → Stays s
      → slice_get b.texts (with_number s).version ≡ slice_get a.texts s.version
  bytes_there s stays = by_test (nat_eq s.version last) refl
    where
      by_test : (t : Bool) → nat_eq s.version last ≡ t
          → slice_get b.texts (cond t (record s { version = v }) s).version
          ≡ slice_get a.texts s.version
      by_test true is =
          let same : s.version ≡ last = same_number s.version last is in
          let low : v < last =
          below_last v (length a.texts) below
          (λ e. other_number s.version v stays.1 (same ∙ sym e)) in
          ap (λ l. slice_get l v) texts ∙ left_last a.texts v below low
          ∙ ap (slice_get a.texts) (sym same)
      by_test false isnt =
          ap (λ l. slice_get l s.version) texts
          ∙ left_other a.texts v below s.version
          (below_last s.version (length a.texts) stays.0 (other_number s.version last isnt))
          (other_number s.version v stays.1)

  pub text_there : (s : Shown) → Stays s
      → text_at b (with_number s).version ≡ text_at a s.version
  text_there s stays =
      λ i. option_map (λ t. record { profile = profile i; bytes = t }) (bytes_there s stays i)

  file_there : (s : Shown) → Stays s → file_of b (with_number s) ≡ file_of a s
  file_there s stays =
      let bytes : slice_index_or b.texts (with_number s).version []
      ≡ slice_index_or a.texts s.version [] =
      got b.texts (with_number s).version ∙ ap or_nil (bytes_there s stays)
      ∙ sym (got a.texts s.version) in
      λ i. record { name = slice_index_or (names i) (moved_name last v s i) []; bytes = bytes i }

  pub files_there : (ss : List Shown) → AllByRecursion Stays ss
      → files_of b (map with_number ss) ≡ files_of a ss
  files_there [] all = refl
  files_there (s ∷ ss) all = λ i. file_there s all.0 i ∷ files_there ss all.1 i

  pub total_there : (count : Option Scanned → ℕ) (ss : List Shown) → AllByRecursion Stays ss
      → total count b (map with_number ss) ≡ total count a ss
  total_there count [] all = refl
  total_there count (s ∷ ss) all =
      λ i. count (text_there s all.0 i) + total_there count ss all.1 i

  -- ---- nothing shows the last version
  module _ (ss : List Shown) (there : AllByRecursion (IsThere a) ss)
      (hidden : shows_version v ss ≡ false) (none : shows_version last ss ≡ false) where
    same_one : (s : Shown) → Stays s → nat_eq s.version last ≡ false → IsSame a b s
    same_one s stays isnt = (
      ap (λ t. text_at b (cond t (record s { version = v }) s).version) (sym isnt)
          ∙ text_there s stays,
      ap (λ l. slice_index_or l s.name []) names,
    )

    all_same : (rs : List Shown) → AllByRecursion Stays rs → shows_version last rs ≡ false
        → AllByRecursion (IsSame a b) rs
    all_same [] all isnt = tt
    all_same (r ∷ rs) all isnt =
        let parts = split_none (nat_eq r.version last) (shows_version last rs) isnt in
        (same_one r all.0 parts.0, all_same rs all.1 parts.1)

    pub same_left : AllByRecursion (IsSame a b) ss
    same_left = all_same ss (all_stay ss there hidden) none

    there_one : (s : Shown) → IsThere a s → nat_eq s.version last ≡ false → IsThere b s
    there_one s is isnt =
        let count = left_length a.texts v below in
        let many = ap length texts in
        let low =
        below_last s.version (length a.texts) is.1 (other_number s.version last isnt) in (
          subst (λ l. s.name < length l) (sym names) is.0,
          omega (arith, low, count, many),
        )

    all_there : (rs : List Shown) → AllByRecursion (IsThere a) rs → shows_version last rs ≡ false
        → AllByRecursion (IsThere b) rs
    all_there [] all isnt = tt
    all_there (r ∷ rs) all isnt =
        let parts = split_none (nat_eq r.version last) (shows_version last rs) isnt in
        (there_one r all.0 parts.0, all_there rs all.1 parts.1)

    pub there_left : AllByRecursion (IsThere b) ss
    there_left = all_there ss there none

-- ---- one that is shown, and the others
pub among_all : (P : Shown → Type 0) (one : Shown) (ss : List Shown) → AllByRecursion P ss
    → IsAmong ss one → P one
among_all P one [] all among = absurd among
among_all P one (s ∷ ss) all (inl is) = subst P is all.0
among_all P one (s ∷ ss) all (inr later) = among_all P one ss all.1 later

module _ (a : Archived) (one : Shown) where
  abbrev Names : List ℕ → List ℕ → Type 0
  Names x y = slice_cmp nat_cmp x y ≡ Less

  abbrev others : List Shown → List Shown
  others ss = filter (λ (s : Shown). not (nat_eq s.name one.name)) ss

  abbrev IsOther : Shown → Type 0
  IsOther t = bytes_eq (name_of a one.name) (name_of a t.name) ≡ false

  first_put : (s : Shown) (ss : List Shown)
      → AllByRecursion (λ t. goes_first (shown_name a) s t ≡ true) ss
      → put (shown_name a) s ss ≡ s ∷ ss
  unfolding put
  first_put s [] all = refl
  first_put s (t ∷ ss) all =
      ap (λ b. cond b (s ∷ t ∷ ss) (t ∷ put (shown_name a) s ss)) all.0

  put_behind : (s : Shown) → Names (name_of a s.name) (name_of a one.name) → (ss : List Shown)
      → put (shown_name a) one (s ∷ ss) ≡ s ∷ put (shown_name a) one ss
  unfolding put
  put_behind s less ss =
      let greater : slice_cmp nat_cmp (name_of a one.name) (name_of a s.name) ≡ Greater =
      nat_list_cmp_total.antisymm (name_of a one.name) (name_of a s.name)
      ∙ ap ordering_reverse less in
      ap (λ o. cond (not (is_gt o)) (one ∷ s ∷ ss) (s ∷ put (shown_name a) one ss)) greater

  -- one with a lower name has another number
  lower_other : (s : Shown) → Names (name_of a s.name) (name_of a one.name)
      → nat_eq s.name one.name ≡ false
  lower_other s less =
      unequal_number s.name one.name
      (λ is.
      true≢false (sym ((bytes_eq-Decides (name_of a s.name) (name_of a one.name)).1
      (ap (name_of a) is)) ∙ bytes_other (name_of a s.name) (name_of a one.name) less))

  without_first : (s : Shown) (ss : List Shown) → s ≡ one → others (s ∷ ss) ≡ others ss
  without_first s ss is =
      ap (λ b. cond (not b) (s ∷ others ss) (others ss))
      (equal_number s.name one.name (ap (λ (t : Shown). t.name) is))

  with_first : (s : Shown) (ss : List Shown) → nat_eq s.name one.name ≡ false
      → others (s ∷ ss) ≡ s ∷ others ss
  with_first s ss isnt = ap (λ b. cond (not b) (s ∷ others ss) (others ss)) isnt

  -- put among the others all are back
  pub put_back : (ss : List Shown) → AreAscending a ss → IsAmong ss one
      → put (shown_name a) one (others ss) ≡ ss
  unfolding AreOrdered
  put_back [] up among = absurd among
  put_back (s ∷ ss) up (inl is) =
      ap (put (shown_name a) one)
      (without_first s ss is
      ∙ later_stay a one.name s (ap (λ (t : Shown). t.name) is) ss (ascending_apart a (s ∷ ss) up).0)
      ∙ ap (λ t. put (shown_name a) t ss) (sym is)
      ∙ first_put s ss (ascending_sorted a (s ∷ ss) up).0
  put_back (s ∷ ss) up (inr later) =
      let less =
      among_all (λ t. Names (name_of a s.name) (name_of a t.name)) one ss up.0 later in
      ap (put (shown_name a) one) (with_first s ss (lower_other s less))
      ∙ put_behind s less (others ss) ∙ ap (λ l. s ∷ l) (put_back ss up.1 later)

  -- no other one has its file name
  pub others_apart : (ss : List Shown) → AreAscending a ss → IsAmong ss one
      → AllByRecursion IsOther (others ss)
  unfolding AreOrdered
  others_apart [] up among = tt
  others_apart (s ∷ ss) up (inl is) =
      subst (AllByRecursion IsOther) (sym (without_first s ss is))
      (all_filter (λ (t : Shown). not (nat_eq t.name one.name)) IsOther ss
      (subst (λ (r : Shown).
      AllByRecursion (λ (t : Shown). bytes_eq (name_of a r.name) (name_of a t.name) ≡ false) ss) is
      (ascending_apart a (s ∷ ss) up).0))
  others_apart (s ∷ ss) up (inr later) =
      let less =
      among_all (λ t. Names (name_of a s.name) (name_of a t.name)) one ss up.0 later in
      subst (AllByRecursion IsOther) (sym (with_first s ss (lower_other s less))) (
        other_turned (name_of a s.name) (name_of a one.name)
            (bytes_other (name_of a s.name) (name_of a one.name) less),
        others_apart ss up.1 later,
      )

  pub count_others : (ss : List Shown) → AreAscending a ss → IsAmong ss one
      → length ss ≡ suc (length (others ss))
  count_others ss up among =
      ap length (sym (put_back ss up among)) ∙ length_put (shown_name a) one (others ss)

  pub total_others : (count : Option Scanned → ℕ) (ss : List Shown) → AreAscending a ss
      → IsAmong ss one
      → total count a ss ≡ count (text_at a one.version) + total count a (others ss)
  total_others count ss up among =
      ap (total count a) (sym (put_back ss up among))
      ∙ total_put count a (shown_name a) one (others ss)

-- what is not shown is not shown among fewer
pub hidden_among : (p : Shown → Bool) (v : ℕ) (ss : List Shown) → shows_version v ss ≡ false
    → shows_version v (filter p ss) ≡ false
hidden_among p v [] none = refl
hidden_among p v (s ∷ ss) none =
    let parts = split_none (nat_eq s.version v) (shows_version v ss) none in
    let later = hidden_among p v ss parts.1 in
    elim (p s) as (λ b. shows_version v (cond b (s ∷ filter p ss) (filter p ss)) ≡ false) [
      | true ↦ ap (λ b. b || shows_version v (filter p ss)) parts.0 ∙ later
      | false ↦ later
    ]

-- ---- the last version is hidden, the archive changes, and it is shown again
module _ (s t : Shelved) (one : Shown) (v : ℕ) (there : AllByRecursion (IsThere s.archive) s.shown)
    (up : AreAscending s.archive s.shown) (among : IsAmong s.shown one)
    (is_last : one.version ≡ length s.archive.texts - 1) (below : v < length s.archive.texts)
    (hidden : shows_version v s.shown ≡ false) (profile : t.archive.profile ≡ s.archive.profile)
    (names : t.archive.names ≡ s.archive.names)
    (texts : t.archive.texts ≡ swap_remove s.archive.texts v [])
    (shown : t.shown ≡ map (renumbered (length s.archive.texts - 1) v)
    (filter (λ (r : Shown). not (nat_eq r.name one.name)) s.shown)) where
  abbrev count_last : ℕ
  count_last = length s.archive.texts - 1

  abbrev renumber : Shown → Shown
  renumber = renumbered count_last v

  abbrev again : Shown
  again = record { name = one.name; version = v }

  abbrev left : List Shown
  left = filter (λ (r : Shown). not (nat_eq r.name one.name)) s.shown

  one_again : renumber one ≡ again
  one_again =
      ap (λ b. cond b (record one { version = v }) one)
      (equal_number one.version count_last is_last)

  pub shown_again : put (shown_name t.archive) again t.shown ≡ map renumber s.shown
  shown_again =
      (λ i. put (λ (r : Shown). slice_index_or (names i) r.name []) (sym one_again i) (shown i))
      ∙ sym (map_put (shown_name s.archive) (shown_name s.archive) renumber one
      (ap (name_of s.archive) (sym (moved_name count_last v one))) left
      (all_named count_last v s.archive left))
      ∙ ap (map renumber) (put_back s.archive one s.shown up among)

  stays : Stays s.archive t.archive v below profile names texts one
  stays =
      among_all (Stays s.archive t.archive v below profile names texts) one s.shown
      (all_stay s.archive t.archive v below profile names texts s.shown there hidden) among

  none_named : (rs : List Shown) → AllByRecursion (IsOther s.archive one) rs
      → list_any (λ (r : Shown).
      bytes_eq (name_of s.archive one.name) (name_of s.archive r.name)) (map renumber rs) ≡ false
  none_named [] all = refl
  none_named (r ∷ rs) all =
      (λ i. bytes_eq (name_of s.archive one.name)
      (name_of s.archive (moved_name count_last v r i))
      || list_any (λ (q : Shown).
      bytes_eq (name_of s.archive one.name) (name_of s.archive q.name)) (map renumber rs))
      ∙ ap (λ b. b || list_any (λ (q : Shown).
      bytes_eq (name_of s.archive one.name) (name_of s.archive q.name)) (map renumber rs)) all.0
      ∙ none_named rs all.1

  all_fits : (count : Option Scanned → ℕ)
      → total count t.archive t.shown + total count t.archive (again ∷ [])
      ≡ total count s.archive s.shown
  all_fits count =
      let those : total count t.archive t.shown ≡ total count s.archive left =
      ap (total count t.archive) shown
      ∙ total_there s.archive t.archive v below profile names texts count left
      (all_filter (λ (r : Shown). not (nat_eq r.name one.name))
      (Stays s.archive t.archive v below profile names texts) s.shown
      (all_stay s.archive t.archive v below profile names texts s.shown there hidden)) in
      let this : count (text_at t.archive v) ≡ count (text_at s.archive one.version) =
      ap (λ (r : Shown). count (text_at t.archive r.version)) (sym one_again)
      ∙ ap count (text_there s.archive t.archive v below profile names texts one stays) in
      let all = total_others s.archive one count s.shown up among in
      omega (arith, those, this, all)

  pub can_again : length s.shown ≤ s.entry_room → total def_count s.archive s.shown ≤ s.def_room
      → total use_count s.archive s.shown ≤ s.use_room
      → total call_count s.archive s.shown ≤ s.call_room
      → KeepsRoom s t → CanShow t (again ∷ [])
  unfolding AreOrdered
  can_again entries defs uses calls keeps = record {
    there =
        let is = among_all (IsThere s.archive) one s.shown there among in
        let count = left_length s.archive.texts v below in
        let many = ap length texts in
        let low =
        below_last v (length s.archive.texts) below
        (λ e. other_number one.version v stays.1 (is_last ∙ sym e)) in (
          (
            subst (λ l. one.name < length l) (sym names) is.0,
            omega (arith, low, count, many),
          ),
          tt,
        );
    apart = (tt, tt);
    other =
        (λ i. list_any (λ (r : Shown). bytes_eq (slice_index_or (names i) one.name [])
        (slice_index_or (names i) r.name [])) (shown i) || false)
        ∙ ap (λ b. b || false) (none_named left (others_apart s.archive one s.shown up among));
    entries =
        let size = ap length shown ∙ length-map left renumber in
        let all = count_others s.archive one s.shown up among in
        let room = keeps.entries in
        omega (arith, size, all, entries, room);
    defs =
        let e = all_fits def_count in let room = keeps.defs in omega (arith, e, defs, room);
    uses =
        let e = all_fits use_count in let room = keeps.uses in omega (arith, e, uses, room);
    calls =
        let e = all_fits call_count in let room = keeps.calls in omega (arith, e, calls, room);
  }

-- ---- the same is shown

pub shows_through : (r s t : Shelved) → ShowsSame r s → ShowsSame s t → ShowsSame r t
shows_through r s t first later = record {
  profile = later.profile ∙ first.profile;
  names = later.names ∙ first.names;
  numbers = later.numbers ∙ first.numbers;
  files = later.files ∙ first.files;
  defs = later.defs ∙ first.defs;
  uses = later.uses ∙ first.uses;
  calls = later.calls ∙ first.calls;
}

module _ (s t : Shelved) (v : ℕ) (there : AllByRecursion (IsThere s.archive) s.shown)
    (below : v < length s.archive.texts)
    (hidden : shows_version v s.shown ≡ false) (profile : t.archive.profile ≡ s.archive.profile)
    (names : t.archive.names ≡ s.archive.names)
    (texts : t.archive.texts ≡ swap_remove s.archive.texts v [])
    (shown : t.shown ≡ map (renumbered (length s.archive.texts - 1) v) s.shown) where
  abbrev all_of : AllByRecursion (Stays s.archive t.archive v below profile names texts) s.shown
  all_of = all_stay s.archive t.archive v below profile names texts s.shown there hidden

  same_total : (count : Option Scanned → ℕ)
      → total count t.archive t.shown ≡ total count s.archive s.shown
  same_total count =
      ap (total count t.archive) shown
      ∙ total_there s.archive t.archive v below profile names texts count s.shown all_of

  pub shows_left : ShowsSame s t
  shows_left = record {
    profile = profile;
    names = names;
    numbers = ap names_of shown ∙ numbers_moved (length s.archive.texts - 1) v s.shown;
    files =
        ap (files_of t.archive) shown
        ∙ files_there s.archive t.archive v below profile names texts s.shown all_of;
    defs = same_total def_count;
    uses = same_total use_count;
    calls = same_total call_count;
  }

  -- what showed another version still does, and the free number is that of the last one
  pub others_left : (u : ℕ) → (u ≡ length s.archive.texts - 1 → ⊥) → shows_version u s.shown ≡ true
      → shows_version u t.shown ≡ true
  others_left u other is =
      ap (shows_version u) shown ∙ others_shown (length s.archive.texts - 1) v u other s.shown is

  pub last_left : shows_version (length s.archive.texts - 1) s.shown ≡ true
      → shows_version v t.shown ≡ true
  last_left is =
      ap (shows_version v) shown ∙ last_shown (length s.archive.texts - 1) v s.shown is

-- ---- what is found
pub among_shown : (v : ℕ) (s : Shown) (ss : List Shown) → s.version ≡ v → IsAmong ss s
    → shows_version v ss ≡ true
among_shown v s [] is among = absurd among
among_shown v s (t ∷ ss) is (inl e) =
    ap (λ b. b || shows_version v ss)
    (equal_number t.version v (ap (λ (r : Shown). r.version) e ∙ is))
among_shown v s (t ∷ ss) is (inr later) =
    ap (λ b. nat_eq t.version v || b) (among_shown v s ss is later) ∙ or-true (nat_eq t.version v)

pub found_shown : (v : ℕ) (ss : List Shown) (r : Option Shown)
    → MatchOption r (shows_version v ss ≡ false) (λ s. (s.version ≡ v) × IsAmong ss s)
    → is_none r ≡ false → shows_version v ss ≡ true
found_shown v ss None found some = absurd (true≢false some)
found_shown v ss (Some s) found some = among_shown v s ss found.0 found.1

among_left : (xs ys : List Shown) (s : Shown) → IsAmong xs s → IsAmong (xs ++ ys) s
among_left [] ys s among = absurd among
among_left (x ∷ xs) ys s (inl is) = inl is
among_left (x ∷ xs) ys s (inr later) = inr (among_left xs ys s later)

among_right : (xs ys : List Shown) (s : Shown) → IsAmong ys s → IsAmong (xs ++ ys) s
among_right [] ys s among = among
among_right (x ∷ xs) ys s among = inr (among_right xs ys s among)

among_at : (xs : List Shown) (i : ℕ) (d : Shown) → i < length xs → IsAmong xs (get_or xs i d)
among_at [] i d below = absurd (omega (arith, below))
among_at (x ∷ xs) zero d below = inl refl
among_at (x ∷ xs) (suc i) d below = inr (among_at xs i d (omega (arith, below)))

pub among_joined : (bs : List (List Shown)) (k i : ℕ) (b : List Shown) (d : Shown) → k < length bs
    → b ≡ get_or bs k [] → i < length b → IsAmong (joined bs) (get_or b i d)
among_joined [] k i b d low is below = absurd (omega (arith, low))
among_joined (c ∷ bs) zero i b d low is below =
    among_left c (joined bs) (get_or b i d)
    (subst (λ l. IsAmong l (get_or b i d)) is (among_at b i d below))
among_joined (c ∷ bs) (suc k) i b d low is below =
    among_right c (joined bs) (get_or b i d)
    (among_joined bs k i b d (omega (arith, low)) is below)

-- what is shown is within the room
pub record FitsRoom (s : Shelved) : Type 0 where
  pub entries : length s.shown ≤ s.entry_room
  pub defs : total def_count s.archive s.shown ≤ s.def_room
  pub uses : total use_count s.archive s.shown ≤ s.use_room
  pub calls : total call_count s.archive s.shown ≤ s.call_room
