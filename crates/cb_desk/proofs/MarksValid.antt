-- The marks stay valid by every change.
use Rattle.std.proofs.Common.{◌≡◌, ◌≢◌, ◌∙◌, sym, ap, refl, subst, ℕ, zero, suc, ◌+◌, ◌<◌, ◌≤◌}
use Rattle.std.proofs.Common.{true, false, not, ◌||◌, cond, List, [], ◌∷◌, ◌++◌, filter, map}
use Rattle.std.proofs.Common.{length, Option, Some, None, arith, IsTrue, nat_cmp, Less, bytes_eq}
use Rattle.std.specs.List.{AllByRecursion, list_any, range_with_len}
use Rattle.std.specs.List.Sorted.{IsStrictlySortedBy}
use Rattle.std.specs.Cmp.Lexicographic.{slice_cmp}
use Rattle.std.proofs.lemmas.List.{length-map}
use Rattle.std.proofs.lemmas.List.Kept.{IsStrictlySortedBy-filter}
use Rattle.std.proofs.lemmas.Slice.Eq.{bytes_eq-Decides}
use Rattle.cb_scan.specs.Lines.{IsLineOf, lines, line_text}
use Rattle.cb_scan.specs.Order.{put, in_order}
use Rattle.cb_tags.specs.Names.{is_file_name}
use Rattle.cb_desk.specs.Files.{with_file, without_file}
use Rattle.cb_desk.specs.Marks.{toggled, replaced_file, is_too_large}
use Rattle.cb_desk.specs.Places.{is_in, same_place, is_place_of, without_places, renamed_place}
use Rattle.cb_desk.specs.Places.{renamed_places}
use Rattle.cb_desk.specs.Search.{holds, lines_with}
use Rattle.cb_desk.specs.World.{File, Place, has_file, text_of_file, place_key, IsAscending}
use Rattle.cb_desk.specs.World.{AreAscending, IsPlaceOf, IsMarkIn, AreMarksFor, AreValidMarks}
use Rattle.cb_desk.specs.World.{AreValidFiles, WorldBounds}
use Rattle.cb_desk.specs.steps.Held.{held_in, held_places}
use Rattle.cb_desk.proofs.Placed.{by_name}
use Rattle.cb_desk.proofs.PlaceLemmas.{IsAt, place-there, places-with, places-without}
use Rattle.cb_desk.proofs.PlaceLemmas.{places-renamed, moved, same-name, own-texts}
use Rattle.cb_desk.proofs.PlaceOrder.{Apart, all-put, all-in_order, in_order-strict, put-strict}
use Rattle.cb_desk.proofs.PlaceOrder.{apart-from, cmp-places, one-place, nat-less, name-equal}
use Rattle.cb_desk.proofs.Valid.{all-filter, all-join, all-along, all-both, all-passed}

lies : (wanted text : List ℕ) (n : ℕ) → IsMarkIn wanted text n → IsLineOf text n
lies wanted text n is = is.0

-- ---- load and unload
pub marks-with : (files : List File) (f : File) (wanted : Option (List ℕ)) (marks : List Place)
    → has_file files f.name ≡ false → AreValidMarks files wanted marks
    → AreValidMarks (with_file f files) wanted marks
marks-with files f None marks fresh valid = valid
marks-with files f (Some wanted) marks fresh valid = record {
  short = valid.short;
  some = valid.some;
  held = places-with (IsMarkIn wanted) (lies wanted) files f marks fresh valid.held;
  ascending = valid.ascending;
}

pub marks-without : (files : List File) (name : List ℕ) (wanted : Option (List ℕ))
    (marks : List Place) → AreValidMarks files wanted marks
    → AreValidMarks (without_file name files) wanted (without_places name marks)
marks-without files name None marks valid = ap (without_places name) valid
marks-without files name (Some wanted) marks valid = record {
  short = valid.short;
  some = valid.some;
  held = places-without (IsMarkIn wanted) (lies wanted) files name marks valid.held;
  ascending =
      IsStrictlySortedBy-filter (λ (p q : Place). slice_cmp nat_cmp (place_key p) (place_key q))
      (λ p. not (is_in name p)) marks valid.ascending;
}

-- ---- rename
same-key : (p q : Place) → p.file ≡ q.file → p.line ≡ q.line → place_key p ≡ place_key q
same-key p q f l = rw (f, l) refl

-- two places of files that are there stay apart under a name that is not there
still-apart : (files : List File) (old new : List ℕ) (p q : Place) → has_file files new ≡ false
    → has_file files p.file ≡ true → has_file files q.file ≡ true
    → place_key p ≢ place_key q
    → place_key (renamed_place old new p) ≢ place_key (renamed_place old new q)
still-apart files old new p q fresh p_there q_there apart =
    (elim (is_in old p) as (λ b. is_in old p ≡ b
    → place_key (cond b (record p { file = new }) p) ≢ place_key (renamed_place old new q)) [
      | true ↦ λ hp.
          (elim (is_in old q) as (λ b. is_in old q ≡ b
          → place_key (record p { file = new }) ≢ place_key (cond b (record q { file = new }) q)) [
            | true ↦ λ hq e. apart (same-key p q
                (same-name p.file old hp ∙ sym (same-name q.file old hq))
                (one-place (record p { file = new }) (record q { file = new }) e).1)
            | false ↦ λ hq e. let is : new ≡ q.file = (one-place (record p { file = new }) q e).0 in
                let has : has_file files new ≡ true = rw is q_there in cc
          ]) refl
      | false ↦ λ hp.
          (elim (is_in old q) as
          (λ b. is_in old q ≡ b → place_key p ≢ place_key (cond b (record q { file = new }) q)) [
            | true ↦ λ hq e. let is : p.file ≡ new = (one-place p (record q { file = new }) e).0 in
                let has : has_file files new ≡ true = rw (← is) p_there in cc
            | false ↦ λ hq e. apart e
          ]) refl
    ]) refl

module _ (files : List File) (old new : List ℕ) (fresh : has_file files new ≡ false) where
  all-apart : (p : Place) (places : List Place) → has_file files p.file ≡ true
      → AllByRecursion (λ (q : Place). has_file files q.file ≡ true) places
      → AllByRecursion (λ q. place_key p ≢ place_key q) places
      → AllByRecursion (λ q. place_key (renamed_place old new p) ≢ place_key q)
      (renamed_places old new places)
  all-apart p [] there all apart = tt
  all-apart p (q ∷ places) there all apart = (
    still-apart files old new p q fresh there all.0 apart.0,
    all-apart p places there all.1 apart.1,
  )

  apart-renamed : (places : List Place) → AllByRecursion
      (λ (q : Place). has_file files q.file ≡ true) places → Apart place_key places
      → Apart place_key (renamed_places old new places)
  apart-renamed [] all apart = tt
  apart-renamed (p ∷ places) all apart =
      (all-apart p places all.0 all.1 apart.0, apart-renamed places all.1 apart.1)

  pub marks-renamed : (wanted : Option (List ℕ)) (marks : List Place)
      → AreValidMarks files wanted marks
      → AreValidMarks (moved files old new) wanted
      (in_order place_key (renamed_places old new marks))
  unfolding in_order
  marks-renamed None marks valid = ap (λ ms. in_order place_key (renamed_places old new ms)) valid
  marks-renamed (Some wanted) marks valid = record {
    short = valid.short;
    some = valid.some;
    held = all-in_order place_key (IsAt (IsMarkIn wanted) (moved files old new))
        (renamed_places old new marks) (places-renamed (IsMarkIn wanted)
        (lies wanted) files old new fresh marks valid.held);
    ascending = in_order-strict place_key (renamed_places old new marks)
        (apart-renamed marks (all-along (IsAt (IsMarkIn wanted) files)
        (λ (q : Place). has_file files q.file ≡ true) marks
        (λ q is. place-there files q is.0) valid.held)
        (apart-from place_key marks valid.ascending));
  }

-- ---- mark
same-place : (p q : Place) → place_key p ≡ place_key q → same_place p q ≡ true
same-place p q e =
    let one = one-place p q e in
    let files : bytes_eq p.file q.file ≡ true = (bytes_eq-Decides p.file q.file).1 one.0 in
    let l = one.1 in
    rw (files, l) (grind arith)

none-same : (p : Place) (marks : List Place) → list_any (same_place p) marks ≡ false
    → AllByRecursion (λ q. place_key p ≢ place_key q) marks
none-same p [] none = tt
none-same p (q ∷ marks) none =
    (elim (same_place p q) as (λ b. same_place p q ≡ b → b || list_any (same_place p) marks ≡ false
    → AllByRecursion (λ q. place_key p ≢ place_key q) (q ∷ marks)) [
      | true ↦ λ h k. cc
      | false ↦ λ h k. (λ e. let same = same-place p q e in cc, none-same p marks k)
    ]) refl none

pub marks-toggled : (files : List File) (wanted : List ℕ) (marks : List Place) (p : Place)
    → IsAt (IsMarkIn wanted) files p → AreMarksFor files wanted marks
    → AreMarksFor files wanted (toggled p marks)
marks-toggled files wanted marks p is valid = record {
  short = valid.short;
  some = valid.some;
  held =
      elim (list_any (same_place p) marks) as (λ b. AllByRecursion (IsAt (IsMarkIn wanted) files)
      (cond b (filter (λ q. not (same_place p q)) marks) (put place_key p marks))) [
        | true ↦ all-filter (IsAt (IsMarkIn wanted) files)
            (λ q. not (same_place p q)) marks valid.held
        | false ↦ all-put place_key (IsAt (IsMarkIn wanted) files) p marks is valid.held
      ];
  ascending =
      (elim (list_any (same_place p) marks) as (λ b. list_any (same_place p) marks ≡ b
      → AreAscending (cond b (filter (λ q. not (same_place p q)) marks) (put place_key p marks))) [
        | true ↦ λ h. IsStrictlySortedBy-filter
            (λ (p q : Place). slice_cmp nat_cmp (place_key p) (place_key q))
            (λ q. not (same_place p q)) marks valid.ascending
        | false ↦ λ h. put-strict place_key p marks valid.ascending (none-same p marks h)
      ]) refl;
}

-- ---- every line that holds a text
range-within : (start k : ℕ)
    → AllByRecursion (λ n. (start ≤ n) × (n < start + k)) (range_with_len start k)
range-within start zero = tt
range-within start (suc k) = (
  (omega arith, omega arith),
  all-along (λ n. (start + 1 ≤ n) × (n < start + 1 + k))
      (λ n. (start ≤ n) × (n < start + suc k)) (range_with_len (start + 1) k)
      (λ n is. (omega (arith, is.0), omega (arith, is.1))) (range-within (start + 1) k),
)

range-ascends : (start k : ℕ) → IsStrictlySortedBy nat_cmp (range_with_len start k)
unfolding IsStrictlySortedBy
range-ascends start zero = tt
range-ascends start (suc k) = (
  all-along (λ n. (start + 1 ≤ n) × (n < start + 1 + k)) (λ n. nat_cmp start n ≡ Less)
      (range_with_len (start + 1) k) (λ n is. nat-less start n (omega (arith, is.0)))
      (range-within (start + 1) k),
  range-ascends (start + 1) k,
)

-- the lines that hold a text are there, and ascend
lines-marked : (wanted text : List ℕ)
    → AllByRecursion (IsMarkIn wanted text) (lines_with wanted text)
lines-marked wanted text =
    all-both (λ n. holds wanted (line_text text n) ≡ true)
    (λ n. (1 ≤ n) × (n < 1 + length (lines text))) (IsMarkIn wanted text) (lines_with wanted text)
    (λ n held is. ((is.0, omega (arith, is.1)), held))
    (all-passed (λ n. holds wanted (line_text text n)) (range_with_len 1 (length (lines text))))
    (all-filter (λ n. (1 ≤ n) × (n < 1 + length (lines text)))
    (λ n. holds wanted (line_text text n)) (range_with_len 1 (length (lines text)))
    (range-within 1 (length (lines text))))

pub lines-ascend : (wanted text : List ℕ) → IsStrictlySortedBy nat_cmp (lines_with wanted text)
lines-ascend wanted text =
    IsStrictlySortedBy-filter nat_cmp (λ n. holds wanted (line_text text n))
    (range_with_len 1 (length (lines text))) (range-ascends 1 (length (lines text)))

abbrev at : List ℕ → ℕ → Place
at name n = record { file = name; line = n }

all-later : (name : List ℕ) (n : ℕ) (ns : List ℕ) → AllByRecursion (λ m. nat_cmp n m ≡ Less) ns
    → AllByRecursion (λ q. slice_cmp nat_cmp (place_key (at name n)) (place_key q) ≡ Less)
    (map (at name) ns)
all-later name n [] all = tt
all-later name n (m ∷ ns) all =
    (cmp-places name name n m ∙ rw (name-equal name, all.0) refl, all-later name n ns all.1)

places-ascend : (name : List ℕ) (ns : List ℕ) → IsStrictlySortedBy nat_cmp ns
    → AreAscending (map (at name) ns)
unfolding IsStrictlySortedBy
places-ascend name [] up = tt
places-ascend name (n ∷ ns) up = (all-later name n ns up.0, places-ascend name ns up.1)

sorted-after : (xs ys : List Place) → AreAscending xs → AreAscending ys
    → AllByRecursion (λ x. AllByRecursion (λ y. slice_cmp nat_cmp (place_key x) (place_key y)
    ≡ Less) ys) xs → AreAscending (xs ++ ys)
unfolding IsStrictlySortedBy
sorted-after [] ys up more below = more
sorted-after (x ∷ xs) ys up more below = (
  all-join (λ y. slice_cmp nat_cmp (place_key x) (place_key y) ≡ Less) xs ys up.0 below.0,
  sorted-after xs ys up.1 more below.1,
)

all-map : {X Y : Type 0} (h : X → Y) (P : Y → Type 0) (xs : List X)
    → AllByRecursion (λ x. P (h x)) xs → AllByRecursion P (map h xs)
all-map h P [] all = tt
all-map h P (x ∷ xs) all = (all.0, all-map h P xs all.1)

all-here : {X : Type 0} (P : X → Type 0) (xs : List X) → ((x : X) → P x) → AllByRecursion P xs
all-here P [] each = tt
all-here P (x ∷ xs) each = (each x, all-here P xs each)

module _ (text : List ℕ) where
  files-above : (f : File) (files : List File) → AllByRecursion (λ g. by_name f g ≡ Less) files
      → AllByRecursion (λ (q : Place). slice_cmp nat_cmp f.name q.file ≡ Less)
      (held_places text files)
  files-above f [] all = tt
  files-above f (g ∷ files) all =
      all-join (λ (q : Place). slice_cmp nat_cmp f.name q.file ≡ Less) (held_in text g)
      (held_places text files)
      (all-map (at g.name) (λ (q : Place). slice_cmp nat_cmp f.name q.file ≡ Less)
      (lines_with text g.bytes) (all-here (λ _. by_name f g ≡ Less) (lines_with text g.bytes)
      (λ _. all.0)))
      (files-above f files all.1)

  pub held-ascend : (files : List File) → IsAscending files → AreAscending (held_places text files)
  unfolding IsStrictlySortedBy
  held-ascend [] up = tt
  held-ascend (f ∷ files) up =
      sorted-after (held_in text f) (held_places text files)
      (places-ascend f.name (lines_with text f.bytes) (lines-ascend text f.bytes))
      (held-ascend files up.1)
      (all-map (at f.name) (λ x. AllByRecursion
      (λ y. slice_cmp nat_cmp (place_key x) (place_key y) ≡ Less) (held_places text files))
      (lines_with text f.bytes)
      (all-here (λ n. AllByRecursion (λ y. slice_cmp nat_cmp (place_key (at f.name n)) (place_key y)
      ≡ Less) (held_places text files)) (lines_with text f.bytes)
      (λ n. all-along (λ (q : Place). slice_cmp nat_cmp f.name q.file ≡ Less)
      (λ y. slice_cmp nat_cmp (place_key (at f.name n)) (place_key y) ≡ Less)
      (held_places text files)
      (λ q above. cmp-places f.name q.file n q.line ∙ rw above refl) (files-above f files up.0))))

  held-of : (all : List File) (files : List File)
      → AllByRecursion (λ (f : File). text_of_file all f.name ≡ f.bytes) files
      → AllByRecursion (IsAt (IsMarkIn text) all) (held_places text files)
  held-of all [] own = tt
  held-of all (f ∷ files) own =
      all-join (IsAt (IsMarkIn text) all) (held_in text f) (held_places text files)
      (all-map (at f.name) (IsAt (IsMarkIn text) all) (lines_with text f.bytes)
      (subst (λ bytes. AllByRecursion (IsMarkIn text bytes) (lines_with text f.bytes)) (sym own.0)
      (lines-marked text f.bytes)))
      (held-of all files own.1)

  -- every line that holds a text can be marked for it
  pub held-marks : (files : List File) → IsAscending files
      → AllByRecursion (IsAt (IsMarkIn text) files) (held_places text files)
  held-marks files up = held-of files files (own-texts files up)

-- ---- replace
module _ (old new : List ℕ) (marks : List Place) where
  abbrev changed : File → File
  changed = replaced_file old new marks

  names-kept : (files : List File) → AllByRecursion
      (λ (f : File). IsTrue (is_file_name f.name)) files
      → AllByRecursion (λ (f : File). IsTrue (is_file_name f.name)) (map changed files)
  names-kept [] all = tt
  names-kept (f ∷ files) all = (all.0, names-kept files all.1)

  sizes-kept : (b : WorldBounds) (files : List File)
      → list_any (is_too_large b.file_bytes) files ≡ false
      → AllByRecursion (λ (f : File). length f.bytes ≤ b.file_bytes) files
  sizes-kept b [] none = tt
  sizes-kept b (f ∷ files) none =
      (elim (is_too_large b.file_bytes f) as (λ x. is_too_large b.file_bytes f ≡ x
      → x || list_any (is_too_large b.file_bytes) files ≡ false
      → AllByRecursion (λ (f : File). length f.bytes ≤ b.file_bytes) (f ∷ files)) [
        | true ↦ λ h k. cc
        | false ↦ λ h k. (grind (arith, h), sizes-kept b files k)
      ]) refl none

  below-kept : (f : File) (files : List File) → AllByRecursion (λ g. by_name f g ≡ Less) files
      → AllByRecursion (λ g. by_name (changed f) g ≡ Less) (map changed files)
  below-kept f [] all = tt
  below-kept f (g ∷ files) all = (all.0, below-kept f files all.1)

  pub ascending-kept : (files : List File) → IsAscending files → IsAscending (map changed files)
  unfolding IsStrictlySortedBy
  ascending-kept [] up = tt
  ascending-kept (f ∷ files) up = (below-kept f files up.0, ascending-kept files up.1)

  -- files stay valid where none has become too large
  pub replaced-valid : (b : WorldBounds) (files : List File) → AreValidFiles b files
      → list_any (is_too_large b.file_bytes) (map changed files) ≡ false
      → AreValidFiles b (map changed files)
  replaced-valid b files valid small = record {
    names = names-kept files valid.names;
    sizes = sizes-kept b (map changed files) small;
    count =
        let count = valid.count in let same = length-map files changed in
        omega (arith, count, same);
    ascending = ascending-kept files valid.ascending;
  }

place-from : (files : List File) (p : Place) → is_place_of files p ≡ true → IsPlaceOf files p
place-from files p is = grind (arith, is)

-- the frames that are kept are lines that are there
pub frames-kept : (files : List File) (frames : List Place)
    → AllByRecursion (IsPlaceOf files) (filter (is_place_of files) frames)
frames-kept files frames =
    all-along (λ p. is_place_of files p ≡ true) (IsPlaceOf files)
    (filter (is_place_of files) frames) (place-from files) (all-passed (is_place_of files) frames)
