-- The plan of a replacement.
use Rattle.std.proofs.Common.{◌≡◌, ◌∙◌, ◌≤◌, ◌<◌, ◌+◌, ℕ, Bool, true, false, List, [], ◌∷◌, ◌++◌}
use Rattle.std.proofs.Common.{refl, sym, ap, subst, length, map, take, filter, cond, arith}
use Rattle.std.proofs.Common.{append_assoc, length-append, length-take-le, Some, None, ⊎_elim}
use Rattle.std.proofs.Math.Bool.{or-true}
use Rattle.std.proofs.lemmas.Bool.{cases_lt}
use Rattle.std.proofs.lemmas.Bool.Decides.{nat_tests}
use Rattle.std.proofs.Math.Seq.{get_or-append_seam}
use Rattle.std.proofs.lemmas.List.{length-map}
use Rattle.std.proofs.lemmas.List.Elements.{All-from_recursion, recursion_from_All}
use Rattle.std.proofs.lemmas.List.Sorted.{All-permutation, length_permutation}
use Rattle.std.proofs.lemmas.List.Sorted.{list_any-IsPermutation}
use Rattle.std.specs.List.{AllByRecursion, list_any}
use Rattle.std.specs.List.Sorted.{IsNonDecreasingBy, IsPermutation}
use Rattle.std.specs.Prelude.{nat_eq, slice_index_or, ◌||◌}
use Rattle.cb_scan.specs.Order.{in_order}
use Rattle.cb_index.specs.Archived.{Archived, name_of}
use Rattle.cb_index.specs.Compact.{shows_version}
use Rattle.cb_index.specs.Files.{AreAscending, file_of, files_of, shown_name}
use Rattle.cb_index.specs.declared.entry.Shown.{Shown}
use Rattle.cb_desk.specs.declared.present.replace.Renewal.{Renewal}
use Rattle.cb_desk.specs.declared.places.FileLine.{FileLine}
use Rattle.cb_desk.specs.Marks.{replaced_files, with_files}
use Rattle.cb_desk.specs.Places.{is_place_of}
use Rattle.cb_desk.specs.World.{File}
use Rattle.cb_desk.specs.steps.Edits.{Edits, IsDifference}
use Rattle.cb_desk.specs.steps.Plans.{IsPlan, Keeps, LeadsTo, Planned}
use Rattle.cb_desk.specs.steps.Records.{IsFew, Kept, place_in, without, world_in}
use Rattle.cb_desk.specs.steps.Replaced.{file_then, files_changed, files_then, has_mark, new_of}
use Rattle.cb_desk.specs.steps.Replaced.{old_of, remaining, renewals, texts_of}
use Rattle.cb_desk.specs.steps.Walks.{IsKept, shows_name}
use Rattle.cb_desk.proofs.AllUsed.{none_new}
use Rattle.cb_desk.proofs.ArchiveMoves.{Agree, Below, world_same}
use Rattle.cb_desk.proofs.FilePlans.{agree, all_below, file_leads, same_places, up}
use Rattle.cb_desk.proofs.FilesReplaced.{unmarked_then, world_replaced}
use Rattle.cb_desk.proofs.Placed.{list_any-map, map-filter}
use Rattle.cb_desk.proofs.ShownRenewed.{hides_renewed, renewed, shown_then, shows_renewed}
use Rattle.cb_desk.proofs.TurnsCounted.{few_renewed}
use Rattle.cb_desk.proofs.Valid.{all-filter}

-- texts stand in an archive under the numbers from one on
abbrev AreHeld : Archived → ℕ → List (List ℕ) → Type 0
AreHeld a n [] = Unit {0}
AreHeld a n (t ∷ ts) = (slice_index_or a.texts n [] ≡ t) × AreHeld a (n + 1) ts

all_held : (a : Archived) (front ts : List (List ℕ)) (n : ℕ) → n ≡ length front
    → a.texts ≡ front ++ ts → AreHeld a n ts
all_held a front [] n long is = tt
all_held a front (t ∷ ts) n long is = (
  ap (λ xs. slice_index_or xs n []) is ∙ ap (λ m. slice_index_or (front ++ t ∷ ts) m []) long
      ∙ get_or-append_seam front t ts [],
  all_held a (front ++ t ∷ []) ts (n + 1) (let e = length-append front (t ∷ []) in
      omega (arith, e, long)) (is ∙ sym (append_assoc front (t ∷ []) ts)),
)

-- new versions have numbers below those that are used then
renewals_below : (names first versions : ℕ) (ss : List Shown) → first + length ss ≤ versions
    → AllByRecursion (λ (s : Shown). s.name < names) ss
    → AllByRecursion (λ (r : Renewal). (r.name < names) × (r.new < versions)) (renewals first ss)
renewals_below names first versions [] within all = tt
renewals_below names first versions (s ∷ ss) within all = (
  (all.0, omega (arith, within)),
  renewals_below names (first + 1) versions ss (omega (arith, within)) all.1,
)

shows_below : (names versions : ℕ) (rs : List Renewal)
    → AllByRecursion (λ (r : Renewal). (r.name < names) × (r.new < versions)) rs
    → AllByRecursion (λ (s : Shown). (s.name < names) × (s.version < versions)) (map new_of rs)
shows_below names versions [] all = tt
shows_below names versions (r ∷ rs) all = (all.0, shows_below names versions rs all.1)

names_below : (names versions : ℕ) (ss : List Shown)
    → AllByRecursion (λ (s : Shown). (s.name < names) × (s.version < versions)) ss
    → AllByRecursion (λ (s : Shown). s.name < names) ss
names_below names versions [] all = tt
names_below names versions (s ∷ ss) all = (all.0.0, names_below names versions ss all.1)

-- each new number is that of a renewal
new_numbers : (m first : ℕ) (ss : List Shown) → first ≤ m → m < first + length ss
    → list_any (λ (r : Renewal). nat_eq r.new m) (renewals first ss) ≡ true
new_numbers m first [] above below = absurd (omega (arith, above, below))
new_numbers m first (s ∷ ss) above below =
    ⊎_elim (λ here. ap (λ b.
    b || list_any (λ (r : Renewal). nat_eq r.new m) (renewals (first + 1) ss)) (is_first here))
    (λ later. ap (λ b. nat_eq first m || b)
    (new_numbers m (first + 1) ss later (omega (arith, below))) ∙ or-true (nat_eq first m))
    (cases_lt m (first + 1))
  where
    is_first : m < first + 1 → nat_eq first m ≡ true
    is_first here =
        let same : first ≡ m = omega (arith, above, here) in grind (arith, nat_tests, same)

count_renewals : (n : ℕ) (ss : List Shown) → length (renewals n ss) ≡ length ss
count_renewals n [] = refl
count_renewals n (s ∷ ss) = omega (arith, count_renewals (n + 1) ss)

-- files keep their names
names_kept : (a : Archived) (marks : List FileLine) (old new : List ℕ) (ss : List Shown)
    → map (λ (f : File). f.name) (files_then a marks old new ss)
    ≡ map (λ (f : File). f.name) (files_of a ss)
names_kept a marks old new [] = refl
names_kept a marks old new (s ∷ ss) =
    ap (λ ns. name_of a s.name ∷ ns) (names_kept a marks old new ss)

module _ (b a : Archived) (n v : ℕ) (same : Agree b a n v) (marks : List FileLine)
    (old new : List ℕ) where
  -- the files of what is shown then are those with the replacement made
  renewed_files : (first : ℕ) (ss : List Shown) → AllByRecursion (Below b a n v same) ss
      → AreHeld a first (texts_of (files_changed b marks old new ss))
      → files_of a (renewed (has_mark b marks) first ss) ≡ files_then b marks old new ss
  renewed_files first [] all held = refl
  renewed_files first (s ∷ ss) all held =
      by_test (has_mark b marks s) refl (λ m. renewed_files m ss all.1) held
    where
      by_test : (has : Bool) → has_mark b marks s ≡ has
          → ((m : ℕ) → AreHeld a m (texts_of (files_changed b marks old new ss))
          → files_of a (renewed (has_mark b marks) m ss) ≡ files_then b marks old new ss)
          → AreHeld a first (texts_of (map (file_then b marks old new)
          (cond has (s ∷ filter (has_mark b marks) ss) (filter (has_mark b marks) ss))))
          → files_of a (cond has (record { name = s.name; version = first }
          ∷ renewed (has_mark b marks) (first + 1) ss) (s ∷ renewed (has_mark b marks) first ss))
          ≡ file_then b marks old new s ∷ files_then b marks old new ss
      by_test true is later at =
          λ i.
          record { name = same.names s.name all.0.0 i; bytes = at.0 i } ∷ later (first + 1) at.1 i
      by_test false is later at =
          let still : file_of a s ≡ file_of b s = λ i.
          record { name = same.names s.name all.0.0 i; bytes = same.bytes s.version all.0.1 i } in
          λ i. (still ∙ sym (unmarked_then b marks old new s is)) i ∷ later first at i

module _ (k : Kept) (p : Planned) (old new : List ℕ) (rs : List Renewal)
    (marks frames : Edits) (versions : ℕ)
    (kept : IsKept k.rooms k.archive k.now) (ascending : AreAscending k.archive k.now.shown)
    (profile : p.profile ≡ k.archive.profile) (names : p.names ≡ [])
    (texts : p.texts ≡ texts_of (files_changed k.archive k.now.marks old new k.now.shown))
    (same : IsPermutation
    (renewals k.now.versions (filter (has_mark k.archive k.now.marks) k.now.shown)) rs)
    (level : IsNonDecreasingBy (λ (r : Renewal). r.name) rs)
    (turn : p.turn ≡ record {
      hides = map old_of rs;
      shows = map new_of rs;
      wanted = Some None;
      marks = marks;
      frames = frames;
      names = k.now.names;
      versions = versions;
    })
    (count : versions ≡ k.now.versions + length p.texts)
    (are_marks : IsDifference marks k.now.marks [])
    (are_frames : IsDifference frames k.now.frames
    (remaining k.archive (files_then k.archive k.now.marks old new k.now.shown) k.now.frames)) where
  abbrev marked : List Shown
  marked = filter (has_mark k.archive k.now.marks) k.now.shown

  abbrev then : List File
  then = files_then k.archive k.now.marks old new k.now.shown

  abbrev news : List (List ℕ)
  news = texts_of (files_changed k.archive k.now.marks old new k.now.shown)

  abbrev planned : Planned
  planned = record {
    profile = k.archive.profile;
    names = [];
    texts = news;
    turn = record {
      hides = map old_of rs;
      shows = map new_of rs;
      wanted = Some None;
      marks = marks;
      frames = frames;
      names = k.now.names;
      versions = versions;
    };
  }

  is_planned : p ≡ planned
  is_planned = λ i.
      record { profile = profile i; names = names i; texts = texts i; turn = turn i }

  news_long : length news ≡ length marked
  news_long =
      length-map (files_changed k.archive k.now.marks old new k.now.shown) (λ (f : File). f.bytes)
      ∙ length-map marked (file_then k.archive k.now.marks old new)

  module _ (a : Archived) (keeps : Keeps k.archive k.now planned a) where
    abbrev below_now : AllByRecursion
        (λ (s : Shown). (s.name < k.now.names) × (s.version < k.now.versions)) k.now.shown
    below_now = all_below k planned kept ascending a keeps

    below_then : AllByRecursion (λ (s : Shown). (s.name < k.now.names) × (s.version < versions))
        (map new_of rs)
    below_then =
        let P = λ (r : Renewal). (r.name < k.now.names) × (r.new < versions) in
        let within : k.now.versions + length marked ≤ versions =
        let e = ap length texts in omega (arith, count, e, news_long) in
        shows_below k.now.names versions rs
        (recursion_from_All P rs (All-permutation P (renewals k.now.versions marked) rs same
        (All-from_recursion P (renewals k.now.versions marked)
        (renewals_below k.now.names k.now.versions versions marked within
        (names_below k.now.names k.now.versions marked
        (all-filter _ (has_mark k.archive k.now.marks) k.now.shown below_now))))))

    held : AreHeld a k.now.versions news
    held =
        all_held a (take k.now.versions k.archive.texts) news k.now.versions
        (sym (length-take-le k.now.versions k.archive.texts kept.there.versions)) keeps.texts

    frames_same : map (place_in a) (remaining k.archive then k.now.frames)
        ≡ filter (is_place_of then) (map (place_in k.archive) k.now.frames)
    frames_same =
        same_places k planned kept ascending a keeps (remaining k.archive then k.now.frames)
        (all-filter _ _ k.now.frames kept.there.frames)
        ∙ map-filter (place_in k.archive) (is_place_of then) k.now.frames

    files_are : files_of a
        (in_order (shown_name a) (without (map old_of rs) k.now.shown ++ map new_of rs)) ≡ then
    files_are =
        ap (files_of a) (shown_then a k.now.shown (up k planned kept ascending a keeps)
        (has_mark k.archive k.now.marks) k.now.versions rs same level)
        ∙ renewed_files k.archive a k.now.names k.now.versions
        (agree k planned kept ascending a keeps) k.now.marks old new
        k.now.versions k.now.shown below_now held

    few : IsFew a planned.turn k.now
    few =
        let many : length rs ≡ length marked =
        length_permutation (renewals k.now.versions marked) rs same
        ∙ count_renewals k.now.versions marked in
        few_renewed k.archive a planned.turn k.now
        (world_same k.archive a k.now.names k.now.versions (agree k planned kept ascending a keeps)
        k.now kept.there (omega arith) (omega arith))
        (length-map rs old_of ∙ many) (length-map rs new_of ∙ many)
        (ap (map (λ (f : File). f.name)) files_are
        ∙ names_kept k.archive k.now.marks old new k.now.shown)

    new_shown : (m : ℕ) → k.now.versions ≤ m → m < versions → shows_version m (map new_of rs) ≡ true
    new_shown m above below =
        let few : versions ≡ k.now.versions + length marked =
        let e = ap length texts in omega (arith, count, e, news_long) in
        list_any-map (λ (s : Shown). nat_eq s.version m) new_of rs
        ∙ sym (list_any-IsPermutation (λ (r : Renewal). nat_eq r.new m)
        (renewals k.now.versions marked) rs same)
        ∙ new_numbers m k.now.versions marked above (omega (arith, below, few))

    replace_leads : LeadsTo k planned (with_files (world_in k.archive k.now) then) a
    replace_leads =
        let ups = up k planned kept ascending a keeps in
        let passes = has_mark k.archive k.now.marks in
        file_leads k planned kept ascending a keeps [] (remaining k.archive then k.now.frames)
        then None [] _
        (hides_renewed a k.now.shown ups passes k.now.versions rs same level)
        (shows_renewed a k.now.shown ups passes k.now.versions rs same level)
        few below_then refl (omega arith) (count ∙ ap (λ ts. k.now.versions + length ts) texts)
        are_marks are_frames
        tt (all-filter _ _ k.now.frames kept.there.frames)
        (λ m above below.
        none_new k.now.names k.now.names m (shows_name m (map new_of rs) ≡ true) refl above below)
        new_shown
        files_are refl frames_same

  pub replace_planned : IsPlan k p
      (with_files (world_in k.archive k.now) (replaced_files old new (world_in k.archive k.now)))
  replace_planned =
      subst (λ fs. IsPlan k p (with_files (world_in k.archive k.now) fs))
      (world_replaced k.archive k.now old new)
      (subst (λ q. IsPlan k q (with_files (world_in k.archive k.now) then)) (sym is_planned)
      (refl, λ a keeps. replace_leads a keeps))
