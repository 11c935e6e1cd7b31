-- How many files a turn hides and shows.
use Rattle.std.proofs.Common.{◌≡◌, ◌∙◌, ◌≤◌, ◌+◌, ◌-◌, ◌*◌, ◌^◌, ℕ, Bool, true, false, List, []}
use Rattle.std.proofs.Common.{◌∷◌, ◌++◌, refl, sym, ap, subst, length, map, filter, not, ◌||◌, cond}
use Rattle.std.proofs.Common.{arith, length-append}
use Rattle.std.proofs.Math.Nat.{le-min, min-le_left, min-le_right}
use Rattle.std.proofs.lemmas.Bool.{true≢false}
use Rattle.std.proofs.lemmas.Slice.Eq.{bytes_eq-Decides}
use Rattle.std.specs.Prelude.{min, ◌&&◌, Result, Ok, Err, IsErr, OnOk, is_err}
use Rattle.std.specs.List.{AllByRecursion, list_any}
use Rattle.cb_scan.proofs.FunctionsRise.{all_implied}
use Rattle.cb_index.specs.Archived.{Archived}
use Rattle.cb_index.specs.Files.{file_of, files_of, shown_name}
use Rattle.cb_index.specs.Names.{is_among, names_of}
use Rattle.cb_index.specs.declared.entry.Shown.{Shown}
use Rattle.cb_index.proofs.InOrderLemmas.{length_in_order}
use Rattle.cb_desk.specs.Desk.{counted, is_marked}
use Rattle.cb_desk.specs.Places.{is_in}
use Rattle.cb_desk.specs.Step.{Step, load, reload, unload, rename, want, mark, mark_all}
use Rattle.cb_desk.specs.Step.{replace, tag, pop}
use Rattle.cb_desk.specs.Turns.{AreTurnsOf, LoadTurns, Turns, differing, is_touched, is_unchanged}
use Rattle.cb_desk.specs.Turns.{only_in_second, same_file, touched}
use Rattle.cb_desk.specs.World.{File, Place, World, has_file, is_named}
use Rattle.cb_desk.specs.steps.Plans.{MovesOne}
use Rattle.cb_desk.specs.steps.Records.{IsFew, IsTurn, Kept, Numbered, Turn, moves, other, place_in}
use Rattle.cb_desk.specs.steps.Records.{without, world_in}
use Rattle.cb_desk.specs.steps.Walks.{next_moves}

-- more is counted of more, up to the limit
capped_more : (limit m a b : ℕ) → a ≤ b → min (m + a) limit ≤ min (m + b) limit
capped_more limit m a b more =
    le-min (let x = min-le_left (m + a) limit in omega (arith, x, more))
    (min-le_right (m + a) limit)

pub counted_more : (m a b : ℕ) → a ≤ b → counted m a ≤ counted m b
counted_more m a b more = capped_more (2 ^ 64 - 1) m a b more

-- ---- tests
either : (b c : Bool) → c ≡ true → (b || c) ≡ true
either true c is = refl
either false c is = is

either_way : (b c d : Bool) → (b || c) ≡ true → (c ≡ true → d ≡ true) → (b || d) ≡ true
either_way true c d is then = refl
either_way false c d is then = then is

itself_same : (f : File) → same_file f f ≡ true
itself_same f =
    (λ i. (bytes_eq-Decides f.name f.name).1 refl i && (bytes_eq-Decides f.bytes f.bytes).1 refl i)

itself_named : (f : File) → is_named f.name f ≡ true
itself_named f = (bytes_eq-Decides f.name f.name).1 refl

-- ---- what stays is found again
module _ (a : Archived) where
  any_left : (test : File → Bool) (q : Shown → Bool) (ss : List Shown)
      → list_any test (files_of a (filter q ss)) ≡ true
      → list_any test (files_of a ss) ≡ true
  any_left test q [] is = is
  any_left test q (s ∷ ss) is =
      elim (q s) as (λ b. list_any test (files_of a (cond b (s ∷ filter q ss) (filter q ss))) ≡ true
      → (test (file_of a s) || list_any test (files_of a ss)) ≡ true) [
        | true ↦ λ found. either_way (test (file_of a s)) _ _ found (any_left test q ss)
        | false ↦ λ found. either (test (file_of a s)) _ (any_left test q ss found)
      ] is

  module _ (test : File → File → Bool) (itself : (f : File) → test f f ≡ true)
      (hides : List Shown) where
    abbrev Found : List Shown → Shown → Type 0
    Found left s =
        is_among (names_of hides) s.name ≡ false
        → list_any (test (file_of a s)) (files_of a left) ≡ true

    all_found : (ss : List Shown) → AllByRecursion (Found (without hides ss)) ss
    all_found [] = tt
    all_found (s ∷ ss) = step (is_among (names_of hides) s.name) refl (all_found ss)
      where
        step : (b : Bool) → is_among (names_of hides) s.name ≡ b
            → AllByRecursion (Found (without hides ss)) ss
            → AllByRecursion (Found (cond (not b) (s ∷ without hides ss) (without hides ss)))
            (s ∷ ss)
        step true is later = (λ isnt. absurd (true≢false (sym is ∙ isnt)), later)
        step false isnt later = (
          λ e. ap (λ b. b || list_any (test (file_of a s)) (files_of a (without hides ss)))
              (itself (file_of a s)),
          all_implied (Found (without hides ss)) (Found (s ∷ without hides ss))
              (λ t found e. either (test (file_of a t) (file_of a s))
              (list_any (test (file_of a t)) (files_of a (without hides ss))) (found e)) ss later,
        )

  -- what a test picks of files is no more than what is hidden, if it picks none that stays
  module _ (q : File → Bool) (hides : List Shown) where
    abbrev Passed : Shown → Type 0
    Passed s = is_among (names_of hides) s.name ≡ false → q (file_of a s) ≡ false

    picked : (ss : List Shown) → AllByRecursion Passed ss
        → length (filter q (files_of a ss)) + length (without hides ss) ≤ length ss
    picked [] all = omega arith
    picked (s ∷ ss) all =
        step (is_among (names_of hides) s.name) (q (file_of a s)) all.0 (picked ss all.1)
      where
        step : (b c : Bool) → (b ≡ false → c ≡ false)
            → length (filter q (files_of a ss)) + length (without hides ss) ≤ length ss
            → length (cond c (file_of a s ∷ filter q (files_of a ss)) (filter q (files_of a ss)))
            + length (cond (not b) (s ∷ without hides ss) (without hides ss)) ≤ length (s ∷ ss)
        step true true none later = omega (arith, later)
        step true false none later = omega (arith, later)
        step false true none later = absurd (true≢false (none refl))
        step false false none later = omega (arith, later)

-- ---- a turn hides or shows each file in which its worlds differ
module _ (a : Archived) (t : Turn) (w : Numbered) (is : IsTurn a t w) where
  abbrev then : Numbered
  then = other a t w

  abbrev left : List Shown
  left = without t.hides w.shown

  all_hidden : length left + length t.hides ≡ length w.shown
  all_hidden =
      sym (length-append left t.hides) ∙ sym (length_in_order (shown_name a) (left ++ t.hides))
      ∙ ap length is.shown

  all_shown : length (without t.shows then.shown) + length t.shows ≡ length then.shown
  all_shown =
      ap (λ ss. length ss + length t.shows) is.others
      ∙ sym (length-append left t.shows) ∙ sym (length_in_order (shown_name a) (left ++ t.shows))

  changed_hidden : length
      (filter (λ f. not (is_unchanged (world_in a then) f)) (files_of a w.shown)) ≤ length t.hides
  changed_hidden =
      let test : File → Bool = λ f. not (is_unchanged (world_in a then) f) in
      let stay = all_implied (Found a same_file itself_same t.hides left) (Passed a test t.hides)
      (λ s found e. ap not (any_left a (same_file (file_of a s))
      (λ (r : Shown). not (is_among (names_of t.shows) r.name)) then.shown
      (subst (λ ss. list_any (same_file (file_of a s)) (files_of a ss) ≡ true)
      (sym is.others) (found e))))
      w.shown (all_found a same_file itself_same t.hides w.shown) in
      let few = picked a test t.hides w.shown stay in
      omega (arith, few, all_hidden)

  added_shown : length (only_in_second (world_in a w) (world_in a then)) ≤ length t.shows
  added_shown =
      let test : File → Bool = λ f. not (has_file (files_of a w.shown) f.name) in
      let same : File → File → Bool = λ f g. is_named f.name g in
      let stay =
      all_implied (Found a same itself_named t.shows (without t.shows then.shown))
      (Passed a test t.shows)
      (λ s found e. ap not (any_left a (same (file_of a s))
      (λ (r : Shown). not (is_among (names_of t.hides) r.name)) w.shown
      (subst (λ ss. list_any (same (file_of a s)) (files_of a ss) ≡ true) is.others (found e))))
      then.shown (all_found a same itself_named t.shows then.shown) in
      let few = picked a test t.shows then.shown stay in
      omega (arith, few, all_shown)

  pub differ_turned : length (differing (world_in a w) (world_in a then))
      ≤ length t.hides + length t.shows
  differ_turned =
      let both =
      length-append (filter (λ f. not (is_unchanged (world_in a then) f)) (files_of a w.shown))
      (only_in_second (world_in a w) (world_in a then)) in
      omega (arith, both, changed_hidden, added_shown)

-- ---- where no more files are hidden and shown than have a mark
filter_wider : (p q : File → Bool) → ((f : File) → p f ≡ true → q f ≡ true) → (fs : List File)
    → length (filter p fs) ≤ length (filter q fs)
filter_wider p q wider [] = omega arith
filter_wider p q wider (f ∷ fs) = step (p f) (q f) (wider f) (filter_wider p q wider fs)
  where
    step : (b c : Bool) → (b ≡ true → c ≡ true) → length (filter p fs) ≤ length (filter q fs)
        → length (cond b (f ∷ filter p fs) (filter p fs))
        ≤ length (cond c (f ∷ filter q fs) (filter q fs))
    step true true along later = omega (arith, later)
    step true false along later = absurd (true≢false (sym (along refl)))
    step false true along later = omega (arith, later)
    step false false along later = later

by_name : (test : List ℕ → Bool) (fs : List File)
    → length (filter (λ f. test f.name) fs) ≡ length (filter test (map (λ (f : File). f.name) fs))
by_name test [] = refl
by_name test (f ∷ fs) =
    let later = by_name test fs in
    elim (test f.name)
    as (λ b. length (cond b (f ∷ filter (λ g. test g.name) fs) (filter (λ g. test g.name) fs))
    ≡ length (cond b (f.name ∷ filter test (map (λ (g : File). g.name) fs))
    (filter test (map (λ (g : File). g.name) fs))))
    [ true ↦ omega (arith, later) | false ↦ later ]

-- the worlds before and after have files of the same names
module _ (a : Archived) (t : Turn) (w : Numbered) (names : map (λ (f : File). f.name)
    (world_in a (other a t w)).files ≡ map (λ (f : File). f.name) (world_in a w).files) where
  abbrev here : World
  here = world_in a w

  abbrev there : World
  there = world_in a (other a t w)

  abbrev marked : List File → ℕ
  marked fs = length (filter (is_marked here.marks) fs)

  same_marked : marked there.files ≡ marked here.files
  same_marked =
      by_name (λ n. list_any (is_in n) here.marks) there.files
      ∙ ap (λ ns. length (filter (λ n. list_any (is_in n) here.marks) ns)) names
      ∙ sym (by_name (λ n. list_any (is_in n) here.marks) here.files)

  pub few_marked : length t.hides ≤ marked here.files → length t.shows ≤ marked here.files
      → IsFew a t w
  few_marked hides shows = record {
    on =
        let wider = filter_wider (is_marked here.marks) (is_touched here there)
        (λ f is. either (not (is_unchanged there f)) _ (first (is_marked here.marks f) _ is))
        here.files in
        let all =
        length-append (filter (is_touched here there) here.files) (only_in_second here there) in
        omega (arith, wider, all, hides, shows);
    back =
        let wider = filter_wider (is_marked here.marks) (is_touched there here)
        (λ f is. either (not (is_unchanged here f)) _ (either (is_marked there.marks f) _ is))
        there.files in
        let all =
        length-append (filter (is_touched there here) there.files) (only_in_second there here) in
        omega (arith, wider, all, same_marked, hides, shows);
  }
    where
      first : (b c : Bool) → b ≡ true → (b || c) ≡ true
      first true c is = refl
      first false c is = absurd (true≢false (sym is))

-- the same where marks are counted in another archive, in which the world is the same
module _ (b : Archived) where
  marked_shown : (marks : List Place) (ss : List Shown)
      → length (filter (is_marked marks) (files_of b ss))
      ≡ length (filter (λ s. is_marked marks (file_of b s)) ss)
  marked_shown marks [] = refl
  marked_shown marks (s ∷ ss) =
      let later = marked_shown marks ss in
      elim (is_marked marks (file_of b s))
      as (λ x. length (cond x (file_of b s ∷ filter (is_marked marks) (files_of b ss))
      (filter (is_marked marks) (files_of b ss)))
      ≡ length (cond x (s ∷ filter (λ r. is_marked marks (file_of b r)) ss)
      (filter (λ r. is_marked marks (file_of b r)) ss)))
      [ true ↦ omega (arith, later) | false ↦ later ]

  abbrev marked_in : Numbered → ℕ
  marked_in w = length (filter (λ s. is_marked (map (place_in b) w.marks) (file_of b s)) w.shown)

  pub few_renewed : (a : Archived) (t : Turn) (w : Numbered) → world_in a w ≡ world_in b w
      → length t.hides ≡ marked_in w → length t.shows ≡ marked_in w
      → map (λ (f : File). f.name) (files_of a (other a t w).shown)
      ≡ map (λ (f : File). f.name) (files_of b w.shown) → IsFew a t w
  few_renewed a t w world hides shows names =
      let all : length (filter (is_marked (world_in a w).marks) (world_in a w).files)
      ≡ marked_in w =
      ap (λ v. length (filter (is_marked v.marks) v.files)) world
      ∙ marked_shown (map (place_in b) w.marks) w.shown in
      few_marked a t w (names ∙ sym (ap (λ v. map (λ (f : File). f.name) v.files) world))
      (omega (arith, hides, all)) (omega (arith, shows, all))

-- ---- the count of turns
module _ (k l : Kept) (t : Turn) (is : IsTurn k.archive t k.now) (archive : l.archive ≡ k.archive)
    (now : l.now ≡ other k.archive t k.now)
    (turns : l.turns ≡ counted k.turns (length t.hides + length t.shows))
    (rise : k.turns ≤ l.turns) where
  pub turn_counted : AreTurnsOf (world_in k.archive k.now)
      (world_in l.archive l.now) k.turns l.turns
  turn_counted =
      let v = world_in k.archive k.now in
      let w = world_in k.archive (other k.archive t k.now) in
      let n = length t.hides + length t.shows in
      let same : world_in l.archive l.now ≡ w = (λ i. world_in (archive i) (now i)) in
      subst (λ x. AreTurnsOf v x k.turns l.turns) (sym same) (record {
        rise = rise;
        some = subst (λ x. counted k.turns (length (differing v w)) ≤ x) (sym turns)
            (counted_more k.turns (length (differing v w)) n (differ_turned k.archive t k.now is));
        few = subst (λ x. x ≤ counted k.turns (2 + 2 * length (touched v w))) (sym turns)
            (counted_more k.turns n (2 + 2 * length (touched v w)) is.few.on);
      })

-- a refused call, and a call that goes on from where another one left the world
pub turns_refused : {E : Type 0} → (v w : World) (m n : ℕ) (r : Result (Unit {0}) E) → IsErr r
    → n ≡ m → Turns v w m n r
turns_refused v w m n (Ok x) is same = absurd (true≢false (sym is))
turns_refused v w m n (Err e) is same = same

pub turns_next : {E : Type 0} → (u v w : World) (m k n : ℕ) (r : Result (Unit {0}) E) → v ≡ u
    → k ≡ m → is_err r ≡ false
    → Turns v w k n r → AreTurnsOf u w m n
turns_next u v w m k n (Ok x) world count fine turns =
    subst (λ i. AreTurnsOf u w i n) count (subst (λ x. AreTurnsOf x w k n) world turns)
turns_next u v w m k n (Err e) world count fine turns = absurd (true≢false fine)

-- a call that makes the only turn to come
pub moved_next : {E : Type 0} → (m k n : ℕ) (ts : List Turn) (t : Turn) (r : Result (Unit {0}) E)
    → k ≡ m → ts ≡ t ∷ [] → is_err r ≡ false → OnOk r (n ≡ counted k (next_moves ts))
    → n ≡ counted m (moves t)
moved_next m k n ts t (Ok x) count next fine is =
    is ∙ (λ i. counted (count i) (next_moves (next i)))
moved_next m k n ts t (Err e) count next fine is = absurd (true≢false fine)

-- what the turn of a change counts is what a load counts
pub load_turns : (s : Step) (t : Turn) (m k n : ℕ) → k ≡ m → n ≡ counted k (moves t)
    → MovesOne s t → LoadTurns s m n
load_turns (load name bytes) t m k n count is one = is ∙ (λ i. counted (count i) (one i))
load_turns (reload name bytes) t m k n count is one = tt
load_turns (unload name) t m k n count is one = tt
load_turns (rename old new) t m k n count is one = tt
load_turns (want text) t m k n count is one = tt
load_turns (mark i) t m k n count is one = tt
load_turns mark_all t m k n count is one = tt
load_turns (replace text) t m k n count is one = tt
load_turns (tag name i) t m k n count is one = tt
load_turns pop t m k n count is one = tt
