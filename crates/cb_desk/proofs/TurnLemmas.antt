-- Lemmas on what is hidden and shown by a turn.
use Rattle.std.proofs.Common.{◌≡◌, ◌∙◌, ◌≤◌, ◌<◌, ◌+◌, ℕ, true, false, List, [], ◌∷◌, ◌++◌, refl}
use Rattle.std.proofs.Common.{length, arith, length-append}
use Rattle.std.specs.Prelude.{cond}
use Rattle.std.specs.List.{AllByRecursion, list_any}
use Rattle.std.specs.Str.{bytes_eq}
use Rattle.cb_scan.specs.Order.{AreOrdered, goes_first, in_order, put}
use Rattle.cb_scan.proofs.FunctionsRise.{all_implied}
use Rattle.cb_index.specs.Archived.{Archived, name_of}
use Rattle.cb_index.specs.Files.{AreApart, IsThere, call_count, def_count, is_shown, shown_name}
use Rattle.cb_index.specs.Files.{use_count}
use Rattle.cb_index.specs.Shelved.{CanShow, Shelved}
use Rattle.cb_index.specs.declared.entry.Shown.{Shown}
use Rattle.cb_index.proofs.InOrderLemmas.{length_in_order}
use Rattle.cb_index.proofs.ListedLemmas.{other_turned}
use Rattle.cb_index.proofs.TotalLemmas.{total_both}
use Rattle.cb_desk.specs.steps.Records.{AreThere, Fits, IsFew, IsTurn, Numbered, Rooms, Turn}
use Rattle.cb_desk.specs.steps.Records.{hidden, other, without}

-- ---- what holds of a list in order
module _ {X : Type 0} (key : X → List ℕ) (P : X → Type 0) where
  all_from_put : (x : X) (ys : List X) → AllByRecursion P (put key x ys) → P x × AllByRecursion P ys
  unfolding put
  all_from_put x [] all = (all.0, tt)
  all_from_put x (y ∷ ys) all =
      elim (goes_first key x y) as (λ b. AllByRecursion P (cond b (x ∷ y ∷ ys) (y ∷ put key x ys))
      → P x × AllByRecursion P (y ∷ ys)) [
        | true ↦ λ a. (a.0, a.1)
        | false ↦ λ a. let later = all_from_put x ys a.1 in
            (later.0, (a.0, later.1))
      ] all

  pub all_from_order : (xs : List X) → AllByRecursion P (in_order key xs) → AllByRecursion P xs
  unfolding in_order
  all_from_order [] all = tt
  all_from_order (x ∷ xs) all =
      let both = all_from_put x (in_order key xs) all in (both.0, all_from_order xs both.1)

pub all_parts : {X : Type 0} (P : X → Type 0) (xs ys : List X) → AllByRecursion P (xs ++ ys)
    → AllByRecursion P xs × AllByRecursion P ys
all_parts P [] ys all = (tt, all)
all_parts P (x ∷ xs) ys all = let later = all_parts P xs ys all.1 in ((all.0, later.0), later.1)

-- ---- names that are apart
module _ (a : Archived) where
  abbrev IsApart : Shown → Shown → Type 0
  IsApart s t = bytes_eq (name_of a s.name) (name_of a t.name) ≡ false

  pub apart_back : (xs ys : List Shown) → AreApart a (xs ++ ys) → AreApart a ys
  unfolding AreOrdered
  apart_back [] ys apart = apart
  apart_back (s ∷ xs) ys apart = apart_back xs ys apart.1

  none_yet : (ys : List Shown) → AllByRecursion (λ s. AllByRecursion (IsApart s) []) ys
  none_yet [] = tt
  none_yet (s ∷ ys) = (tt, none_yet ys)

  one_more : (k : Shown) (xs ys : List Shown) → AllByRecursion (IsApart k) ys
      → AllByRecursion (λ s. AllByRecursion (IsApart s) xs) ys
      → AllByRecursion (λ s. AllByRecursion (IsApart s) (k ∷ xs)) ys
  one_more k xs [] first rest = tt
  one_more k xs (s ∷ ys) first rest = (
    (other_turned (name_of a k.name) (name_of a s.name) first.0, rest.0),
    one_more k xs ys first.1 rest.1,
  )

  across : (xs ys : List Shown) → AreApart a (xs ++ ys)
      → AllByRecursion (λ s. AllByRecursion (IsApart s) xs) ys
  unfolding AreOrdered
  across [] ys apart = none_yet ys
  across (k ∷ xs) ys apart =
      one_more k xs ys (all_parts (IsApart k) xs ys apart.0).1 (across xs ys apart.1)

  not_one : (s : Shown) (xs : List Shown) → AllByRecursion (IsApart s) xs → is_shown a xs s ≡ false
  not_one s [] apart = refl
  not_one s (t ∷ xs) apart = rw apart.0 (not_one s xs apart.1)

  none_of : (xs ys : List Shown) → AllByRecursion (λ s. AllByRecursion (IsApart s) xs) ys
      → list_any (is_shown a xs) ys ≡ false
  none_of xs [] apart = refl
  none_of xs (s ∷ ys) apart = rw (not_one s xs apart.0) (none_of xs ys apart.1)

  pub none_is_shown : (xs ys : List Shown) → AreApart a (xs ++ ys)
      → list_any (is_shown a xs) ys ≡ false
  none_is_shown xs ys apart = none_of xs ys (across xs ys apart)

-- ---- few files are hidden and shown
pub few_small : (a : Archived) (t : Turn) (w : Numbered) → length t.hides + length t.shows ≤ 2
    → IsFew a t w
few_small a t w small = record { on = omega (arith, small); back = omega (arith, small) }

-- ---- a turn can be made
module _ (s : Shelved) (t : Turn) (w : Numbered) (rooms : Rooms) (same : w.shown ≡ s.shown) where
  abbrev kept : List Shown
  kept = without t.hides s.shown

  there : AreThere s.archive (other s.archive t w)
      → AllByRecursion (IsThere s.archive) (in_order (shown_name s.archive) (kept ++ t.shows))
  there is =
      all_implied (λ (r : Shown). (r.name < t.names) × (r.version < t.versions)) (IsThere s.archive)
      (λ r below. (
        let names = is.names in omega (arith, names, below.0),
        let versions = is.versions in omega (arith, versions, below.1),
      ))
      (in_order (shown_name s.archive) (kept ++ t.shows)) (rw same at is.shown)

  pub can_turn : rooms.files ≡ s.entry_room → rooms.defs ≡ s.def_room → rooms.uses ≡ s.use_room
      → rooms.calls ≡ s.call_room
      → IsTurn s.archive t w → AreThere s.archive (other s.archive t w)
      → Fits rooms s.archive (other s.archive t w)
      → CanShow (hidden s t.hides) t.shows
  can_turn files defs uses calls turn is fits =
      let apart : AreApart s.archive (kept ++ t.shows) = rw same at turn.apart_then in
      let fits_files : length (in_order (shown_name s.archive) (kept ++ t.shows)) ≤ s.entry_room =
      rw (same, files) at fits.files in
      let count =
      length_in_order (shown_name s.archive) (kept ++ t.shows) ∙ length-append kept t.shows in
      record {
        there =
            (all_parts (IsThere s.archive) kept t.shows (all_from_order (shown_name s.archive)
            (IsThere s.archive) (kept ++ t.shows) (there is))).1;
        apart = apart_back s.archive kept t.shows apart;
        other = none_is_shown s.archive kept t.shows apart;
        entries = omega (arith, fits_files, count);
        defs =
            total_both def_count s.archive (shown_name s.archive) kept t.shows s.def_room
            (rw (same, defs) at fits.defs);
        uses =
            total_both use_count s.archive (shown_name s.archive) kept t.shows s.use_room
            (rw (same, uses) at fits.uses);
        calls =
            total_both call_count s.archive (shown_name s.archive) kept t.shows s.call_room
            (rw (same, calls) at fits.calls);
      }
