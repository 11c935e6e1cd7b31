-- What a shelf keeps while versions come and go.
use Rattle.std.proofs.Common.{◌≡◌, ◌∙◌, ◌≤◌, ◌<◌, ◌+◌, ℕ, suc, Bool, true, false, List, [], ◌∷◌}
use Rattle.std.proofs.Common.{◌++◌, Some, refl, sym, ap, subst, length, take, drop, drop-cons}
use Rattle.std.proofs.Common.{drop_of_length-le, filter, get_or, arith}
use Rattle.std.proofs.lemmas.List.{length-append}
use Rattle.std.proofs.Math.Nat.{le_trans, le-max_left}
use Rattle.std.specs.Prelude.{cond, nat_eq, not, slice_get, slice_index_or, slice_set, ◌||◌}
use Rattle.std.specs.Cmp.Lexicographic.{slice_cmp}
use Rattle.std.specs.List.{AllByRecursion, list_any}
use Rattle.std.specs.Ordering.{nat_cmp}
use Rattle.std.specs.declared.cmp.Ordering.TheVariants.{Less}
use Rattle.cb_scan.specs.Order.{AreOrdered, in_order}
use Rattle.cb_scan.proofs.FactsWithin.{all_in_order}
use Rattle.cb_scan.proofs.FunctionsRise.{all_implied}
use Rattle.cb_scan.proofs.WithinLemmas.{all-append}
use Rattle.cb_index.specs.Archived.{Archived, name_of}
use Rattle.cb_index.specs.Files.{AreApart, AreAscending, IsThere, count_for, is_shown, shown_name}
use Rattle.cb_index.specs.Files.{shown_under, total}
use Rattle.cb_index.specs.Kinds.{all_kinds, def_kind, keyer_of, lister_of}
use Rattle.cb_index.specs.Entries.{sort_key}
use Rattle.cb_index.specs.Held.{Indexed, all_entries}
use Rattle.cb_index.specs.Names.{is_among, names_of}
use Rattle.cb_index.specs.Shelved.{AreKept, AreTotals, AreWithin, CanShow, Covers, HasRoom, IsIndex}
use Rattle.cb_index.specs.Shelved.{IsIndexOf, KeepsRoom, Shelved, larger_room, room_for, total_for}
use Rattle.cb_index.specs.steps.Moves.{Become, CanTakeIn, LetsGo, LetsGoAll, StaysItself, StaysSame}
use Rattle.cb_index.specs.steps.Moves.{TakesIn}
use Rattle.cb_index.specs.declared.entry.Shown.{Shown}
use Rattle.cb_index.specs.declared.entry.FactKind.TheVariants.{Uses, Callees, Callers}
use Rattle.cb_index.specs.declared.entry.IndexKind.{IndexKind}
use Rattle.cb_index.specs.declared.entry.IndexKind.TheVariants.{DefsByName, DefsByTagName, Facts}
use Rattle.cb_index.specs.declared.shelf.Room.{Room}
use Rattle.cb_index.specs.declared.totals.Totals.{Totals}
use Rattle.cb_index.proofs.AscendLemmas.{ascending_filter}
use Rattle.cb_index.proofs.CoverLemmas.{covers_as, covers_fits, covers_hidden, covers_length}
use Rattle.cb_index.proofs.CoverLemmas.{covers_more, covers_none, covers_read, covers_same}
use Rattle.cb_index.proofs.CoverLemmas.{covers_settled}
use Rattle.cb_index.proofs.EachLemmas.{all_at, all_set, become_all, become_kinds, kinds_of}
use Rattle.cb_index.proofs.EachLemmas.{kinds_set}
use Rattle.cb_index.proofs.FewerLemmas.{fewer_of}
use Rattle.cb_index.proofs.FrontLemmas.{get_or_front, get_or_left, length_front, slice_get_front}
use Rattle.cb_index.proofs.FrontLemmas.{slice_get_left}
use Rattle.cb_index.proofs.InOrderLemmas.{all_filter}
use Rattle.cb_index.proofs.IndexLemmas.{IsSame}
use Rattle.cb_index.proofs.ListedLemmas.{apart_both, ascending_in_order}
use Rattle.cb_index.proofs.RowLemmas.{again}
use Rattle.cb_index.proofs.TextLemmas.{same_text}

-- ---- indexes by kind
-- an index of a kind is one of its own kind
pub of_its_kind : (a : Archived) (shown : List Shown) (x y : Indexed) → y.kind ≡ x.kind
    → Covers (keyer_of x.kind) (lister_of x.kind) a shown y → IsIndex a shown y
of_its_kind a shown x y kind is =
    subst (λ k. Covers (keyer_of k) (lister_of k) a shown y) (sym kind) is

-- an index where nothing is pending holds all
pub all_held : (kind : IndexKind) (a : Archived) (shown : List Shown) (x : Indexed)
    → x.kind ≡ kind → x.pending ≡ []
    → IsIndex a shown x → IsIndexOf (keyer_of kind) (lister_of kind) a shown x.held
all_held kind a shown x same none is =
    subst (λ k. IsIndexOf (keyer_of k) (lister_of k) a shown x.held) same
    (covers_read (keyer_of x.kind) (lister_of x.kind) a shown x none is)

-- it is in order
pub in_its_order : (kind : IndexKind) (a : Archived) (shown : List Shown) (x : Indexed)
    → x.kind ≡ kind → IsIndex a shown x
    → x.held ≡ in_order (sort_key (keyer_of kind) a) x.held
in_its_order kind a shown x same is =
    subst (λ k. x.held ≡ in_order (sort_key (keyer_of k) a) x.held) same
    (again (keyer_of x.kind) (lister_of x.kind) a is.sorted x.held is.held)

-- ---- nothing is kept
abbrev pub IsEmpty : Indexed → Type 0
IsEmpty x = (x.held ≡ []) × (x.pending ≡ [])

pub kept_none : (a : Archived) (shown : List Shown) (xs : List Indexed) → shown ≡ []
    → kinds_of xs ≡ all_kinds
    → AllByRecursion IsEmpty xs → AreKept a shown xs
unfolding AreOrdered
kept_none a shown xs none kinds empty = record {
  there = subst (AllByRecursion (IsThere a)) (sym none) tt;
  ascending = subst (AreAscending a) (sym none) tt;
  kinds = kinds;
  each = all_implied IsEmpty (IsIndex a shown)
      (λ x is. covers_none (keyer_of x.kind) (lister_of x.kind) a shown x none is.0 is.1) xs empty;
}

-- ---- the archive changes elsewhere
module _ (a b : Archived) where
  later_names : (s : Shown) → IsSame a b s → (shown : List Shown)
      → AllByRecursion (IsSame a b) shown
      → AllByRecursion
      (λ (t : Shown). slice_cmp nat_cmp (name_of a s.name) (name_of a t.name) ≡ Less) shown
      → AllByRecursion
      (λ (t : Shown). slice_cmp nat_cmp (name_of b s.name) (name_of b t.name) ≡ Less) shown
  later_names s same [] all up = tt
  later_names s same (t ∷ shown) all up =
      ((λ i. slice_cmp nat_cmp (same.1 i) (all.0.1 i)) ∙ up.0, later_names s same shown all.1 up.1)

  same_ascending : (shown : List Shown) → AllByRecursion (IsSame a b) shown → AreAscending a shown
      → AreAscending b shown
  unfolding AreOrdered
  same_ascending [] all up = tt
  same_ascending (s ∷ shown) all up =
      (later_names s all.0 shown all.1 up.0, same_ascending shown all.1 up.1)

  pub kept_same : (shown : List Shown) (xs : List Indexed) → AllByRecursion (IsSame a b) shown
      → AllByRecursion (IsThere b) shown → AreKept a shown xs → AreKept b shown xs
  kept_same shown xs all there kept = record {
    there = there;
    ascending = same_ascending shown all kept.ascending;
    kinds = kept.kinds;
    each = all_implied (IsIndex a shown) (IsIndex b shown)
        (λ x is. covers_same (keyer_of x.kind) (lister_of x.kind) a b shown x all is) xs kept.each;
  }

  -- the same names and texts
  pub kept_moved : (shown : List Shown) (xs : List Indexed) → b.profile ≡ a.profile
      → b.names ≡ a.names → b.texts ≡ a.texts → AreKept a shown xs → AreKept b shown xs
  kept_moved shown xs profile names texts kept =
      let there : AllByRecursion (IsThere b) shown =
      all_implied (IsThere a) (IsThere b)
      (λ s is. (
        subst (λ l. s.name < length l) (sym names) is.0,
        subst (λ l. s.version < length l) (sym texts) is.1,
      )) shown kept.there in
      let same : AllByRecursion (IsSame a b) shown =
      all_implied (IsThere a) (IsSame a b)
      (λ s is. (
        same_text a b profile s.version (ap (λ l. slice_get l s.version) texts),
        ap (λ l. get_or l s.name []) names,
      ))
      shown kept.there in
      kept_same shown xs same there kept

-- ---- more is kept
module _ (a b : Archived) (shown : List Shown) (xs : List Indexed)
    (names texts : List (List ℕ)) where
  pub kept_more : b.profile ≡ a.profile → b.names ≡ a.names ++ names → b.texts ≡ a.texts ++ texts
      → AreKept a shown xs → AreKept b shown xs
  kept_more profile named kept_texts kept =
      let name_count = length-append a.names names in
      let text_count = length-append a.texts texts in
      kept_same a b shown xs
      (all_implied (IsThere a) (IsSame a b)
      (λ s is. (
        same_text a b profile s.version
            (ap (λ l. slice_get l s.version) kept_texts
            ∙ slice_get_left a.texts texts s.version is.1),
        ap (λ l. get_or l s.name []) named ∙ get_or_left a.names names s.name is.0,
      )) shown kept.there)
      (all_implied (IsThere a) (IsThere b)
      (λ s is. (
        subst (λ l. s.name < length l) (sym named) (omega (arith, name_count, is.0)),
        subst (λ l. s.version < length l) (sym kept_texts) (omega (arith, text_count, is.1)),
      )) shown kept.there) kept

-- ---- the last are let go
module _ (a b : Archived) (shown : List Shown) (xs : List Indexed) (versions names : ℕ) where
  both : (ss : List Shown) → AllByRecursion (IsThere a) ss
      → AllByRecursion (λ (s : Shown). (s.version < versions) × (s.name < names)) ss
      → AllByRecursion (λ (s : Shown). IsThere a s × ((s.version < versions) × (s.name < names))) ss
  both [] p q = tt
  both (s ∷ ss) p q = ((p.0, q.0), both ss p.1 q.1)

  pub kept_front : AllByRecursion (λ (s : Shown). (s.version < versions) × (s.name < names)) shown
      → b.profile ≡ a.profile → b.names ≡ take names a.names → b.texts ≡ take versions a.texts
      → AreKept a shown xs → AreKept b shown xs
  kept_front below profile named kept_texts kept =
      kept_same a b shown xs
      (all_implied (λ (s : Shown). (s.version < versions) × (s.name < names)) (IsSame a b)
      (λ s is. (
        same_text a b profile s.version
            (ap (λ l. slice_get l s.version) kept_texts
            ∙ slice_get_front versions a.texts s.version is.0),
        ap (λ l. get_or l s.name []) named ∙ get_or_front names a.names s.name is.1,
      )) shown below)
      (all_implied (λ (s : Shown). IsThere a s × ((s.version < versions) × (s.name < names)))
      (IsThere b)
      (λ s is. (
        subst (λ l. s.name < length l) (sym named)
            (length_front names a.names s.name is.1.1 is.0.0),
        subst (λ l. s.version < length l) (sym kept_texts)
            (length_front versions a.texts s.version is.1.0 is.0.1),
      ))
      shown (both shown kept.there below)) kept

-- ---- the indexes become others
module _ (a : Archived) (shown then : List Shown) (xs ys : List Indexed) where
  becomes : (way : Indexed → Indexed → Type 0) → ((x y : Indexed) → way x y → y.kind ≡ x.kind)
      → ((x y : Indexed) → way x y → IsIndex a shown x → IsIndex a then y) → Become way xs ys
      → AllByRecursion (IsThere a) then → AreAscending a then → AreKept a shown xs
      → AreKept a then ys
  becomes way kind step become there up kept = record {
    there = there;
    ascending = up;
    kinds = become_kinds way kind xs ys become ∙ kept.kinds;
    each = become_all way (IsIndex a shown) (IsIndex a then) step xs ys become kept.each;
  }

  -- the same is held and pending
  pub kept_as : then ≡ shown → Become StaysSame xs ys → AreKept a shown xs → AreKept a then ys
  kept_as same become kept =
      becomes StaysSame (λ x y way. way.itself.kind)
      (λ x y way is. of_its_kind a then x y way.itself.kind
      (covers_as (keyer_of x.kind) (lister_of x.kind) a shown
      then x y same way.held way.pending is))
      become (subst (AllByRecursion (IsThere a)) (sym same) kept.there)
      (subst (AreAscending a) (sym same) kept.ascending) kept

  -- what is shown under some names is hidden
  pub kept_hidden : (names : List ℕ)
      → then ≡ filter (λ (s : Shown). not (is_among names s.name)) shown
      → Become (LetsGoAll names) xs ys → AreKept a shown xs → AreKept a then ys
  kept_hidden names left become kept =
      let stays : ℕ → Bool = λ n. not (is_among names n) in
      let shown_stays : Shown → Bool = λ s. stays s.name in
      becomes (LetsGoAll names) (λ x y way. way.itself.kind)
      (λ x y way is. of_its_kind a then x y way.itself.kind
      (covers_hidden (keyer_of x.kind) (lister_of x.kind) a stays shown
      then x y left way.held way.pending is)) become
      (subst (AllByRecursion (IsThere a)) (sym left)
      (all_filter shown_stays (IsThere a) shown kept.there))
      (subst (AreAscending a) (sym left) (ascending_filter a shown_stays shown kept.ascending)) kept

  -- one version goes
  pub kept_taken : (name : ℕ) (one : Shown)
      → then ≡ filter (λ (s : Shown). not (nat_eq s.name name)) shown → one.name ≡ name
      → shown_under one.name shown ≡ Some one → Become (LetsGo a one) xs ys → AreKept a shown xs
      → AreKept a then ys
  kept_taken name one left named under become kept =
      let other : Shown → Bool = λ s. not (nat_eq s.name name) in
      becomes (LetsGo a one) (λ x y way. way.itself.kind)
      (λ x y way is. subst (λ l. IsIndex a l y) (sym left)
      (subst (λ n. IsIndex a (filter (λ (s : Shown). not (nat_eq s.name n)) shown) y) named
      (way.others shown is under)))
      become
      (subst (AllByRecursion (IsThere a)) (sym left)
      (all_filter other (IsThere a) shown kept.there))
      (subst (AreAscending a) (sym left) (ascending_filter a other shown kept.ascending)) kept

-- the same list
pub kept_list : (a : Archived) (shown then : List Shown) (xs : List Indexed) → then ≡ shown
    → AreKept a shown xs → AreKept a then xs
kept_list a shown then xs same kept = subst (λ l. AreKept a l xs) (sym same) kept

-- ---- versions are shown
module _ (a : Archived) (shown news : List Shown) (apart : AreApart a news)
    (none : list_any (is_shown a shown) news ≡ false)
    (up : AreAscending a shown) where
  pub kept_each : (xs ys : List Indexed) → AllByRecursion (IsThere a) news
      → Become (TakesIn news) xs ys
      → AreKept a shown xs → AreKept a (in_order (shown_name a) (shown ++ news)) ys
  kept_each xs ys there become kept =
      let then = in_order (shown_name a) (shown ++ news) in
      becomes a shown then xs ys (TakesIn news) (λ x y way. way.itself.kind)
      (λ x y way is. of_its_kind a then x y way.itself.kind
      (covers_more (keyer_of x.kind) (lister_of x.kind) a shown news x y up apart none way.held
      way.pending is)) become
      (all_in_order (shown_name a) (IsThere a) (shown ++ news)
      (all-append (IsThere a) shown news kept.there there))
      (ascending_in_order a (shown ++ news) (apart_both a shown news up apart none)) kept

-- ---- room
-- by kind
total_is : (kind : IndexKind) (a : Archived) (shown : List Shown) (n : Totals) → AreTotals a shown n
    → total_for kind n ≡ total (count_for kind) a shown
total_is DefsByName a shown n are = are.defs
total_is DefsByTagName a shown n are = are.defs
total_is (Facts Uses) a shown n are = are.uses
total_is (Facts Callees) a shown n are = are.calls
total_is (Facts Callers) a shown n are = are.calls

total_fits : (kind : IndexKind) (shown : List Shown) (capacity : ℕ) (n : Totals) (room : Room)
    (xs : List Indexed)
    → AreWithin shown capacity n room xs → total_for kind n ≤ room_for kind room
total_fits DefsByName shown capacity n room xs is = is.defs
total_fits DefsByTagName shown capacity n room xs is = is.defs
total_fits (Facts Uses) shown capacity n room xs is = is.uses
total_fits (Facts Callees) shown capacity n room xs is = is.calls
total_fits (Facts Callers) shown capacity n room xs is = is.calls

-- so do the definitions
pub defs_fit : (by : Bool) (a : Archived) (shown : List Shown) (capacity : ℕ) (n : Totals)
    (room : Room) (xs : List Indexed)
    → AreTotals a shown n → AreWithin shown capacity n room xs
    → total (count_for (def_kind by)) a shown ≤ room.defs
defs_fit false a shown capacity n room xs are is = omega (arith, are.defs, is.defs)
defs_fit true a shown capacity n room xs are is = omega (arith, are.defs, is.defs)

-- what is held and pending fits
pub flush_fits : (a : Archived) (shown : List Shown) (capacity : ℕ) (n : Totals) (room : Room)
    (xs : List Indexed) (x : Indexed)
    → AreTotals a shown n → AreWithin shown capacity n room xs → HasRoom room x → IsIndex a shown x
    → length x.held + length (all_entries (lister_of x.kind) a x.pending) ≤ x.room
flush_fits a shown capacity n room xs x are within has is =
    covers_fits (keyer_of x.kind) (lister_of x.kind) a (count_for x.kind) (fewer_of x.kind) shown x
    (total_for x.kind n) x.room
    (total_is x.kind a shown n are)
    (le_trans (total_fits x.kind shown capacity n room xs within) has.0) is

-- there is room for those that come in to be pending
module _ (s : Shelved) (news : List Shown) (asked : CanShow s news) (room : Room)
    (entries : s.entry_room ≡ room.entries) where
  can_take : (x : Indexed) → HasRoom room x → IsIndex s.archive s.shown x → CanTakeIn news x
  can_take x has is =
      let pending = covers_length (keyer_of x.kind) (lister_of x.kind) s.archive s.shown x is in
      omega (arith, pending, asked.entries, entries, has.1)

  pub all_can_take : (xs : List Indexed) → AllByRecursion (HasRoom room) xs
      → AllByRecursion (IsIndex s.archive s.shown) xs → AllByRecursion (CanTakeIn news) xs
  all_can_take [] has is = tt
  all_can_take (x ∷ xs) has is = (can_take x has.0 is.0, all_can_take xs has.1 is.1)

pub stays_same : (x : Indexed) → StaysSame x x
stays_same x = record {
  itself = record { kind = refl; room = omega arith; version_room = omega arith };
  held = refl;
  pending = refl;
}

-- a greater room
pub record IsLarger (r s : Room) : Type 0 where
  pub entries : s.entries ≤ r.entries
  pub defs : s.defs ≤ r.defs
  pub uses : s.uses ≤ r.uses
  pub calls : s.calls ≤ r.calls

pub larger_fits : (r s t : Room) → r ≡ larger_room s t → IsLarger r s
larger_fits r s t is = subst (λ q. IsLarger q s) (sym is) (record {
  entries = le-max_left s.entries t.entries;
  defs = le-max_left s.defs t.defs;
  uses = le-max_left s.uses t.uses;
  calls = le-max_left s.calls t.calls;
})

abbrev pub no_room : Room
no_room = record { versions = 0; names = 0; entries = 0; defs = 0; uses = 0; calls = 0 }

none_wanted : (kind : IndexKind) → room_for kind no_room ≡ 0
none_wanted DefsByName = refl
none_wanted DefsByTagName = refl
none_wanted (Facts Uses) = refl
none_wanted (Facts Callees) = refl
none_wanted (Facts Callers) = refl

pub has_none : (xs : List Indexed) → AllByRecursion (HasRoom no_room) xs
has_none [] = tt
has_none (x ∷ xs) = ((omega (arith, none_wanted x.kind), omega arith), has_none xs)

-- the room stays
room_stays : (room : Room) (x y : Indexed) → StaysItself x y → HasRoom room x → HasRoom room y
room_stays room x y way has = (
  le_trans (subst (λ k. room_for k room ≤ x.room) (sym way.kind) has.0) way.room,
  le_trans has.1 way.version_room,
)

pub rooms_stay : (way : Indexed → Indexed → Type 0) → ((x y : Indexed) → way x y → StaysItself x y)
    → (room : Room)
    → (xs ys : List Indexed) → Become way xs ys → AllByRecursion (HasRoom room) xs
    → AllByRecursion (HasRoom room) ys
rooms_stay way itself room =
    become_all way (HasRoom room) (HasRoom room)
    (λ x y w has. room_stays room x y (itself x y w) has)

-- ---- what is pending in one index is put in order
module _ (a : Archived) (shown : List Shown) (xs : List Indexed) (n : ℕ) (y d : Indexed)
    (below : n < length xs)
    (itself : StaysItself (slice_index_or xs n d) y) where
  abbrev x : Indexed
  x = slice_index_or xs n d

  pub kept_flushed : y.held ≡ in_order (sort_key (keyer_of x.kind) a)
      (x.held ++ all_entries (lister_of x.kind) a x.pending) → y.pending ≡ []
      → AreKept a shown xs → AreKept a shown (slice_set xs n y)
  kept_flushed held none kept =
      let is : IsIndex a shown x = all_at (IsIndex a shown) xs n d below kept.each in
      record {
        there = kept.there;
        ascending = kept.ascending;
        kinds = kinds_set xs n y d below itself.kind ∙ kept.kinds;
        each = all_set (IsIndex a shown) xs n y
            (of_its_kind a shown x y itself.kind
            (covers_settled (keyer_of x.kind) (lister_of x.kind) a shown x y held none is))
            kept.each;
      }

  pub within_flushed : (capacity : ℕ) (t : Totals) (room : Room)
      → AreWithin shown capacity t room xs → AreWithin shown capacity t room (slice_set xs n y)
  within_flushed capacity t room is = record {
    entries = is.entries;
    defs = is.defs;
    uses = is.uses;
    calls = is.calls;
    listed = is.listed;
    each =
        all_set (HasRoom room) xs n y
        (room_stays room x y itself (all_at (HasRoom room) xs n d below is.each)) is.each;
  }

-- ---- filters by one number after another
module _ (name : ℕ) (names : List ℕ) where
  pub filter_next : (shown : List Shown)
      → filter (λ (s : Shown). not (is_among names s.name))
      (filter (λ (s : Shown). not (nat_eq s.name name)) shown)
      ≡ filter (λ (s : Shown). not (is_among (name ∷ names) s.name)) shown
  filter_next [] = refl
  filter_next (s ∷ shown) = by_test (nat_eq s.name name) refl (filter_next shown)
    where
      first : List Shown → List Shown
      first l = filter (λ (r : Shown). not (nat_eq r.name name)) l

      others : List Shown → List Shown
      others l = filter (λ (r : Shown). not (is_among names r.name)) l

      both : List Shown
      both = filter (λ (r : Shown). not (is_among (name ∷ names) r.name)) shown

      by_test : (b : Bool) → nat_eq s.name name ≡ b → others (first shown) ≡ both
          → others (cond (not (nat_eq s.name name)) (s ∷ first shown) (first shown))
          ≡ cond (not (nat_eq s.name name || is_among names s.name)) (s ∷ both) both
      by_test true eq later =
          ap (λ b. others (cond (not b) (s ∷ first shown) (first shown))) eq ∙ later
          ∙ sym (ap (λ b. cond (not (b || is_among names s.name)) (s ∷ both) both) eq)
      by_test false eq later =
          ap (λ b. others (cond (not b) (s ∷ first shown) (first shown))) eq
          ∙ ap (λ l. cond (not (is_among names s.name)) (s ∷ l) l) later
          ∙ sym (ap (λ b. cond (not (b || is_among names s.name)) (s ∷ both) both) eq)

pub filter_none : (shown : List Shown)
    → filter (λ (s : Shown). not (is_among [] s.name)) shown ≡ shown
filter_none [] = refl
filter_none (s ∷ shown) = ap (λ l. s ∷ l) (filter_none shown)

-- the next of many files is hidden
pub filter_file : (files : List Shown) (i : ℕ) (d : Shown) → i < length files → (shown : List Shown)
    → filter (λ (s : Shown). not (is_among (names_of (drop (i + 1) files)) s.name))
    (filter (λ (s : Shown). not (nat_eq s.name (get_or files i d).name)) shown)
    ≡ filter (λ (s : Shown). not (is_among (names_of (drop i files)) s.name)) shown
filter_file files i d below shown =
    let next : i + 1 ≡ suc i = omega arith in
    ap (λ n. filter (λ (s : Shown). not (is_among (names_of (drop n files)) s.name))
    (filter (λ (s : Shown). not (nat_eq s.name (get_or files i d).name)) shown)) next
    ∙ filter_next (get_or files i d).name (names_of (drop (suc i) files)) shown
    ∙ ap (λ l. filter (λ (s : Shown). not (is_among (names_of l) s.name)) shown)
    (sym (drop-cons files i d below))

-- all of them are
pub filter_done : (files : List Shown) (i : ℕ) → length files ≤ i → (shown : List Shown)
    → filter (λ (s : Shown). not (is_among (names_of (drop i files)) s.name)) shown ≡ shown
filter_done files i past shown =
    ap (λ l. filter (λ (s : Shown). not (is_among (names_of l) s.name)) shown)
    (drop_of_length-le files past) ∙ filter_none shown

pub keeps_trans : (a b c : Shelved) → KeepsRoom a b → KeepsRoom b c → KeepsRoom a c
keeps_trans a b c first second = record {
  names = le_trans first.names second.names;
  versions = le_trans first.versions second.versions;
  entries = le_trans first.entries second.entries;
  defs = le_trans first.defs second.defs;
  uses = le_trans first.uses second.uses;
  calls = le_trans first.calls second.calls;
}
