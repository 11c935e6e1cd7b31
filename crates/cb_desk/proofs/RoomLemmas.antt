-- There is room for the world that a plan leads to.
use Rattle.std.proofs.Common.{◌≡◌, ◌∙◌, ◌≤◌, ◌<◌, ◌+◌, ℕ, take, List, [], ◌∷◌, ◌++◌, refl, length}
use Rattle.std.proofs.Common.{filter, not, cond, arith, true, false, length-append, Bool}
use Rattle.std.specs.Prelude.{◌^◌, Err, MatchOption, None, Ok, OnOk, Option, Result}
use Rattle.cb_scan.proofs.FunctionsRise.{all_implied}
use Rattle.cb_index.specs.Scanned.{Scanned}
use Rattle.cb_index.specs.Archived.{Archived}
use Rattle.cb_index.specs.Files.{call_count, def_count, shown_name, total, use_count}
use Rattle.cb_index.specs.Names.{is_among, names_of}
use Rattle.cb_index.specs.Shelved.{AreTotals}
use Rattle.cb_index.specs.declared.entry.Shown.{Shown}
use Rattle.cb_index.specs.declared.shelf.Room.{Room}
use Rattle.cb_index.specs.declared.totals.Totals.{Totals}
use Rattle.cb_index.proofs.InOrderLemmas.{length_in_order}
use Rattle.cb_index.proofs.FrontLemmas.{length_front}
use Rattle.cb_index.proofs.TotalLemmas.{same_total, total_append, total_filter, total_front}
use Rattle.cb_index.proofs.TotalLemmas.{total_in_order, total_more}
use Rattle.cb_desk.specs.steps.Plans.{HasRoomFor, Keeps, Planned}
use Rattle.cb_desk.specs.steps.Records.{AreThere, Kept, Rooms, other, without}
use Rattle.cb_desk.specs.steps.Room.{IsCountable, IsRoomFor, fact_count, facts_with}
use Rattle.cb_desk.specs.steps.Room.{archive_with, with_texts}
use Rattle.cb_desk.specs.steps.Edits.{more}
use Rattle.cb_desk.proofs.PlacePlans.{edited_length}

-- ---- what is left when some are hidden
module _ (q : Shown → Bool) where
  pub fewer_left : (ss : List Shown) → length (filter q ss) ≤ length ss
  fewer_left [] = omega arith
  fewer_left (s ∷ ss) =
      let later = fewer_left ss in
      elim (q s) as (λ b. length (cond b (s ∷ filter q ss) (filter q ss)) ≤ length (s ∷ ss))
      [ true ↦ omega (arith, later) | false ↦ omega (arith, later) ]

-- what is shown has as many facts among the texts that the present world and a plan use
pub shown_total : (count : Option Scanned → ℕ) (k : Kept) (p : Planned) → AreThere k.archive k.now
    → total count k.archive k.now.shown ≡ total count (archive_with k p) k.now.shown
shown_total count k p there =
    let front : Archived =
    with_texts k.archive.profile (take k.now.versions k.archive.texts) in
    total_front count k.archive front k.now.versions refl refl k.now.shown
    (all_implied (λ (s : Shown). (s.name < k.now.names) × (s.version < k.now.versions))
    (λ (s : Shown). s.version < k.now.versions)
    (λ s at. at.1) k.now.shown there.shown)
    ∙ total_more count front (archive_with k p) p.texts refl refl k.now.shown
    (all_implied (λ (s : Shown). (s.name < k.now.names) × (s.version < k.now.versions))
    (λ (s : Shown). s.version < length front.texts)
    (λ s at. length_front k.now.versions k.archive.texts s.version at.1
    (let some = there.versions in omega (arith, at.1, some)))
    k.now.shown there.shown)

-- facts that are no number together are not countable
pub not_countable : (k : Kept) (p : Planned) (now : Totals) → AreThere k.archive k.now
    → AreTotals k.archive k.now.shown now
    → 2 ^ 64 ≤ facts_with now (fact_count (archive_with k p) p.turn.shows) → IsCountable k p → ⊥
not_countable k p now there are many is =
    let texts = archive_with k p in
    let d = are.defs ∙ shown_total def_count k p there in
    let u = are.uses ∙ shown_total use_count k p there in
    let c = are.calls ∙ shown_total call_count k p there in
    let least : 2 ^ 64 ≤ now.defs + now.uses + now.calls
    + (total def_count texts p.turn.shows + total use_count texts p.turn.shows
    + total call_count texts p.turn.shows) = many in
    let most : (total def_count texts k.now.shown + total use_count texts k.now.shown
    + total call_count texts k.now.shown)
    + (total def_count texts p.turn.shows + total use_count texts p.turn.shows
    + total call_count texts p.turn.shows) < 2 ^ 64 = is.facts in
    omega (arith, d, u, c, least, most)

-- what holds where nothing is given
pub none_given : {T : Type 0} (A : Type 0) (B : T → Type 0) (o : Option T) → o ≡ None
    → A → MatchOption o A B
none_given A B o is a = rw is a

-- the room that is asked for where the totals of what is shown are known
pub room_asked : (k : Kept) (p : Planned) (r : Room) (now : Totals) → AreThere k.archive k.now
    → AreTotals k.archive k.now.shown now
    → r.names ≡ k.now.names + length p.names → r.versions ≡ k.now.versions + length p.texts
    → r.entries ≡ length k.now.shown + length p.turn.shows
    → r.defs ≡ now.defs + total def_count (archive_with k p) p.turn.shows
    → r.uses ≡ now.uses + total use_count (archive_with k p) p.turn.shows
    → r.calls ≡ now.calls + total call_count (archive_with k p) p.turn.shows
    → IsRoomFor k p r
room_asked k p r now there are names versions entries defs uses calls = record {
  names = names;
  versions = versions;
  entries = entries;
  defs = let e = are.defs ∙ shown_total def_count k p there in omega (arith, defs, e);
  uses = let e = are.uses ∙ shown_total use_count k p there in omega (arith, uses, e);
  calls = let e = are.calls ∙ shown_total call_count k p there in omega (arith, calls, e);
}

-- ---- room as a plan asks for it
module _ (k : Kept) (p : Planned) (a : Archived) (keeps : Keeps k.archive k.now p a) where
  counted_then : (count : Option Scanned → ℕ) (room : ℕ)
      → total count (archive_with k p) k.now.shown
      + total count (archive_with k p) p.turn.shows ≤ room
      → total count a (other a p.turn k.now).shown ≤ room
  counted_then count room some =
      let left = without p.turn.hides k.now.shown in
      let all =
      total_in_order count a (shown_name a) (left ++ p.turn.shows)
      ∙ total_append count a left p.turn.shows in
      let fewer =
      total_filter count a (λ (s : Shown). not (is_among (names_of p.turn.hides) s.name))
      k.now.shown in
      let now = same_total count a (archive_with k p) keeps.profile keeps.texts k.now.shown in
      let more = same_total count a (archive_with k p) keeps.profile keeps.texts p.turn.shows in
      omega (arith, all, fewer, now, more, some)

pub has_room : (k : Kept) (p : Planned) (r : Room) (rooms : Rooms) → IsRoomFor k p r
    → r.entries ≤ rooms.files
    → r.defs ≤ rooms.defs → r.uses ≤ rooms.uses → r.calls ≤ rooms.calls
    → length k.now.marks + more p.turn.marks ≤ rooms.marks
    → length k.now.frames + more p.turn.frames ≤ rooms.frames
    → HasRoomFor rooms k.archive k.now p
has_room k p r rooms is files defs uses calls marks frames a keeps = record {
  files =
      let left = without p.turn.hides k.now.shown in
      let all =
      length_in_order (shown_name a) (left ++ p.turn.shows) ∙ length-append left p.turn.shows in
      let fewer =
      fewer_left (λ (s : Shown). not (is_among (names_of p.turn.hides) s.name)) k.now.shown in
      let e = is.entries in omega (arith, all, fewer, e, files);
  defs = let e = is.defs in counted_then k p a keeps def_count rooms.defs (omega (arith, e, defs));
  uses = let e = is.uses in counted_then k p a keeps use_count rooms.uses (omega (arith, e, uses));
  calls =
      let e = is.calls in counted_then k p a keeps call_count rooms.calls (omega (arith, e, calls));
  marks = let e = edited_length p.turn.marks k.now.marks in omega (arith, e, marks);
  frames = let e = edited_length p.turn.frames k.now.frames in omega (arith, e, frames);
}

-- what follows where a call is done
pub on_ok_along : {E : Type 0} → (A B : Type 0) (r : Result (Unit {0}) E) → (A → B)
    → OnOk r A → OnOk r B
on_ok_along A B (Ok x) along a = along a
on_ok_along A B (Err e) along a = a
