-- Records lead back and on.
use Rattle.std.proofs.Common.{◌≡◌, ◌∙◌, sym, ap, refl, subst, ℕ, suc, ◌+◌, ◌<◌, ◌≤◌, Bool, true}
use Rattle.std.proofs.Common.{false, List, [], ◌∷◌, ◌++◌, take, drop, length, get_or, slice_set}
use Rattle.std.proofs.Common.{reverse, Option, Some, None, Ok, Err, add-one, arith, length-take-le}
use Rattle.std.specs.Prelude.{not}
use Rattle.std.proofs.Math.Seq.{drop-cons}
use Rattle.std.proofs.lemmas.List.{reverse-append, take_more, take_more_set, take-set, drop-set}
use Rattle.std.proofs.lemmas.List.{drop-set-lt, drop_all, length-map, length-reverse, length-set}
use Rattle.std.specs.List.Sorted.{IsStrictlySortedBy}
use Rattle.cb_scan.specs.declared.profile.Profile.{Profile}
use Rattle.cb_scan.specs.Order.{in_order}
use Rattle.cb_index.specs.Archived.{Archived}
use Rattle.cb_index.specs.Files.{AreApart, shown_name}
use Rattle.cb_desk.specs.declared.edits.Edit.{Edit}
use Rattle.cb_desk.specs.declared.change.Refusal.TheVariants.{NothingToUndo, NothingToRedo}
use Rattle.cb_desk.specs.Timeline.{IsValidTimeline, Timeline, new_timeline, undone, redone}
use Rattle.cb_desk.specs.Turns.{touched}
use Rattle.cb_desk.specs.World.{AreBounds, IsValidWorld, WorldBounds, empty_world}
use Rattle.cb_desk.specs.steps.Edits.{Edits, both, each, edited, renaming, turned_each}
use Rattle.cb_desk.specs.steps.Edits.{turned_edits}
use Rattle.cb_desk.specs.steps.Records.{Fits, IsTurn, Kept, KeepsRooms, Numbered, no_numbers, Rooms}
use Rattle.cb_desk.specs.steps.Records.{Turn, kept_wanted, other, other_wanted, turned, without}
use Rattle.cb_desk.specs.steps.Records.{world_in}
use Rattle.cb_desk.specs.steps.Walks.{IsKept, IsNext, IsRecorded, LeadsBack, LeadsOn, Recorded}
use Rattle.cb_desk.specs.steps.Walks.{timeline_in, turns_back, turns_on, walk, worlds_in}
use Rattle.cb_desk.proofs.AllUsed.{all_used}
use Rattle.cb_desk.proofs.Moves.{undo_keeps_valid, redo_keeps_valid}

-- ---- a turn and the turn back
not_not : (b : Bool) → not (not b) ≡ b
not_not true = refl
not_not false = refl

each_twice : (es : List Edit) → turned_each (turned_each es) ≡ es
each_twice [] = refl
each_twice (e ∷ es) =
    ap (λ b. record e { is_put = b } ∷ turned_each (turned_each es)) (not_not e.is_put)
    ∙ ap (λ xs. e ∷ xs) (each_twice es)

turned_twice : (es : Edits) → turned_edits (turned_edits es) ≡ es
turned_twice (each es) = ap each (each_twice es)
turned_twice (both old new) = refl
turned_twice (renaming r) = refl

wanted_again : (t w : Option (Option (List ℕ))) (x : Option (List ℕ)) → t ≡ w
    → other_wanted (kept_wanted t x) (other_wanted t x) ≡ x
wanted_again None w x e = refl
wanted_again (Some y) w x e = refl

module _ (a : Archived) (t : Turn) (w : Numbered) (is : IsTurn a t w) where
  abbrev then : Numbered
  then = other a t w

  shown_again : in_order (shown_name a) (without t.shows then.shown ++ t.hides) ≡ w.shown
  shown_again = ap (λ xs. in_order (shown_name a) (xs ++ t.hides)) is.others ∙ is.shown

  -- the turn back leads back
  pub back_again : other a (turned t w) then ≡ w
  back_again =
      ap (λ xs. record (other a (turned t w) then) { shown = xs }) shown_again
      ∙ ap (λ x. record w {
        wanted = x;
        marks = edited (turned_edits t.marks) (edited t.marks w.marks);
        frames = edited (turned_edits t.frames) (edited t.frames w.frames);
      })
      (wanted_again t.wanted t.wanted w.wanted refl)
      ∙ ap (λ xs. record w
      { marks = xs; frames = edited (turned_edits t.frames) (edited t.frames w.frames) }) is.marks
      ∙ ap (λ xs. record w { frames = xs }) is.frames

  pub turns_back_again : IsTurn a (turned t w) then
  turns_back_again = record {
    hides_rise = is.shows_rise;
    shows_rise = is.hides_rise;
    apart = subst (λ xs. AreApart a (xs ++ t.shows)) (sym is.others) is.apart_then;
    apart_then = subst (λ xs. AreApart a (xs ++ t.hides)) (sym is.others) is.apart;
    shown = ap (λ xs. in_order (shown_name a) (xs ++ t.shows)) is.others;
    others = ap (λ xs. without t.hides xs) shown_again ∙ sym is.others;
    marks =
        ap (λ es. edited es (edited (turned_edits t.marks) (edited t.marks w.marks)))
        (turned_twice t.marks) ∙ ap (λ xs. edited t.marks xs) is.marks;
    frames =
        ap (λ es. edited es (edited (turned_edits t.frames) (edited t.frames w.frames)))
        (turned_twice t.frames) ∙ ap (λ xs. edited t.frames xs) is.frames;
    few = record {
      on =
          let e = ap (λ x. length (touched (world_in a then) (world_in a x))) back_again in
          let few = is.few.back in omega (arith, e, few);
      back =
          let e = ap (λ x. length (touched (world_in a x) (world_in a then))) back_again in
          let few = is.few.on in omega (arith, e, few);
    };
  }

-- ---- more room
pub fits_more : (r s : Rooms) (a : Archived) (w : Numbered) → KeepsRooms r s
    → Fits r a w → Fits s a w
fits_more r s a w more fits = record {
  files = let x = fits.files in let y = more.files in omega (arith, x, y);
  defs = let x = fits.defs in let y = more.defs in omega (arith, x, y);
  uses = let x = fits.uses in let y = more.uses in omega (arith, x, y);
  calls = let x = fits.calls in let y = more.calls in omega (arith, x, y);
  marks = let x = fits.marks in let y = more.marks in omega (arith, x, y);
  frames = let x = fits.frames in let y = more.frames in omega (arith, x, y);
}

pub kept_more : (r s : Rooms) (a : Archived) (w : Numbered) → KeepsRooms r s
    → IsKept r a w → IsKept s a w
kept_more r s a w more is = record { there = is.there; fits = fits_more r s a w more is.fits }

pub back_more : (r s : Rooms) (a : Archived) (w : Numbered) (ts : List Turn) → KeepsRooms r s
    → LeadsBack r a w ts → LeadsBack s a w ts
unfolding LeadsBack
back_more r s a w [] more is = (kept_more r s a w more is.0, is.1)
back_more r s a w (t ∷ ts) more is =
    (kept_more r s a w more is.0, is.1, is.2, back_more r s a (other a t w) ts more is.3)

pub on_more : (r s : Rooms) (a : Archived) (w : Numbered) (ts : List Turn) → KeepsRooms r s
    → LeadsOn r a w ts → LeadsOn s a w ts
unfolding LeadsOn
on_more r s a w [] more is = (kept_more r s a w more is.0, is.1)
on_more r s a w (t ∷ ts) more is =
    (kept_more r s a w more is.0, is.1, is.2, on_more r s a (other a t w) ts more is.3)

-- ---- the present is within reach
pub kept_back : (r : Rooms) (a : Archived) (w : Numbered) (ts : List Turn)
    → LeadsBack r a w ts → IsKept r a w
unfolding LeadsBack
kept_back r a w [] is = is.0
kept_back r a w (t ∷ ts) is = is.0

pub kept_on : (r : Rooms) (a : Archived) (w : Numbered) (ts : List Turn)
    → LeadsOn r a w ts → IsKept r a w
unfolding LeadsOn
kept_on r a w [] is = is.0
kept_on r a w (t ∷ ts) is = is.0

-- ---- undo and redo, over the records that lead back and on
module _ (r : Rooms) (a : Archived) (w : Numbered) (t : Turn) (bs os : List Turn) where
  abbrev next : Numbered
  next = other a t w

  pub on_after_undo : LeadsBack r a w (t ∷ bs) → LeadsOn r a w os
      → LeadsOn r a next (turned t w ∷ os)
  unfolding LeadsBack LeadsOn
  on_after_undo back on = (
    kept_back r a next bs back.3,
    turns_back_again a t w back.1,
    subst (λ x. IsNext next x) (sym (back_again a t w back.1)) back.2,
    subst (λ x. LeadsOn r a x os) (sym (back_again a t w back.1)) on,
  )

  pub back_after_redo : LeadsOn r a w (t ∷ os) → LeadsBack r a w bs
      → LeadsBack r a next (turned t w ∷ bs)
  unfolding LeadsBack LeadsOn
  back_after_redo on back = (
    kept_on r a next os on.3,
    turns_back_again a t w on.1,
    subst (λ x. IsNext x next) (sym (back_again a t w on.1)) on.2,
    subst (λ x. LeadsBack r a x bs) (sym (back_again a t w on.1)) back,
  )

-- ---- undo and redo, over one list of records

-- the timeline of some turns back and on
abbrev pub line : Archived → List Turn → Numbered → List Turn → Timeline
line a bs w os = record {
  past = worlds_in a (walk a w bs);
  present = world_in a w;
  future = worlds_in a (walk a w os);
}

module _ (k : Kept) (records : List Turn) (d : ℕ) (t : Turn) (within : d < length records)
    (at_d : t ≡ get_or records d t) where
  abbrev after_it : Numbered
  after_it = other k.archive t k.now

  abbrev undo_from : Recorded
  undo_from = record { kept = k; records = records; done = d + 1 }

  abbrev redo_from : Recorded
  redo_from = record { kept = k; records = records; done = d }

  back_first : turns_back undo_from ≡ t ∷ turns_back redo_from
  back_first =
      ap reverse (take_more records d t within)
      ∙ reverse-append (take d records) (get_or records d t ∷ [])
      ∙ ap (λ x. x ∷ reverse (take d records)) (sym at_d)

  pub on_first : turns_on redo_from ≡ t ∷ turns_on undo_from
  on_first = drop-cons records d t within ∙ rw (← at_d, add-one d) refl

  module _ (is : IsRecorded undo_from) where
    undo_can : LeadsBack k.rooms k.archive k.now (t ∷ turns_back redo_from)
    undo_can = subst (LeadsBack k.rooms k.archive k.now) back_first is.back

    pub undo_turn : IsTurn k.archive t k.now
    unfolding LeadsBack
    undo_turn = undo_can.1

    pub undo_kept : IsKept k.rooms k.archive after_it
    unfolding LeadsBack
    undo_kept = kept_back k.rooms k.archive after_it (turns_back redo_from) undo_can.3

  module _ (is : IsRecorded redo_from) where
    redo_can : LeadsOn k.rooms k.archive k.now (t ∷ turns_on undo_from)
    redo_can = subst (LeadsOn k.rooms k.archive k.now) on_first is.on

    pub redo_turn : IsTurn k.archive t k.now
    unfolding LeadsOn
    redo_turn = redo_can.1

    pub redo_kept : IsKept k.rooms k.archive after_it
    unfolding LeadsOn
    redo_kept = kept_on k.rooms k.archive after_it (turns_on undo_from) redo_can.3

  module _ (l : Kept) (u : Turn) (archive : l.archive ≡ k.archive)
      (now : l.now ≡ other k.archive t k.now) (turn : u ≡ turned t k.now)
      (rooms : KeepsRooms k.rooms l.rooms) where
    abbrev undo_to : Recorded
    undo_to = record { kept = l; records = slice_set records d u; done = d }

    abbrev redo_to : Recorded
    redo_to = record { kept = l; records = slice_set records d u; done = d + 1 }

    undo_back : turns_back undo_to ≡ turns_back redo_from
    undo_back = ap reverse (take-set records d u)

    undo_on : turns_on undo_to ≡ u ∷ turns_on undo_from
    undo_on = drop-set records d u within

    redo_back : turns_back redo_to ≡ u ∷ turns_back redo_from
    redo_back =
        ap reverse (take_more_set records d u within) ∙ reverse-append (take d records) (u ∷ [])

    redo_on : turns_on redo_to ≡ turns_on undo_from
    redo_on = drop-set-lt (d + 1) records d u (omega arith)

    abbrev undo_lands_at : Numbered → Timeline
    undo_lands_at x = record {
      past = worlds_in k.archive (walk k.archive after_it (turns_back redo_from));
      present = world_in k.archive after_it;
      future = world_in k.archive x ∷ worlds_in k.archive (walk k.archive x (turns_on undo_from));
    }

    undo_lands : timeline_in undo_to ≡ undo_lands_at (other k.archive (turned t k.now) after_it)
    undo_lands =
        ap (λ a. line a (turns_back undo_to) l.now (turns_on undo_to)) archive
        ∙ ap (λ bs. line k.archive bs l.now (turns_on undo_to)) undo_back
        ∙ ap (λ w. line k.archive (turns_back redo_from) w (turns_on undo_to)) now
        ∙ ap (line k.archive (turns_back redo_from) after_it)
        (undo_on ∙ ap (λ x. x ∷ turns_on undo_from) turn)

    undo_leaves : undone (timeline_in undo_from) ≡ Ok (undo_lands_at k.now)
    unfolding undone
    undo_leaves = rw back_first refl

    pub undo_is : IsRecorded undo_from → undone (timeline_in undo_from) ≡ Ok (timeline_in undo_to)
    undo_is is =
        undo_leaves ∙ sym (ap (λ u. Ok u)
        (undo_lands ∙ ap undo_lands_at (back_again k.archive t k.now (undo_turn is))))

    undo_leads_back : IsRecorded undo_from
        → LeadsBack undo_to.kept.rooms undo_to.kept.archive undo_to.kept.now (turns_back undo_to)
    unfolding LeadsBack
    undo_leads_back is =
        rw (undo_back, archive, now)
        (back_more k.rooms l.rooms k.archive after_it (turns_back redo_from) rooms (undo_can is).3)

    undo_leads_on : IsRecorded undo_from
        → LeadsOn undo_to.kept.rooms undo_to.kept.archive undo_to.kept.now (turns_on undo_to)
    undo_leads_on is =
        rw (undo_on, archive, now, turn)
        (on_more k.rooms l.rooms k.archive after_it (turned t k.now ∷ turns_on undo_from) rooms
        (on_after_undo k.rooms k.archive k.now t (turns_back redo_from) (turns_on undo_from)
        (undo_can is) is.on))

    pub undo_recorded : IsRecorded undo_from → IsRecorded undo_to
    undo_recorded is = record {
      within = rw (length-set records d u) (omega (arith, within));
      used = all_used undo_to (undo_leads_back is) (undo_leads_on is);
      back = undo_leads_back is;
      on = undo_leads_on is;
      valid = undo_keeps_valid (timeline_in undo_from) (timeline_in undo_to) is.valid (undo_is is);
    }

    abbrev redo_lands_at : Numbered → Timeline
    redo_lands_at x = record {
      past = world_in k.archive x ∷ worlds_in k.archive (walk k.archive x (turns_back redo_from));
      present = world_in k.archive after_it;
      future = worlds_in k.archive (walk k.archive after_it (turns_on undo_from));
    }

    redo_lands : timeline_in redo_to ≡ redo_lands_at (other k.archive (turned t k.now) after_it)
    redo_lands =
        ap (λ a. line a (turns_back redo_to) l.now (turns_on redo_to)) archive
        ∙ ap (λ os. line k.archive (turns_back redo_to) l.now os) redo_on
        ∙ ap (λ w. line k.archive (turns_back redo_to) w (turns_on undo_from)) now
        ∙ ap (λ bs. line k.archive bs after_it (turns_on undo_from))
        (redo_back ∙ ap (λ x. x ∷ turns_back redo_from) turn)

    redo_leaves : redone (timeline_in redo_from) ≡ Ok (redo_lands_at k.now)
    unfolding redone
    redo_leaves = rw on_first refl

    pub redo_is : IsRecorded redo_from → redone (timeline_in redo_from) ≡ Ok (timeline_in redo_to)
    redo_is is =
        redo_leaves ∙ sym (ap (λ u. Ok u)
        (redo_lands ∙ ap redo_lands_at (back_again k.archive t k.now (redo_turn is))))

    redo_leads_back : IsRecorded redo_from
        → LeadsBack redo_to.kept.rooms redo_to.kept.archive redo_to.kept.now (turns_back redo_to)
    redo_leads_back is =
        rw (redo_back, archive, now, turn)
        (back_more k.rooms l.rooms k.archive after_it (turned t k.now ∷ turns_back redo_from) rooms
        (back_after_redo k.rooms k.archive k.now t (turns_back redo_from) (turns_on undo_from)
        (redo_can is) is.back))

    redo_leads_on : IsRecorded redo_from
        → LeadsOn redo_to.kept.rooms redo_to.kept.archive redo_to.kept.now (turns_on redo_to)
    unfolding LeadsOn
    redo_leads_on is =
        rw (redo_on, archive, now)
        (on_more k.rooms l.rooms k.archive after_it (turns_on undo_from) rooms (redo_can is).3)

    pub redo_recorded : IsRecorded redo_from → IsRecorded redo_to
    redo_recorded is = record {
      within = rw (length-set records d u) (omega (arith, within));
      used = all_used redo_to (redo_leads_back is) (redo_leads_on is);
      back = redo_leads_back is;
      on = redo_leads_on is;
      valid = redo_keeps_valid (timeline_in redo_from) (timeline_in redo_to) is.valid (redo_is is);
    }

-- nothing to undo, nothing to redo
pub undo_nothing : (h : Recorded) → h.done ≡ 0 → undone (timeline_in h) ≡ Err NothingToUndo
unfolding undone
undo_nothing h none = rw none refl

pub redo_nothing : (h : Recorded) → h.done ≡ length h.records
    → redone (timeline_in h) ≡ Err NothingToRedo
unfolding redone
redo_nothing h all =
    let none : drop h.done h.records ≡ [] = drop_all h.done h.records (omega (arith, all)) in
    rw none refl

-- the world without a file is within reach
empty_is_valid : (p : Profile) (b : WorldBounds) → AreBounds b → IsValidWorld (empty_world p b)
unfolding IsStrictlySortedBy
empty_is_valid p b bounds = record {
  bounds = bounds;
  files = record { names = tt; sizes = tt; count = omega arith; ascending = tt };
  marks = refl;
  frames = tt;
}

pub new_valid : (p : Profile) (b : WorldBounds) → AreBounds b
    → IsValidTimeline (new_timeline p b)
new_valid p b bounds = record {
  before = tt;
  now = empty_is_valid p b bounds;
  later = tt;
  bounded = omega arith;
}

pub nothing_recorded : (b : WorldBounds) → AreBounds b → (k : Kept) → k.now ≡ no_numbers b
    → k.archive.names ≡ [] → k.archive.texts ≡ []
    → IsRecorded (record { kept = k; records = []; done = 0 })
unfolding LeadsBack LeadsOn
nothing_recorded b bounds k is names texts = record {
  within = omega arith;
  used = all_used (record { kept = k; records = []; done = 0 }) no_past no_future;
  back = no_past;
  on = no_future;
  valid = rw is (new_valid k.archive.profile b bounds);
}
  where
    none : IsKept k.rooms k.archive k.now
    none = rw is (record {
      there = record {
        shown = tt;
        marks = tt;
        frames = tt;
        names = omega arith;
        versions = omega arith;
      };
      fits = record {
        files = omega arith;
        defs = omega arith;
        uses = omega arith;
        calls = omega arith;
        marks = omega arith;
        frames = omega arith;
      };
    })

    no_past : LeadsBack k.rooms k.archive k.now []
    no_past =
        let unused = ap (λ (w : Numbered). w.versions) is in
        (none, λ v below. absurd (omega (arith, unused, below)))

    no_future : LeadsOn k.rooms k.archive k.now []
    no_future = (
      none,
      record {
        names = ap (λ (w : Numbered). w.names) is ∙ sym (ap length names);
        versions = ap (λ (w : Numbered). w.versions) is ∙ sym (ap length texts);
      },
    )

-- as many worlds are the past as records lead back
walk_length : (a : Archived) (w : Numbered) (ts : List Turn) → length (walk a w ts) ≡ length ts
walk_length a w [] = refl
walk_length a w (t ∷ ts) = ap suc (walk_length a (other a t w) ts)

pub past_length : (h : Recorded) → h.done ≤ length h.records → length (timeline_in h).past ≡ h.done
past_length h within =
    length-map (walk h.kept.archive h.kept.now (turns_back h)) (world_in h.kept.archive)
    ∙ walk_length h.kept.archive h.kept.now (turns_back h)
    ∙ length-reverse (take h.done h.records)
    ∙ length-take-le h.done h.records within
