-- Plans that leave the files as they are.
use Rattle.std.proofs.Common.{◌≡◌, ◌∙◌, ◌≤◌, ◌<◌, ◌+◌, ◌-◌, ℕ, zero, suc, true, false, List, []}
use Rattle.std.proofs.Common.{◌∷◌, ◌++◌, refl, sym, ap, subst, length, map, take, drop, arith}
use Rattle.std.proofs.Common.{append-nil, length-append, length-take-le, take-append-drop}
use Rattle.std.specs.Prelude.{Option, None, Result, Ok, Err, IfOk, cond}
use Rattle.std.specs.List.{AllByRecursion}
use Rattle.cb_scan.specs.Order.{AreOrdered, goes_first, in_order, put}
use Rattle.cb_scan.proofs.OrderLemmas.{Sorted}
use Rattle.cb_index.specs.Archived.{Archived}
use Rattle.cb_index.specs.Compact.{shows_version}
use Rattle.cb_index.specs.Files.{AreAscending, AreApart, files_of, shown_name}
use Rattle.cb_index.specs.declared.entry.Shown.{Shown}
use Rattle.cb_index.proofs.AscendLemmas.{ascending_sorted}
use Rattle.cb_index.proofs.ListedLemmas.{ascending_apart}
use Rattle.cb_desk.specs.declared.edits.Edit.{Edit}
use Rattle.cb_desk.specs.declared.places.FileLine.{FileLine}
use Rattle.std.proofs.lemmas.List.{length-map}
use Rattle.cb_desk.specs.Stack.{popped}
use Rattle.cb_desk.specs.declared.renaming.Renaming.{Renaming}
use Rattle.cb_desk.specs.steps.Edits.{Edits, both, each, edited, edited_each, more}
use Rattle.cb_desk.specs.steps.Edits.{renamed, renaming, with_number}
use Rattle.cb_desk.specs.steps.Plans.{AreEdits, IsPlan, Keeps, LeadsTo, Planned, with_places}
use Rattle.cb_desk.specs.steps.Records.{Kept, Numbered, Turn, other, other_wanted, place_in}
use Rattle.cb_desk.specs.steps.Records.{without, world_in}
use Rattle.cb_desk.specs.steps.Walks.{IsKept, shows_name}
use Rattle.cb_desk.proofs.AllUsed.{none_new}
use Rattle.cb_desk.proofs.TurnLemmas.{few_small}
use Rattle.cb_desk.proofs.ArchiveMoves.{Agree, agree_kept, apart_same, below_shown, files_same}
use Rattle.cb_desk.proofs.ArchiveMoves.{order_same, places_same}

-- ---- the length of an edited list
each_length : (es : List Edit) (ps : List FileLine)
    → length (edited_each es ps) ≤ length ps + length es
each_length [] ps = omega arith
each_length (e ∷ es) ps =
    let here = parts e.kept ps in
    let put = each_length es (drop e.kept ps) in
    let taken = each_length es (drop 1 (drop e.kept ps)) in
    let fewer = drop_one (drop e.kept ps) in
    elim e.is_put as
    (λ b. length (take e.kept ps ++ (cond b (e.place ∷ edited_each es (drop e.kept ps))
    (edited_each es (drop 1 (drop e.kept ps))))) ≤ length ps + length (e ∷ es)) [
      | true ↦ let all =
          length-append (take e.kept ps) (e.place ∷ edited_each es (drop e.kept ps)) in
          omega (arith, here, put, all)
      | false ↦ let all =
          length-append (take e.kept ps) (edited_each es (drop 1 (drop e.kept ps))) in
          omega (arith, here, taken, fewer, all)
    ]
  where
    parts : (n : ℕ) (xs : List FileLine) → length (take n xs) + length (drop n xs) ≡ length xs
    parts n xs = sym (length-append (take n xs) (drop n xs)) ∙ ap length (take-append-drop n xs)

    drop_one : (xs : List FileLine) → length (drop 1 xs) ≤ length xs
    drop_one [] = omega arith
    drop_one (x ∷ xs) = omega arith

-- a renamed list is as long
pub renamed_length : (r : Renaming) (ps : List FileLine) → length (renamed r ps) ≡ length ps
renamed_length r ps =
    let qs = map (with_number r) ps in
    let all = parts r.end qs in
    let front = parts r.start (take r.end qs) in
    let range = parts r.split (drop r.start (take r.end qs)) in
    let kept = take r.start (take r.end qs) in
    let first = take r.split (drop r.start (take r.end qs)) in
    let others = drop r.split (drop r.start (take r.end qs)) in
    let one : length (renamed r ps) ≡ length (kept ++ (others ++ first)) + length (drop r.end qs) =
    length-append (kept ++ (others ++ first)) (drop r.end qs) in
    let two = length-append kept (others ++ first) in
    let three = length-append others first in
    let same = length-map ps (with_number r) in
    omega (arith, all, front, range, one, two, three, same)
  where
    parts : (n : ℕ) (xs : List FileLine) → length (take n xs) + length (drop n xs) ≡ length xs
    parts n xs = sym (length-append (take n xs) (drop n xs)) ∙ ap length (take-append-drop n xs)

pub edited_length : (es : Edits) (ps : List FileLine)
    → length (edited es ps) ≤ length ps + more es
edited_length (each es) ps = each_length es ps
edited_length (both old new) ps = omega arith
edited_length (renaming r) ps = let same = renamed_length r ps in omega (arith, same)

-- ---- a list that is in order
pub put_first : {X : Type 0} (key : X → List ℕ) (x : X) (xs : List X)
    → AllByRecursion (λ y. goes_first key x y ≡ true) xs → put key x xs ≡ x ∷ xs
unfolding put
put_first key x [] all = refl
put_first key x (y ∷ ys) all = ap (λ b. cond b (x ∷ y ∷ ys) (y ∷ put key x ys)) all.0

pub settled : {X : Type 0} (key : X → List ℕ) (xs : List X) → Sorted key xs → in_order key xs ≡ xs
unfolding in_order AreOrdered
settled key [] sorted = refl
settled key (x ∷ xs) sorted = ap (put key x) (settled key xs sorted.1) ∙ put_first key x xs sorted.0

-- ---- nothing is hidden and nothing is shown
pub without_none : (shown : List Shown) → without [] shown ≡ shown
without_none [] = refl
without_none (s ∷ shown) = ap (λ xs. s ∷ xs) (without_none shown)

module _ (k : Kept) (p : Planned) (wanted : Option (Option (List ℕ))) (marks frames : Edits)
    (kept : IsKept k.rooms k.archive k.now)
    (ascending : AreAscending k.archive k.now.shown) (profile : p.profile ≡ k.archive.profile)
    (names : p.names ≡ []) (texts : p.texts ≡ [])
    (turn : p.turn ≡ record {
      hides = [];
      shows = [];
      wanted = wanted;
      marks = marks;
      frames = frames;
      names = k.now.names;
      versions = k.now.versions;
    })
    (are_marks : AreEdits k.now.names marks k.now.marks)
    (are_frames : AreEdits k.now.names frames k.now.frames) where
  abbrev the_turn : Turn
  the_turn = record {
    hides = [];
    shows = [];
    wanted = wanted;
    marks = marks;
    frames = frames;
    names = k.now.names;
    versions = k.now.versions;
  }

  module _ (a : Archived) (keeps : Keeps k.archive k.now p a) where
    agree : Agree k.archive a k.now.names k.now.versions
    agree =
        agree_kept k.archive a k.now.names k.now.versions p.names p.texts kept.there.names
        kept.there.versions keeps.profile keeps.names keeps.texts

    all_below : AllByRecursion
        (λ (s : Shown). (s.name < k.now.names) × (s.version < k.now.versions)) k.now.shown
    all_below =
        below_shown k.archive a k.now.names k.now.versions agree k.now kept.there
        (omega arith) (omega arith)

    both_same : without [] k.now.shown ++ [] ≡ k.now.shown
    both_same = append-nil (without [] k.now.shown) ∙ without_none k.now.shown

    in_place : in_order (shown_name a) k.now.shown ≡ k.now.shown
    in_place =
        order_same k.archive a k.now.names k.now.versions agree k.now.shown all_below
        ∙ settled (shown_name k.archive) k.now.shown
        (ascending_sorted k.archive k.now.shown ascending)

    shown_same : in_order (shown_name a) (without [] k.now.shown ++ []) ≡ k.now.shown
    shown_same = ap (in_order (shown_name a)) both_same ∙ in_place

    stays_apart : AreApart a (without [] k.now.shown ++ [])
    stays_apart =
        subst (AreApart a) (sym both_same)
        (apart_same k.archive a k.now.names k.now.versions agree k.now.shown all_below
        (ascending_apart k.archive k.now.shown ascending))

    abbrev then : Numbered
    then = other a the_turn k.now

    leads : LeadsTo k (record p { turn = the_turn })
        (with_places k.archive k.now wanted marks frames) a
    leads = record {
      turn = record {
        hides_rise = λ i below. absurd (omega (arith, below));
        shows_rise = λ i below. absurd (omega (arith, below));
        apart = stays_apart;
        apart_then = stays_apart;
        shown = shown_same;
        others = ap (without []) shown_same;
        marks = are_marks.back;
        frames = are_frames.back;
        few = few_small a the_turn k.now (omega arith);
      };
      there = record {
        shown =
            subst
            (AllByRecursion (λ (s : Shown). (s.name < k.now.names) × (s.version < k.now.versions)))
            (sym shown_same) all_below;
        marks = are_marks.named;
        frames = are_frames.named;
        names = agree.name_count;
        versions = agree.text_count;
      };
      world = λ i. record {
        profile = keeps.profile i;
        bounds = k.now.bounds;
        files =
            (ap (files_of a) shown_same
            ∙ files_same k.archive a k.now.names k.now.versions agree k.now.shown all_below) i;
        wanted = other_wanted wanted k.now.wanted;
        marks =
            places_same k.archive a k.now.names k.now.versions agree
            (edited marks k.now.marks) are_marks.named i;
        frames =
            places_same k.archive a k.now.names k.now.versions agree
            (edited frames k.now.frames) are_frames.named i;
      };
      next = record {
        names = omega arith;
        versions = omega arith;
        all_names = λ n above below.
            none_new k.now.names k.now.names n (shows_name n then.shown ≡ true) refl above below;
        all_versions = λ v above below.
            none_new k.now.versions k.now.versions v
            (shows_version v then.shown ≡ true) refl above below;
      };
      all = record {
        names =
            let e =
            ap length keeps.names ∙ length-append (take k.now.names k.archive.names) p.names in
            let t = length-take-le k.now.names k.archive.names kept.there.names in
            let none = ap length names in omega (arith, e, t, none);
        versions =
            let e =
            ap length keeps.texts ∙ length-append (take k.now.versions k.archive.texts) p.texts in
            let t = length-take-le k.now.versions k.archive.texts kept.there.versions in
            let none = ap length texts in omega (arith, e, t, none);
      };
    }

  pub places_planned : IsPlan k p (with_places k.archive k.now wanted marks frames)
  places_planned = (
    profile,
    λ a keeps.
        subst (λ t. LeadsTo k (record p { turn = t })
        (with_places k.archive k.now wanted marks frames) a) (sym turn) (leads a keeps),
  )

-- the world without its top frame
module _ (a : Archived) where
  taken_places : (n : ℕ) (ps : List FileLine)
      → map (place_in a) (take n ps) ≡ take n (map (place_in a) ps)
  taken_places zero ps = refl
  taken_places (suc n) [] = refl
  taken_places (suc n) (p ∷ ps) = ap (λ xs. place_in a p ∷ xs) (taken_places n ps)

  pub popped_world : (w : Numbered) (frames : Edits)
      → edited frames w.frames ≡ take (length w.frames - 1) w.frames
      → with_places a w None (each []) frames ≡ popped (world_in a w)
  popped_world w frames is =
      ap (λ xs. record (world_in a w) { frames = xs })
      (ap (map (place_in a)) is ∙ taken_places (length w.frames - 1) w.frames
      ∙ ap (λ n. take (n - 1) (map (place_in a) w.frames)) (sym (length-map w.frames (place_in a))))

-- what holds of a value that is given holds as well
pub ok_along : {T E : Type 0} (P Q : T → Type 0) (r : Result T E) → ((x : T) → P x → Q x)
    → IfOk r P → IfOk r Q
ok_along P Q (Ok x) along p = along x p
ok_along P Q (Err e) along p = p
