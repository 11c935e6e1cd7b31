-- A timeline and the changes that survive move together.
use Rattle.std.proofs.Common.{◌≡◌, ◌∙◌, sym, ap, refl, suc, true, false, cond, List, [], ◌∷◌}
use Rattle.std.proofs.Common.{length, Result, Ok, Err, nat_le}
use Rattle.cb_desk.specs.declared.change.Refusal.{Refusal}
use Rattle.cb_desk.specs.declared.change.Refusal.TheVariants.{HistoryFull}
use Rattle.cb_desk.specs.Step.{Step, step}
use Rattle.cb_desk.specs.Survivors.{Kept, Move, TimelineIsReplayed, change, joined, kept_after}
use Rattle.cb_desk.specs.Survivors.{kept_by, moved_after, moved_by, none_kept, or_before, or_stays}
use Rattle.cb_desk.specs.Survivors.{redo, replay, timeline_of, undo, worlds_after, worlds_before}
use Rattle.cb_desk.specs.Timeline.{Timeline, advanced, changed, judged, moved_on, redone, undone}
use Rattle.cb_desk.specs.World.{World, WorldBounds}
use Rattle.cb_desk.proofs.StepsValid.{step-bounds}
use Rattle.cb_scan.specs.declared.profile.Profile.{Profile}

-- memory refused leaves the timeline
refused-stays : (t : Timeline) (s : Step) (r : Result Timeline Refusal)
    → or_stays t (judged true s r) ≡ t
refused-stays t s (Ok u) = refl
refused-stays t s (Err e) = refl

module _ (p : Profile) (b : WorldBounds) where
  worlds-counted : (ss : List Step) → length (worlds_before p b ss) ≡ length ss
  unfolding worlds_before
  worlds-counted [] = refl
  worlds-counted (s ∷ ss) = ap suc (worlds-counted ss)

  or-bounds : (w : World) (s : Step) (r : Result World Refusal) → step w s ≡ r
      → (or_before w r).bounds ≡ w.bounds
  or-bounds w s (Ok v) is = step-bounds w v s is
  or-bounds w s (Err e) is = refl

  replay-bounds : (ss : List Step) → (replay p b ss).bounds ≡ b
  unfolding replay
  replay-bounds [] = refl
  replay-bounds (s ∷ earlier) =
      or-bounds (replay p b earlier) s (step (replay p b earlier) s) refl ∙ replay-bounds earlier

  -- a change
  joins : (k : Kept) (s : Step) (r : Result World Refusal) → step (replay p b k.done) s ≡ r
      → or_stays (timeline_of p b k) (advanced (timeline_of p b k) r) ≡ timeline_of p b (joined b k
      s r)
  unfolding replay worlds_before worlds_after
  joins k s (Err e) is = refl
  joins k s (Ok w) is =
      let counted = worlds-counted k.done in
      let next : w ≡ or_before (replay p b k.done) (step (replay p b k.done) s) =
      ap (or_before (replay p b k.done)) (sym is) in
      rw (counted, replay-bounds k.done)
      (elim (nat_le b.history (length k.done)) as
      (λ x. or_stays (timeline_of p b k)
      (cond x (Err HistoryFull) (Ok (moved_on (timeline_of p b k) w)))
      ≡ timeline_of p b (cond x k (record { done = s ∷ k.done; undone = [] }))) [
        | true ↦ refl
        | false ↦ ap (moved_on (timeline_of p b k)) next
      ])

  undoes : (done undone_steps : List Step)
      → moved_by (timeline_of p b (record { done = done; undone = undone_steps })) undo
      ≡ timeline_of p b (kept_by p b (record { done = done; undone = undone_steps }) undo)
  unfolding undone worlds_before worlds_after
  undoes [] later = refl
  undoes (s ∷ earlier) later = refl

  redoes : (done undone_steps : List Step)
      → moved_by (timeline_of p b (record { done = done; undone = undone_steps })) redo
      ≡ timeline_of p b (kept_by p b (record { done = done; undone = undone_steps }) redo)
  unfolding redone worlds_before worlds_after
  redoes done [] = refl
  redoes done (s ∷ later) = refl

  -- each move
  pub moves-replayed : (k : Kept) (m : Move)
      → moved_by (timeline_of p b k) m ≡ timeline_of p b (kept_by p b k m)
  unfolding changed
  moves-replayed k (change true s) = refused-stays (timeline_of p b k) s (changed (timeline_of p b
      k) s)
  moves-replayed k (change false s) = joins k s (step (replay p b k.done) s) refl
  moves-replayed k undo = undoes k.done k.undone
  moves-replayed k redo = redoes k.done k.undone

  all-replayed : (k : Kept) (ms : List Move)
      → moved_after (timeline_of p b k) ms ≡ timeline_of p b (kept_after p b k ms)
  unfolding moved_after kept_after
  all-replayed k [] = refl
  all-replayed k (m ∷ ms) =
      ap (λ t. moved_after t ms) (moves-replayed k m) ∙ all-replayed (kept_by p b k m) ms

pub timeline_is_replayed : TimelineIsReplayed
unfolding replay worlds_before worlds_after
timeline_is_replayed p b ms = all-replayed p b none_kept ms
