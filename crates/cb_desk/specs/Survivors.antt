-- The changes that survive a list of changes, undos and redos. No world is kept: the changes alone
-- say where they lead.
use Rattle.std.specs.Prelude.{◌≡◌, nat_le, Bool, true, false, List, [], ◌∷◌, length, Result}
use Rattle.std.specs.Prelude.{Ok, Err, if◌then◌else◌}
use Rattle.cb_desk.specs.declared.change.Refusal.{Refusal}
use Rattle.cb_desk.specs.Step.{Step, step}
use Rattle.cb_desk.specs.Timeline.{Timeline, new_timeline, changed, undone, redone, judged}
use Rattle.cb_desk.specs.World.{World, WorldBounds, empty_world}
use Rattle.cb_scan.specs.declared.profile.Profile.{Profile}

-- a move that is asked for; a change says whether memory was refused to it
pub data Move : Type 0 where
  change : (out_of_memory : Bool) → Step → Move
  undo : Move
  redo : Move

-- a world, or the one before it where the step is refused
abbrev pub or_before : World → Result World Refusal → World
or_before w (Ok v) = v
or_before w (Err r) = w

-- the world after some changes, of which the last one comes first
unfoldable pub replay : Profile → WorldBounds → List Step → World
replay p b [] = empty_world p b
replay p b (s ∷ earlier) = or_before (replay p b earlier) (step (replay p b earlier) s)

-- the changes that are done, and those that are undone; each list has its nearest change first
pub record Kept : Type 0 where
  pub done : List Step
  pub undone : List Step

-- nothing is done yet
abbrev pub none_kept : Kept
none_kept = record { done = []; undone = [] }

-- a change that is accepted is done, and nothing is undone any more; the history has its limit
abbrev pub joined : WorldBounds → Kept → Step → Result World Refusal → Kept
joined b k s (Err r) = k
joined b k s (Ok w) =
    if nat_le b.history (length k.done) then k
    else record { done = s ∷ k.done; undone = [] }

-- the last change is undone
abbrev pub taken_back : Kept → List Step → Kept
taken_back k [] = k
taken_back k (s ∷ earlier) = record { done = earlier; undone = s ∷ k.undone }

-- the change that was undone last is done again
abbrev pub done_again : Kept → List Step → Kept
done_again k [] = k
done_again k (s ∷ later) = record { done = s ∷ k.done; undone = later }

-- the changes after a move; what memory refused does nothing
abbrev pub kept_by : Profile → WorldBounds → Kept → Move → Kept
kept_by p b k (change true s) = k
kept_by p b k (change false s) = joined b k s (step (replay p b k.done) s)
kept_by p b k undo = taken_back k k.done
kept_by p b k redo = done_again k k.undone

-- the changes after some moves, in their order
unfoldable pub kept_after : Profile → WorldBounds → Kept → List Move → Kept
kept_after p b k [] = k
kept_after p b k (m ∷ ms) = kept_after p b (kept_by p b k m) ms

-- the changes that survive some moves of a new timeline, the last one first
abbrev pub survivors : Profile → WorldBounds → List Move → List Step
survivors p b ms = (kept_after p b none_kept ms).done

-- ---- where they lead

-- the worlds before that of some changes, the nearest first: their replays without the last,
-- without the last two, and so on
unfoldable pub worlds_before : Profile → WorldBounds → List Step → List World
worlds_before p b [] = []
worlds_before p b (s ∷ earlier) = replay p b earlier ∷ worlds_before p b earlier

-- the worlds that changes which are done again lead to, the nearest first
unfoldable pub worlds_after : Profile → WorldBounds → List Step → List Step → List World
worlds_after p b done [] = []
worlds_after p b done (s ∷ later) = replay p b (s ∷ done) ∷ worlds_after p b (s ∷ done) later

-- the timeline that the changes say
abbrev pub timeline_of : Profile → WorldBounds → Kept → Timeline
timeline_of p b k = record {
  past = worlds_before p b k.done;
  present = replay p b k.done;
  future = worlds_after p b k.done k.undone;
}

-- ---- the same on timelines

-- a timeline, or the one before it where the move is refused
abbrev pub or_stays : Timeline → Result Timeline Refusal → Timeline
or_stays t (Ok u) = u
or_stays t (Err r) = t

-- the timeline after a move
abbrev pub moved_by : Timeline → Move → Timeline
moved_by t (change out_of_memory s) = or_stays t (judged out_of_memory s (changed t s))
moved_by t undo = or_stays t (undone t)
moved_by t redo = or_stays t (redone t)

-- the timeline after some moves, in their order
unfoldable pub moved_after : Timeline → List Move → Timeline
moved_after t [] = t
moved_after t (m ∷ ms) = moved_after (moved_by t m) ms

-- after any moves of a new timeline the present is the replay of the survivors, the past is the
-- replays of what comes before each of them, and the future that of what is undone
abbrev pub TimelineIsReplayed : Type 0
TimelineIsReplayed =
    (p : Profile) (b : WorldBounds) (ms : List Move)
    → moved_after (new_timeline p b) ms ≡ timeline_of p b (kept_after p b none_kept ms)
