-- What follows from the definitions of worlds and timelines.
use Rattle.std.specs.Prelude.{◌≡◌, ◌∷◌, [], Ok}
use Rattle.cb_desk.specs.declared.bounds.TheConstants.{MOST_BYTES, MOST_FILES, MOST_TEXT}
use Rattle.cb_desk.specs.World.{World, IsValidWorld}
use Rattle.cb_desk.specs.Step.{Step, step}
use Rattle.cb_desk.specs.Timeline.{Timeline, changed, forgotten, undone, redone, IsValidTimeline}

-- the most bytes and files that bounds allow, and the longest text that is wanted or put in place
-- of one
pub record AreLimits : Type 0 where
  pub bytes : MOST_BYTES ≡ 268435456
  pub files : MOST_FILES ≡ 1048576
  pub text : MOST_TEXT ≡ 4096

-- an accepted change followed by undo gives back the past and the present, and the new world is
-- the future
abbrev pub UndoTakesBack : Type 0
UndoTakesBack =
    (t u : Timeline) (s : Step) → changed t s ≡ Ok u
    → undone u ≡ Ok (record t { future = u.present ∷ [] })

-- an undo followed by redo, and a redo followed by undo, give the timeline back
pub record RedoTakesBack : Type 0 where
  pub undo : (t u : Timeline) → undone t ≡ Ok u → redone u ≡ Ok t
  pub redo : (t u : Timeline) → redone t ≡ Ok u → undone u ≡ Ok t

-- the world after an accepted change is valid where the one before it was
abbrev pub StepKeepsValid : Type 0
StepKeepsValid = (w v : World) (s : Step) → IsValidWorld w → step w s ≡ Ok v → IsValidWorld v

-- a valid timeline stays valid by an accepted change, by an undo, by a redo, and without its past
-- and future
pub record TimelineStaysValid : Type 0 where
  pub by_change : (t u : Timeline) (s : Step) → IsValidTimeline t
      → changed t s ≡ Ok u → IsValidTimeline u
  pub by_undo : (t u : Timeline) → IsValidTimeline t → undone t ≡ Ok u → IsValidTimeline u
  pub by_redo : (t u : Timeline) → IsValidTimeline t → redone t ≡ Ok u → IsValidTimeline u
  pub by_forget : (t : Timeline) → IsValidTimeline t → IsValidTimeline (forgotten t)
