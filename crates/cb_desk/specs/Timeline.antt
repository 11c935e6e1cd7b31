-- The worlds of a session: those that undo leads back to, the present one, and those that redo
-- leads to.
use Rattle.std.specs.Prelude.{◌≡◌, ◌≤◌, ◌+◌, nat_le, Bool, true, false, List, [], ◌∷◌, length}
use Rattle.std.specs.Prelude.{Result, Ok, Err, if◌then◌else◌}
use Rattle.std.specs.List.{AllByRecursion}
use Rattle.cb_desk.specs.declared.change.Refusal.{Refusal}
use Rattle.cb_desk.specs.declared.change.Refusal.TheVariants.{NothingToUndo, NothingToRedo}
use Rattle.cb_desk.specs.declared.change.Refusal.TheVariants.{HistoryFull, OutOfMemory}
use Rattle.cb_desk.specs.World.{World, WorldBounds, empty_world, IsValidWorld}
use Rattle.cb_desk.specs.Step.{Step, step}
use Rattle.cb_scan.specs.declared.profile.Profile.{Profile}

-- the past and the future, each with its nearest world first, and the present
pub record Timeline : Type 0 where
  pub past : List World
  pub present : World
  pub future : List World

-- by a profile and within some bounds no file, no past and no future
abbrev pub new_timeline : Profile → WorldBounds → Timeline
new_timeline p b = record { past = []; present = empty_world p b; future = [] }

-- the timeline without its past and without its future
abbrev pub forgotten : Timeline → Timeline
forgotten t = record { past = []; present = t.present; future = [] }

-- a world is valid, and has the profile and the bounds of another one
abbrev pub IsValidBeside : World → World → Type 0
IsValidBeside present w =
    IsValidWorld w × ((w.profile ≡ present.profile) × (w.bounds ≡ present.bounds))

-- every world is valid, of the same profile and within the same bounds, and there are not too many
pub record IsValidTimeline (t : Timeline) : Type 0 where
  pub before : AllByRecursion (IsValidBeside t.present) t.past
  pub now : IsValidWorld t.present
  pub later : AllByRecursion (IsValidBeside t.present) t.future
  pub bounded : length t.past + length t.future ≤ t.present.bounds.history

-- the timeline with a new present: the old one joins the past, and the future is gone
abbrev pub moved_on : Timeline → World → Timeline
moved_on t w = record { past = t.present ∷ t.past; present = w; future = [] }

-- the timeline moved on to a new world, or why there is none
abbrev pub advanced : Timeline → Result World Refusal → Result Timeline Refusal
advanced t (Err r) = Err r
advanced t (Ok w) =
    if nat_le t.present.bounds.history (length t.past) then Err HistoryFull else Ok (moved_on t w)

-- the timeline after a change
unfoldable pub changed : Timeline → Step → Result Timeline Refusal
changed t s = advanced t (step t.present s)

-- the timeline one world back: the old present joins the future
abbrev pub back_to : List World → Timeline → Result Timeline Refusal
back_to [] t = Err NothingToUndo
back_to (w ∷ ws) t = Ok (record { past = ws; present = w; future = t.present ∷ t.future })

-- the timeline after an undo
unfoldable pub undone : Timeline → Result Timeline Refusal
undone t = back_to t.past t

-- the timeline one world on: the old present joins the past
abbrev pub on_to : List World → Timeline → Result Timeline Refusal
on_to [] t = Err NothingToRedo
on_to (w ∷ ws) t = Ok (record { past = t.present ∷ t.past; present = w; future = ws })

-- the timeline after a redo
unfoldable pub redone : Timeline → Result Timeline Refusal
redone t = on_to t.future t

-- the outcome of a change; when memory runs out, one that would be done is refused
abbrev pub judged : Bool → Step → Result Timeline Refusal → Result Timeline Refusal
judged false s meant = meant
judged true s (Ok t) = Err OutOfMemory
judged true s (Err r) = Err r

-- a call moves the timeline as meant, or refuses for the reason meant and moves nothing
abbrev pub Moves : Result Timeline Refusal → Timeline → Timeline
    → Result (Unit {0}) Refusal → Type 0
Moves meant old new (Ok _) = meant ≡ Ok new
Moves meant old new (Err r) = (meant ≡ Err r) × (new ≡ old)

-- a change moves the timeline as meant, or memory was refused to it
abbrev pub Changes : Step → Timeline → Timeline → Result (Unit {0}) Refusal → Type 0
Changes s old new result =
    (out_of_memory : Bool) × Moves (judged out_of_memory s (changed old s)) old new result
