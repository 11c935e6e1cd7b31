-- Operands: the files that are loaded before a run.
use Rattle.std.specs.Prelude.{◌≡◌, ℕ, ◌+◌, List, [], ◌∷◌, length, Some, Result, Ok, Err, IsOk}
use Rattle.cb_desk.specs.declared.change.Refusal.{Refusal}
use Rattle.cb_desk.specs.declared.change.Refusal.TheVariants.{OutOfMemory}
use Rattle.cb_session.specs.declared.input.Ended.{Ended}
use Rattle.cb_session.specs.declared.input.Ended.TheVariants.{Operand as StoppedAt}
use Rattle.cb_session.specs.declared.state.Operand.{Operand}
use Rattle.cb_desk.specs.Desk.{bytes_in, counted}
use Rattle.cb_desk.specs.World.{File, WorldBounds}
use Rattle.cb_desk.specs.Step.{load}
use Rattle.cb_desk.specs.Timeline.{Timeline, new_timeline, changed}
use Rattle.cb_tags.specs.Readers.{Reader}
use Rattle.cb_session.specs.Inputs.{inputs}
use Rattle.cb_session.specs.Serving.{LeavesRun}
use Rattle.cb_session.specs.States.{State}
use Rattle.cb_tags.specs.Writers.{Writer}
use Rattle.cb_scan.specs.declared.profile.Profile.{Profile}

-- the file that an operand is
abbrev pub file_of_operand : Operand → File
file_of_operand o = record { name = o.name.items; bytes = o.bytes.items }

-- where loads stop: the place of an operand, counted from 0, and why it is refused
pub record RefusedOperand : Type 0 where
  pub place : ℕ
  pub why : Refusal

-- loads one after another, and where they lead: all are done, or the first that is refused ends
-- them; memory refuses only what would be done
pub data Loads : ℕ → Timeline → List File → Result Timeline RefusedOperand → Type 0 where
  all_loaded : {place : ℕ} {t : Timeline} → Loads place t [] (Ok t)
  first_loaded : {place : ℕ} {t u : Timeline} {f : File} {fs : List File}
      {end : Result Timeline RefusedOperand}
      → changed t (load f.name f.bytes) ≡ Ok u → Loads (place + 1) u fs end
      → Loads place t (f ∷ fs) end
  first_refused : {place : ℕ} {t : Timeline} {f : File} {fs : List File} {r : Refusal}
      → changed t (load f.name f.bytes) ≡ Err r
      → Loads place t (f ∷ fs) (Err (record { place = place; why = r }))
  memory_refused : {place : ℕ} {t : Timeline} {f : File} {fs : List File}
      → IsOk (changed t (load f.name f.bytes))
      → Loads place t (f ∷ fs) (Err (record { place = place; why = OutOfMemory }))

-- the operands are loads of a new timeline, by a profile and within some bounds: each text is
-- scanned once, and each file is shown once
abbrev pub LoadsAll : Profile → WorldBounds → List File → Result State RefusedOperand → Type 0
LoadsAll p b files (Ok s) =
    Loads 0 (new_timeline p b) files (Ok s.timeline)
    × (s.meter ≡ counted 0 (bytes_in files)) × (s.turns ≡ counted 0 (length files))
LoadsAll p b files (Err stop) = Loads 0 (new_timeline p b) files (Err stop)

-- all operands are loaded; or the first that is refused ends the run
abbrev pub Prepares : Profile → WorldBounds → List File → Result State Ended → Type 0
Prepares p b files (Ok s) = LoadsAll p b files (Ok s)
Prepares p b files (Err (StoppedAt place why)) =
    LoadsAll p b files (Err (record { place = place; why = why }))
Prepares p b files (Err _) = ⊥

-- a run over these bytes, which allows so many lines and at most `limit` bytes in each of them and
-- in each block, that begins where the loads lead; where one is refused nothing is read and nothing
-- is written
abbrev pub RunsFrom : Result State RefusedOperand → (lines limit : ℕ) → List ℕ → Reader
    → Writer → Writer → Ended → Type 0
RunsFrom (Ok s) lines limit bytes feed old new ended =
    LeavesRun (inputs lines limit bytes) s feed old new ended
RunsFrom (Err stop) lines limit bytes feed old new ended =
    (ended ≡ StoppedAt stop.place stop.why) × (feed.bytes ≡ Some bytes) × (new ≡ old)

-- a run with operands, by a profile and within some bounds
abbrev pub Runs : Profile → WorldBounds → List File → (lines limit : ℕ) → List ℕ → Reader
    → Writer → Writer → Ended → Type 0
Runs p b files lines limit bytes feed old new ended =
    (end : Result State RefusedOperand) × LoadsAll p b files end
    × RunsFrom end lines limit bytes feed old new ended
