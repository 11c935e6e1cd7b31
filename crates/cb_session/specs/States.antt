-- The state of a session, and what a request does to it.
use Rattle.std.specs.Prelude.{◌≡◌, ℕ, Bool, true, false, List, [], ◌∷◌}
use Rattle.cb_desk.specs.Desk.{Counts, DeskState, IsBetween, bytes_in, counted, scanned}
use Rattle.cb_desk.specs.Timeline.{Timeline, changed, judged, new_timeline, redone, undone}
use Rattle.cb_desk.specs.Turns.{Turns}
use Rattle.cb_desk.specs.World.{WorldBounds}
use Rattle.cb_session.specs.Output.{first_refusal, later_refusals, outcome}
use Rattle.cb_session.specs.Requests.{Request, change, rebuild, redo, undo}
use Rattle.cb_scan.specs.declared.profile.Profile.{Profile}

-- the worlds of a session; how many bytes it has scanned; how often a file was shown or hidden
pub record State : Type 0 where
  pub timeline : Timeline
  pub meter : ℕ
  pub turns : ℕ

-- the state of a session on a desk
abbrev pub state_of : DeskState → State
state_of d = record { timeline = d.timeline; meter = d.meter; turns = d.turns }

-- by a profile and within some bounds no file and no past, and nothing was scanned or shown
abbrev pub new_state : Profile → WorldBounds → State
new_state p b = record { timeline = new_timeline p b; meter = 0; turns = 0 }

-- a rebuild scans so many bytes, or no more where memory was refused
abbrev pub RebuildCounts : Bool → (all old new : ℕ) → Type 0
RebuildCounts false all old new = new ≡ counted old all
RebuildCounts true all old new = IsBetween old all new

-- what a request scans: a change that is done the texts that it brings, and a rebuild every file
abbrev pub Scans : Bool → State → Request → State → Type 0
Scans out_of_memory s (change c) next =
    Counts (scanned s.timeline.present c) s.meter next.meter
    (judged out_of_memory c (changed s.timeline c))
Scans out_of_memory s rebuild next =
    RebuildCounts out_of_memory (bytes_in s.timeline.present.files) s.meter next.meter
Scans out_of_memory s _ next = next.meter ≡ s.meter

-- how often a request shows or hides a file: a move does so on the way to its world
abbrev pub Shows : Bool → State → Request → State → Type 0
Shows out_of_memory s (change c) next =
    Turns s.timeline.present next.timeline.present s.turns next.turns
    (judged out_of_memory c (changed s.timeline c))
Shows out_of_memory s undo next =
    Turns s.timeline.present next.timeline.present s.turns next.turns (undone s.timeline)
Shows out_of_memory s redo next =
    Turns s.timeline.present next.timeline.present s.turns next.turns (redone s.timeline)
Shows out_of_memory s _ next = next.turns ≡ s.turns

-- a request leads from one state to the next
pub record Leads (out_of_memory : Bool) (s : State) (e : Request) (next : State) : Type 0 where
  pub moves : next.timeline ≡ (outcome out_of_memory s.timeline e).timeline
  pub scans : Scans out_of_memory s e next
  pub shows : Shows out_of_memory s e next

-- requests lead from one state to another, each in turn; the list says which of them memory refused
unfoldable pub LeadTo : List Bool → State → List Request → State → Type 0
LeadTo refusals s [] next = next ≡ s
LeadTo refusals s (e ∷ es) next =
    (mid : State) × Leads (first_refusal refusals) s e mid
    × LeadTo (later_refusals refusals) mid es next
