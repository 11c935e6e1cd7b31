-- The output of a run, told by the changes that survive: each reply is that of the world which
-- their replay gives.
use Rattle.std.specs.Prelude.{◌≡◌, ℕ, Bool, false, List, [], ◌∷◌, ◌++◌, map, Ok}
use Rattle.cb_desk.specs.Step.{load}
use Rattle.cb_desk.specs.Survivors.{Kept, Move, kept_after, kept_by, none_kept, timeline_of}
use Rattle.cb_desk.specs.Survivors as move
use Rattle.cb_desk.specs.Timeline.{Timeline, new_timeline}
use Rattle.cb_desk.specs.World.{File, WorldBounds}
use Rattle.cb_session.specs.Operands.{Loads}
use Rattle.cb_session.specs.Output.{exchange, first_refusal, later_refusals, output}
use Rattle.cb_session.specs.Requests.{Request, change, undo, redo}
use Rattle.cb_scan.specs.declared.profile.Profile.{Profile}

-- the changes after a request; only changes, undo and redo move anything
abbrev pub kept_by_request : Profile → WorldBounds → Bool → Kept → Request → Kept
kept_by_request p b out_of_memory k (change s) = kept_by p b k (move.change out_of_memory s)
kept_by_request p b out_of_memory k undo = kept_by p b k move.undo
kept_by_request p b out_of_memory k redo = kept_by p b k move.redo
kept_by_request p b out_of_memory k _ = k

-- the output of requests behind some changes; the list says which of them memory refused
unfoldable pub replayed_output : Profile → WorldBounds → List Bool → Kept → List Request → List ℕ
replayed_output p b refusals k [] = []
replayed_output p b refusals k (e ∷ es) =
    exchange (first_refusal refusals) (timeline_of p b k) e
    ++ replayed_output p b (later_refusals refusals)
    (kept_by_request p b (first_refusal refusals) k e) es

-- the output of a run is that
abbrev pub OutputIsReplayed : Type 0
OutputIsReplayed =
    (p : Profile) (b : WorldBounds) (refusals : List Bool) (k : Kept) (es : List Request)
    → output refusals (timeline_of p b k) es ≡ replayed_output p b refusals k es

-- an operand is a change like any other
abbrev pub load_of : File → Move
load_of f = move.change false (load f.name f.bytes)

-- a run begins where the loads of its operands lead
abbrev pub OperandsAreReplayed : Type 0
OperandsAreReplayed =
    (p : Profile) (b : WorldBounds) (files : List File) (t : Timeline) → Loads 0 (new_timeline p b)
    files (Ok t)
    → t ≡ timeline_of p b (kept_after p b none_kept (map load_of files))
