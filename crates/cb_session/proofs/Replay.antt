-- The timeline of a run and the changes that survive move together.
use Rattle.std.proofs.Common.{◌≡◌, ◌∙◌, sym, ap, refl, subst, ℕ, ◌+◌, Bool, List, [], ◌∷◌, ◌++◌}
use Rattle.std.proofs.Common.{map, Result, Ok, Err}
use Rattle.cb_desk.specs.declared.change.Refusal.{Refusal}
use Rattle.cb_desk.specs.Step.{load}
use Rattle.cb_desk.specs.Survivors.{Kept, kept_after, kept_by, none_kept, or_stays, replay}
use Rattle.cb_desk.specs.Survivors.{timeline_of, worlds_after, worlds_before}
use Rattle.cb_desk.specs.Survivors as move
use Rattle.cb_desk.specs.Timeline.{Timeline, changed, judged, new_timeline, redone, undone}
use Rattle.cb_desk.specs.World.{File, World, WorldBounds}
use Rattle.cb_desk.proofs.Replays.{moves-replayed}
use Rattle.cb_session.specs.Operands.{Loads, RefusedOperand, all_loaded, first_loaded}
use Rattle.cb_session.specs.Operands.{first_refused, memory_refused}
use Rattle.cb_session.specs.Output.{change_reply, done_line, exchange, first_refusal}
use Rattle.cb_session.specs.Output.{later_refusals, moved, outcome, output}
use Rattle.cb_session.specs.Replay.{OperandsAreReplayed, OutputIsReplayed, kept_by_request, load_of}
use Rattle.cb_session.specs.Replay.{replayed_output}
use Rattle.cb_session.specs.Requests.{Request, query, change, undo, redo, rebuild, tags_file}
use Rattle.cb_session.specs.Requests.{listing, marks, stack, refused, nothing, quit, overlong}
use Rattle.cb_scan.specs.declared.profile.Profile.{Profile}

moved-timeline : (t : Timeline) (reply : World → List ℕ) (r : Result Timeline Refusal)
    → (moved t reply r).timeline ≡ or_stays t r
moved-timeline t reply (Ok u) = refl
moved-timeline t reply (Err e) = refl

request-replayed : (p : Profile) (b : WorldBounds) (m : Bool) (k : Kept) (e : Request)
    → (outcome m (timeline_of p b k) e).timeline ≡ timeline_of p b (kept_by_request p b m k e)
unfolding outcome
request-replayed p b m k (query field pattern) = refl
request-replayed p b m k (change s) =
    moved-timeline (timeline_of p b k) (change_reply s) (judged m s (changed (timeline_of p b k) s))
    ∙ moves-replayed p b k (move.change m s)
request-replayed p b m k undo =
    moved-timeline (timeline_of p b k) (λ _. done_line) (undone (timeline_of p b k))
    ∙ moves-replayed p b k move.undo
request-replayed p b m k redo =
    moved-timeline (timeline_of p b k) (λ _. done_line) (redone (timeline_of p b k))
    ∙ moves-replayed p b k move.redo
request-replayed p b m k rebuild = refl
request-replayed p b m k (tags_file format) = refl
request-replayed p b m k listing = refl
request-replayed p b m k marks = refl
request-replayed p b m k stack = refl
request-replayed p b m k (refused r) = refl
request-replayed p b m k nothing = refl
request-replayed p b m k quit = refl
request-replayed p b m k overlong = refl

pub output_is_replayed : OutputIsReplayed
unfolding output replayed_output
output_is_replayed p b refusals k [] = refl
output_is_replayed p b refusals k (e ∷ es) =
    let m = first_refusal refusals in
    let first = exchange m (timeline_of p b k) e in
    ap (λ t. first ++ output (later_refusals refusals) t es) (request-replayed p b m k e)
    ∙ ap (λ l. first ++ l) (output_is_replayed p b (later_refusals refusals)
    (kept_by_request p b m k e) es)

-- an accepted load
load-replayed : (p : Profile) (b : WorldBounds) (k : Kept) (f : File) (u : Timeline)
    → changed (timeline_of p b k) (load f.name f.bytes) ≡ Ok u
    → u ≡ timeline_of p b (kept_by p b k (load_of f))
load-replayed p b k f u is =
    ap (or_stays (timeline_of p b k)) (sym is) ∙ moves-replayed p b k (load_of f)

same-Ok : (a b : Timeline) (r : Result Timeline RefusedOperand) → r ≡ Ok a → r ≡ Ok b → a ≡ b
same-Ok a b r e h = cc

loads-replayed : (p : Profile) (b : WorldBounds) (place : ℕ) (start : Timeline) (k : Kept)
    (files : List File) (end : Result Timeline RefusedOperand) (t : Timeline)
    → start ≡ timeline_of p b k → end ≡ Ok t → Loads place start files end
    → t ≡ timeline_of p b (kept_after p b k (map load_of files))
unfolding kept_after
loads-replayed p b place start k [] end t at ends all_loaded =
    sym (same-Ok start t (Ok start) refl ends) ∙ at
loads-replayed p b place start k (f ∷ fs) end t at ends (first_loaded {u = u} is rest) =
    loads-replayed p b (place + 1) u (kept_by p b k (load_of f)) fs end t
    (load-replayed p b k f u (subst (λ v. changed v (load f.name f.bytes) ≡ Ok u) at is)) ends rest
loads-replayed p b place start k (f ∷ fs) end t at ends (first_refused is) = cc
loads-replayed p b place start k (f ∷ fs) end t at ends (memory_refused is) = cc

pub operands_are_replayed : OperandsAreReplayed
unfolding replay worlds_before worlds_after
operands_are_replayed p b files t loads =
    loads-replayed p b 0 (new_timeline p b) none_kept files (Ok t) t refl refl loads
