use Rattle.std.proofs.Common.{◌≡◌, ◌∙◌, ap, subst, sym}
use Rattle.std.specs.Option.{option_map}
use Rattle.cb_index.specs.Archived.{Archived}
use Rattle.cb_desk.specs.Models.{step_of}
use Rattle.cb_desk.specs.Step.{place_of}
use Rattle.cb_desk.specs.steps.Records.{Numbered, place_in, world_in}
use Rattle.cb_desk.specs.steps.Walks.{Recorded, timeline_in}
use Rattle.cb_desk.proofs.ArchiveMoves.{same_recorded, same_timeline}
use Rattle.cb_desk.proofs.WalkLemmas.{kept_back}
use Rattle.cb_desk.proofs.history.History.place_of.Goals as goal

pub place_of-requires-clause-kept : goal.place_of-requires-clause-kept
place_of-requires-clause-kept c = kept_back _ _ _ _ c.self.invariant.back

pub invariant_of-self : goal.invariant_of-self
invariant_of-self c =
    let still = c.place_of.ensures.still in
    same_recorded c.self.inside.present c.place_of.new.self c.self.inside.records.items
    c.self.inside.done still.now
    (ap (λ (a : Archived). a.profile) still.archive)
    (ap (λ (a : Archived). a.names) still.archive) (ap (λ (a : Archived). a.texts) still.archive)
    still.rooms c.self.invariant

pub returns-clause-place : goal.returns-clause-place
returns-clause-place c =
    let still = c.place_of.ensures.still in
    let step = step_of c.args.change.now in
    subst (λ (w : Numbered). option_map (place_in c.place_of.new.self.archive) c.place_of.result
    ≡ place_of (world_in c.place_of.new.self.archive w) step)
    (sym still.now)
    (subst (λ (a : Archived). option_map (place_in a) c.place_of.result
    ≡ place_of (world_in a c.self.inside.present.now) step)
    (sym still.archive) c.place_of.ensures.place)

pub returns-clause-still : goal.returns-clause-still
returns-clause-still c =
    let still = c.place_of.ensures.still in record {
      timeline =
          same_timeline c.self.inside.present c.place_of.new.self c.self.inside.records.items
          c.self.inside.done still.now
          (ap (λ (a : Archived). a.profile) still.archive)
          (ap (λ (a : Archived). a.names) still.archive)
          (ap (λ (a : Archived). a.texts) still.archive) still.rooms c.self.invariant
          ∙ ap timeline_in c.self.view_is;
      turns = still.turns ∙ ap (λ (h : Recorded). h.kept.turns) c.self.view_is;
    }
