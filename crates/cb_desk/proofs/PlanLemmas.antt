-- A plan makes its world the only one to come.
use Rattle.std.proofs.Common.{◌≡◌, ◌∙◌, ◌≤◌, ◌<◌, ℕ, true, false, List, [], ◌∷◌, ◌++◌, refl, sym}
use Rattle.std.proofs.Common.{ap, subst, length, take, drop, reverse, arith, length-append}
use Rattle.std.proofs.Common.{length-take-le}
use Rattle.std.proofs.Math.Seq.{take-append_seam, drop-append_seam}
use Rattle.std.proofs.lemmas.Bool.{true≢false}
use Rattle.std.specs.Prelude.{Result, Ok, Err, IsErr, MatchResult, is_err}
use Rattle.std.specs.declared.alloc.AllocError.{AllocError}
use Rattle.cb_desk.specs.declared.change.Refusal.{Refusal}
use Rattle.cb_desk.specs.Timeline.{Timeline, IsValidTimeline, Moves, moved_on, redone}
use Rattle.cb_desk.specs.World.{World, IsValidWorld}
use Rattle.cb_desk.specs.steps.Plans.{HasRoomFor, IsPlan, Keeps, LeadsTo, Planned}
use Rattle.cb_desk.specs.steps.Records.{AreThere, Fits, IsTurn, Kept, KeepsRooms, Turn, other}
use Rattle.cb_desk.specs.steps.Records.{world_in}
use Rattle.cb_desk.specs.steps.Walks.{IsKept, IsNext, IsRecorded, LeadsBack, LeadsOn, Recorded}
use Rattle.cb_desk.specs.steps.Walks.{UsesAll, timeline_in, turns_back, turns_on}
use Rattle.cb_desk.proofs.AllUsed.{all_used}
use Rattle.cb_desk.proofs.ArchiveMoves.{Agree, agree_kept, back_same, walk_same, world_same}
use Rattle.cb_desk.proofs.WalkLemmas.{back_more, kept_back, kept_more, line}

module _ (k l : Kept) (records : List Turn) (done : ℕ) (p : Planned)
    (within : done ≤ length records)
    (keeps : Keeps k.archive k.now p l.archive) (now : l.now ≡ k.now)
    (rooms : KeepsRooms k.rooms l.rooms) where
  abbrev from : Recorded
  from = record { kept = k; records = records; done = done }

  abbrev to : Recorded
  to = record { kept = l; records = take done records ++ p.turn ∷ []; done = done }

  long : length (take done records) ≡ done
  long = length-take-le done records within

  back_is : turns_back to ≡ turns_back from
  back_is =
      ap reverse (ap (λ n. take n (take done records ++ p.turn ∷ [])) (sym long)
      ∙ take-append_seam (take done records) (p.turn ∷ []))

  pub on_is : turns_on to ≡ p.turn ∷ []
  on_is =
      ap (λ n. drop n (take done records ++ p.turn ∷ [])) (sym long)
      ∙ drop-append_seam (take done records) (p.turn ∷ [])

  module _ (is : IsRecorded from) (v : World) (plan : IsPlan k p v) where
    agree : Agree k.archive l.archive k.now.names k.now.versions
    agree =
        let there = (kept_back k.rooms k.archive k.now (turns_back from) is.back).there in
        agree_kept k.archive l.archive k.now.names k.now.versions p.names p.texts there.names
        there.versions keeps.profile keeps.names keeps.texts

    leads : LeadsTo k p v l.archive
    leads = plan.1 l.archive keeps

    pub next_is : timeline_in to ≡ record (timeline_in from) { future = v ∷ [] }
    next_is =
        ap (λ w. line l.archive (turns_back to) w (turns_on to)) now
        ∙ ap (λ bs. line l.archive bs k.now (turns_on to)) back_is
        ∙ ap (line l.archive (turns_back from) k.now) on_is
        ∙ (λ i. record {
          past =
              walk_same k.archive l.archive k.now.names k.now.versions agree k.rooms k.now
              (turns_back from) (omega arith) (omega arith) is.back i;
          present = world_same k.archive l.archive k.now.names k.now.versions agree k.now
              (kept_back k.rooms k.archive k.now (turns_back from) is.back).there
              (omega arith) (omega arith) i;
          future = leads.world i ∷ [];
        })

    pub next_recorded : HasRoomFor k.rooms k.archive k.now p → IsValidWorld v
        → length (timeline_in from).past < k.now.bounds.history → IsRecorded to
    unfolding LeadsOn
    next_recorded fits valid short =
        let back : LeadsBack l.rooms l.archive k.now (turns_back from) =
        back_more k.rooms l.rooms l.archive k.now (turns_back from) rooms
        (back_same k.archive l.archive k.now.names k.now.versions agree k.rooms k.now
        (turns_back from) (omega arith) (omega arith) is.back) in
        let then : IsKept l.rooms l.archive (other l.archive p.turn k.now) =
        kept_more k.rooms l.rooms l.archive (other l.archive p.turn k.now) rooms
        (record { there = leads.there; fits = fits l.archive keeps }) in
        let leads_back : LeadsBack l.rooms l.archive l.now (turns_back to) =
        subst (λ bs. LeadsBack l.rooms l.archive l.now bs) (sym back_is)
        (subst (λ w. LeadsBack l.rooms l.archive w (turns_back from)) (sym now) back) in
        let leads_on : LeadsOn l.rooms l.archive l.now (turns_on to) =
        subst (λ os. LeadsOn l.rooms l.archive l.now os) (sym on_is)
        (subst (λ w. LeadsOn l.rooms l.archive w (p.turn ∷ [])) (sym now) (
          kept_back l.rooms l.archive k.now (turns_back from) back,
          leads.turn,
          leads.next,
          (then, leads.all),
        )) in
        record {
          within =
              let e = length-append (take done records) (p.turn ∷ []) in omega (arith, e, long);
          used = all_used to leads_back leads_on;
          back = leads_back;
          on = leads_on;
          valid = subst IsValidTimeline (sym next_is) (record {
            before = is.valid.before;
            now = is.valid.now;
            later = (
              (
                valid,
                (
                  sym (ap (λ (w : World). w.profile) leads.world) ∙ keeps.profile,
                  sym (ap (λ (w : World). w.bounds) leads.world),
                ),
              ),
              tt,
            );
            bounded = omega (arith, short);
          });
        }

-- ---- redo of the only world to come
module _ (t u : Timeline) (v : World) (next : u ≡ record t { future = v ∷ [] }) where
  redone_is : redone u ≡ Ok (moved_on t v)
  unfolding redone
  redone_is = rw next refl

  pub redone_not_refused : (w : Timeline) (r : Result (Unit {0}) Refusal) → Moves (redone u) u w r
      → is_err r ≡ true → ⊥
  redone_not_refused w (Ok x) moves refused = absurd (true≢false (sym refused))
  redone_not_refused w (Err e) moves refused = not_both (moved_on t v) e (sym redone_is ∙ moves.0)
    where
      not_both : (s : Timeline) (e : Refusal) → Ok s ≡ Err e → ⊥
      not_both s e same = cc

  pub redone_next : (w : Timeline) (r : Result (Unit {0}) Refusal) → Moves (redone u) u w r
      → is_err r ≡ false → w ≡ moved_on t v
  redone_next w (Ok x) moves fine = one w (moved_on t v) (redone u) moves redone_is
    where
      one : (a b : Timeline) (r : Result Timeline Refusal) → r ≡ Ok a → r ≡ Ok b → a ≡ b
      one a b r e h = cc
  redone_next w (Err e) moves fine = absurd (true≢false fine)

-- what a refused growth leaves
pub refused_as : (A B : Type 0) (r : Result (Unit {0}) AllocError) → IsErr r → B
    → MatchResult r (λ x. A) (λ x. B)
refused_as A B (Ok x) is b = absurd (true≢false (sym is))
refused_as A B (Err e) is b = b

-- a plan stays one where only room changes
pub plan_moved : (k l : Kept) (p : Planned) (v : World) → l.now ≡ k.now
    → l.archive.profile ≡ k.archive.profile
    → l.archive.names ≡ k.archive.names → l.archive.texts ≡ k.archive.texts
    → IsPlan k p v → IsPlan l p v
plan_moved k l p v now profile names texts plan = (
  plan.0 ∙ sym profile,
  λ a keeps.
      let kept : Keeps k.archive k.now p a = record {
        profile = keeps.profile ∙ profile;
        names = keeps.names ∙ (λ i. take (now i).names (names i) ++ p.names);
        texts = keeps.texts ∙ (λ i. take (now i).versions (texts i) ++ p.texts);
      } in
      let leads = plan.1 a kept in
      record {
        turn = subst (λ w. IsTurn a p.turn w) (sym now) leads.turn;
        there = subst (λ w. AreThere a (other a p.turn w)) (sym now) leads.there;
        world = ap (λ w. world_in a (other a p.turn w)) now ∙ leads.world;
        next = subst (λ w. IsNext w (other a p.turn w)) (sym now) leads.next;
        all = subst (λ w. UsesAll a (other a p.turn w)) (sym now) leads.all;
      },
)

-- and so does room
pub room_moved : (k l : Kept) (p : Planned) → l.now ≡ k.now
    → l.archive.profile ≡ k.archive.profile → l.archive.names ≡ k.archive.names
    → l.archive.texts ≡ k.archive.texts
    → HasRoomFor l.rooms k.archive k.now p → HasRoomFor l.rooms l.archive l.now p
room_moved k l p now profile names texts room a keeps =
    subst (λ w. Fits l.rooms a (other a p.turn w)) (sym now)
    (room a (record {
      profile = keeps.profile ∙ profile;
      names = keeps.names ∙ (λ i. take (now i).names (names i) ++ p.names);
      texts = keeps.texts ∙ (λ i. take (now i).versions (texts i) ++ p.texts);
    }))
