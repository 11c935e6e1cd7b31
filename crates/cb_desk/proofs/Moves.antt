-- What changes, undos and redos do to a timeline.
use Rattle.std.proofs.Common.{◌≡◌, ◌∙◌, sym, ap, refl, subst, ℕ, ◌<◌, Bool, true, false, cond, List}
use Rattle.std.proofs.Common.{[], ◌∷◌, length, arith, Result, Ok, Err, Option, Some, None, nat_le}
use Rattle.std.specs.List.{AllByRecursion}
use Rattle.cb_desk.specs.declared.change.Refusal.{Refusal}
use Rattle.cb_desk.specs.declared.change.Refusal.TheVariants.{HistoryFull, OutOfMemory}
use Rattle.cb_desk.specs.World.{World, WorldBounds, IsValidWorld}
use Rattle.cb_desk.specs.Step.{Step, refusal_of, after, step}
use Rattle.cb_desk.specs.Timeline.{Timeline, IsValidTimeline, moved_on, advanced, changed, back_to}
use Rattle.cb_desk.specs.Timeline.{IsValidBeside, undone, on_to, redone, Changes, Moves}
use Rattle.cb_desk.specs.Timeline.{forgotten}
use Rattle.cb_desk.specs.Laws.{UndoTakesBack, RedoTakesBack}
use Rattle.cb_desk.proofs.StepsValid.{step-bounds, step-profile, step_keeps_valid}
use Rattle.cb_desk.proofs.Valid.{all-along}

same-Ok : (a b : Timeline) (r : Result Timeline Refusal) → r ≡ Ok a → r ≡ Ok b → a ≡ b
same-Ok a b r e h = cc

abbrev pub accepted : World → Result World Refusal
accepted w = Ok w

-- an accepted change: the step was accepted, and the old present joins the past
pub record Advances (t u : Timeline) (w : World) : Type 0 where
  pub short : length t.past < t.present.bounds.history
  pub is : u ≡ moved_on t w

pub advanced-Ok : (t u : Timeline) (r : Result World Refusal) → advanced t r ≡ Ok u
    → (w : World) × (r ≡ Ok w) × Advances t u w
advanced-Ok t u (Err e) h = cc
advanced-Ok t u (Ok w) h =
    let Q : Type 0 = (v : World) × (accepted w ≡ Ok v) × Advances t u v in
    (elim (nat_le t.present.bounds.history (length t.past)) as
    (λ b. nat_le t.present.bounds.history (length t.past) ≡ b
    → cond b (Err HistoryFull) (Ok (moved_on t w)) ≡ Ok u → Q) [
      | true ↦ λ full k. cc
      | false ↦ λ full k. (w, refl, record { short = grind arith; is = cc })
    ]) refl h

pub undo_takes_back : UndoTakesBack
unfolding changed undone
undo_takes_back t u s h =
    let found = advanced-Ok t u (step t.present s) h in
    rw found.2.is refl

redo-undone : (past : List World) (t u : Timeline) → t.past ≡ past → back_to past t ≡ Ok u
    → redone u ≡ Ok t
unfolding redone
redo-undone [] t u e h = cc
redo-undone (w ∷ ws) t u e h =
    let is : record { past = ws; present = w; future = t.present ∷ t.future } ≡ u =
    same-Ok _ u (back_to (w ∷ ws) t) refl h in
    rw (← is, ← e) refl

undo-redone : (future : List World) (t u : Timeline) → t.future ≡ future → on_to future t ≡ Ok u
    → undone u ≡ Ok t
unfolding undone
undo-redone [] t u e h = cc
undo-redone (w ∷ ws) t u e h =
    let is : record { past = t.present ∷ t.past; present = w; future = ws } ≡ u =
    same-Ok _ u (on_to (w ∷ ws) t) refl h in
    rw (← is, ← e) refl

pub redo_takes_back : RedoTakesBack
unfolding undone redone
redo_takes_back = record {
  undo = λ t u h. redo-undone t.past t u refl h;
  redo = λ t u h. undo-redone t.future t u refl h;
}

-- two worlds have one profile and the same bounds
abbrev pub AreAlike : World → World → Type 0
AreAlike v w = (v.profile ≡ w.profile) × (v.bounds ≡ w.bounds)

turned-alike : (v w : World) → AreAlike v w → AreAlike w v
turned-alike v w same = (sym same.0, sym same.1)

-- valid beside a world, and beside one like it
beside : (v w : World) → AreAlike v w → (ws : List World)
    → AllByRecursion (IsValidBeside v) ws → AllByRecursion (IsValidBeside w) ws
beside v w same ws all =
    all-along (IsValidBeside v) (IsValidBeside w) ws
    (λ x is. (is.0, (is.1.0 ∙ same.0, is.1.1 ∙ same.1))) all

-- a past that is not as long as it may be is shorter
pub below_most : (most n : ℕ) → nat_le most n ≡ false → n < most
below_most most n few = grind (arith, few)

-- a change of a valid timeline to a valid world
pub moved_on-valid : (t : Timeline) (w : World) → IsValidTimeline t → IsValidWorld w
    → AreAlike w t.present → length t.past < t.present.bounds.history
    → IsValidTimeline (moved_on t w)
moved_on-valid t w valid next same short = record {
  before =
      let other = turned-alike w t.present same in
      ((valid.now, other), beside t.present w other t.past valid.before);
  now = next;
  later = tt;
  bounded = let e = ap (λ (b : WorldBounds). b.history) same.1 in omega (arith, short, e);
}

pub change_keeps_valid : (t u : Timeline) (s : Step) → IsValidTimeline t → changed t s ≡ Ok u
    → IsValidTimeline u
unfolding changed
change_keeps_valid t u s valid h =
    let found = advanced-Ok t u (step t.present s) h in
    rw found.2.is (moved_on-valid t found.0 valid
    (step_keeps_valid t.present found.0 s valid.now found.1)
    (step-profile t.present found.0 s found.1, step-bounds t.present found.0 s found.1)
    found.2.short)

back-valid : (past : List World) (t u : Timeline) → t.past ≡ past → IsValidTimeline t
    → back_to past t ≡ Ok u → IsValidTimeline u
back-valid [] t u e valid h = cc
back-valid (w ∷ ws) t u e valid h =
    let is : record { past = ws; present = w; future = t.present ∷ t.future } ≡ u =
    same-Ok _ u (back_to (w ∷ ws) t) refl h in
    let worlds : AllByRecursion (IsValidBeside t.present) (w ∷ ws) =
    subst (AllByRecursion (IsValidBeside t.present)) e valid.before in
    let same = turned-alike w t.present worlds.0.1 in
    subst IsValidTimeline is (record {
      before = beside t.present w same ws worlds.1;
      now = worlds.0.0;
      later = ((valid.now, same), beside t.present w same t.future valid.later);
      bounded =
          let bounded = valid.bounded in let long : length t.past ≡ length (w ∷ ws) = ap length e in
          let most = ap (λ (b : WorldBounds). b.history) same.1 in
          omega (arith, bounded, long, most);
    })

pub undo_keeps_valid : (t u : Timeline) → IsValidTimeline t → undone t ≡ Ok u → IsValidTimeline u
unfolding undone
undo_keeps_valid t u valid h = back-valid t.past t u refl valid h

on-valid : (future : List World) (t u : Timeline) → t.future ≡ future → IsValidTimeline t
    → on_to future t ≡ Ok u → IsValidTimeline u
on-valid [] t u e valid h = cc
on-valid (w ∷ ws) t u e valid h =
    let is : record { past = t.present ∷ t.past; present = w; future = ws } ≡ u =
    same-Ok _ u (on_to (w ∷ ws) t) refl h in
    let worlds : AllByRecursion (IsValidBeside t.present) (w ∷ ws) =
    subst (AllByRecursion (IsValidBeside t.present)) e valid.later in
    let same = turned-alike w t.present worlds.0.1 in
    subst IsValidTimeline is (record {
      before = ((valid.now, same), beside t.present w same t.past valid.before);
      now = worlds.0.0;
      later = beside t.present w same ws worlds.1;
      bounded =
          let bounded = valid.bounded in let long : length t.future ≡ length (w ∷ ws) =
          ap length e in let most = ap (λ (b : WorldBounds). b.history) same.1 in
          omega (arith, bounded, long, most);
    })

pub redo_keeps_valid : (t u : Timeline) → IsValidTimeline t → redone t ≡ Ok u → IsValidTimeline u
unfolding redone
redo_keeps_valid t u valid h = on-valid t.future t u refl valid h

-- the present alone
pub forget_keeps_valid : (t : Timeline) → IsValidTimeline t → IsValidTimeline (forgotten t)
forget_keeps_valid t valid =
    record { before = tt; now = valid.now; later = tt; bounded = omega arith }

-- ---- what moves as meant stays valid
pub moves-keep-valid : (meant : Result Timeline Refusal) (t u : Timeline)
    (r : Result (Unit {0}) Refusal) → IsValidTimeline t
    → ((v : Timeline) → meant ≡ Ok v → IsValidTimeline v) → Moves meant t u r → IsValidTimeline u
moves-keep-valid meant t u (Ok x) valid keeps moves = keeps u moves
moves-keep-valid meant t u (Err r) valid keeps moves = subst IsValidTimeline (sym moves.1) valid

-- ---- changes as they are judged and done

pub none-from : (o : Option Refusal) → ((r : Refusal) → o ≡ Some r → ⊥) → o ≡ None
none-from None h = refl
none-from (Some r) h = absurd (h r refl)

-- a desk judges a step by its present world, and finds o
module _ (t : Timeline) (s : Step) (present : World) (same : present ≡ t.present)
    (o : Option Refusal) (found : o ≡ refusal_of present s) where
  -- the step is refused
  pub refused : (r : Refusal) → o ≡ Some r → Changes s t t (Err r)
  unfolding changed step
  refused r is = (false, (rw (← same, ← found, is) refl, refl))

  module _ (due : (r : Refusal) → o ≡ Some r → ⊥) where
    accepted-step : step t.present s ≡ Ok (after t.present s)
    unfolding step
    accepted-step = let none = sym found ∙ none-from o due in rw (← same, none) refl

    -- the next world is valid
    pub valid-after : (w : World) → IsValidWorld present → w ≡ after present s → IsValidWorld w
    valid-after w valid is =
        step_keeps_valid t.present w s (subst IsValidWorld same valid)
        (accepted-step ∙ rw (is, same) refl)

    module _ (b : Bool) (is : b ≡ nat_le t.present.bounds.history (length t.past)) where
      -- the past is full
      pub full : b ≡ true → Changes s t t (Err HistoryFull)
      unfolding changed
      full long = let l = sym is ∙ long in (false, (rw (accepted-step, l) refl, refl))

      -- memory is refused to a step that would be done
      pub no-memory : b ≡ false → (u : Timeline) → u ≡ t
          → (e : Result (Unit {0}) Refusal) → e ≡ Err OutOfMemory → Changes s t u e
      unfolding changed
      no-memory short u kept e err =
          let l = sym is ∙ short in
          rw (kept, err) (true, (rw (accepted-step, l) refl, refl))

      -- the step is done
      pub done : b ≡ false → (u : Timeline) (w : World) → w ≡ after present s → u ≡ moved_on t w
          → Changes s t u (Ok tt)
      unfolding changed
      done short u w made ends =
          let l = sym is ∙ short in (false, rw (accepted-step, l, ends, made, same) refl)
