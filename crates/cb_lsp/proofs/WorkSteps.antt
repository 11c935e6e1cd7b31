-- What the steps of a message do to the files and the documents.
use Rattle.std.proofs.Common.{◌≡◌, ◌∙◌, sym, ap, refl, subst, ◌<◌, ◌≤◌, ℕ, arith, length}
use Rattle.std.proofs.Common.{Bool, true, false, cond, nat_le, nat_lt, List, []}
use Rattle.std.proofs.Common.{None, Some, Result, Ok, Err, ◌⊎◌, inl, inr}
use Rattle.cb_tags.specs.Names.{is_file_name}
use Rattle.cb_desk.specs.declared.change.Refusal.{Refusal}
use Rattle.cb_desk.specs.declared.change.Refusal.TheVariants.{HistoryFull, OutOfMemory, TooLarge}
use Rattle.cb_desk.specs.Step.{Step, after, load, reload, refusal_of, step, unless_refused}
use Rattle.cb_desk.specs.Timeline.{Timeline, advanced, changed, forgotten, judged, moved_on}
use Rattle.cb_desk.specs.World.{File, World, has_file, text_of_file}
use Rattle.cb_desk.proofs.Moves.{accepted, advanced-Ok}
use Rattle.cb_desk.proofs.StepsValid.{step-bounds}
use Rattle.cb_desk.specs.World.{WorldBounds, text_named}
use Rattle.cb_desk.proofs.PlaceLemmas.{no-text}
use Rattle.std.proofs.lemmas.Bool.{lt-ltb}
use Rattle.cb_lsp.specs.Documents.{Document, Work, document_of, taken, text, text_step, was_lost}
use Rattle.cb_lsp.specs.steps.Noted.{keeps_present}
use Rattle.cb_lsp.specs.steps.Works.{Becomes, IsForgotten, kept_before, text_at}

-- ---- a change

judged-Ok : (m : Bool) (s : Step) (r : Result Timeline Refusal) (u : Timeline)
    → judged m s r ≡ Ok u → r ≡ Ok u
judged-Ok true s (Ok t) u h = cc
judged-Ok true s (Err why) u h = cc
judged-Ok false s r u h = h

-- what is refused is refused for its own reason, or memory was
refused-as : (m : Bool) (s : Step) (r : Result Timeline Refusal) (why : Refusal)
    → judged m s r ≡ Err why → (r ≡ Err why) ⊎ (OutOfMemory ≡ why)
refused-as true s (Ok t) why h = inr cc
refused-as true s (Err other) why h = inl h
refused-as false s r why h = inl h

-- a change that was made led to the world of the step
made-Ok : (m : Bool) (s : Step) (t u : Timeline) → judged m s (changed t s) ≡ Ok u
    → step t.present s ≡ Ok u.present
unfolding changed
made-Ok m s t u h =
    let w = advanced-Ok t u (step t.present s) (judged-Ok m s (changed t s) u h) in
    w.1 ∙ ap (λ (v : Timeline). Ok v.present) (sym w.2.is)

-- in an empty past there is room for it
advanced-Err : (t : Timeline) (r : Result World Refusal) (why : Refusal) → IsForgotten t
    → advanced t r ≡ Err why → r ≡ Err why
advanced-Err t (Err other) why f h = cc
advanced-Err t (Ok w) why f h =
    let few : length t.past ≡ 0 = ap length f.past in
    let room = f.room in
    (elim (nat_le t.present.bounds.history (length t.past)) as
    (λ b. nat_le t.present.bounds.history (length t.past) ≡ b
    → cond b (Err HistoryFull) (Ok (moved_on t w)) ≡ Err why → accepted w ≡ Err why) [
      | true ↦ λ full k. absurd (grind arith)
      | false ↦ λ full k. cc
    ]) refl h

made-Err : (m : Bool) (s : Step) (t : Timeline) (why : Refusal) → IsForgotten t
    → judged m s (changed t s) ≡ Err why → (n : Bool) × (taken n t.present s ≡ Err why)
unfolding changed
made-Err m s t why f h =
    elim (refused-as m s (changed t s) why h) [
      | inl e ↦ (false, advanced-Err t (step t.present s) why f e)
      | inr e ↦ (true, ap Err e)
    ]

-- ---- a workspace that makes a change

pub made-forgotten : (m : Bool) (s : Step) (t u v : Timeline) → IsForgotten t
    → judged m s (changed t s) ≡ Ok u → v ≡ forgotten u → IsForgotten v
made-forgotten m s t u v f h e =
    let bounds = step-bounds t.present u.present s (made-Ok m s t u h) in
    subst IsForgotten (sym e) (record {
      past = refl;
      future = refl;
      room = subst (λ (b : WorldBounds). 1 ≤ b.history) (sym bounds) f.room;
    })

pub made-change : (m : Bool) (s : Step) (t u v : Timeline) (ds : List Document) (w : Work)
    → record { world = t.present; documents = ds } ≡ w → judged m s (changed t s) ≡ Ok u
    → v ≡ forgotten u
    → (n : Bool) × ((taken n w.world s ≡ Ok v.present) × (ds ≡ w.documents))
made-change m s t u v ds w is h e =
    let world : t.present ≡ w.world = ap (λ (x : Work). x.world) is in
    let next : u.present ≡ v.present = ap (λ (x : Timeline). x.present) (sym e) in (
      false,
      (rw (← world, ← next) (made-Ok m s t u h), ap (λ (x : Work). x.documents) is),
    )

pub refused-change : (m : Bool) (s : Step) (t u : Timeline) (ds : List Document) (w : Work)
    (why : Refusal) (r : Result (Unit {0}) Refusal) → IsForgotten t
    → record { world = t.present; documents = ds } ≡ w → judged m s (changed t s) ≡ Err why
    → u ≡ t → r ≡ Err why
    → (n : Bool) × Becomes (taken n w.world s) w (record { world = u.present; documents = ds }) r
refused-change m s t u ds w why r f is h same e =
    let world : t.present ≡ w.world = ap (λ (x : Work). x.world) is in
    let (n, taken-is) = made-Err m s t why f h in
    let work : Work = record { world = u.present; documents = ds } in (
      n,
      subst (Becomes (taken n w.world s) w work) (sym e) (
        subst (λ x. taken n x s ≡ Err why) world taken-is,
        ap (λ (x : Timeline). record { world = x.present; documents = ds }) same ∙ is,
      ),
    )

-- ---- a text that is too large

too-large : (w : World) (name bytes : List ℕ) → is_file_name name ≡ true
    → w.bounds.file_bytes < length bytes → step w (text_step w.files name bytes) ≡ Err TooLarge
unfolding step
too-large w name bytes named large =
    let long : nat_lt w.bounds.file_bytes (length bytes) ≡ true = lt-ltb _ _ large in
    (elim (has_file w.files name) as
    (λ b. has_file w.files name ≡ b
    → unless_refused (refusal_of w (cond b (reload name bytes) (load name bytes)))
    (after w (cond b (reload name bytes) (load name bytes))) ≡ Err TooLarge) [
      | true ↦ λ e. rw (e, long) refl
      | false ↦ λ e. rw (named, e, long) refl
    ]) refl

-- why a text was not copied
abbrev pub IsUncopied : World → List ℕ → Refusal → Type 0
IsUncopied w bytes why =
    (why ≡ OutOfMemory) ⊎ ((why ≡ TooLarge) × (w.bounds.file_bytes < length bytes))

uncopied : (w : World) (name bytes : List ℕ) (why : Refusal) → is_file_name name ≡ true
    → IsUncopied w bytes why → (m : Bool) × (taken m w (text_step w.files name bytes) ≡ Err why)
uncopied w name bytes why named u =
    elim u [
      | inl e ↦ (true, ap Err (sym e))
      | inr p ↦ (false, too-large w name bytes named p.1 ∙ ap Err (sym p.0))
    ]

pub uncopied-load : (w : Work) (name bytes : List ℕ) (why : Refusal)
    (r : Result (Unit {0}) Refusal) → is_file_name name ≡ true → IsUncopied w.world bytes why
    → r ≡ Err why
    → (m : Bool) × Becomes (taken m w.world (text_step w.world.files name bytes)) w w r
uncopied-load w name bytes why r named u e =
    let (m, is) = uncopied w.world name bytes why named u in (
      m,
      subst (Becomes (taken m w.world (text_step w.world.files name bytes)) w w) (sym e)
          (is, refl),
    )

-- ---- the text before

no-file : (files : List File) (name : List ℕ) → None ≡ text_named files name
    → has_file files name ≡ false
no-file files name h =
    (elim (has_file files name) as
    (λ b. None ≡ cond b (Some (text_of_file files name)) None → b ≡ false) [
      | true ↦ λ k. cc
      | false ↦ λ k. refl
    ]) h

pub nothing-before : (w v : Work) (name bytes : List ℕ) → w ≡ v
    → keeps_present (document_of w.documents name) ≡ true → None ≡ text_named w.world.files name
    → bytes ≡ []
    → Some (text bytes) ≡ kept_before v.world.files name (document_of v.documents name)
nothing-before w v name bytes same keeps none empty =
    subst (λ (x : Work). Some (text bytes)
    ≡ kept_before x.world.files name (document_of x.documents name)) same
    (rw (keeps, empty)
    (ap (λ b. Some (text b)) (sym (no-text w.world.files name (no-file w.world.files name none)))))

pub nothing-there : (w v : Work) (name bytes : List ℕ) → w ≡ v
    → was_lost (document_of w.documents name) ≡ false → None ≡ text_named w.world.files name
    → bytes ≡ [] → Some bytes ≡ text_at v.world.files name (document_of v.documents name)
nothing-there w v name bytes same kept none empty =
    subst (λ (x : Work). Some bytes ≡ text_at x.world.files name (document_of x.documents name))
    same (rw (kept, empty)
    (ap Some (sym (no-text w.world.files name (no-file w.world.files name none)))))
