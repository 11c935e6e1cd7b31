-- A move that follows what is meant, and its reply.
use Rattle.std.proofs.Common.{◌≡◌, ◌≢◌, ℕ, Bool, true, false, List, [], ◌∷◌, Result, Ok, Err, refl}
use Rattle.std.proofs.Common.{sym, ap, ◌∙◌, subst}
use Rattle.cb_tags.proofs.Prefixes.{PutsAll-none}
use Rattle.cb_desk.specs.declared.change.Refusal.{Refusal}
use Rattle.cb_desk.specs.declared.change.Refusal.TheVariants.{OutOfMemory}
use Rattle.cb_desk.specs.declared.rows.Field.{Field}
use Rattle.cb_desk.specs.declared.rows.Field.TheVariants.{Text}
use Rattle.cb_session.specs.declared.input.Fault.{Fault}
use Rattle.cb_desk.specs.Desk.{Counts, CountsRefused, bytes_in, scanned}
use Rattle.cb_desk.specs.Timeline.{Timeline, Moves, Changes, judged, changed, undone, redone}
use Rattle.cb_desk.specs.Turns.{Turns}
use Rattle.cb_desk.specs.Step.{Step, step, load, reload, unload, rename, want, mark, mark_all}
use Rattle.cb_desk.specs.Step.{replace, tag, pop}
use Rattle.cb_desk.specs.World.{World}
use Rattle.std.specs.Borrow.{Bor}
use Rattle.cb_desk.specs.declared.change.Change.{Change}
use Rattle.cb_desk.specs.declared.change.Change.TheVariants.{Load, Reload, Unload, Rename, Want}
use Rattle.cb_desk.specs.declared.change.Change.TheVariants.{Mark, MarkAll, Replace, Tag as TagOf}
use Rattle.cb_desk.specs.declared.change.Change.TheVariants.{Pop}
use Rattle.cb_desk.specs.Models.{step_of}
use Rattle.cb_desk.specs.Answer.{answer}
use Rattle.std.specs.Prelude.{IfErr}
use Rattle.cb_tags.specs.Writers.{Writer}
use Rattle.cb_desk.specs.declared.rows.Format.{Format}
use Rattle.cb_desk.specs.declared.rows.Format.TheVariants.{Extended}
use Rattle.cb_session.specs.Requests.{Request, query, change, undo, redo, rebuild, tags_file}
use Rattle.cb_session.specs.Requests.{listing, marks, stack, refused, nothing, quit}
use Rattle.cb_session.specs.Serving.{Does}
use Rattle.cb_session.specs.States.{State}
use Rattle.cb_session.specs.steps.Rounds.{move_line}
use Rattle.cb_session.specs.Output.{moved, done_line, change_reply, outcome, refused_line}
use Rattle.cb_session.specs.Output.{answer_lines, tags_reply, listing_reply}
use Rattle.cb_desk.specs.Tags.{tags}
use Rattle.cb_session.specs.Places.{mark_rows, stack_rows}
use Rattle.cb_session.specs.Writing.{Puts}

-- a move as it was meant, and its reply
moves : (reply : World → List ℕ) (meant : Result Timeline Refusal) (old new : Timeline)
    (r : Result (Unit {0}) Refusal)
    → Moves meant old new r → (new ≡ (moved old reply meant).timeline)
    × (move_line (reply new.present) r ≡ (moved old reply meant).reply)
moves reply meant old new (Ok x) p =
    (ap (λ m. (moved old reply m).timeline) (sym p), ap (λ m. (moved old reply m).reply) (sym p))
moves reply meant old new (Err r) p = (
  p.1 ∙ ap (λ m. (moved old reply m).timeline) (sym p.0),
  ap (λ m. (moved old reply m).reply) (sym p.0),
)

-- a move that is done or refused counts as it was meant
counts_meant : (more m n : ℕ) (meant : Result Timeline Refusal) (old new : Timeline)
    (r : Result (Unit {0}) Refusal)
    → Moves meant old new r → Counts more m n r → Counts more m n meant
counts_meant more m n meant old new (Ok x) p c = subst (Counts more m n) (sym p) c
counts_meant more m n meant old new (Err q) p c = subst (Counts more m n) (sym p.0) c

turns_meant : (v w : World) (m n : ℕ) (meant : Result Timeline Refusal) (old new : Timeline)
    (r : Result (Unit {0}) Refusal)
    → Moves meant old new r → Turns v w m n r → Turns v w m n meant
turns_meant v w m n meant old new (Ok x) p c = subst (Turns v w m n) (sym p) c
turns_meant v w m n meant old new (Err q) p c = subst (Turns v w m n) (sym p.0) c

-- what is done from the state of the desk is done from that of the session
abbrev IsDone : {A : Type 0} → State → Request → State → Writer → Writer → Result A Fault → Type 0
IsDone start e new out out' result =
    (out_of_memory : Bool) × Does out_of_memory start e new out out' result

done_from : {A : Type 0} (start old new : State) (e asked : Request) (out out' : Writer)
    (result : Result A Fault)
    → old ≡ start → e ≡ asked → IsDone old asked new out out' result
    → IsDone start e new out out' result
done_from start old new e asked out out' result same h p =
    subst (λ v. IsDone v e new out out' result) same
    (subst (λ x. IsDone old x new out out' result) (sym h) p)

-- each kind of request is done
pub Does-change : {A : Type 0} (start old new : State) (e : Request) (s : Step)
    (r : Result (Unit {0}) Refusal) (out out' : Writer) (result : Result A Fault)
    → old ≡ start → e ≡ change s → Changes s old.timeline new.timeline r
    → Counts (scanned old.timeline.present s) old.meter new.meter r
    → Turns old.timeline.present new.timeline.present old.turns new.turns r
    → Puts out out' result (move_line (change_reply s new.timeline.present) r)
    → (out_of_memory : Bool) × Does out_of_memory start e new out out' result
unfolding outcome
Does-change start old new e s r out out' result same h p scans shows q =
    let meant = judged p.0 s (changed old.timeline s) in
    let m = moves (change_reply s) meant old.timeline new.timeline r p.1 in
    done_from start old new e (change s) out out' result same h (
      p.0,
      (
        record {
          moves = m.0;
          scans =
              counts_meant (scanned old.timeline.present s) old.meter new.meter meant old.timeline
              new.timeline r p.1 scans;
          shows =
              turns_meant old.timeline.present new.timeline.present old.turns new.turns meant
              old.timeline new.timeline r p.1 shows;
        },
        subst (λ l. Puts out out' result l) m.1 q,
      ),
    )

pub Does-undo : {A : Type 0} (start old new : State) (e : Request)
    (r : Result (Unit {0}) Refusal) (out out' : Writer) (result : Result A Fault)
    → old ≡ start → e ≡ undo → Moves (undone old.timeline) old.timeline new.timeline r
    → new.meter ≡ old.meter
    → Turns old.timeline.present new.timeline.present old.turns new.turns r
    → Puts out out' result (move_line done_line r)
    → (out_of_memory : Bool) × Does out_of_memory start e new out out' result
unfolding outcome
Does-undo start old new e r out out' result same h p scans shows q =
    let m = moves (λ _. done_line) (undone old.timeline) old.timeline new.timeline r p in
    done_from start old new e undo out out' result same h (
      false,
      (
        record {
          moves = m.0;
          scans = scans;
          shows =
              turns_meant old.timeline.present new.timeline.present old.turns new.turns
              (undone old.timeline) old.timeline new.timeline r p shows;
        },
        subst (λ l. Puts out out' result l) m.1 q,
      ),
    )

pub Does-redo : {A : Type 0} (start old new : State) (e : Request)
    (r : Result (Unit {0}) Refusal) (out out' : Writer) (result : Result A Fault)
    → old ≡ start → e ≡ redo → Moves (redone old.timeline) old.timeline new.timeline r
    → new.meter ≡ old.meter
    → Turns old.timeline.present new.timeline.present old.turns new.turns r
    → Puts out out' result (move_line done_line r)
    → (out_of_memory : Bool) × Does out_of_memory start e new out out' result
unfolding outcome
Does-redo start old new e r out out' result same h p scans shows q =
    let m = moves (λ _. done_line) (redone old.timeline) old.timeline new.timeline r p in
    done_from start old new e redo out out' result same h (
      false,
      (
        record {
          moves = m.0;
          scans = scans;
          shows =
              turns_meant old.timeline.present new.timeline.present old.turns new.turns
              (redone old.timeline) old.timeline new.timeline r p shows;
        },
        subst (λ l. Puts out out' result l) m.1 q,
      ),
    )

pub Does-rebuild : {A : Type 0} (start old new : State) (e : Request)
    (r : Result (Unit {0}) Refusal) (out out' : Writer) (result : Result A Fault)
    → old ≡ start → e ≡ rebuild → new.timeline ≡ old.timeline
    → Counts (bytes_in old.timeline.present.files) old.meter new.meter r → new.turns ≡ old.turns
    → IfErr r (λ x. x ≡ OutOfMemory) → Puts out out' result (move_line done_line r)
    → (out_of_memory : Bool) × Does out_of_memory start e new out out' result
unfolding outcome
Does-rebuild start old new e (Ok x) out out' result same h stays scans shows memory p =
    done_from start old new e rebuild out out' result same h
    (false, (record { moves = stays; scans = scans; shows = shows }, p))
Does-rebuild start old new e (Err x) out out' result same h stays scans shows memory p =
    done_from start old new e rebuild out out' result same h (
      true,
      (
        record {
          moves = stays;
          scans =
              subst (CountsRefused (bytes_in old.timeline.present.files) old.meter new.meter)
              memory scans;
          shows = shows;
        },
        subst (λ l. Puts out out' result l) (ap refused_line memory) p,
      ),
    )

-- a question leaves all as it is, whatever is put in order on the way
pub Does-query : {A : Type 0} (start old new : State) (e : Request) (field : Field)
    (pattern : List ℕ)
    (out out' : Writer) (result : Result A Fault)
    → old ≡ start → e ≡ query field pattern → new.timeline ≡ old.timeline → new.meter ≡ old.meter
    → new.turns ≡ old.turns
    → Puts out out' result (answer_lines (answer old.timeline.present field pattern))
    → (out_of_memory : Bool) × Does out_of_memory start e new out out' result
unfolding outcome
Does-query start old new e field pattern out out' result same h stays scans shows p =
    done_from start old new e (query field pattern) out out' result same h
    (false, (record { moves = stays; scans = scans; shows = shows }, p))

pub Does-tags : {A : Type 0} (start old new : State) (e : Request) (format : Format)
    (out out' : Writer) (result : Result A Fault)
    → old ≡ start → e ≡ tags_file format → new.timeline ≡ old.timeline → new.meter ≡ old.meter
    → new.turns ≡ old.turns
    → Puts out out' result (tags_reply format (tags format old.timeline.present))
    → (out_of_memory : Bool) × Does out_of_memory start e new out out' result
unfolding outcome
Does-tags start old new e format out out' result same h stays scans shows p =
    done_from start old new e (tags_file format) out out' result same h
    (false, (record { moves = stays; scans = scans; shows = shows }, p))

pub Does-listing : {A : Type 0} (start old new : State) (e : Request)
    (out out' : Writer) (result : Result A Fault)
    → old ≡ start → e ≡ listing → new.timeline ≡ old.timeline → new.meter ≡ old.meter
    → new.turns ≡ old.turns
    → Puts out out' result (listing_reply (tags Extended old.timeline.present))
    → (out_of_memory : Bool) × Does out_of_memory start e new out out' result
unfolding outcome
Does-listing start old new e out out' result same h stays scans shows p =
    done_from start old new e listing out out' result same h
    (false, (record { moves = stays; scans = scans; shows = shows }, p))

pub Does-marks : {A : Type 0} (s old : State) (e : Request) (out out' : Writer)
    (result : Result A Fault)
    → old ≡ s → e ≡ marks → Puts out out' result (answer_lines (mark_rows old.timeline.present))
    → (out_of_memory : Bool) × Does out_of_memory s e s out out' result
unfolding outcome
Does-marks s old e out out' result same h p =
    subst (λ x. IsDone s x s out out' result) (sym h) (
      false,
      (
        record { moves = refl; scans = refl; shows = refl },
        subst (λ (v : State). Puts out out' result (answer_lines (mark_rows v.timeline.present)))
            same p,
      ),
    )

pub Does-stack : {A : Type 0} (s old : State) (e : Request) (out out' : Writer)
    (result : Result A Fault)
    → old ≡ s → e ≡ stack → Puts out out' result (answer_lines (stack_rows old.timeline.present))
    → (out_of_memory : Bool) × Does out_of_memory s e s out out' result
unfolding outcome
Does-stack s old e out out' result same h p =
    subst (λ x. IsDone s x s out out' result) (sym h) (
      false,
      (
        record { moves = refl; scans = refl; shows = refl },
        subst (λ (v : State). Puts out out' result (answer_lines (stack_rows v.timeline.present)))
            same p,
      ),
    )

pub Does-refused : {A : Type 0} (s : State) (e : Request) (r : Refusal) (out out' : Writer)
    (result : Result A Fault)
    → e ≡ refused r → Puts out out' result (refused_line r)
    → (out_of_memory : Bool) × Does out_of_memory s e s out out' result
unfolding outcome
Does-refused s e r out out' result h p =
    subst (λ x. IsDone s x s out out' result) (sym h)
    (false, (record { moves = refl; scans = refl; shows = refl }, p))

pub Does-nothing : {A : Type 0} (s : State) (e : Request) (out : Writer) (x : A) → e ≡ nothing
    → (out_of_memory : Bool) × Does out_of_memory s e s out out (Ok x)
unfolding outcome
Does-nothing s e out x h =
    subst (λ y. IsDone s y s out out (Ok x)) (sym h)
    (false, (record { moves = refl; scans = refl; shows = refl }, (PutsAll-none out, tt)))

pub Does-quit : {A : Type 0} (s : State) (e : Request) (out : Writer) (x : A) → e ≡ quit
    → (out_of_memory : Bool) × Does out_of_memory s e s out out (Ok x)
unfolding outcome
Does-quit s e out x h =
    subst (λ y. IsDone s y s out out (Ok x)) (sym h)
    (false, (record { moves = refl; scans = refl; shows = refl }, (PutsAll-none out, tt)))

-- a request that was asked for under another name
pub Does-asked : {A : Type 0} (start new : State) (e asked : Request) (out out' : Writer)
    (result : Result A Fault)
    → e ≡ asked
    → (out_of_memory : Bool) × Does out_of_memory start asked new out out' result
    → (out_of_memory : Bool) × Does out_of_memory start e new out out' result
Does-asked start new e asked out out' result same p =
    subst (λ x. IsDone start x new out out' result) (sym same) p

-- ---- changes

-- a change that replies by its line alone
plain-change : (s : Step) (w : World) → ((text : List ℕ) → s ≡ want text → ⊥)
    → change_reply s w ≡ done_line
plain-change (load name bytes) w other = refl
plain-change (reload name bytes) w other = refl
plain-change (unload name) w other = refl
plain-change (rename from to) w other = refl
plain-change (want text) w other = absurd (other text refl)
plain-change (mark n) w other = refl
plain-change mark_all w other = refl
plain-change (replace text) w other = refl
plain-change (tag name n) w other = refl
plain-change pop w other = refl

-- a change that is no want is no step that is one
pub other-step : (c : Change) → ((text : Bor (List ℕ)) → c ≡ Want text → ⊥) → (text : List ℕ)
    → step_of c ≡ want text → ⊥
other-step (Load name bytes) other text e = cc
other-step (Reload name bytes) other text e = cc
other-step (Unload name) other text e = cc
other-step (Rename from to) other text e = cc
other-step (Want t) other text e = other t refl
other-step (Mark n) other text e = cc
other-step MarkAll other text e = cc
other-step (Replace t) other text e = cc
other-step (TagOf name n) other text e = cc
other-step Pop other text e = cc

pub Does-other : {A : Type 0} (start old new : State) (c : Change)
    (r : Result (Unit {0}) Refusal) (out out' : Writer) (result : Result A Fault)
    → old ≡ start → ((text : Bor (List ℕ)) → c ≡ Want text → ⊥)
    → Changes (step_of c) old.timeline new.timeline r
    → Counts (scanned old.timeline.present (step_of c)) old.meter new.meter r
    → Turns old.timeline.present new.timeline.present old.turns new.turns r
    → Puts out out' result (move_line done_line r)
    → (out_of_memory : Bool) × Does out_of_memory start (change (step_of c)) new out out' result
Does-other start old new c r out out' result same other p scans shows q =
    Does-change start old new (change (step_of c)) (step_of c) r out out' result
    same refl p scans shows
    (subst (λ l. Puts out out' result (move_line l r))
    (sym (plain-change (step_of c) new.timeline.present (other-step c other))) q)

-- a want that is refused, or that is done and has the rows of its text, which are put in order then
pub Does-want : {A : Type 0} (start old : State) (t u : Timeline) (m m' n n' : ℕ) (text : List ℕ)
    (r : Result (Unit {0}) Refusal) (out out' : Writer) (result : Result A Fault)
    → old ≡ start → Changes (want text) old.timeline t r → Counts 0 old.meter m r
    → Turns old.timeline.present t.present old.turns n r → u ≡ t → m' ≡ m → n' ≡ n
    → Puts out out' result (move_line (answer_lines (answer t.present Text text)) r)
    → (out_of_memory : Bool) × Does out_of_memory start (change (want text))
    (record { timeline = u; meter = m'; turns = n' }) out out' result
Does-want start old t u m m' n n' text r out out' result same p scans shows stays
    scanned_none shown_none q =
    let then : ◌≡◌ {A = State} (record { timeline = t; meter = m; turns = n })
    (record { timeline = u; meter = m'; turns = n' }) =
    (λ i.
    record { timeline = sym stays i; meter = sym scanned_none i; turns = sym shown_none i }) in
    subst (λ v. IsDone start (change (want text)) v out out' result) then
    (Does-change start old (record { timeline = t; meter = m; turns = n }) (change (want text))
    (want text) r out out' result same refl p scans shows q)

-- a want that is accepted has a text
pub wanted-some : (text : List ℕ) (b : Bool) (t u : Timeline)
    → judged b (want text) (changed t (want text)) ≡ Ok u → text ≢ []
unfolding changed step
wanted-some [] true t u e is = cc
wanted-some [] false t u e is = cc
wanted-some (x ∷ text) b t u e is = cc
