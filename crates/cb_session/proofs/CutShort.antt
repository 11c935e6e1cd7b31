-- What a run has answered, by what it read: one request after another, each whole.
use Rattle.std.proofs.Common.{◌≡◌, ℕ, suc, Bool, List, [], ◌∷◌, ◌++◌, None, Ok, Err, refl, sym, ap}
use Rattle.std.proofs.Common.{◌∙◌, subst, append_assoc, append-nil}
use Rattle.std.specs.Io.KnownBytes.{Appends}
use Rattle.std.proofs.KnownBytes.{Appends-trans, Appends-nil}
use Rattle.cb_tags.specs.declared.feed.Stage.{Stage}
use Rattle.cb_tags.specs.declared.feed.Stage.TheVariants.{Ended, Failed}
use Rattle.cb_session.specs.declared.input.Ended.TheVariants.{Fault as EndedBy}
use Rattle.cb_session.specs.declared.input.Fault.{Fault as Reason}
use Rattle.cb_session.specs.declared.input.Fault.TheVariants.{Read}
use Rattle.cb_tags.specs.Readers.{Reader, HasRead}
use Rattle.cb_session.specs.Inputs.{HoldWhole, IsWhole, ending_of, first, inputs}
use Rattle.cb_session.specs.Output.{exchange, output, prompt}
use Rattle.cb_session.specs.Requests.{Request}
use Rattle.cb_session.specs.Serving.{IsCutShort}
use Rattle.cb_session.specs.States.{LeadTo, State}
use Rattle.cb_session.specs.steps.Rounds.{ReadsRound}
use Rattle.cb_tags.proofs.Follows.{HasRead-nothing, HasRead-trans, Some-same}
use Rattle.cb_session.proofs.Rounds.{inputs-on, led-cons, led-nil}
use Rattle.cb_tags.specs.Writers.{Writer}

-- a run that has so many lines left, by what it read: whole requests, unless the end of input came
pub record Answered (lines limit : ℕ) (start : State) (old : Writer) (left : ℕ) (t : State)
    (feed at : Reader) (out : Writer) : Type 0 where
  pub refusals : List Bool
  pub done : List Request
  pub read : List ℕ
  pub reads : HasRead feed at read
  pub wrote : Appends old.bytes out.bytes (output refusals start.timeline done)
  pub said : (ms : List Bool) (es : List Request)
      → output (refusals ++ ms) start.timeline (done ++ es)
      ≡ output refusals start.timeline done ++ output ms t.timeline es
  pub led : (ms : List Bool) (es : List Request) (next : State) → LeadTo ms t es next
      → LeadTo (refusals ++ ms) start (done ++ es) next
  pub whole : (at.stage ≡ Ended → ⊥) → (es : List Request) (bytes : List ℕ)
      → HoldWhole limit es bytes
      → HoldWhole limit (done ++ es) (read ++ bytes)
  pub are : (at.stage ≡ Ended → ⊥) → (rest : List ℕ)
      → (inputs lines limit (read ++ rest)).requests ≡ done ++ (inputs left limit rest).requests

pub Answered-start : (lines limit n : ℕ) (start : State) (old : Writer) (feed : Reader) → lines ≡ n
    → Answered lines limit start old n start feed feed old
unfolding output
Answered-start lines limit n start old feed all = record {
  refusals = [];
  done = [];
  read = [];
  reads = HasRead-nothing feed;
  wrote = Appends-nil old.bytes;
  said = λ ms es. refl;
  led = λ ms es next h. h;
  whole = λ still es bytes h. h;
  are = λ still rest. ap (λ k. (inputs k limit rest).requests) all;
}

module _ (lines limit : ℕ) (start : State) (old : Writer) (n left : ℕ) (t next : State)
    (feed at after : Reader) (out new : Writer)
    (one_more : n ≡ suc left) (a : Answered lines limit start old n t feed at out) where
  -- a reader at its end stays there
  still_before : (read : List ℕ) → HasRead at after read → (after.stage ≡ Ended → ⊥)
      → at.stage ≡ Ended → ⊥
  still_before read h still ended = still (h.1 ended).1

  -- one request more
  pub Answered-next : ReadsRound limit t next at after out new (Ok None)
      → Answered lines limit start old left next feed after new
  unfolding output
  Answered-next r =
      let m = r.0 in
      let e = r.1 in
      let read = r.2.0 in
      let whole : (after.stage ≡ Ended → ⊥) → IsWhole limit e read =
      λ still rest.
      let is = r.2.2 rest (λ ended. absurd (still ended)) in
      λ i. record {
        request = sym is.0 i;
        rest = sym (Some-same rest (first limit (read ++ rest)).rest is.1) i;
      } in
      let text : output (a.refusals ++ m ∷ []) start.timeline (a.done ++ e ∷ [])
      ≡ output a.refusals start.timeline a.done ++ exchange m t.timeline e =
      a.said (m ∷ []) (e ∷ []) ∙ ap (λ l. output a.refusals start.timeline a.done ++ l)
      (append-nil (exchange m t.timeline e)) in
      record {
        refusals = a.refusals ++ m ∷ [];
        done = a.done ++ e ∷ [];
        read = a.read ++ read;
        reads = HasRead-trans feed at after a.read read a.reads r.2.1;
        wrote = subst (Appends old.bytes new.bytes) (sym text)
            (Appends-trans old.bytes out.bytes new.bytes (output a.refusals start.timeline a.done)
            (exchange m t.timeline e) a.wrote r.5);
        said = λ ms es.
            (λ i. output (append_assoc a.refusals (m ∷ []) ms i) start.timeline
            (append_assoc a.done (e ∷ []) es i))
            ∙ a.said (m ∷ ms) (e ∷ es)
            ∙ ap (λ u. output a.refusals start.timeline a.done
            ++ (exchange m t.timeline e ++ output ms u es)) (sym r.4.moves)
            ∙ sym (append_assoc (output a.refusals start.timeline a.done) (exchange m t.timeline e)
            (output ms next.timeline es))
            ∙ ap (λ l. l ++ output ms next.timeline es) (sym text);
        led = λ ms es then later.
            subst (λ bs. LeadTo bs start ((a.done ++ e ∷ []) ++ es) then)
            (sym (append_assoc a.refusals (m ∷ []) ms))
            (subst (λ l. LeadTo (a.refusals ++ m ∷ ms) start l then)
            (sym (append_assoc a.done (e ∷ []) es))
            (a.led (m ∷ ms) (e ∷ es) then (led-cons m ms t next then e es r.4 later)));
        whole = λ still es bytes h.
            subst (λ l. HoldWhole limit l ((a.read ++ read) ++ bytes))
            (sym (append_assoc a.done (e ∷ []) es))
            (subst (HoldWhole limit (a.done ++ e ∷ es)) (sym (append_assoc a.read read bytes))
            (a.whole (still_before read r.2.1 still) (e ∷ es) (read ++ bytes)
            (read, bytes, refl, whole still, h)));
        are = λ still rest.
            let is = whole still rest in
            let on : ending_of (first limit (read ++ rest)).request ≡ None =
            ap (λ f. ending_of f.request) is ∙ r.3 in
            ap (λ l. (inputs lines limit l).requests) (append_assoc a.read read rest)
            ∙ a.are (still_before read r.2.1 still) (read ++ rest)
            ∙ ap (λ k. a.done ++ (inputs k limit (read ++ rest)).requests) one_more
            ∙ ap (λ i. a.done ++ i.requests) (inputs-on left limit (read ++ rest) on)
            ∙ ap (λ f. a.done ++ f.request ∷ (inputs left limit f.rest).requests) is
            ∙ sym (append_assoc a.done (e ∷ []) (inputs left limit rest).requests);
      }

  not_ended : (s : Stage) → s ≡ Failed → s ≡ Ended → ⊥
  not_ended s p q = cc

  -- the reader failed before another one was whole
  pub Answered-cut : ReadsRound limit t next at after out new (Err Read)
      → IsCutShort lines limit start next feed after old new
  Answered-cut r =
      let part = r.0.0 in
      let still : at.stage ≡ Ended → ⊥ = still_before part r.0.1 (not_ended after.stage r.1) in
      record {
        refusals = a.refusals;
        done = a.done;
        read = a.read ++ part;
        reads = HasRead-trans feed at after a.read part a.reads r.0.1;
        whole =
            subst (λ l. HoldWhole limit l (a.read ++ part)) (append-nil a.done)
            (a.whole still [] part r.0.2);
        are_first = λ rest. (
          (inputs n limit (part ++ rest)).requests,
          ap (λ l. (inputs lines limit l).requests) (append_assoc a.read part rest)
              ∙ a.are still (part ++ rest),
        );
        led = subst (λ bs. LeadTo bs start a.done next) (append-nil a.refusals)
            (subst (λ l. LeadTo (a.refusals ++ []) start l next) (append-nil a.done)
            (a.led [] [] next (led-nil [] t next r.2)));
        wrote =
            Appends-trans old.bytes out.bytes new.bytes (output a.refusals start.timeline a.done)
            prompt a.wrote r.3;
        handed_on = r.4;
      }

-- the fault by which a run is cut short
pub read_fault : (limit : ℕ) (t next : State) (at after : Reader) (out new : Writer)
    (fault : Reason) → EndedBy fault ≡ EndedBy Read
    → ReadsRound limit t next at after out new (Err fault)
    → ReadsRound limit t next at after out new (Err Read)
read_fault limit t next at after out new fault is r =
    let why : fault ≡ Read = cc in
    subst (λ k. ReadsRound limit t next at after out new (Err k)) why r
