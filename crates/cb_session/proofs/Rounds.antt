-- A run, round by round.
use Rattle.std.proofs.Common.{◌≡◌, ◌⊎◌, ℕ, zero, suc, Bool, true, false, List, [], ◌∷◌, ◌++◌}
use Rattle.std.proofs.Common.{Option, Some, None, Ok}
use Rattle.std.proofs.Common.{refl, sym, ap, ◌∙◌, subst, append_assoc, append-nil, ⊎_elim, inl, inr}
use Rattle.std.specs.Io.KnownBytes.{Appends, Keeps}
use Rattle.std.proofs.KnownBytes.{Appends-trans, Appends-nil, Appends-kept, Keeps-refl, Keeps-trans}
use Rattle.std.specs.Prelude.{IsTrue}
use Rattle.cb_session.specs.declared.input.Ended.{Ended}
use Rattle.cb_session.specs.declared.input.Ended.TheVariants.{Done, Cut, Fault, Operand}
use Rattle.cb_session.specs.declared.input.Fault.TheVariants.{Read, Write, Memory, LongLine}
use Rattle.cb_session.specs.declared.input.Fault.TheVariants.{ManyLines}
use Rattle.cb_desk.specs.Timeline.{Timeline}
use Rattle.cb_tags.specs.Writers.{Writer}
use Rattle.cb_tags.specs.Readers.{Reader, WhateverFollows, leaving}
use Rattle.cb_session.specs.Inputs.{First, Inputs, first, inputs, ending_of, begin_with}
use Rattle.cb_session.specs.Requests.{Request}
use Rattle.cb_session.specs.Serving.{FirstLeadTo, HandsOn, IsCutShort, IsLeft, Leaves, LeavesRun}
use Rattle.cb_session.specs.Serving.{LeavesSession, StopsAtBlock, StopsForMemory}
use Rattle.cb_session.specs.States.{LeadTo, Leads, State}
use Rattle.cb_session.specs.steps.Rounds.{EndsRound, LeavesRound, is_unread}
use Rattle.cb_session.specs.Output.{outcome, exchange, output, prompt}
use Rattle.cb_session.specs.Reading.{has_block}
use Rattle.cb_tags.proofs.Follows.{Some-same, Follows-nothing, Follows-so, Follows-then}
use Rattle.cb_tags.specs.Writing.{AppendsPrefix}
use Rattle.cb_tags.proofs.Prefixes.{AppendsPrefix-more, AppendsPrefix-after, AppendsPrefix-whole}

-- the inputs after a request that doesn't end the run, and those of a request that does
pub inputs-on : (n limit : ℕ) (rest : List ℕ) → ending_of (first limit rest).request ≡ None
    → inputs (suc n) limit rest
    ≡ begin_with (first limit rest) None (inputs n limit (first limit rest).rest)
unfolding inputs
inputs-on n limit rest h =
    ap (λ e. begin_with (first limit rest) e (inputs n limit (first limit rest).rest)) h

inputs-last : (n limit : ℕ) (rest : List ℕ) (ended : Ended)
    → ending_of (first limit rest).request ≡ Some ended
    → inputs (suc n) limit rest ≡ record {
      requests = (first limit rest).request ∷ [];
      ending = ended;
      rest = (first limit rest).rest;
    }
unfolding inputs
inputs-last n limit rest ended h =
    ap (λ e. begin_with (first limit rest) e (inputs n limit (first limit rest).rest)) h

begins : (f : First) (o : Option Ended) (i : Inputs)
    → (es : List Request) × ((begin_with f o i).requests ≡ f.request ∷ es)
begins f None i = (i.requests, refl)
begins f (Some ended) i = ([], refl)

inputs-begin : (n limit : ℕ) (rest : List ℕ)
    → (es : List Request) × ((inputs (suc n) limit rest).requests ≡ (first limit rest).request ∷ es)
unfolding inputs
inputs-begin n limit rest =
    begins (first limit rest) (ending_of (first limit rest).request)
    (inputs n limit (first limit rest).rest)

inputs-out : (limit : ℕ) (rest : List ℕ) → inputs zero limit rest
    ≡ record { requests = []; ending = Fault ManyLines; rest = rest }
unfolding inputs
inputs-out limit rest = refl

-- the output of an input and of those after it
output-cons : (m : Bool) (ms : List Bool) (t : Timeline) (e : Request) (es : List Request)
    → output (m ∷ ms) t (e ∷ es) ≡ exchange m t e ++ output ms (outcome m t e).timeline es
unfolding output
output-cons m ms t e es = refl

output-nil : (ms : List Bool) (t : Timeline) → output ms t [] ≡ []
unfolding output
output-nil ms t = refl

-- an input, and those after it, lead from one state to another
pub led-cons : (m : Bool) (ms : List Bool) (s mid next : State) (e : Request) (es : List Request)
    → Leads m s e mid → LeadTo ms mid es next → LeadTo (m ∷ ms) s (e ∷ es) next
unfolding LeadTo
led-cons m ms s mid next e es one more = (mid, one, more)

pub led-nil : (ms : List Bool) (s next : State) → next ≡ s → LeadTo ms s [] next
unfolding LeadTo
led-nil ms s next same = same

-- a run that has so many lines left: what was written so far, which inputs led to the state, and
-- what is still to be read
pub record Rounds (lines limit : ℕ) (bytes : List ℕ) (start : State) (old : Writer) (left : ℕ)
    (t : State) (feed : Reader) (out : Writer) : Type 0 where
  pub rest : List ℕ
  pub refusals : List Bool
  pub so_far : List ℕ
  pub done : List Request
  pub unread : feed.bytes ≡ Some rest
  pub wrote : Appends old.bytes out.bytes so_far
  pub said : (ms : List Bool) (es : List Request)
      → output (refusals ++ ms) start.timeline (done ++ es) ≡ so_far ++ output ms t.timeline es
  pub ending : (inputs lines limit bytes).ending ≡ (inputs left limit rest).ending
  pub behind : (inputs lines limit bytes).rest ≡ (inputs left limit rest).rest
  pub are : (inputs lines limit bytes).requests ≡ done ++ (inputs left limit rest).requests
  pub led : (ms : List Bool) (es : List Request) (next : State) → LeadTo ms t es next
      → LeadTo (refusals ++ ms) start (done ++ es) next

-- the whole output
Rounds-text : {lines limit : ℕ} {bytes : List ℕ} {start : State} {old : Writer} {left : ℕ}
    {t : State} {feed : Reader} {out : Writer}
    (r : Rounds lines limit bytes start old left t feed out) (ms : List Bool)
    → output (r.refusals ++ ms) start.timeline (inputs lines limit bytes).requests
    ≡ r.so_far ++ output ms t.timeline (inputs left limit r.rest).requests
Rounds-text {lines = lines} {limit = limit} {start = start} {left = left} r ms =
    ap (λ es. output (r.refusals ++ ms) start.timeline es) r.are
    ∙ r.said ms (inputs left limit r.rest).requests

pub Rounds-start : (lines limit : ℕ) (bytes : List ℕ) (start : State) (old : Writer)
    (feed : Reader) → feed.bytes ≡ Some bytes
    → Rounds lines limit bytes start old lines start feed old
Rounds-start lines limit bytes start old feed h = record {
  rest = bytes;
  refusals = [];
  so_far = [];
  unread = h;
  wrote = Appends-nil old.bytes;
  said = λ ms es. refl;
  ending = refl;
  behind = refl;
  done = [];
  are = refl;
  led = λ ms es next h. h;
}

-- one round more
pub Rounds-more : (lines limit : ℕ) (bytes : List ℕ) (start : State) (old : Writer) (left : ℕ)
    (t next : State) (feed after : Reader) (out new : Writer) (out_of_memory : Bool)
    → (r : Rounds lines limit bytes start old (suc left) t feed out)
    → LeavesRound out_of_memory (first limit r.rest) t next after out new (Ok None)
    → Rounds lines limit bytes start old left next after new
Rounds-more lines limit bytes start old left t next feed after out new out_of_memory r h =
    let f = first limit r.rest in
    let on = inputs-on left limit r.rest h.0 in
    record {
      rest = f.rest;
      refusals = r.refusals ++ out_of_memory ∷ [];
      so_far = r.so_far ++ exchange out_of_memory t.timeline f.request;
      unread = h.1;
      wrote =
          Appends-trans old.bytes out.bytes new.bytes r.so_far
          (exchange out_of_memory t.timeline f.request) r.wrote h.3;
      said = λ ms es.
          (λ i. output (append_assoc r.refusals (out_of_memory ∷ []) ms i) start.timeline
          (append_assoc r.done (f.request ∷ []) es i))
          ∙ r.said (out_of_memory ∷ ms) (f.request ∷ es)
          ∙ ap (λ l. r.so_far ++ l) (output-cons out_of_memory ms t.timeline f.request es)
          ∙ ap (λ u. r.so_far ++ (exchange out_of_memory t.timeline f.request ++ output ms u es))
          (sym h.2.moves)
          ∙ sym (append_assoc r.so_far (exchange out_of_memory t.timeline f.request)
          (output ms next.timeline es));
      ending = r.ending ∙ ap (λ i. i.ending) on;
      behind = r.behind ∙ ap (λ i. i.rest) on;
      done = r.done ++ f.request ∷ [];
      are = r.are ∙ ap (λ i. r.done ++ i.requests) on
          ∙ sym (append_assoc r.done (f.request ∷ []) (inputs left limit f.rest).requests);
      led = λ ms es then later.
          subst (λ bs. LeadTo bs start ((r.done ++ f.request ∷ []) ++ es) then)
          (sym (append_assoc r.refusals (out_of_memory ∷ []) ms))
          (subst (λ l. LeadTo (r.refusals ++ out_of_memory ∷ ms) start l then)
          (sym (append_assoc r.done (f.request ∷ []) es))
          (r.led (out_of_memory ∷ ms) (f.request ∷ es)
          then (led-cons out_of_memory ms t next then f.request es h.2 later)));
    }

-- a fault in a round: a prefix of the output is written
Rounds-prefix : (lines limit : ℕ) (bytes : List ℕ) (start : State) (old : Writer) (left : ℕ)
    (t : State) (feed : Reader) (out new : Writer) (out_of_memory : Bool)
    → (r : Rounds lines limit bytes start old (suc left) t feed out)
    → AppendsPrefix out.bytes new.bytes
    (exchange out_of_memory t.timeline (first limit r.rest).request)
    → AppendsPrefix old.bytes new.bytes (output (r.refusals ++ out_of_memory ∷ []) start.timeline
    (inputs lines limit bytes).requests)
Rounds-prefix lines limit bytes start old left t feed out new out_of_memory r h =
    let f = first limit r.rest in
    let b = inputs-begin left limit r.rest in
    let after = output [] (outcome out_of_memory t.timeline f.request).timeline b.0 in
    let whole : output (r.refusals ++ out_of_memory ∷ []) start.timeline
    (inputs lines limit bytes).requests
    ≡ r.so_far ++ (exchange out_of_memory t.timeline f.request ++ after) =
    Rounds-text r (out_of_memory ∷ [])
    ∙ ap (λ es. r.so_far ++ output (out_of_memory ∷ []) t.timeline es) b.1
    ∙ ap (λ l. r.so_far ++ l) (output-cons out_of_memory [] t.timeline f.request b.0) in
    subst (λ l. AppendsPrefix old.bytes new.bytes l) (sym whole)
    (AppendsPrefix-after old.bytes out.bytes new.bytes r.so_far
    (exchange out_of_memory t.timeline f.request ++ after) r.wrote
    (AppendsPrefix-more out.bytes new.bytes (exchange out_of_memory t.timeline f.request) after h))

-- the last round: the whole output is written, and the bytes behind it are left
pub record Ends (lines limit : ℕ) (bytes : List ℕ) (start : State) (old : Writer)
    (refusals : List Bool) (left : List ℕ) (new : Writer) (ended : Ended) : Type 0 where
  pub ending : Some (inputs lines limit bytes).ending ≡ Some ended
  pub behind : left ≡ (inputs lines limit bytes).rest
  pub wrote : Appends old.bytes new.bytes
      (output refusals start.timeline (inputs lines limit bytes).requests)

Rounds-last : (lines limit : ℕ) (bytes : List ℕ) (start : State) (old : Writer) (left : ℕ)
    (t : State) (feed : Reader) (out new : Writer) (out_of_memory : Bool) (ended : Ended)
    → (r : Rounds lines limit bytes start old (suc left) t feed out)
    → ending_of (first limit r.rest).request ≡ Some ended
    → Appends out.bytes new.bytes (exchange out_of_memory t.timeline (first limit r.rest).request)
    → Ends lines limit bytes start old (r.refusals ++ out_of_memory ∷ [])
    (first limit r.rest).rest new ended
Rounds-last lines limit bytes start old left t feed out new out_of_memory ended r e h =
    let f = first limit r.rest in
    let last = inputs-last left limit r.rest ended e in
    let whole : output (r.refusals ++ out_of_memory ∷ []) start.timeline
    (inputs lines limit bytes).requests
    ≡ r.so_far ++ exchange out_of_memory t.timeline f.request =
    Rounds-text r (out_of_memory ∷ [])
    ∙ ap (λ i. r.so_far ++ output (out_of_memory ∷ []) t.timeline i.requests) last
    ∙ ap (λ l. r.so_far ++ l) (output-cons out_of_memory [] t.timeline f.request []
    ∙ ap (λ l. exchange out_of_memory t.timeline f.request ++ l)
    (output-nil [] (outcome out_of_memory t.timeline f.request).timeline)
    ∙ append-nil (exchange out_of_memory t.timeline f.request)) in
    record {
      ending = ap Some (r.ending ∙ ap (λ i. i.ending) last);
      behind = sym (r.behind ∙ ap (λ i. i.rest) last);
      wrote = subst (λ l. Appends old.bytes new.bytes l) (sym whole)
          (Appends-trans old.bytes out.bytes new.bytes r.so_far
          (exchange out_of_memory t.timeline f.request) r.wrote h);
    }

-- so it is left where nothing failed
Rounds-whole : (lines limit : ℕ) (bytes : List ℕ) (start : State) (old : Writer) (left : ℕ)
    (t : State) (feed after : Reader) (out new : Writer) (out_of_memory : Bool) (ended : Ended)
    → (r : Rounds lines limit bytes start old (suc left) t feed out)
    → ending_of (first limit r.rest).request ≡ Some ended
    → after.bytes ≡ Some (first limit r.rest).rest
    → Appends out.bytes new.bytes (exchange out_of_memory t.timeline (first limit r.rest).request)
    → (Some (inputs lines limit bytes).ending ≡ Some ended)
    × (after.bytes ≡ Some (inputs lines limit bytes).rest)
    × Appends old.bytes new.bytes
    (output (r.refusals ++ out_of_memory ∷ []) start.timeline (inputs lines limit bytes).requests)
Rounds-whole lines limit bytes start old left t feed after out new out_of_memory
    ended r e unread h =
    let last =
    Rounds-last lines limit bytes start old left t feed out new out_of_memory ended r e h in
    (last.ending, unread ∙ ap Some last.behind, last.wrote)

-- where a round that ends the run leaves the session
Rounds-unmoved : (lines limit : ℕ) (bytes : List ℕ) (start : State) (old : Writer) (left : ℕ)
    (t : State) (feed : Reader) (out : Writer) (out_of_memory : Bool) (next : State)
    → (r : Rounds lines limit bytes start old (suc left) t feed out) → next ≡ t
    → FirstLeadTo (r.refusals ++ out_of_memory ∷ []) start (inputs lines limit bytes).requests next
Rounds-unmoved lines limit bytes start old left t feed out out_of_memory next r same = (
  r.done,
  (inputs (suc left) limit r.rest).requests,
  r.are,
  subst (λ l. LeadTo (r.refusals ++ out_of_memory ∷ []) start l next) (append-nil r.done)
      (r.led (out_of_memory ∷ []) [] next (led-nil (out_of_memory ∷ []) t next same)),
)

Rounds-moved : (lines limit : ℕ) (bytes : List ℕ) (start : State) (old : Writer) (left : ℕ)
    (t : State) (feed : Reader) (out : Writer) (out_of_memory : Bool) (next : State)
    → (r : Rounds lines limit bytes start old (suc left) t feed out)
    → Leads out_of_memory t (first limit r.rest).request next
    → LeadTo (r.refusals ++ out_of_memory ∷ []) start
    (r.done ++ (first limit r.rest).request ∷ []) next
Rounds-moved lines limit bytes start old left t feed out out_of_memory next r moved =
    let e = (first limit r.rest).request in
    r.led (out_of_memory ∷ []) (e ∷ []) next
    (led-cons out_of_memory [] t next next e [] moved (led-nil [] next next refl))

Rounds-some : (lines limit : ℕ) (bytes : List ℕ) (start : State) (old : Writer) (left : ℕ)
    (t : State) (feed : Reader) (out : Writer) (out_of_memory : Bool) (next : State)
    → (r : Rounds lines limit bytes start old (suc left) t feed out)
    → Leads out_of_memory t (first limit r.rest).request next
    → FirstLeadTo (r.refusals ++ out_of_memory ∷ []) start (inputs lines limit bytes).requests next
Rounds-some lines limit bytes start old left t feed out out_of_memory next r moved =
    let e = (first limit r.rest).request in
    let b = inputs-begin left limit r.rest in (
      r.done ++ e ∷ [],
      b.0,
      r.are ∙ ap (λ es. r.done ++ es) b.1 ∙ sym (append_assoc r.done (e ∷ []) b.0),
      Rounds-moved lines limit bytes start old left t feed out out_of_memory next r moved,
    )

Rounds-first : (lines limit : ℕ) (bytes : List ℕ) (start : State) (old : Writer) (left : ℕ)
    (t : State) (feed : Reader) (out : Writer) (out_of_memory : Bool) (next : State)
    → (r : Rounds lines limit bytes start old (suc left) t feed out)
    → (next ≡ t) ⊎ Leads out_of_memory t (first limit r.rest).request next
    → FirstLeadTo (r.refusals ++ out_of_memory ∷ []) start (inputs lines limit bytes).requests next
Rounds-first lines limit bytes start old left t feed out out_of_memory next r =
    ⊎_elim (Rounds-unmoved lines limit bytes start old left t feed out out_of_memory next r)
    (Rounds-some lines limit bytes start old left t feed out out_of_memory next r)

-- an answered last input leads behind all of them
Rounds-all : (lines limit : ℕ) (bytes : List ℕ) (start : State) (old : Writer) (left : ℕ)
    (t : State) (feed : Reader) (out : Writer) (out_of_memory : Bool) (ended : Ended) (next : State)
    → (r : Rounds lines limit bytes start old (suc left) t feed out)
    → ending_of (first limit r.rest).request ≡ Some ended
    → Leads out_of_memory t (first limit r.rest).request next
    → LeadTo (r.refusals ++ out_of_memory ∷ []) start (inputs lines limit bytes).requests next
Rounds-all lines limit bytes start old left t feed out out_of_memory ended next r e moved =
    subst (λ es. LeadTo (r.refusals ++ out_of_memory ∷ []) start es next)
    (sym (r.are ∙ ap (λ i. r.done ++ i.requests) (inputs-last left limit r.rest ended e)))
    (Rounds-moved lines limit bytes start old left t feed out out_of_memory next r moved)

-- memory is refused for the block of the next input
Rounds-blocked : (lines limit : ℕ) (bytes : List ℕ) (start : State) (old : Writer) (left : ℕ)
    (t : State) (feed : Reader) (out new : Writer) (out_of_memory : Bool) (next : State)
    → (r : Rounds lines limit bytes start old (suc left) t feed out)
    → IsTrue (has_block (first limit r.rest).request) → next ≡ t
    → Appends out.bytes new.bytes prompt
    → StopsAtBlock (r.refusals ++ out_of_memory ∷ []) start next
    (inputs lines limit bytes).requests old new
Rounds-blocked lines limit bytes start old left t feed out new out_of_memory next r block same h =
    let ms = r.refusals ++ out_of_memory ∷ [] in
    let b = inputs-begin left limit r.rest in
    let said : output ms start.timeline r.done ≡ r.so_far =
    ap (output ms start.timeline) (sym (append-nil r.done)) ∙ r.said (out_of_memory ∷ []) []
    ∙ ap (λ l. r.so_far ++ l) (output-nil (out_of_memory ∷ []) t.timeline)
    ∙ append-nil r.so_far in (
      r.done,
      b.0,
      (first limit r.rest).request,
      r.are ∙ ap (λ es. r.done ++ es) b.1,
      block,
      subst (λ l. LeadTo ms start l next) (append-nil r.done)
          (r.led (out_of_memory ∷ []) [] next (led-nil (out_of_memory ∷ []) t next same)),
      subst (λ l. Appends old.bytes new.bytes (l ++ prompt)) (sym said)
          (Appends-trans old.bytes out.bytes new.bytes r.so_far prompt r.wrote h),
    )

-- a round in which the run ends
pub Rounds-end : (lines limit : ℕ) (bytes : List ℕ) (start : State) (old : Writer) (left : ℕ)
    (t next : State) (feed after : Reader) (out new : Writer) (out_of_memory : Bool) (ended : Ended)
    → (r : Rounds lines limit bytes start old (suc left) t feed out)
    → EndsRound out_of_memory (first limit r.rest) t next after out new ended
    → LeavesSession (inputs lines limit bytes) start next after old new ended
Rounds-end lines limit bytes start old left t next feed after out new
    out_of_memory (Fault Read) r h = (
      r.refusals ++ out_of_memory ∷ [],
      Rounds-prefix lines limit bytes start old left t feed out new out_of_memory r h.0,
      Rounds-unmoved lines limit bytes start old left t feed out out_of_memory next r h.1,
      tt,
    )
Rounds-end lines limit bytes start old left t next feed after out new
    out_of_memory (Fault Write) r h = (
      r.refusals ++ out_of_memory ∷ [],
      Rounds-prefix lines limit bytes start old left t feed out new out_of_memory r h.0,
      Rounds-first lines limit bytes start old left t feed out out_of_memory next r h.1,
      tt,
    )
Rounds-end lines limit bytes start old left t next feed after out new
    out_of_memory (Fault Memory) r h = (
      r.refusals ++ out_of_memory ∷ [],
      Rounds-prefix lines limit bytes start old left t feed out new out_of_memory r h.0,
      Rounds-first lines limit bytes start old left t feed out out_of_memory next r h.1,
      inr (Rounds-blocked lines limit bytes start old left t feed out new out_of_memory next r
          h.2.0 h.2.1 h.2.2),
    )
Rounds-end lines limit bytes start old left t next feed after out new out_of_memory
    (Fault LongLine) r h =
    let last =
    Rounds-last lines limit bytes start old left t feed out new out_of_memory
    (Fault LongLine) r h.0.0 h.0.1 in (
      r.refusals ++ out_of_memory ∷ [],
      (last.ending, last.wrote),
      Rounds-all lines limit bytes start old left t feed out out_of_memory
          (Fault LongLine) next r h.0.0 h.1,
      tt,
    )
Rounds-end lines limit bytes start old left t next feed after out new
    out_of_memory (Fault ManyLines) r h = (
      r.refusals ++ out_of_memory ∷ [],
      Rounds-whole lines limit bytes start old left t feed after out new
          out_of_memory (Fault ManyLines) r h.0.0 h.0.1 h.0.2,
      Rounds-all lines limit bytes start old left t feed out out_of_memory
          (Fault ManyLines) next r h.0.0 h.1,
      tt,
    )
Rounds-end lines limit bytes start old left t next feed after out new
    out_of_memory Done r h = (
      r.refusals ++ out_of_memory ∷ [],
      Rounds-whole lines limit bytes start old left t feed after out new
          out_of_memory Done r h.0.0 h.0.1 h.0.2,
      Rounds-all lines limit bytes start old left t feed out out_of_memory Done next r h.0.0 h.1,
      tt,
    )
Rounds-end lines limit bytes start old left t next feed after out new
    out_of_memory Cut r h = (
      r.refusals ++ out_of_memory ∷ [],
      Rounds-whole lines limit bytes start old left t feed after out new
          out_of_memory Cut r h.0.0 h.0.1 h.0.2,
      Rounds-all lines limit bytes start old left t feed out out_of_memory Cut next r h.0.0 h.1,
      tt,
    )
Rounds-end lines limit bytes start old left t next feed after out new
    out_of_memory (Operand place why) r h = (
      r.refusals ++ out_of_memory ∷ [],
      Rounds-whole lines limit bytes start old left t feed after out new
          out_of_memory (Operand place why) r h.0.0 h.0.1 h.0.2,
      Rounds-all lines limit bytes start old left t feed out out_of_memory
          (Operand place why) next r h.0.0 h.1,
      tt,
    )

-- no line is left
pub Rounds-out : (lines limit : ℕ) (bytes : List ℕ) (start : State) (old : Writer) (t : State)
    (feed : Reader) (out : Writer)
    → Rounds lines limit bytes start old zero t feed out
    → LeavesSession (inputs lines limit bytes) start t feed old out (Fault ManyLines)
Rounds-out lines limit bytes start old t feed out r =
    let none = inputs-out limit r.rest in
    let whole : output (r.refusals ++ []) start.timeline (inputs lines limit bytes).requests
    ≡ r.so_far =
    Rounds-text r [] ∙ ap (λ i. r.so_far ++ output [] t.timeline i.requests) none
    ∙ ap (λ l. r.so_far ++ l) (output-nil [] t.timeline) ∙ append-nil r.so_far in (
      r.refusals ++ [],
      (
        ap Some (r.ending ∙ ap (λ i. i.ending) none),
        r.unread ∙ ap Some (sym (r.behind ∙ ap (λ i. i.rest) none)),
        subst (λ l. Appends old.bytes out.bytes l) (sym whole) r.wrote,
      ),
      subst (λ es. LeadTo (r.refusals ++ []) start es t)
          (sym (r.are ∙ ap (λ i. r.done ++ i.requests) none))
          (r.led [] [] t (led-nil [] t t refl)),
      tt,
    )

-- a round in a run: what it leaves is known for all bytes that the feed may have
pub Rounds-next : (lines limit : ℕ) (bytes : List ℕ) (start : State) (old : Writer) (n left : ℕ)
    (t next : State) (feed after : Reader) (out new : Writer)
    → n ≡ suc left → Rounds lines limit bytes start old n t feed out
    → ((rest : List ℕ) → feed.bytes ≡ Some rest
    → (out_of_memory : Bool)
    × LeavesRound out_of_memory (first limit rest) t next after out new (Ok None))
    → Rounds lines limit bytes start old left next after new
Rounds-next lines limit bytes start old n left t next feed after out new e s h =
    let r : Rounds lines limit bytes start old (suc left) t feed out =
    subst (λ k. Rounds lines limit bytes start old k t feed out) e s in
    let m = h r.rest r.unread in
    Rounds-more lines limit bytes start old left t next feed after out new m.0 r m.1

pub Rounds-stop : (lines limit : ℕ) (bytes : List ℕ) (start : State) (old : Writer) (n left : ℕ)
    (t next : State) (feed after : Reader) (out new : Writer) (ended : Ended)
    → n ≡ suc left → Rounds lines limit bytes start old n t feed out
    → ((rest : List ℕ) → feed.bytes ≡ Some rest
    → (out_of_memory : Bool)
    × EndsRound out_of_memory (first limit rest) t next after out new ended)
    → LeavesSession (inputs lines limit bytes) start next after old new ended
Rounds-stop lines limit bytes start old n left t next feed after out new ended e s h =
    let r : Rounds lines limit bytes start old (suc left) t feed out =
    subst (λ k. Rounds lines limit bytes start old k t feed out) e s in
    let m = h r.rest r.unread in
    Rounds-end lines limit bytes start old left t next feed after out new m.0 ended r m.1

-- the same, whatever follows what was read
pub Follows-start : (lines limit n : ℕ) (start : State) (old : Writer) (feed : Reader) → lines ≡ n
    → WhateverFollows feed feed (λ bytes at. Rounds lines limit bytes start old n start at old)
Follows-start lines limit n start old feed e =
    Follows-nothing feed (λ bytes at. Rounds lines limit bytes start old n start at old)
    (λ bytes at known. subst (λ k. Rounds lines limit bytes start old k start at old) e
    (Rounds-start lines limit bytes start old at known))

pub Follows-next : (lines limit : ℕ) (start : State) (old : Writer) (n left : ℕ)
    (t next : State) (feed mid after : Reader) (out new : Writer) → n ≡ suc left
    → WhateverFollows feed mid (λ bytes at. Rounds lines limit bytes start old n t at out)
    → WhateverFollows mid after (λ bytes at. (out_of_memory : Bool)
    × LeavesRound out_of_memory (first limit bytes) t next at out new (Ok None))
    → WhateverFollows feed after (λ bytes at. Rounds lines limit bytes start old left next at new)
Follows-next lines limit start old n left t next feed mid after out new e s h =
    Follows-then feed mid after (λ bytes at. Rounds lines limit bytes start old n t at out)
    (λ bytes at. (out_of_memory : Bool)
    × LeavesRound out_of_memory (first limit bytes) t next at out new (Ok None))
    (λ bytes at. Rounds lines limit bytes start old left next at new) s h
    (λ bytes more at rounds round.
    Rounds-next lines limit bytes start old n left t next (leaving mid more) at out new e rounds
    (λ rest same. subst (λ l. (out_of_memory : Bool)
    × LeavesRound out_of_memory (first limit l) t next at out new (Ok None))
    (Some-same more rest same) round))

pub Follows-stop : (lines limit : ℕ) (start : State) (old : Writer) (n left : ℕ) (t next : State)
    (feed mid after : Reader) (out new : Writer) (ended : Ended) → n ≡ suc left
    → WhateverFollows feed mid (λ bytes at. Rounds lines limit bytes start old n t at out)
    → WhateverFollows mid after (λ bytes at. (out_of_memory : Bool)
    × EndsRound out_of_memory (first limit bytes) t next at out new ended)
    → WhateverFollows feed after
    (λ bytes at. LeavesSession (inputs lines limit bytes) start next at old new ended)
Follows-stop lines limit start old n left t next feed mid after out new ended e s h =
    Follows-then feed mid after (λ bytes at. Rounds lines limit bytes start old n t at out)
    (λ bytes at.
    (out_of_memory : Bool) × EndsRound out_of_memory (first limit bytes) t next at out new ended)
    (λ bytes at. LeavesSession (inputs lines limit bytes) start next at old new ended) s h
    (λ bytes more at rounds round.
    Rounds-stop lines limit bytes start old n left t next
    (leaving mid more) at out new ended e rounds
    (λ rest same.
    subst
    (λ l. (out_of_memory : Bool) × EndsRound out_of_memory (first limit l) t next at out new ended)
    (Some-same more rest same) round))

pub Follows-out : (lines limit : ℕ) (start : State) (old : Writer) (n : ℕ) (t : State)
    (feed after : Reader) (out : Writer) → n ≡ zero
    → WhateverFollows feed after (λ bytes at. Rounds lines limit bytes start old n t at out)
    → WhateverFollows feed after
    (λ bytes at. LeavesSession (inputs lines limit bytes) start t at old out (Fault ManyLines))
Follows-out lines limit start old n t feed after out e s =
    Follows-so feed after (λ bytes at. Rounds lines limit bytes start old n t at out)
    (λ bytes at. LeavesSession (inputs lines limit bytes) start t at old out (Fault ManyLines)) s
    (λ bytes at rounds. Rounds-out lines limit bytes start old t at out
    (subst (λ k. Rounds lines limit bytes start old k t at out) e rounds))

-- no memory for a line, and so no round
pub LeavesSession-none : (lines limit : ℕ) (bytes : List ℕ) (start : State)
    (out : Writer) (feed : Reader)
    → LeavesSession (inputs lines limit bytes) start start feed out out (Fault Memory)
LeavesSession-none lines limit bytes start out feed = (
  [],
  ([], output [] start.timeline (inputs lines limit bytes).requests, refl, Appends-nil out.bytes),
  ([], (inputs lines limit bytes).requests, refl, led-nil [] start start refl),
  inl (refl, Keeps-refl out.bytes),
)

-- and so over whatever follows what was read
pub Follows-none : (lines limit : ℕ) (start : State) (out : Writer) (feed : Reader)
    → WhateverFollows feed feed
    (λ bytes at. LeavesSession (inputs lines limit bytes) start start at out out (Fault Memory))
Follows-none lines limit start out feed =
    Follows-nothing feed
    (λ bytes at. LeavesSession (inputs lines limit bytes) start start at out out (Fault Memory))
    (λ bytes at known. LeavesSession-none lines limit bytes start out at)

-- a last flush that fails: of all that a run leaves, a prefix is left
Leaves-prefix : (text : List ℕ) (meant : Option Ended) (rest : List ℕ) (feed : Reader)
    (old new : Writer) (ended : Ended) → Leaves text meant rest feed old new ended
    → AppendsPrefix old.bytes new.bytes text
Leaves-prefix text meant rest feed old new (Fault Read) p = p
Leaves-prefix text meant rest feed old new (Fault Write) p = p
Leaves-prefix text meant rest feed old new (Fault Memory) p = p
Leaves-prefix text meant rest feed old new (Fault LongLine) p =
    AppendsPrefix-whole old.bytes new.bytes text p.1
Leaves-prefix text meant rest feed old new (Fault ManyLines) p =
    AppendsPrefix-whole old.bytes new.bytes text p.2
Leaves-prefix text meant rest feed old new Done p = AppendsPrefix-whole old.bytes new.bytes text p.2
Leaves-prefix text meant rest feed old new Cut p = AppendsPrefix-whole old.bytes new.bytes text p.2
Leaves-prefix text meant rest feed old new (Operand place why) p =
    AppendsPrefix-whole old.bytes new.bytes text p.2

-- a session behind all inputs is behind the first of them
IsLeft-first : (refusals : List Bool) (t : State) (es : List Request) (ended : Ended) (next : State)
    → IsLeft refusals t es ended next → FirstLeadTo refusals t es next
IsLeft-first refusals t es (Fault Read) next h = h
IsLeft-first refusals t es (Fault Write) next h = h
IsLeft-first refusals t es (Fault Memory) next h = h
IsLeft-first refusals t es (Fault LongLine) next h = (es, [], sym (append-nil es), h)
IsLeft-first refusals t es (Fault ManyLines) next h = (es, [], sym (append-nil es), h)
IsLeft-first refusals t es Done next h = (es, [], sym (append-nil es), h)
IsLeft-first refusals t es Cut next h = (es, [], sym (append-nil es), h)
IsLeft-first refusals t es (Operand place why) next h = (es, [], sym (append-nil es), h)

pub LeavesSession-unflushed : (i : Inputs) (start next : State) (feed : Reader)
    (old mid new : Writer)
    (ended : Ended) → Keeps mid.bytes new.bytes → LeavesSession i start next feed old mid ended
    → LeavesSession i start next feed old new (Fault Write)
LeavesSession-unflushed i start next feed old mid new ended kept run =
    let p : AppendsPrefix old.bytes mid.bytes (output run.0 start.timeline i.requests) =
    Leaves-prefix (output run.0 start.timeline i.requests)
    (Some i.ending) i.rest feed old mid ended run.1 in (
      run.0,
      (p.0, p.1, p.2, Appends-kept old.bytes mid.bytes new.bytes p.0 p.3 kept),
      IsLeft-first run.0 start i.requests ended next run.2,
      tt,
    )

-- a last flush keeps what was written
Leaves-kept : (text : List ℕ) (meant : Option Ended) (rest : List ℕ) (feed : Reader)
    (old mid new : Writer) (ended : Ended) → Keeps mid.bytes new.bytes
    → Leaves text meant rest feed old mid ended → Leaves text meant rest feed old new ended
Leaves-kept text meant rest feed old mid new (Fault Read) kept p =
    (p.0, p.1, p.2, Appends-kept old.bytes mid.bytes new.bytes p.0 p.3 kept)
Leaves-kept text meant rest feed old mid new (Fault Write) kept p =
    (p.0, p.1, p.2, Appends-kept old.bytes mid.bytes new.bytes p.0 p.3 kept)
Leaves-kept text meant rest feed old mid new (Fault Memory) kept p =
    (p.0, p.1, p.2, Appends-kept old.bytes mid.bytes new.bytes p.0 p.3 kept)
Leaves-kept text meant rest feed old mid new (Fault LongLine) kept p =
    (p.0, Appends-kept old.bytes mid.bytes new.bytes text p.1 kept)
Leaves-kept text meant rest feed old mid new (Fault ManyLines) kept p =
    (p.0, p.1, Appends-kept old.bytes mid.bytes new.bytes text p.2 kept)
Leaves-kept text meant rest feed old mid new Done kept p =
    (p.0, p.1, Appends-kept old.bytes mid.bytes new.bytes text p.2 kept)
Leaves-kept text meant rest feed old mid new Cut kept p =
    (p.0, p.1, Appends-kept old.bytes mid.bytes new.bytes text p.2 kept)
Leaves-kept text meant rest feed old mid new (Operand place why) kept p =
    (p.0, p.1, Appends-kept old.bytes mid.bytes new.bytes text p.2 kept)

Stops-kept : (refusals : List Bool) (start next : State) (es : List Request) (old mid new : Writer)
    (ended : Ended) → Keeps mid.bytes new.bytes
    → StopsForMemory refusals start next es old mid ended
    → StopsForMemory refusals start next es old new ended
Stops-kept refusals start next es old mid new (Fault Read) kept p = tt
Stops-kept refusals start next es old mid new (Fault Write) kept p = tt
Stops-kept refusals start next es old mid new (Fault Memory) kept p =
    ⊎_elim (λ q. inl (q.0, Keeps-trans old.bytes mid.bytes new.bytes q.1 kept))
    (λ q. inr (
      q.0,
      q.1,
      q.2,
      q.3,
      q.4,
      q.5,
      Appends-kept old.bytes mid.bytes new.bytes (output refusals start.timeline q.0 ++ prompt)
          q.6 kept,
    )) p
Stops-kept refusals start next es old mid new (Fault LongLine) kept p = tt
Stops-kept refusals start next es old mid new (Fault ManyLines) kept p = tt
Stops-kept refusals start next es old mid new Done kept p = tt
Stops-kept refusals start next es old mid new Cut kept p = tt
Stops-kept refusals start next es old mid new (Operand place why) kept p = tt

pub LeavesSession-flushed : (i : Inputs) (start next : State) (feed : Reader) (old mid new : Writer)
    (ended : Ended) → Keeps mid.bytes new.bytes → LeavesSession i start next feed old mid ended
    → LeavesSession i start next feed old new ended
LeavesSession-flushed i start next feed old mid new ended kept run = (
  run.0,
  Leaves-kept (output run.0 start.timeline i.requests) (Some i.ending) i.rest feed old
      mid new ended kept run.1,
  run.2,
  Stops-kept run.0 start next i.requests old mid new ended kept run.3,
)

-- what a flush leaves is handed on
pub HandsOn-flushed : (out : Writer) (ended : Ended) → out.pending ≡ false → HandsOn out ended
HandsOn-flushed out (Fault Read) h = h
HandsOn-flushed out (Fault Write) h = tt
HandsOn-flushed out (Fault Memory) h = h
HandsOn-flushed out (Fault LongLine) h = h
HandsOn-flushed out (Fault ManyLines) h = h
HandsOn-flushed out Done h = h
HandsOn-flushed out Cut h = h
HandsOn-flushed out (Operand place why) h = tt

-- and so is what a read fault leaves
pub HandsOn-unread : (lines limit : ℕ) (start next : State) (feed after : Reader) (old new : Writer)
    (ended : Ended) → is_unread ended ≡ true
    → (ended ≡ Fault Read → IsCutShort lines limit start next feed after old new)
    → HandsOn new ended
HandsOn-unread lines limit start next feed after old new (Fault Read) is cut = (cut refl).handed_on
HandsOn-unread lines limit start next feed after old new (Fault Write) is cut = tt
HandsOn-unread lines limit start next feed after old new (Fault Memory) is cut = cc
HandsOn-unread lines limit start next feed after old new (Fault LongLine) is cut = cc
HandsOn-unread lines limit start next feed after old new (Fault ManyLines) is cut = cc
HandsOn-unread lines limit start next feed after old new Done is cut = cc
HandsOn-unread lines limit start next feed after old new Cut is cut = cc
HandsOn-unread lines limit start next feed after old new (Operand place why) is cut = tt

-- what no read fault ended is not cut short
pub not_cut_short : (A : Type 0) (ended : Ended) → is_unread ended ≡ false → ended ≡ Fault Read → A
not_cut_short A ended other is = let unread : is_unread ended ≡ true = ap is_unread is in cc

-- what a run leaves beside the session
pub session_run : (i : Inputs) (start next : State) (feed : Reader)
    (old new : Writer) (ended : Ended)
    → LeavesSession i start next feed old new ended → LeavesRun i start feed old new ended
session_run i start next feed old new ended run = (next, run)
