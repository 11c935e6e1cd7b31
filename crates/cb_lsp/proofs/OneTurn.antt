-- What one turn leaves.
use Rattle.std.proofs.Common.{◌≡◌, ℕ, Bool, true, false, List, [], Option, Some, None, Result}
use Rattle.std.proofs.Common.{Ok, Err, refl, sym, ap, ◌∙◌, subst, inr, append-nil}
use Rattle.std.specs.Prelude.{codes}
use Rattle.std.specs.Io.KnownBytes.{Appends, Keeps}
use Rattle.std.proofs.KnownBytes.{Appends-nil}
use Rattle.std.proofs.lemmas.Slice.Eq.{bytes_eq-Decides}
use Rattle.json.specs.Json.{Json}
use Rattle.cb_tags.specs.declared.sink.WriteFault.{WriteFault}
use Rattle.cb_tags.specs.Readers.{Reader}
use Rattle.cb_tags.specs.Writers.{Writer}
use Rattle.cb_tags.specs.Writing.{AppendsPrefix, PutsAll}
use Rattle.cb_wire.specs.declared.frame.FrameError.{FrameError}
use Rattle.cb_wire.specs.declared.frame.FrameError.TheVariants.{BadHeader, InputEnded, Read}
use Rattle.cb_wire.specs.Frames.{First, ReadsFrame, body, too_large as too_long}
use Rattle.cb_lsp.specs.declared.server.Stage.{Stage}
use Rattle.cb_lsp.specs.declared.server.Stage.TheVariants.{Fresh, Running, Down}
use Rattle.cb_lsp.specs.declared.turn.Ending.{Ending}
use Rattle.cb_lsp.specs.Documents.{Looked, Oracle}
use Rattle.cb_lsp.specs.Messages.{Message, Outcome, Serving, does, is_exit, not_json, not_request}
use Rattle.cb_lsp.specs.Messages.{notification, noticed_by, reply, request, stays, too_large}
use Rattle.cb_lsp.specs.Bodies.{IsMessage, IsOf, Takes, Turn, is_last, outcome, refused}
use Rattle.cb_lsp.specs.Bodies.{reply_text, taken, written_text}
use Rattle.cb_lsp.specs.Endings.{IsClosed, IsEnd, IsNext, LeavesTurn, ending_at}
use Rattle.cb_lsp.specs.steps.Turns.{GoesOn, ending_of}
use Rattle.cb_lsp.proofs.Notices.{quiet}

-- ---- the last message

exit-at : (stage : Stage) (o : Oracle) (s : Serving) (params : Option Json)
    → noticed_by stage o s (codes "exit") params ≡ stays s
exit-at Fresh o s params = refl
exit-at Running o s params = refl
exit-at Down o s params = refl

exit-stays : (o : Oracle) (s : Serving) (m : Message) → is_exit m ≡ true
    → does o s m ≡ stays s
unfolding does
exit-stays o s (notification method params) e =
    let is : method ≡ codes "exit" = (bytes_eq-Decides method (codes "exit")).0 e in
    subst (λ name. noticed_by s.stage o s name params ≡ stays s) (sym is)
    (exit-at s.stage o s params)
exit-stays o s not_json e = cc
exit-stays o s not_request e = cc
exit-stays o s reply e = cc
exit-stays o s too_large e = cc
exit-stays o s (request id method params) e = cc

last-stays : (t : Turn) (s : Serving) → is_last t ≡ true → outcome s t ≡ stays s
last-stays (taken m o) s e = exit-stays o s m e
last-stays refused s e = cc

-- the ending by the client
pub is-end : (f : First) (s : Serving) (left : Reader) (stage : Stage) → s.stage ≡ stage
    → IsClosed f left → IsEnd f s left (ending_at stage)
is-end f s left Fresh e closed = (sym (ap ending_at e), closed)
is-end f s left Running e closed = (sym (ap ending_at e), closed)
is-end f s left Down e closed = (sym (ap ending_at e), closed)

-- ---- behind a message

Appends-kept : (a b c : Option (List ℕ)) (bytes : List ℕ) → Appends a b bytes → Keeps b c
    → Appends a c bytes
Appends-kept None b c bytes p q = tt
Appends-kept (Some x) None c bytes p q = absurd p
Appends-kept (Some x) (Some y) None bytes p q = absurd q
Appends-kept (Some x) (Some y) (Some z) bytes p q = cc

closes : (finds : Looked → Type 0) (f : First) (s mid : Serving) (left : Reader) (t : Turn) (rest : List ℕ)
    (old between : Writer) → IsNext f t rest → left.bytes ≡ Some rest → is_last t ≡ true
    → mid ≡ (outcome s t).server → PutsAll old between (written_text (outcome s t).written)
    → LeavesTurn finds f s mid left old between (Ok (Some (ending_at mid.stage)))
closes finds f s mid left t rest old between next is last moved put =
    let out = last-stays t s last in
    let same : mid ≡ s = moved ∙ ap (λ (o : Outcome). o.server) out in
    let none : PutsAll old between [] =
    subst (PutsAll old between) (ap (λ (o : Outcome). written_text o.written) out) put in (
      is-end f s left mid.stage (ap (λ (x : Serving). x.stage) (sym same))
          (inr (t, rest, next, last, is)),
      same,
      none.2,
      none.3 refl,
    )

pub turn-left : (finds : Looked → Type 0) (f : First) (s mid : Serving) (left : Reader) (t : Turn) (rest : List ℕ)
    (old between new : Writer) (r : Result Bool WriteFault)
    (result : Result (Option Ending) WriteFault) → IsNext f t rest → left.bytes ≡ Some rest
    → Takes finds t s mid old between r → GoesOn mid.stage r between new result
    → LeavesTurn finds f s mid left old new result
turn-left finds f s mid left t rest old between new (Ok true) result next is takes goes =
    let all = closes finds f s mid left t rest old between next is (sym takes.1) takes.0.0.0
    takes.0.0.1 in
    subst (λ w. LeavesTurn finds f s mid left old w result) (sym goes.1)
    (subst (LeavesTurn finds f s mid left old between) (sym goes.0) all)
turn-left finds f s mid left t rest old between new (Ok false) (Ok None) next is takes goes = (
  t,
  rest,
  next,
  sym takes.1,
  is,
  takes.0.0.0,
  Appends-kept old.bytes between.bytes new.bytes (reply_text s t) takes.0.0.1.2 goes.0,
  goes.1,
  takes.0.1,
)
turn-left finds f s mid left t rest old between new (Ok false) (Ok (Some how)) next is takes goes =
    absurd goes
turn-left finds f s mid left t rest old between new (Ok false) (Err e) next is takes goes =
    let part : AppendsPrefix old.bytes new.bytes (reply_text s t) = (
      reply_text s t,
      [],
      sym (append-nil (reply_text s t)),
      Appends-kept old.bytes between.bytes new.bytes (reply_text s t) takes.0.0.1.2 goes.1,
    ) in
    (goes.0, (t, rest, next, part))
turn-left finds f s mid left t rest old between new (Err fault) result next is takes goes =
    subst (λ w. LeavesTurn finds f s mid left old w result) (sym goes.1)
    (subst (LeavesTurn finds f s mid left old between) (sym goes.0)
    (takes.0.0.1.0, (t, rest, next, takes.0.0.1.2)))

-- ---- by what was read

pub body-next : (f : First) (left : Reader) (text : List ℕ) (t : Turn) (rest : List ℕ)
    → f ≡ body text rest → IsOf (IsMessage text) t → IsNext f t rest
body-next f left text (taken m o) rest e is =
    subst (λ f. IsNext f (taken m o) rest) (sym e) (is, refl)
body-next f left text refused rest e is = subst (λ f. IsNext f refused rest) (sym e) refl

pub large-next : (f : First) (rest : List ℕ) → f ≡ too_long rest
    → IsNext f (taken too_large quiet) rest
large-next f rest e = subst (λ f. IsNext f (taken too_large quiet) rest) (sym e) (refl, refl)

pub refused-next : (f : First) (text rest : List ℕ) → f ≡ body text rest → IsNext f refused rest
refused-next f text rest e = subst (λ f. IsNext f refused rest) (sym e) refl

-- what could not be read
pub is-unread : (f : First) (s : Serving) (left : Reader) (e : FrameError)
    → ReadsFrame f left (Err e) → IsEnd f s left (ending_of e)
is-unread f s left BadHeader r = r
is-unread f s left InputEnded r = r
is-unread f s left Read r = r

-- a run ends with nothing done
pub ends-so : (finds : Looked → Type 0) (f : First) (s : Serving) (left : Reader) (out : Writer)
    (how stated : Ending) → how ≡ stated → IsEnd f s left stated
    → LeavesTurn finds f s s left out out (Ok (Some how))
ends-so finds f s left out how stated e is =
    (subst (IsEnd f s left) (sym e) is, refl, Appends-nil out.bytes, refl)
