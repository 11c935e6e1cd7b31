-- The message that a value was judged to be is the one that it is.
use Rattle.std.proofs.Common.{◌≡◌, ℕ, Bool, true, false, List, Option, None, Some, cond, refl, ap, ap₂, ◌∙◌}
use Rattle.json.specs.Find.{get}
use Rattle.json.specs.Json.{Json, null, boolean, number, string, array, object}
use Rattle.std.specs.Prelude.{codes}
use Rattle.cb_wire.specs.declared.message.Message.{Message as CodeMessage}
use Rattle.cb_wire.specs.declared.message.Message.TheVariants.{NotRequest, Notification, Reply}
use Rattle.cb_wire.specs.declared.message.Message.TheVariants.{Request}
use Rattle.cb_wire.specs.Messages.{IsNotification, IsRequest, Judges, JudgesId, JudgesMethod}
use Rattle.cb_wire.specs.Messages.{plain_id}
use Rattle.cb_lsp.specs.Messages.{not_request, notification, reply, request}
use Rattle.cb_lsp.specs.Models.{message_in}
use Rattle.cb_lsp.specs.steps.Values.{seen}
use Rattle.cb_lsp.specs.Bodies.{IsById, IsByMethod, IsValue}

one-of : (b : Bool) → message_in (cond b Reply NotRequest) ≡ cond b reply not_request
one-of true = refl
one-of false = refl

notified : (method : List ℕ) (params : Option Json) (msg : CodeMessage)
    → IsNotification method params msg → message_in msg ≡ notification method params
notified method params (Notification call) p = ap₂ notification p.0 p.1
notified method params (Request id call) p = absurd p
notified method params NotRequest p = absurd p
notified method params Reply p = absurd p

requested : (i : Json) (method : List ℕ) (params : Option Json) (msg : CodeMessage)
    → IsRequest i method params msg → message_in msg ≡ request (plain_id i) method params
requested i method params (Request id call) p =
    ap (λ j. request j call.method.now (seen call.params)) p.0
    ∙ ap₂ (request (plain_id i)) p.1.0 p.1.1
requested i method params (Notification call) p = absurd p
requested i method params NotRequest p = absurd p
requested i method params Reply p = absurd p

by-id : (o : Option Json) (method : List ℕ) (params : Option Json) (msg : CodeMessage)
    → JudgesId o method params msg → IsById o method params (message_in msg)
by-id None method params msg p = notified method params msg p
by-id (Some i) method params msg p =
    ((λ is. requested i method params msg (p.0 is)), (λ not. ap message_in (p.1 not)))

by-method : (o : Option Json) (j : Json) (msg : CodeMessage)
    → JudgesMethod o j msg → IsByMethod o j (message_in msg)
by-method None j msg p = ap message_in p ∙ one-of _
by-method (Some (string s)) j msg p =
    by-id (get (codes "id") j) s (get (codes "params") j) msg p
by-method (Some null) j msg p = ap message_in p
by-method (Some (boolean b)) j msg p = ap message_in p
by-method (Some (number s)) j msg p = ap message_in p
by-method (Some (array js)) j msg p = ap message_in p
by-method (Some (object ms)) j msg p = ap message_in p

pub judged : (j : Json) (msg : CodeMessage) → Judges j msg → IsValue (Some j) (message_in msg)
judged j msg p = by-method (get (codes "method") j) j msg p
