-- What a body that is read does to a server.
use Rattle.std.specs.Prelude.{◌≡◌, Bool, false, ◌&&◌, ◌||◌, cond, ℕ, List, codes, Option, None, Some}
use Rattle.std.specs.Prelude.{IfOk, OnOk, Result}
use Rattle.std.specs.List.{AllByRecursion, flat_map}
use Rattle.json.specs.Find.{get}
use Rattle.json.specs.Json.{Json, document, null, boolean, number, string, array, object}
use Rattle.cb_tags.specs.declared.sink.WriteFault.{WriteFault}
use Rattle.cb_tags.specs.Writers.{Writer}
use Rattle.cb_tags.specs.Writing.{Puts}
use Rattle.cb_wire.specs.Messages.{IsId, has, plain_id, text_of}
use Rattle.cb_wire.specs.Surrogates.{with_whole_pairs}
use Rattle.cb_wire.specs.Texts.{frame}
use Rattle.cb_wire.specs.Values.{value_text}
use Rattle.cb_lsp.specs.Answers.{Replied}
use Rattle.cb_lsp.specs.Documents.{Looked, Oracle}
use Rattle.cb_lsp.specs.Messages.{Message, Outcome, Serving, does, dropped, is_exit, log_of}
use Rattle.cb_lsp.specs.Messages.{not_json, not_request, notification, out_of_memory, reply}
use Rattle.cb_lsp.specs.Messages.{request}

-- ---- messages

-- what a method and its parameters are, by the id
abbrev pub IsById : Option Json → (method : List ℕ) → Option Json → Message → Type 0
IsById None method params m = m ≡ notification method params
IsById (Some id) method params m =
    (IsId id → m ≡ request (plain_id id) method params) × ((IsId id → ⊥) → m ≡ not_request)

abbrev pub IsByMethod : Option Json → Json → Message → Type 0
IsByMethod None j m =
    m ≡ cond (has (codes "id") j && (has (codes "result") j || has (codes "error") j)) reply
    not_request
IsByMethod (Some (string method)) j m =
    IsById (get (codes "id") j) method (get (codes "params") j) m
IsByMethod (Some null) j m = m ≡ not_request
IsByMethod (Some (boolean b)) j m = m ≡ not_request
IsByMethod (Some (number s)) j m = m ≡ not_request
IsByMethod (Some (array js)) j m = m ≡ not_request
IsByMethod (Some (object ms)) j m = m ≡ not_request

abbrev pub IsValue : Option Json → Message → Type 0
IsValue None m = m ≡ not_json
IsValue (Some j) m = IsByMethod (get (codes "method") j) j m

-- what a text is as JSON, or else another one
abbrev pub or_else : Option Json → Option Json → Option Json
or_else None other = other
or_else (Some j) other = Some j

-- the value of a body: where it is no JSON, it is read with U+FFFD for each half of a surrogate pair
-- that stands alone
abbrev pub value_of : List ℕ → Option Json
value_of body = or_else (document (text_of body)) (document (text_of (with_whole_pairs body)))

-- the message of a body
abbrev pub IsMessage : List ℕ → Message → Type 0
IsMessage body m = IsValue (value_of body) m

-- ---- turns

-- a message that was read, and what the machine decided while it was taken; or a body that memory
-- was refused to as it was read
pub data Turn : Type 0 where
  taken : (m : Message) (o : Oracle) → Turn
  refused : Turn

-- the client ends the run by it
abbrev pub is_last : Turn → Bool
is_last (taken m o) = is_exit m
is_last refused = false

-- what a turn does
abbrev pub outcome : Serving → Turn → Outcome
outcome s (taken m o) = does o s m
outcome s refused = dropped s (log_of out_of_memory)

-- a server after it
abbrev pub after : Serving → Turn → Serving
after s t = (outcome s t).server

-- what was read again
abbrev pub read_in : Serving → Turn → List Looked
read_in s t = (outcome s t).read

-- the bytes that are written
abbrev pub written_text : List Json → List ℕ
written_text js = flat_map (λ j. frame (value_text j)) js

abbrev pub reply_text : Serving → Turn → List ℕ
reply_text s t = written_text (outcome s t).written

-- ---- what is left

-- the server is as an outcome says, unless the writer fails, and what is written is as it says
abbrev pub Does : {A E : Type 0} → Outcome → Serving → Writer → Writer → Result A E → Type 0
Does o next old new result =
    OnOk result (next ≡ o.server) × Puts old new result (written_text o.written)

-- and what was read again is what is found there
abbrev pub DoesBy : {A E : Type 0} → (finds : Looked → Type 0) → Outcome → Serving → Writer → Writer
    → Result A E → Type 0
DoesBy finds o next old new result =
    Does o next old new result × OnOk result (AllByRecursion finds o.read)

-- a reply is written, and what was read for it is what is found there
abbrev pub Replies : {A E : Type 0} → (finds : Looked → Type 0) → Replied → Writer → Writer
    → Result A E → Type 0
Replies finds r old new result =
    Puts old new result (frame (value_text r.message)) × AllByRecursion finds r.read

-- a turn is taken: whether the client ends the run by it
abbrev pub Takes : (finds : Looked → Type 0) → Turn → (s next : Serving) → Writer → Writer
    → Result Bool WriteFault → Type 0
Takes finds t s next old new result =
    DoesBy finds (outcome s t) next old new result × IfOk result (λ last. last ≡ is_last t)

-- a turn whose message is known
abbrev pub IsOf : (Message → Type 0) → Turn → Type 0
IsOf P (taken m o) = P m
IsOf P refused = Unit {0}

-- a turn is taken whose message is known by its body
abbrev pub TakesBody : (finds : Looked → Type 0) → (Message → Type 0) → (s next : Serving) → Writer
    → Writer → Result Bool WriteFault → Type 0
TakesBody finds P s next old new result =
    (t : Turn) × IsOf P t × Takes finds t s next old new result
