-- What an editor has of its documents are the units of what a client has that holds bytes.
use Rattle.std.proofs.Common.{◌≡◌, ◌∙◌, sym, ap, refl, subst, ℕ, Bool, true, false, cond}
use Rattle.std.proofs.Common.{List, [], ◌∷◌, codes, Option, None, Some, ◌⊎◌, inl, inr}
use Rattle.std.specs.Prelude.{IfSome}
use Rattle.std.specs.List.{AllByRecursion}
use Rattle.std.specs.Option.{option_map}
use Rattle.std.specs.Str.{bytes_eq}
use Rattle.json.specs.Json.{Json, null}
use Rattle.cb_desk.specs.World.{text_of_file}
use Rattle.cb_wire.specs.Offsets.{IsText, units}
use Rattle.cb_wire.specs.Trees.{error_reply, result_reply}
use Rattle.cb_wire.specs.declared.reply.ErrorCode.TheVariants.{InvalidRequest}
use Rattle.cb_wire.specs.declared.reply.ErrorCode.TheVariants.{ServerNotInitialized}
use Rattle.cb_wire.specs.declared.units.Encoding.{Encoding}
use Rattle.cb_lsp.specs.Changes.{TextChange}
use Rattle.cb_lsp.specs.Clients.{Client}
use Rattle.cb_lsp.specs.declared.notice.Notice.{Notice}
use Rattle.cb_lsp.specs.declared.notice.Notice.TheVariants.{Ready, Open, Change, Save, Close}
use Rattle.cb_lsp.specs.declared.notice.Notice.TheVariants.{Files}
use Rattle.cb_lsp.specs.declared.server.Stage.{Stage}
use Rattle.cb_lsp.specs.declared.server.Stage.TheVariants.{Fresh, Running, Down}
use Rattle.cb_lsp.specs.Documents.{Oracle, first_refusal}
use Rattle.cb_lsp.specs.Editors.{BringsText, EditorsStayInSync, HasTexts, TellsTexts, in_units}
use Rattle.cb_lsp.specs.Messages.{Message, Serving, answered, does, encoding_for, fresh_server}
use Rattle.cb_lsp.specs.Messages.{initialized, not_json, not_request, notice_of, notification}
use Rattle.cb_lsp.specs.Messages.{noticed_by, noticed_if, replies, reply, request}
use Rattle.cb_lsp.specs.Messages.{requested}
use Rattle.cb_lsp.specs.Messages.{too_large}
use Rattle.cb_lsp.specs.Params.{changes_in, document_text, uri_in}
use Rattle.cb_lsp.specs.Questions.{asked_by}
use Rattle.cb_lsp.specs.Bodies.{Turn, after, refused, taken}
use Rattle.cb_lsp.specs.Sync.{Arrived, HasArrived, IsDropped, Sent, after_all, in_bytes, name_of}
use Rattle.cb_lsp.specs.Sync.{nothing_sent}
use Rattle.cb_lsp.specs.Sync.{sent_after, sent_at, sent_if, sent_in_all, sent_of, text_after}
use Rattle.cb_lsp.specs.Sync.{text_changed, text_opened}
use Rattle.cb_lsp.proofs.Editors.{AreSame, held-units, same, through-same}
use Rattle.cb_lsp.proofs.KeptClients.{Keeps, answered-keeps, notice-keeps}
use Rattle.cb_lsp.proofs.Synced.{documents_stay_in_sync}

-- ---- a document

opened-same : (e : Encoding) (o a b : Option (List ℕ)) → AreSame e a b → IfSome o IsText
    → AreSame e (text_opened in_bytes e a o) (text_opened in_units e b o)
opened-same e None a b h is = h
opened-same e (Some text) a b h is = same e text is

changed-same : (e : Encoding) (o : Option (List TextChange)) (a b : Option (List ℕ))
    → AreSame e a b → IfSome o (AllByRecursion BringsText)
    → AreSame e (text_changed in_bytes e a o) (text_changed in_units e b o)
changed-same e None a b h all = h
changed-same e (Some cs) a b h all = through-same e cs a b h all

after-same : (e : Encoding) (notice : Notice) (params : Option Json) (a b : Option (List ℕ))
    → AreSame e a b → HasTexts (Some notice) params
    → AreSame e (text_after in_bytes e notice params a) (text_after in_units e notice params b)
after-same e Ready params a b h texts = h
after-same e Open params a b h texts = opened-same e (document_text params) a b h texts
after-same e Change params a b h texts = changed-same e (changes_in params) a b h texts
after-same e Save params a b h texts = h
after-same e Close params a b h texts = tt
after-same e Files params a b h texts = h

-- ---- all documents

abbrev AllSame : Encoding → Sent → Sent → Type 0
AllSame e sent held = (name : List ℕ) → AreSame e (sent name) (held name)

module _ (e : Encoding) (sent held : Sent) (all : AllSame e sent held) where
  of-same : (notice : Notice) (params : Option Json) (o : Option (List ℕ))
      → HasTexts (Some notice) params
      → AllSame e (sent_of in_bytes e sent notice params o) (sent_of in_units e held notice params o)
  of-same notice params None texts name = all name
  of-same notice params (Some this) texts name =
      elim (bytes_eq this name) as (λ b. AreSame e
      (cond b (text_after in_bytes e notice params (sent this)) (sent name))
      (cond b (text_after in_units e notice params (held this)) (held name))) [
        | true ↦ after-same e notice params (sent this) (held this) (all this) texts
        | false ↦ all name
      ]

if-same : (c : Client) (sent held : Sent) → AllSame c.encoding sent held
    → (o : Option Notice) (params : Option Json) → HasTexts o params
    → AllSame c.encoding (sent_if in_bytes c sent o params) (sent_if in_units c held o params)
if-same c sent held all None params texts = all
if-same c sent held all (Some notice) params texts =
    of-same c.encoding sent held all notice params (name_of c.root.path (uri_in params)) texts

-- ---- messages

-- before `initialize` nothing is sent
abbrev Held : Stage → Encoding → Sent → Sent → Type 0
Held Fresh e sent held = (name : List ℕ) → (sent name ≡ None) × (held name ≡ None)
Held Running e sent held = AllSame e sent held
Held Down e sent held = AllSame e sent held

abbrev AreHeld : Serving → Sent → Sent → Type 0
AreHeld s sent held = Held s.stage s.client.encoding sent held

nothing-same : (e : Encoding) (a b : Option (List ℕ)) → a ≡ None → b ≡ None → AreSame e a b
nothing-same e a b p q =
    subst (λ x. AreSame e x b) (sym p) (subst (λ x. AreSame e None x) (sym q) tt)

module _ (o : Oracle) (s : Serving) (sent held : Sent) (all : AreHeld s sent held) where
  -- a server that runs, after what leaves its client as it is
  still-held : (t : Serving) (a b : Sent) → t.stage ≡ Running → t.client ≡ s.client
      → AllSame s.client.encoding a b → AreHeld t a b
  still-held t a b runs kept h =
      subst (λ stage. Held stage t.client.encoding a b) (sym runs)
      (subst (λ (c : Client). AllSame c.encoding a b) (sym kept) h)

  notice-held : (method : List ℕ) (params : Option Json) → HasTexts (notice_of method) params
      → (stage : Stage) → s.stage ≡ stage → Held stage s.client.encoding sent held
      → AreHeld (noticed_by stage o s method params).server
      (sent_at in_bytes stage s.client sent method params)
      (sent_at in_units stage s.client held method params)
  notice-held method params texts Fresh is h = all
  notice-held method params texts Down is h = all
  notice-held method params texts Running is h =
      let notice = notice_of method in
      let keeps = notice-keeps notice o s params in
      still-held (noticed_if notice o s params).server (sent_if in_bytes s.client sent notice params)
      (sent_if in_units s.client held notice params) (keeps.stage ∙ is) keeps.client
      (if-same s.client sent held h notice params texts)

module _ (s : Serving) (sent held : Sent) (all : AreHeld s sent held) (id : Json)
    (method : List ℕ) (params : Option Json)
  where
    abbrev StillHeld : Serving → Type 0
    StillHeld t = AreHeld t sent held

    kept : (t : Serving) → Keeps s t → StillHeld t
    kept t keeps =
        subst (λ stage. Held stage t.client.encoding sent held) (sym keeps.stage)
        (subst (λ (c : Client). Held s.stage c.encoding sent held) (sym keeps.client) all)

    begins : (no_memory : Bool) → Held Fresh s.client.encoding sent held
        → StillHeld (initialized no_memory s id params).server
    begins true h = all
    begins false h = λ name.
        nothing-same (encoding_for params) (sent name) (held name) (h name).0 (h name).1

    asks : (stage : Stage) (o : Oracle) → Held stage s.client.encoding sent held
        → StillHeld (requested stage o s id method params).server
    asks Fresh o h =
        let early = replies s (error_reply id ServerNotInitialized (codes "not initialized")) in
        elim (bytes_eq method (codes "initialize")) as
        (λ b. StillHeld (cond b (initialized (first_refusal o.refusals) s id params) early).server)
        [ true ↦ begins (first_refusal o.refusals) h | false ↦ all ]
    asks Running o h =
        let again = replies s (error_reply id InvalidRequest (codes "initialized already")) in
        let down = replies (record s { stage = Down }) (result_reply id null) in
        let answer = answered o s id (asked_by method params) in
        elim (bytes_eq method (codes "initialize")) as (λ b.
        StillHeld (cond b again (cond (bytes_eq method (codes "shutdown")) down answer)).server) [
          | true ↦ all
          | false ↦ elim (bytes_eq method (codes "shutdown")) as
              (λ b. StillHeld (cond b down answer).server)
              [ true ↦ h | false ↦ kept answer.server (answered-keeps o s id (asked_by method params)) ]
        ]
    asks Down o h = all

message-held : (o : Oracle) (s : Serving) (sent held : Sent) → AreHeld s sent held
    → (m : Message) → TellsTexts m
    → AreHeld (does o s m).server (sent_after in_bytes s sent m) (sent_after in_units s held m)
unfolding does
message-held o s sent held all not_json texts = all
message-held o s sent held all not_request texts = all
message-held o s sent held all reply texts = all
message-held o s sent held all too_large texts = all
message-held o s sent held all (notification method params) texts =
    notice-held o s sent held all method params texts s.stage refl all
message-held o s sent held all (request id method params) texts =
    asks s sent held all id method params s.stage o all

-- what is held after a message, of a server that stays as far as its client is concerned
sent-at-held : (c : Client) (sent held : Sent) (method : List ℕ) (params : Option Json)
    → HasTexts (notice_of method) params → (stage : Stage) → Held stage c.encoding sent held
    → Held stage c.encoding (sent_at in_bytes stage c sent method params)
    (sent_at in_units stage c held method params)
sent-at-held c sent held method params texts Fresh h = h
sent-at-held c sent held method params texts Down h = h
sent-at-held c sent held method params texts Running h =
    if-same c sent held h (notice_of method) params texts

sent-held : (s : Serving) (sent held : Sent) → AreHeld s sent held → (m : Message)
    → TellsTexts m → AreHeld s (sent_after in_bytes s sent m) (sent_after in_units s held m)
sent-held s sent held all not_json texts = all
sent-held s sent held all not_request texts = all
sent-held s sent held all reply texts = all
sent-held s sent held all too_large texts = all
sent-held s sent held all (notification method params) texts =
    sent-at-held s.client sent held method params texts s.stage all
sent-held s sent held all (request id method params) texts = all

dropped-held : (s : Serving) (sent held : Sent) → AreHeld s sent held → (t : Turn) → IsDropped t
    → AreHeld (after s t) sent held
unfolding does
dropped-held s sent held all (taken not_json o) is = all
dropped-held s sent held all (taken too_large o) is = all
dropped-held s sent held all (taken not_request o) is = absurd is
dropped-held s sent held all (taken reply o) is = absurd is
dropped-held s sent held all (taken (notification method params) o) is = absurd is
dropped-held s sent held all (taken (request id method params) o) is = absurd is
dropped-held s sent held all refused is = all

-- the message of a turn is what was sent, or is dropped
turn-held : (s : Serving) (sent held : Sent) → AreHeld s sent held → (m : Message) → TellsTexts m
    → (t : Turn) → ((o : Oracle) × (t ≡ taken m o)) ⊎ IsDropped t
    → AreHeld (after s t) (sent_after in_bytes s sent m) (sent_after in_units s held m)
turn-held s sent held all m texts t (inl is) =
    subst (λ t. AreHeld (after s t) (sent_after in_bytes s sent m) (sent_after in_units s held m))
    (sym is.1) (message-held is.0 s sent held all m texts)
turn-held s sent held all m texts t (inr is) =
    dropped-held s (sent_after in_bytes s sent m) (sent_after in_units s held m)
    (sent-held s sent held all m texts) t is

all-held : (s : Serving) (sent held : Sent) → AreHeld s sent held → (arrived : List Arrived)
    → AllByRecursion HasArrived arrived → AllByRecursion (λ (a : Arrived). TellsTexts a.0) arrived
    → AreHeld (after_all s arrived) (sent_in_all in_bytes s sent arrived)
    (sent_in_all in_units s held arrived)
unfolding after_all sent_in_all
all-held s sent held all [] came texts = all
all-held s sent held all (a ∷ more) came texts =
    all-held (after s a.1) (sent_after in_bytes s sent a.0) (sent_after in_units s held a.0)
    (turn-held s sent held all a.0 texts.0 a.1 came.0) more came.1 texts.1

-- what is held of a text that is sent
of-sent : (stage : Stage) (e : Encoding) (sent held : Sent) (name text : List ℕ)
    → Held stage e sent held → sent name ≡ Some text → held name ≡ Some (units e text)
of-sent Fresh e sent held name text all is = let none = (all name).0 in cc
of-sent Running e sent held name text all is =
    sym (held-units e (sent name) (held name) (all name)) ∙ ap (option_map (units e)) is
of-sent Down e sent held name text all is =
    sym (held-units e (sent name) (held name) (all name)) ∙ ap (option_map (units e)) is

pub editors_stay_in_sync : EditorsStayInSync
editors_stay_in_sync w root rooted version arrived came texts name d found kept =
    let s = fresh_server w root rooted version in
    let after = after_all s arrived in
    of-sent after.stage after.client.encoding (sent_in_all in_bytes s nothing_sent arrived)
    (sent_in_all in_units s nothing_sent arrived) name (text_of_file after.work.world.files name)
    (all-held s nothing_sent nothing_sent (λ n. (refl, refl)) arrived came texts)
    (documents_stay_in_sync w root rooted version arrived came name d found kept)
