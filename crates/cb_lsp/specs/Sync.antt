-- What a client has of the documents that it opened, and that the server has the same.
use Rattle.std.specs.Prelude.{◌≡◌, ◌⊎◌, ◌&&◌, ◌++◌, ℕ, Bool, true, false, List, [], ◌∷◌, Option}
use Rattle.std.specs.Prelude.{None, Some}
use Rattle.std.specs.List.{AllByRecursion, list_any}
use Rattle.std.specs.Prelude.{if◌then◌else◌}
use Rattle.std.specs.Str.{bytes_eq}
use Rattle.json.specs.Json.{Json}
use Rattle.cb_wire.specs.Uris.{Below, name_below, path_of}
use Rattle.cb_lsp.specs.Names.{is_document_name}
use Rattle.cb_wire.specs.declared.units.Encoding.{Encoding}
use Rattle.cb_desk.specs.World.{World, text_of_file}
use Rattle.cb_lsp.specs.Changes.{TextChange, text_with}
use Rattle.cb_lsp.specs.Clients.{Client}
use Rattle.cb_lsp.specs.declared.notice.Notice.{Notice}
use Rattle.cb_lsp.specs.declared.notice.Notice.TheVariants.{Ready, Open, Change, Save, Close}
use Rattle.cb_lsp.specs.declared.notice.Notice.TheVariants.{Files}
use Rattle.cb_lsp.specs.declared.server.Stage.{Stage}
use Rattle.cb_lsp.specs.declared.server.Stage.TheVariants.{Fresh, Running, Down}
use Rattle.cb_lsp.specs.Documents.{Document, Oracle, Told, Work, document_of, is_named, removed}
use Rattle.cb_lsp.specs.Documents.{renewed}
use Rattle.cb_lsp.specs.Messages.{Message, Serving, does, fresh_server, not_json, notice_of}
use Rattle.cb_lsp.specs.Messages.{notification, request, show_of, told_of, too_large}
use Rattle.cb_lsp.specs.Bodies.{Turn, after, outcome, refused, taken}
use Rattle.cb_lsp.specs.Params.{changes_in, document_text, uri_in}

-- what a client has of the document of a name, if that is open
abbrev pub Sent : Type 0
Sent = List ℕ → Option (List ℕ)

abbrev pub nothing_sent : Sent
nothing_sent name = None

-- the same with another text of one name, or none
abbrev pub with_text : List ℕ → Option (List ℕ) → Sent → Sent
with_text name text sent other = if bytes_eq name other then text else sent other

-- the name of a file below a root: of a path, and of a URI
abbrev pub name_at : (root : List ℕ) → Option (List ℕ) → Option (List ℕ)
name_at root None = None
name_at root (Some path) =
    let name = name_below root path in if is_document_name name then Some name else None

abbrev pub name_of : (root : List ℕ) → Option (List ℕ) → Option (List ℕ)
name_of root None = None
name_of root (Some uri) = name_at root (path_of uri)

-- the text that a client has after changes of its text: each was made in the text after those
-- before it
unfoldable pub text_through : Encoding → Option (List ℕ) → List TextChange → Option (List ℕ)
text_through e text [] = text
text_through e text (c ∷ cs) = text_through e (text_with e c text) cs

-- how a client holds texts: what it has of one, and what it has after changes
pub record Holding : Type 0 where
  pub has : Encoding → List ℕ → List ℕ
  pub after : Encoding → Option (List ℕ) → List TextChange → Option (List ℕ)

-- as bytes
abbrev pub in_bytes : Holding
in_bytes = record { has = λ e text. text; after = text_through }

-- what it has of a text, or else what it had before
abbrev pub text_opened : Holding → Encoding → (before : Option (List ℕ)) → Option (List ℕ)
    → Option (List ℕ)
text_opened h e before None = before
text_opened h e before (Some text) = Some (h.has e text)

abbrev pub text_changed : Holding → Encoding → (before : Option (List ℕ))
    → Option (List TextChange) → Option (List ℕ)
text_changed h e before None = before
text_changed h e before (Some cs) = h.after e before cs

-- what a client has of a document after its notification
abbrev pub text_after : Holding → Encoding → Notice → Option Json → (before : Option (List ℕ))
    → Option (List ℕ)
text_after h e Ready params before = before
text_after h e Open params before = text_opened h e before (document_text params)
text_after h e Change params before = text_changed h e before (changes_in params)
text_after h e Save params before = before
text_after h e Close params before = None
text_after h e Files params before = before

abbrev pub sent_of : Holding → Encoding → Sent → Notice → Option Json
    → (name : Option (List ℕ)) → Sent
sent_of h e sent notice params None = sent
sent_of h e sent notice params (Some name) =
    with_text name (text_after h e notice params (sent name)) sent

abbrev pub sent_if : Holding → Client → Sent → Option Notice → Option Json → Sent
sent_if h c sent None params = sent
sent_if h c sent (Some notice) params =
    sent_of h c.encoding sent notice params (name_of c.root.path (uri_in params))

abbrev pub sent_at : Holding → Stage → Client → Sent → (method : List ℕ) → Option Json → Sent
sent_at h Running c sent method params = sent_if h c sent (notice_of method) params
sent_at h Fresh c sent method params = sent
sent_at h Down c sent method params = sent

-- what a client has after a message to a server, which takes notifications as long as it runs
abbrev pub sent_after : Holding → Serving → Sent → Message → Sent
sent_after h s sent (notification method params) =
    sent_at h s.stage s.client sent method params
sent_after h s sent _ = sent

-- of each open document that is not lost the client has what its text comes to
abbrev pub AreInSync : (has : List ℕ → List ℕ) → Work → Sent → Type 0
AreInSync has w sent = (name : List ℕ) (d : Document) → document_of w.documents name ≡ Some d
    → d.lost ≡ false → sent name ≡ Some (has (text_of_file w.world.files name))

-- a message that a client sent, and the turn that the server made of it
abbrev pub Arrived : Type 0
Arrived = Message × Turn

-- a body that was dropped: it is not JSON, it is too large, or memory was refused to it
abbrev pub IsDropped : Turn → Type 0
IsDropped (taken not_json o) = Unit {0}
IsDropped (taken too_large o) = Unit {0}
IsDropped (taken _ o) = ⊥
IsDropped refused = Unit {0}

-- the message was taken, whatever the machine decided; or its body was dropped
abbrev pub HasArrived : Arrived → Type 0
HasArrived a = ((o : Oracle) × (a.1 ≡ taken a.0 o)) ⊎ IsDropped a.1

-- a server, and what its client has, after messages; those that were dropped were sent, too
unfoldable pub after_all : Serving → List Arrived → Serving
after_all s [] = s
after_all s (a ∷ more) = after_all (after s a.1) more

unfoldable pub sent_in_all : Holding → Serving → Sent → List Arrived → Sent
sent_in_all h s sent [] = sent
sent_in_all h s sent (a ∷ more) = sent_in_all h (after s a.1) (sent_after h s sent a.0) more

-- the documents of a server and of its client are the same after messages
abbrev pub StayInSync : Holding → Serving → List Arrived → Type 0
StayInSync h s arrived = let after = after_all s arrived in
    AreInSync (h.has after.client.encoding) after.work (sent_in_all h s nothing_sent arrived)

-- they are after any messages, whatever is found, refused or dropped
abbrev pub DocumentsStayInSync : Type 0
DocumentsStayInSync = (w : World) (root : Below) (rooted : Bool) (version : List ℕ)
    (arrived : List Arrived) → AllByRecursion HasArrived arrived
    → StayInSync in_bytes (fresh_server w root rooted version) arrived

-- ---- what changes no file

-- what is told of a document, or of a file that was written or deleted, is told of a file that is as
-- it was
abbrev pub LeavesFiles : Work → Told → Type 0
LeavesFiles w t = (why : List ℕ) → t.told ≡ Some why → t.work.world ≡ w.world

abbrev pub WhatIsToldChangedNothing : Type 0
WhatIsToldChangedNothing = (e : Encoding) (notice : Notice) (o : Oracle) (w : Work)
    (params : Option Json) (name : List ℕ) → LeavesFiles w (told_of e notice o w params name)

abbrev pub WhatIsToldOfEventsChangedNothing : Type 0
WhatIsToldOfEventsChangedNothing = (o : Oracle) (w : Work) (may_enter no_memory : Bool)
    (name : List ℕ) → LeavesFiles w (renewed o w may_enter name)
    × LeavesFiles w (removed no_memory w name)

-- a request leaves the documents as they are, and the files, too, where the client tells of those
-- that are written
abbrev pub RequestsChangeNothing : Type 0
RequestsChangeNothing = (o : Oracle) (s : Serving) (id : Json) (method : List ℕ)
    (params : Option Json) → let next = (does o s (request id method params)).server in
    (next.work.documents ≡ s.work.documents) × (s.watches ≡ true → next.work ≡ s.work)

-- ---- what is lost is told

-- a document of this name is lost
abbrev pub is_lost : List Document → (name : List ℕ) → Bool
is_lost ds name = list_any (λ d. is_named name d && d.lost) ds

-- the client is told something of the document of a name
abbrev pub IsTold : (name : List ℕ) → (written : List Json) → Type 0
IsTold name written = (why : List ℕ) × (before after : List Json)
    × (written ≡ before ++ (show_of name why ∷ after))

-- each document that a message makes lost is told by its name
abbrev pub LostAreTold : Type 0
LostAreTold = (s : Serving) (t : Turn) (name : List ℕ) → is_lost s.work.documents name ≡ false
    → is_lost (after s t).work.documents name ≡ true → IsTold name (outcome s t).written
