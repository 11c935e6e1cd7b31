-- What a message does to a server, and what is written.
use Rattle.std.specs.Prelude.{ℕ, Bool, true, false, not, ◌&&◌, ◌||◌, ◌++◌, nat_eq, List, [], ◌∷◌}
use Rattle.std.specs.Prelude.{codes, length, Option, None, Some, Result, Ok, Err}
use Rattle.std.specs.Prelude.{if◌then◌else◌}
use Rattle.std.specs.List.{ends_with, flat_map}
use Rattle.std.specs.Str.{bytes_eq}
use Rattle.json.specs.Find.{get}
use Rattle.json.specs.Json.{Json, Items, no_items, item, null}
use Rattle.cb_desk.specs.World.{World, has_file}
use Rattle.cb_wire.specs.declared.units.Encoding.{Encoding}
use Rattle.cb_wire.specs.declared.units.Encoding.TheVariants.{Utf8, Utf16}
use Rattle.cb_wire.specs.declared.reply.ErrorCode.TheVariants.{ServerNotInitialized, InvalidRequest}
use Rattle.cb_wire.specs.declared.reply.ErrorCode.TheVariants.{MethodNotFound, InvalidParams}
use Rattle.cb_wire.specs.declared.reply.ErrorCode.TheVariants.{RequestFailed}
use Rattle.cb_wire.specs.Trees.{error_reply, notice_tree, result_reply}
use Rattle.cb_wire.specs.Watchers.{watch_request}
use Rattle.cb_wire.specs.Welcome.{welcome}
use Rattle.cb_wire.specs.Uris.{Below, escaped, escaped_path, name_below, of_uri, path_below}
use Rattle.cb_wire.specs.Uris.{path_of}
use Rattle.cb_lsp.specs.declared.notice.Notice.{Notice}
use Rattle.cb_lsp.specs.declared.notice.Notice.TheVariants.{Ready, Open, Change, Save, Close, Files}
use Rattle.cb_lsp.specs.declared.notice.FileEvent.{FileEvent}
use Rattle.cb_lsp.specs.declared.notice.FileEvent.TheVariants.{Written, Gone}
use Rattle.cb_lsp.specs.declared.question.Unasked.{Unasked}
use Rattle.cb_lsp.specs.declared.question.Unasked.TheVariants.{UnknownMethod, BadParameters}
use Rattle.cb_lsp.specs.declared.server.Stage.{Stage}
use Rattle.cb_lsp.specs.declared.server.Stage.TheVariants.{Fresh, Running, Down}
use Rattle.cb_lsp.specs.Answers.{Replied, answer_to, reply_with}
use Rattle.cb_lsp.specs.Clients.{Client}
use Rattle.cb_lsp.specs.Names.{is_document_name}
use Rattle.cb_lsp.specs.Documents.{Document, Looked, Oracle, Reading, Told, Work, behind_event}
use Rattle.cb_lsp.specs.Documents.{changed, later_refusals, lost_all, told_unless}
use Rattle.cb_lsp.specs.Documents.{closed, first_found, first_refusal, is_open, is_renewed, later}
use Rattle.cb_lsp.specs.Documents.{looked_at, looked_by, opened, removed, renewed, saved}
use Rattle.cb_lsp.specs.FileEvents.{last_events}
use Rattle.cb_lsp.specs.Params.{changes_in, document_text, event_of, items_in, member_of}
use Rattle.cb_lsp.specs.Params.{prepares_renames, root_in, takes_trees, takes_utf8, takes_watchers}
use Rattle.cb_lsp.specs.Params.{text_in, uri_in}
use Rattle.cb_lsp.specs.Questions.{Asked, asked_by}
use Rattle.cb_lsp.specs.Refresh.{files_asked, given_anew}
use Rattle.cb_lsp.specs.Renames.{Answered}

-- a message that was read
pub data Message : Type 0 where
  -- what is no JSON; what is no message of this protocol; a reply to a request of the server
  not_json : Message
  not_request : Message
  reply : Message
  -- a method and its parameters, if there are any
  notification : (method : List ℕ) (params : Option Json) → Message
  request : (id : Json) (method : List ℕ) (params : Option Json) → Message
  -- a body that was dropped
  too_large : Message

-- a server: its files and documents, what its client takes, whether its root was given, its version,
-- how far the client is, and whether the client tells of files that are written when it is asked to
pub record Serving : Type 0 where
  pub work : Work
  pub client : Client
  pub rooted : Bool
  pub version : List ℕ
  pub stage : Stage
  pub watches : Bool

-- a server after a message; what is written, a value a message; and what was read again
pub record Outcome : Type 0 where
  pub server : Serving
  pub written : List Json
  pub read : List Looked

-- ---- what is written

abbrev pub log_of : List ℕ → Json
log_of text = notice_tree (codes "window/logMessage") (codes "1") (codes "cbrowse: " ++ text)

abbrev pub show_of : (name text : List ℕ) → Json
show_of name text =
    notice_tree (codes "window/showMessage") (codes "2")
    (codes "cbrowse: " ++ (name ++ (codes ": " ++ text)))

-- what the client is told of a document that is lost with all others
abbrev pub dropped_text : List ℕ
dropped_text = codes "out of date, a message was dropped: close the file and open it again"

-- a name and what the client is told of its document, if anything
abbrev pub show_if : List ℕ → Option (List ℕ) → List Json
show_if name None = []
show_if name (Some text) = show_of name text ∷ []

abbrev pub out_of_memory : List ℕ
out_of_memory = codes "out of memory"

abbrev pub out_of_memory_reply : Json → Json
out_of_memory_reply id = error_reply id RequestFailed out_of_memory

-- a result, unless memory was refused to it
abbrev pub result_unless : Bool → (id result : Json) → Json
result_unless true id j = out_of_memory_reply id
result_unless false id j = result_reply id j

abbrev pub replies : Serving → Json → Outcome
replies s message = record { server = s; written = message ∷ []; read = [] }

abbrev pub stays : Serving → Outcome
stays s = record { server = s; written = []; read = [] }

-- the files and documents after a message, what is told of the document of a file, and what was read
abbrev pub moved : Serving → List ℕ → List Looked → Told → Outcome
moved s name read t = record {
  server = record s { work = t.work };
  written = show_if name t.told;
  read = read;
}

-- what comes after an outcome
abbrev pub and_then : Outcome → Outcome → Outcome
and_then first next = record {
  server = next.server;
  written = first.written ++ next.written;
  read = first.read ++ next.read;
}

-- a message was dropped, which may have been a change: every document is lost, and each that was
-- not lost before is named
abbrev pub named_lost : List Document → List Json
named_lost ds = flat_map (λ d. show_if d.name (told_unless d.lost dropped_text)) ds

abbrev pub all_lost : Serving → Outcome
all_lost s = record {
  server = record s { work = record s.work { documents = lost_all s.work.documents } };
  written = named_lost s.work.documents;
  read = [];
}

abbrev pub dropped : Serving → Json → Outcome
dropped s message = and_then (replies s message) (all_lost s)

-- ---- requests

-- the root that a URI names, or else the one that was there
abbrev pub root_of_path : Below → List ℕ → Option (List ℕ) → Below
root_of_path root uri None = root
root_of_path root uri (Some path) = of_uri uri path

abbrev pub root_of_uri : Below → Option (List ℕ) → Below
root_of_uri root None = root
root_of_uri root (Some uri) = root_of_path root uri (escaped_path uri)

abbrev pub root_for : Bool → Below → Option Json → Below
root_for true root params = root
root_for false root params = root_of_uri root (root_in params)

-- a server before `initialize`
abbrev pub fresh_server : World → Below → (rooted : Bool) → (version : List ℕ) → Serving
fresh_server w root rooted version = record {
  work = record { world = w; documents = [] };
  client = record { root = root; encoding = Utf16; tree = false };
  rooted = rooted;
  version = version;
  stage = Fresh;
  watches = false;
}

-- a server with the root of a client, unless its own was given
abbrev pub with_root : Serving → Option Json → Serving
with_root s params = record s {
  client = record s.client { root = root_for s.rooted s.client.root params };
}

-- what the columns of a client count
abbrev pub encoding_for : Option Json → Encoding
encoding_for params = if takes_utf8 params then Utf8 else Utf16

-- what a client takes that says so of itself
abbrev pub client_of : Serving → Option Json → Client
client_of s params = record {
  root = root_for s.rooted s.client.root params;
  encoding = encoding_for params;
  tree = takes_trees params;
}

abbrev pub initialized : Bool → Serving → Json → Option Json → Outcome
initialized true s id params = replies s (out_of_memory_reply id)
initialized false s id params =
    let c = client_of s params in
    replies (record s { client = c; stage = Running; watches = takes_watchers params })
    (result_reply id (welcome c.encoding (prepares_renames params) s.version))

abbrev pub unasked_reply : Json → Unasked → Json
unasked_reply id UnknownMethod = error_reply id MethodNotFound (codes "unknown method")
unasked_reply id BadParameters = error_reply id InvalidParams (codes "bad parameters")

-- the reply with an answer, unless memory was refused to it
abbrev pub reply_unless : Bool → (id : Json) → Answered → Replied
reply_unless true id a = record { message = out_of_memory_reply id; read = [] }
reply_unless false id a = reply_with id a

-- the reply to a question; memory may be refused to it
abbrev pub reply_to : Bool → Oracle → Serving → Json → Asked → Replied
reply_to no_memory o s id asked = reply_unless no_memory id (answer_to o s.client s.work asked)

abbrev pub asked_reply : Oracle → Serving → Json → Result Asked Unasked → Replied
asked_reply o s id (Err why) = record { message = unasked_reply id why; read = [] }
asked_reply o s id (Ok asked) = reply_to (first_refusal o.refusals) (later o) s id asked

abbrev pub replied : Serving → Replied → Outcome
replied s r = record { server = s; written = r.message ∷ []; read = r.read }

-- a file is read again, unless its document is open; memory may be refused to its path
abbrev pub refreshed_from : Reading → Bool → Serving → (name : List ℕ) → Outcome
refreshed_from found no_text s name =
    moved s name (looked_at s.work.world (path_below s.client.root.path name) found ∷ [])
    (given_anew found no_text s.work name)

abbrev pub refreshed : Oracle → Serving → (name : List ℕ) → Outcome
refreshed o s name =
    if is_open s.work.documents name then stays s
    else (if first_refusal o.refusals
    then moved s name [] (record { work = s.work; told = Some out_of_memory })
    else refreshed_from (first_found o.found) (first_refusal (later_refusals o.refusals)) s name)

-- files are read again, and then a question is answered
unfoldable pub answered_after : Oracle → Serving → Json → Asked → List (List ℕ) → Outcome
answered_after o s id asked [] = replied s (asked_reply o s id (Ok asked))
answered_after o s id asked (name ∷ names) =
    let first = refreshed o s name in
    and_then first (answered_after (behind_event o) first.server id asked names)

-- they are, where the client does not tell of files that are written; memory may be refused to
-- their names
abbrev pub answered_anew : Oracle → Serving → Json → Asked → Outcome
answered_anew o s id asked =
    if first_refusal o.refusals then replies s (out_of_memory_reply id)
    else answered_after (later o) s id asked (files_asked s.client s.work.world asked)

abbrev pub answered : Oracle → Serving → Json → Result Asked Unasked → Outcome
answered o s id (Err why) = replies s (unasked_reply id why)
answered o s id (Ok asked) =
    if s.watches then replied s (asked_reply o s id (Ok asked)) else answered_anew o s id asked

-- a request to a server that runs
abbrev pub running : Oracle → Serving → Json → List ℕ → Option Json → Outcome
running o s id method params =
    if bytes_eq method (codes "initialize")
    then replies s (error_reply id InvalidRequest (codes "initialized already"))
    else (if bytes_eq method (codes "shutdown")
    then replies (record s { stage = Down }) (result_reply id null)
    else answered o s id (asked_by method params))

-- a request, by the stage of the client
abbrev pub requested : Stage → Oracle → Serving → Json → List ℕ → Option Json → Outcome
requested Fresh o s id method params =
    if bytes_eq method (codes "initialize")
    then initialized (first_refusal o.refusals) s id params
    else replies s (error_reply id ServerNotInitialized (codes "not initialized"))
requested Running o s id method params = running o s id method params
requested Down o s id method params =
    replies s (error_reply id InvalidRequest (codes "shut down"))

-- ---- notifications

-- a client that is ready is asked to tell of the C files that are written, where it can
abbrev pub registers : Serving → Bool → Outcome
registers s true = replies s watch_request
registers s false = stays s

-- a text of a document is opened, if there is one
abbrev pub opened_with : List Bool → Work → List ℕ → Option (List ℕ) → Told
opened_with refusals w name None = record { work = w; told = None }
opened_with refusals w name (Some text) = opened refusals w name text

-- the notification of a method, if it does something
abbrev pub notice_of : List ℕ → Option Notice
notice_of method =
    if bytes_eq method (codes "initialized") then Some Ready
    else (if bytes_eq method (codes "textDocument/didOpen") then Some Open
    else (if bytes_eq method (codes "textDocument/didChange") then Some Change
    else (if bytes_eq method (codes "textDocument/didSave") then Some Save
    else (if bytes_eq method (codes "textDocument/didClose") then Some Close
    else (if bytes_eq method (codes "workspace/didChangeWatchedFiles") then Some Files
    else None)))))

-- one about the document of a file
abbrev pub told_of : Encoding → Notice → Oracle → Work → Option Json → List ℕ → Told
told_of e Open o w params name = opened_with o.refusals w name (document_text params)
told_of e Change o w params name = changed e o.refusals w name (changes_in params)
told_of e Save o w params name = saved w name
told_of e Close o w params name = closed o w name
told_of e _ o w params name = record { work = w; told = None }

abbrev pub is_opening : Notice → Bool
is_opening Open = true
is_opening _ = false

abbrev pub is_closing : Notice → Bool
is_closing Close = true
is_closing _ = false

-- the file of a path is read again where its document is closed
abbrev pub read_behind : Notice → Reading → Work → (path name : List ℕ) → List Looked
read_behind notice found w path name =
    if is_closing notice && is_open w.documents name then looked_at w.world path found ∷ []
    else []

-- a path ends as the name of a file does
abbrev pub ends_as_c : List ℕ → Bool
ends_as_c path = ends_with nat_eq path (codes ".c") || ends_with nat_eq path (codes ".h")

-- what is no name of a file is told where it is opened and ends as one
abbrev pub bad_name : Serving → Notice → (path : List ℕ) → Outcome
bad_name s notice path =
    if ends_as_c path && is_opening notice
    then replies s (show_of (escaped path) (codes "bad name")) else stays s

abbrev pub noticed_at : Notice → Oracle → Serving → Option Json → List ℕ → Outcome
noticed_at notice o s params path =
    let name = name_below s.client.root.path path in
    if is_document_name name
    then moved s name (read_behind notice (first_found o.found) s.work path name)
    (told_of s.client.encoding notice o s.work params name)
    else bad_name s notice path

abbrev pub noticed_on : Notice → Oracle → Serving → Option Json → Option (List ℕ) → Outcome
noticed_on notice o s params None = stays s
noticed_on notice o s params (Some path) = noticed_at notice o s params path

-- memory may be refused to the path of a URI: then the notification is dropped
abbrev pub unread : List ℕ → Json
unread uri = show_of uri out_of_memory

abbrev pub noticed_of : Notice → Oracle → Serving → Option Json → Option (List ℕ) → Outcome
noticed_of notice o s params None = stays s
noticed_of notice o s params (Some uri) =
    if first_refusal o.refusals then dropped s (unread uri)
    else noticed_on notice (later o) s params (path_of uri)

-- ---- file events

-- a file of a path that goes away, or that was written; one below the root may be taken in
abbrev pub may_enter : (path name : List ℕ) → Bool
may_enter path name = is_document_name name && not (bytes_eq name path)

-- the name of a file has to be its only one where the file is not there yet
abbrev pub only_name : Work → (name : List ℕ) → ℕ
only_name w name = if has_file w.world.files name then 0 else length name

-- the file of a path is read again where it is renewed
abbrev pub read_renewed : Reading → Work → (may_enter : Bool) → (path name : List ℕ)
    → List Looked
read_renewed found w may_enter path name =
    if is_renewed w may_enter name
    then looked_by (only_name w name) w.world path found ∷ [] else []

abbrev pub happened_at : FileEvent → Oracle → Serving → Option (List ℕ) → Outcome
happened_at event o s None = stays s
happened_at Gone o s (Some path) =
    let name = name_below s.client.root.path path in
    moved s name [] (removed (first_refusal o.refusals) s.work name)
happened_at Written o s (Some path) =
    let name = name_below s.client.root.path path in
    moved s name (read_renewed (first_found o.found) s.work (may_enter path name) path name)
    (renewed o s.work (may_enter path name) name)

abbrev pub happened_to : FileEvent → Oracle → Serving → Option (List ℕ) → Outcome
happened_to event o s None = stays s
happened_to event o s (Some uri) =
    if first_refusal o.refusals then replies s (unread uri)
    else happened_at event (later o) s (path_of uri)

-- a file event, if it is one
abbrev pub happened_as : Option FileEvent → Oracle → Serving → Json → Outcome
happened_as None o s event = stays s
happened_as (Some kind) o s event = happened_to kind o s (text_in (get (codes "uri") event))

abbrev pub happened : Oracle → Serving → Json → Outcome
happened o s event = happened_as (event_of event) o s event

-- events in turn
unfoldable pub all_happened : Oracle → Serving → Items → Outcome
all_happened o s no_items = stays s
all_happened o s (item event more) =
    let first = happened o s event in
    and_then first (all_happened (behind_event o) first.server more)

-- all of a message; one that comes again is passed over
abbrev pub happened_in : Oracle → Serving → Option Items → Outcome
happened_in o s None = stays s
happened_in o s (Some events) = all_happened o s (last_events events)

-- a notification to a server that runs
abbrev pub noticed_as : Notice → Oracle → Serving → Option Json → Outcome
noticed_as Ready o s params = registers s s.watches
noticed_as Files o s params = happened_in o s (items_in (member_of (codes "changes") params))
noticed_as notice o s params = noticed_of notice o s params (uri_in params)

abbrev pub noticed_if : Option Notice → Oracle → Serving → Option Json → Outcome
noticed_if None o s params = stays s
noticed_if (Some notice) o s params = noticed_as notice o s params

abbrev pub noticed : Oracle → Serving → (method : List ℕ) → Option Json → Outcome
noticed o s method params = noticed_if (notice_of method) o s params

abbrev pub noticed_by : Stage → Oracle → Serving → (method : List ℕ) → Option Json → Outcome
noticed_by Running o s method params = noticed o s method params
noticed_by Fresh o s method params = stays s
noticed_by Down o s method params = stays s

-- ---- messages

-- what a message does, as the machine decides
unfoldable pub does : Oracle → Serving → Message → Outcome
does o s not_json = dropped s (log_of (codes "not JSON"))
does o s not_request = replies s (log_of (codes "not a request"))
does o s reply = stays s
does o s too_large = dropped s (log_of (codes "too large"))
does o s (notification method params) = noticed_by s.stage o s method params
does o s (request id method params) = requested s.stage o s id method params

-- the client ends a run by this message
abbrev pub is_exit : Message → Bool
is_exit (notification method params) = bytes_eq method (codes "exit")
is_exit _ = false
