-- A notification changes nothing of what a server knows of its client.
use Rattle.std.proofs.Common.{◌≡◌, ◌∙◌, refl, List, ℕ, ◌&&◌, Bool, true, false, cond, codes}
use Rattle.std.proofs.Common.{Option, None, Some, Result, []}
use Rattle.json.specs.Find.{get}
use Rattle.json.specs.Json.{Json, Items, no_items, item}
use Rattle.cb_lsp.specs.Names.{is_document_name}
use Rattle.cb_wire.specs.Uris.{escaped, name_below, path_of}
use Rattle.cb_lsp.specs.declared.notice.FileEvent.{FileEvent}
use Rattle.cb_lsp.specs.declared.notice.FileEvent.TheVariants.{Written, Gone}
use Rattle.cb_lsp.specs.declared.notice.Notice.{Notice}
use Rattle.cb_lsp.specs.declared.notice.Notice.TheVariants.{Ready, Open, Change, Save, Close}
use Rattle.cb_lsp.specs.declared.notice.Notice.TheVariants.{Files}
use Rattle.cb_lsp.specs.Documents.{Oracle, behind_event, first_found, first_refusal, later}
use Rattle.cb_lsp.specs.Documents.{is_open, later_refusals}
use Rattle.cb_lsp.specs.FileEvents.{last_events}
use Rattle.cb_lsp.specs.Messages.{Serving, all_happened, bad_name, dropped, ends_as_c, happened}
use Rattle.cb_lsp.specs.Messages.{happened_as, happened_at, happened_in, happened_to, is_opening}
use Rattle.cb_lsp.specs.Messages.{may_enter, moved, read_behind}
use Rattle.cb_lsp.specs.Messages.{noticed_as, noticed_if, noticed_of, noticed_on}
use Rattle.cb_lsp.specs.Messages.{answered, out_of_memory, refreshed, refreshed_from}
use Rattle.cb_lsp.specs.Messages.{registers, replies, show_of, stays, told_of, unread}
use Rattle.cb_lsp.specs.Questions.{Asked}
use Rattle.cb_lsp.specs.declared.question.Unasked.{Unasked}
use Rattle.cb_lsp.proofs.Refreshed.{answer-keeps}
use Rattle.cb_lsp.proofs.Untouched.{removed-documents, renewed-documents}
use Rattle.cb_lsp.specs.Params.{event_of, items_in, member_of, text_in, uri_in}

pub record Keeps (s t : Serving) : Type 0 where
  pub stage : t.stage ≡ s.stage
  pub client : t.client ≡ s.client

as-is : (s : Serving) → Keeps s s
as-is s = record { stage = refl; client = refl }

-- ---- a file that is read again

refreshed-keeps : (o : Oracle) (s : Serving) (name : List ℕ) → Keeps s (refreshed o s name).server
refreshed-keeps o s name =
    let no_path = moved s name [] (record { work = s.work; told = Some out_of_memory }) in
    let anew = refreshed_from (first_found o.found) (first_refusal (later_refusals o.refusals)) s name
    in
    elim (is_open s.work.documents name) as (λ b. Keeps s (cond b (stays s)
    (cond (first_refusal o.refusals) no_path anew)).server) [
      | true ↦ as-is s
      | false ↦ elim (first_refusal o.refusals) as (λ b. Keeps s (cond b no_path anew).server)
          [ true ↦ record { stage = refl; client = refl } | false ↦ record { stage = refl; client = refl } ]
    ]

pub answered-keeps : (o : Oracle) (s : Serving) (id : Json) (asked : Result Asked Unasked)
    → Keeps s (answered o s id asked).server
answered-keeps o s id asked =
    answer-keeps (Keeps s) (λ o t name so.
    let next = refreshed-keeps o t name in
    record { stage = next.stage ∙ so.stage; client = next.client ∙ so.client }) o s id asked (as-is s)

-- ---- file events

-- what they leave as it is
pub record Stays (s t : Serving) : Type 0 where
  pub stage : t.stage ≡ s.stage
  pub client : t.client ≡ s.client
  pub documents : t.work.documents ≡ s.work.documents

all-as-is : (s : Serving) → Stays s s
all-as-is s = record { stage = refl; client = refl; documents = refl }

at-stays : (kind : FileEvent) (o : Oracle) (s : Serving) (path : Option (List ℕ))
    → Stays s (happened_at kind o s path).server
at-stays Gone o s None = all-as-is s
at-stays Gone o s (Some path) = record {
  stage = refl;
  client = refl;
  documents =
      removed-documents (first_refusal o.refusals) s.work (name_below s.client.root.path path);
}
at-stays Written o s None = all-as-is s
at-stays Written o s (Some path) =
    let name = name_below s.client.root.path path in record {
      stage = refl;
      client = refl;
      documents = renewed-documents o s.work (may_enter path name) name;
    }

to-stays : (kind : FileEvent) (o : Oracle) (s : Serving) (uri : Option (List ℕ))
    → Stays s (happened_to kind o s uri).server
to-stays kind o s None = all-as-is s
to-stays kind o s (Some uri) =
    elim (first_refusal o.refusals) as (λ b. Stays s (cond b (replies s (unread uri))
    (happened_at kind (later o) s (path_of uri))).server)
    [ true ↦ all-as-is s | false ↦ at-stays kind (later o) s (path_of uri) ]

event-stays : (kind : Option FileEvent) (o : Oracle) (s : Serving) (event : Json)
    → Stays s (happened_as kind o s event).server
event-stays None o s event = all-as-is s
event-stays (Some kind) o s event = to-stays kind o s (text_in (get (codes "uri") event))

all-stay : (o : Oracle) (s : Serving) (events : Items) → Stays s (all_happened o s events).server
unfolding all_happened
all-stay o s no_items = all-as-is s
all-stay o s (item event more) =
    let first = event-stays (event_of event) o s event in
    let next = all-stay (behind_event o) (happened o s event).server more in record {
      stage = next.stage ∙ first.stage;
      client = next.client ∙ first.client;
      documents = next.documents ∙ first.documents;
    }

pub in-stays : (o : Oracle) (s : Serving) (events : Option Items)
    → Stays s (happened_in o s events).server
in-stays o s None = all-as-is s
in-stays o s (Some events) = all-stay o s (last_events events)

-- ---- notifications

registers-keeps : (s : Serving) (b : Bool) → Keeps s (registers s b).server
registers-keeps s true = as-is s
registers-keeps s false = as-is s

module _ (notice : Notice) (o : Oracle) (s : Serving) (params : Option Json) where
  on-keeps : (path : Option (List ℕ)) → Keeps s (noticed_on notice o s params path).server
  on-keeps None = as-is s
  on-keeps (Some path) =
      let name = name_below s.client.root.path path in
      elim (is_document_name name) as (λ b. Keeps s
      (cond b (moved s name (read_behind notice (first_found o.found) s.work path name)
      (told_of s.client.encoding notice o s.work params name))
      (bad_name s notice path)).server) [
        | true ↦ record { stage = refl; client = refl }
        | false ↦ elim (ends_as_c path && is_opening notice) as (λ b. Keeps s (cond b
            (replies s (show_of (escaped path) (codes "bad name"))) (stays s)).server)
            [ true ↦ as-is s | false ↦ as-is s ]
      ]

of-keeps : (notice : Notice) (o : Oracle) (s : Serving) (params : Option Json)
    (uri : Option (List ℕ)) → Keeps s (noticed_of notice o s params uri).server
of-keeps notice o s params None = as-is s
of-keeps notice o s params (Some uri) =
    elim (first_refusal o.refusals) as (λ b. Keeps s (cond b (dropped s (unread uri))
    (noticed_on notice (later o) s params (path_of uri))).server)
    [ true ↦ record { stage = refl; client = refl } | false ↦ on-keeps notice (later o) s params (path_of uri) ]

as-keeps : (notice : Notice) (o : Oracle) (s : Serving) (params : Option Json)
    → Keeps s (noticed_as notice o s params).server
as-keeps Ready o s params = registers-keeps s s.watches
as-keeps Open o s params = of-keeps Open o s params (uri_in params)
as-keeps Change o s params = of-keeps Change o s params (uri_in params)
as-keeps Save o s params = of-keeps Save o s params (uri_in params)
as-keeps Close o s params = of-keeps Close o s params (uri_in params)
as-keeps Files o s params =
    let stays = in-stays o s (items_in (member_of (codes "changes") params)) in
    record { stage = stays.stage; client = stays.client }

pub notice-keeps : (notice : Option Notice) (o : Oracle) (s : Serving) (params : Option Json)
    → Keeps s (noticed_if notice o s params).server
notice-keeps None o s params = as-is s
notice-keeps (Some notice) o s params = as-keeps notice o s params
