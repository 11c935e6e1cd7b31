-- Documents that are lost, and what the client is told of them.
use Rattle.std.proofs.Common.{◌≡◌, ◌∙◌, ◌&&◌, ◌||◌, ◌++◌, ℕ, Bool, true, false, List, [], ◌∷◌}
use Rattle.std.proofs.Common.{ap, sym, subst, refl, cond, append_assoc}
use Rattle.std.proofs.lemmas.Bool.{and_right, or_from, or_parts, true≢false}
use Rattle.std.specs.Prelude.{codes, not, Option, None, Some, Result, Ok, Err}
use Rattle.json.specs.Json.{Json}
use Rattle.cb_desk.proofs.PlaceLemmas.{same-name}
use Rattle.cb_desk.specs.declared.change.Refusal.{Refusal}
use Rattle.cb_desk.specs.Refusals.{text_of}
use Rattle.cb_desk.specs.World.{World}
use Rattle.cb_wire.specs.declared.units.Encoding.{Encoding}
use Rattle.cb_wire.specs.Uris.{escaped, name_below, path_of}
use Rattle.cb_lsp.specs.Changes.{TextChange, text_by}
use Rattle.cb_lsp.specs.declared.notice.Notice.{Notice}
use Rattle.cb_lsp.specs.declared.notice.Notice.TheVariants.{Ready, Open, Change, Save, Close, Files}
use Rattle.cb_lsp.specs.declared.server.Stage.{Stage}
use Rattle.cb_lsp.specs.declared.server.Stage.TheVariants.{Fresh, Running, Down}
use Rattle.cb_lsp.specs.Bodies.{refused, taken as taken_as}
use Rattle.cb_lsp.specs.Documents.{Document, Oracle, Reading, Told, Work, after_change, after_open}
use Rattle.cb_lsp.specs.Documents.{changed_into, changed_to, document_of, first_found}
use Rattle.cb_lsp.specs.Documents.{first_refusal, given_found, if_open, is_named, is_open}
use Rattle.cb_lsp.specs.Documents.{kept_text, later, later_refusals, lost, lost_all}
use Rattle.cb_lsp.specs.Documents.{opened_if, present, saved_as, taken}
use Rattle.cb_lsp.specs.Documents.{text_of_document, text_step, told_unless, was_lost, with_document}
use Rattle.cb_lsp.specs.Documents.{without, without_document}
use Rattle.cb_lsp.specs.Messages.{Message, Outcome, Serving, bad_name, does}
use Rattle.cb_lsp.specs.Messages.{dropped, dropped_text, ends_as_c}
use Rattle.cb_lsp.specs.Messages.{happened_in, is_opening, moved}
use Rattle.cb_lsp.specs.Messages.{named_lost, not_json, not_request, notice_of, noticed_as}
use Rattle.cb_lsp.specs.Messages.{noticed_by, noticed_if, noticed_of, noticed_on, notification}
use Rattle.cb_lsp.specs.Messages.{opened_with, read_behind, registers, replies, reply, request}
use Rattle.cb_lsp.specs.Messages.{show_if, show_of, stays, told_of, too_large, unread}
use Rattle.cb_lsp.specs.Names.{is_document_name}
use Rattle.cb_lsp.specs.Params.{changes_in, document_text, items_in, member_of}
use Rattle.cb_lsp.specs.Params.{uri_in}
use Rattle.cb_lsp.specs.Sync.{IsTold, LostAreTold, is_lost}
use Rattle.cb_lsp.proofs.KeptClients.{in-stays}
use Rattle.cb_lsp.proofs.Synced.{found-name}
use Rattle.cb_lsp.proofs.Untouched.{found-documents, requests_change_nothing}

-- ---- truth values

or-left : (a b : Bool) → b ≡ false → (a || b) ≡ true → a ≡ true
or-left true b none some = refl
or-left false b none some = absurd (true≢false (sym some ∙ none))

or-right : (a b : Bool) → a ≡ false → (a || b) ≡ true → b ≡ true
or-right true b none some = absurd (true≢false none)
or-right false b none some = some

-- ---- a document more or less

-- one that is lost after a document was put in its place is that document
put-lost : (d : Document) (ds : List Document) (name : List ℕ) → is_lost ds name ≡ false
    → is_lost (with_document d ds) name ≡ true → (is_named name d && d.lost) ≡ true
unfolding with_document
put-lost d [] name none some = or-left (is_named name d && d.lost) false refl some
put-lost d (e ∷ es) name none some =
    let parts = or_parts (is_named name e && e.lost) (is_lost es name) none in
    elim (is_named d.name e) as (λ b. is_lost (cond b (d ∷ es) (e ∷ with_document d es)) name ≡ true
    → (is_named name d && d.lost) ≡ true) [
      | true ↦ λ is. or-left (is_named name d && d.lost) (is_lost es name) parts.1 is
      | false ↦ λ is. put-lost d es name parts.1
          (or-right (is_named name e && e.lost) (is_lost (with_document d es) name) parts.0 is)
    ] some

-- one that is not lost makes none lost
put-kept : (d : Document) (ds : List Document) (name : List ℕ) → d.lost ≡ false
    → is_lost ds name ≡ false → is_lost (with_document d ds) name ≡ true → ⊥
put-kept d ds name kept none some =
    true≢false (sym (put-lost d ds name none some) ∙ and_right (is_named name d) d.lost kept)

-- one that is, is of this name
put-named : (d : Document) (ds : List Document) (name : List ℕ)
    → is_lost ds name ≡ false → is_lost (with_document d ds) name ≡ true → d.name ≡ name
put-named d ds name none some =
    (elim (is_named name d) as (λ b. is_named name d ≡ b → (b && d.lost) ≡ true → d.name ≡ name) [
      | true ↦ λ h is. same-name d.name name h
      | false ↦ λ h is. absurd (true≢false (sym is))
    ]) refl (put-lost d ds name none some)

gone-lost : (taken : List ℕ) (ds : List Document) (name : List ℕ) → is_lost ds name ≡ false
    → is_lost (without_document taken ds) name ≡ false
unfolding without_document
gone-lost taken [] name none = none
gone-lost taken (e ∷ es) name none =
    let parts = or_parts (is_named name e && e.lost) (is_lost es name) none in
    elim (is_named taken e) as (λ b. is_lost (cond b es (e ∷ without_document taken es)) name
    ≡ false) [
      | true ↦ parts.1
      | false ↦ or_from (is_named name e && e.lost) (is_lost (without_document taken es) name)
          parts.0 (gone-lost taken es name parts.1)
    ]

found-kept : (ds : List Document) (name : List ℕ) → is_lost ds name ≡ false
    → was_lost (document_of ds name) ≡ false
unfolding document_of
found-kept [] name none = refl
found-kept (d ∷ ds) name none =
    (elim (is_named name d) as (λ b. ((b && d.lost) || is_lost ds name) ≡ false
    → was_lost (cond b (Some d) (document_of ds name)) ≡ false) [
      | true ↦ λ is. (or_parts d.lost (is_lost ds name) is).0
      | false ↦ λ is. found-kept ds name is
    ]) none

-- ---- what is told

told-one : (name why : List ℕ) → IsTold name (show_of name why ∷ [])
told-one name why = (why, [], [], refl)

-- of all that are lost
all-told : (ds : List Document) (name : List ℕ) → is_lost ds name ≡ false
    → is_lost (lost_all ds) name ≡ true → IsTold name (named_lost ds)
all-told [] name none some = absurd (true≢false (sym some))
all-told (d ∷ ds) name none some =
    let first = show_if d.name (told_unless d.lost dropped_text) in
    (elim (is_named name d) as (λ b. is_named name d ≡ b
    → ((b && d.lost) || is_lost ds name) ≡ false
    → ((b && true) || is_lost (lost_all ds) name) ≡ true → IsTold name (first ++ named_lost ds)) [
      | true ↦ λ h none some.
          let kept = (or_parts d.lost (is_lost ds name) none).0 in
          subst (λ b. IsTold name (show_if d.name (told_unless b dropped_text) ++ named_lost ds))
          (sym kept)
          (subst (λ n. IsTold name (show_of n dropped_text ∷ named_lost ds))
          (sym (same-name d.name name h)) (dropped_text, [], named_lost ds, refl))
      | false ↦ λ h none some.
          let told = all-told ds name none some in (
            told.0,
            first ++ told.1,
            told.2,
            ap (λ js. first ++ js) told.3
                ∙ sym (append_assoc first told.1 (show_of name told.0 ∷ told.2)),
          )
    ]) refl none some

-- ---- a notification of a document

module _ (w : Work) (name : List ℕ) (none : is_lost w.documents name ≡ false) where
  -- where a document is lost after it, the client is told under the name of the notification
  TellsLost : (of : List ℕ) → Told → Type 0
  TellsLost of t = is_lost t.work.documents name ≡ true → IsTold name (show_if of t.told)

  same : (of : List ℕ) (told : Option (List ℕ)) → TellsLost of (record { work = w; told = told })
  unfolding TellsLost
  same of told some = absurd (true≢false (sym some ∙ none))

  -- the document of this name is lost
  lost-told : (d : Document) (was : Bool) (why : List ℕ)
      → was_lost (document_of w.documents d.name) ≡ was
      → is_lost (with_document d w.documents) name ≡ true
      → IsTold name (show_if d.name (told_unless was why))
  lost-told d was why is some =
      let named = put-named d w.documents name none some in
      let kept = sym is ∙ ap (λ n. was_lost (document_of w.documents n)) named
      ∙ found-kept w.documents name none in
      subst (λ b. IsTold name (show_if d.name (told_unless b why))) (sym kept)
      (subst (λ n. IsTold name (show_of n why ∷ [])) (sym named) (told-one name why))

  opens : (of : List ℕ) (r : Result World Refusal) → TellsLost of (after_open w of r)
  unfolding TellsLost
  opens of (Ok u) some =
      absurd (put-kept (record { name = of; kept = present; lost = false }) w.documents name refl none
      some)
  opens of (Err why) some = lost-told _ _ (text_of why) refl some

  opens-with : (refusals : List Bool) (of : List ℕ) (o : Option (List ℕ))
      → TellsLost of (opened_with refusals w of o)
  opens-with refusals of None = same of None
  opens-with refusals of (Some bytes) =
      let m = first_refusal (later_refusals refusals) in
      elim (first_refusal refusals && not (is_open w.documents of)) as
      (λ b. TellsLost of (opened_if b m w of bytes)) [
        | true ↦ same of _
        | false ↦ opens of (taken m w.world (text_step w.world.files of bytes))
      ]

  -- a document of the notification
  module _ (of : List ℕ) (d : Document) (found : document_of w.documents of ≡ Some d)
      (named : d.name ≡ of)
    where
      loses : (why : List ℕ) → TellsLost of (lost w d why)
      unfolding TellsLost
      loses why some =
          subst (λ n. IsTold name (show_if n (told_unless d.lost why))) named
          (lost-told (record d { lost = true }) d.lost why
          (ap (λ n. was_lost (document_of w.documents n)) named ∙ ap was_lost found) some)

      changes : (r : Result World Refusal) → TellsLost of (after_change w d r)
      unfolding TellsLost
      changes (Ok u) some = absurd (put-kept _ w.documents name refl none some)
      changes (Err why) some = loses (text_of why) some

      changes-into : (m : Bool) (o : Option (List ℕ)) → TellsLost of (changed_into m w d o)
      changes-into m None = same of None
      changes-into m (Some bytes) =
          changes (taken m w.world (text_step w.world.files d.name bytes))

      changes-to : (e : Encoding) (m : Bool) (o : Option (List TextChange))
          → TellsLost of (changed_to e m w d o)
      changes-to e m None = loses (codes "bad parameters")
      changes-to e m (Some cs) = changes-into m (text_by e (text_of_document w d) cs)

      saves : (b : Bool) → d.lost ≡ b → TellsLost of (saved_as w d b)
      unfolding TellsLost
      saves true is some = absurd (true≢false (sym some ∙ none))
      saves false is some =
          absurd (put-kept (record d { kept = present }) w.documents name is none some)

      closes : (f : Reading) (m : Bool)
          → TellsLost of (given_found f m (without of w) of (kept_text d.kept))
      unfolding TellsLost
      closes f m some =
          absurd (true≢false (sym some
          ∙ ap (λ ds. is_lost ds name) (found-documents f m (without of w) of (kept_text d.kept))
          ∙ gone-lost of w.documents name none))

  if-open : (does : Document → Told) (of : List ℕ) (o : Option Document)
      → document_of w.documents of ≡ o
      → ((d : Document) → document_of w.documents of ≡ Some d → d.name ≡ of → TellsLost of (does d))
      → TellsLost of (if_open does w o)
  if-open does of None found each = same of None
  if-open does of (Some d) found each = each d found (found-name w.documents of d found)

  tells : (e : Encoding) (notice : Notice) (o : Oracle) (params : Option Json) (of : List ℕ)
      → TellsLost of (told_of e notice o w params of)
  tells e Ready o params of = same of None
  tells e Open o params of = opens-with o.refusals of (document_text params)
  tells e Change o params of =
      if-open (λ d. changed_to e (first_refusal o.refusals) w d (changes_in params)) of _ refl
      (λ d found named. changes-to of d found named e (first_refusal o.refusals) (changes_in params))
  tells e Save o params of =
      if-open (λ d. saved_as w d d.lost) of _ refl
      (λ d found named. saves of d found named d.lost refl)
  tells e Close o params of =
      if-open (λ d. given_found (first_found o.found) (first_refusal o.refusals) (without of w) of
      (kept_text d.kept)) of _ refl
      (λ d found named. closes of d found named (first_found o.found) (first_refusal o.refusals))
  tells e Files o params of = same of None

-- ---- messages

module _ (s : Serving) (name : List ℕ) (none : is_lost s.work.documents name ≡ false) where
  Tells : Outcome → Type 0
  Tells o = is_lost o.server.work.documents name ≡ true → IsTold name o.written

  -- the documents are as they were
  keeps : (o : Outcome) → o.server.work.documents ≡ s.work.documents → Tells o
  unfolding Tells
  keeps o is some = absurd (true≢false (sym some ∙ ap (λ ds. is_lost ds name) is ∙ none))

  -- all are lost
  drops : (j : Json) → Tells (dropped s j)
  unfolding Tells
  drops j some =
      let told = all-told s.work.documents name none some in
      (told.0, j ∷ told.1, told.2, ap (λ js. j ∷ js) told.3)

  on-path : (notice : Notice) (o : Oracle) (params : Option Json) (path : Option (List ℕ))
      → Tells (noticed_on notice o s params path)
  unfolding Tells TellsLost
  on-path notice o params None = keeps (stays s) refl
  on-path notice o params (Some path) =
      let of = name_below s.client.root.path path in
      elim (is_document_name of) as (λ b. Tells (cond b
      (moved s of (read_behind notice (first_found o.found) s.work path of)
      (told_of s.client.encoding notice o s.work params of)) (bad_name s notice path))) [
        | true ↦ λ some. tells s.work name none s.client.encoding notice o params of some
        | false ↦ elim (ends_as_c path && is_opening notice) as (λ b. Tells (cond b
            (replies s (show_of (escaped path) (codes "bad name"))) (stays s))) [
              | true ↦ keeps (replies s (show_of (escaped path) (codes "bad name"))) refl
              | false ↦ keeps (stays s) refl
            ]
      ]

  of-uri : (notice : Notice) (o : Oracle) (params : Option Json) (uri : Option (List ℕ))
      → Tells (noticed_of notice o s params uri)
  of-uri notice o params None = keeps (stays s) refl
  of-uri notice o params (Some uri) =
      elim (first_refusal o.refusals) as (λ b. Tells (cond b (dropped s (unread uri))
      (noticed_on notice (later o) s params (path_of uri))))
      [ true ↦ drops (unread uri) | false ↦ on-path notice (later o) params (path_of uri) ]

  as-notice : (notice : Notice) (o : Oracle) (params : Option Json)
      → Tells (noticed_as notice o s params)
  as-notice Ready o params =
      elim s.watches as (λ b. Tells (registers s b)) [
        | true ↦ keeps (registers s true) refl
        | false ↦ keeps (stays s) refl
      ]
  as-notice Open o params = of-uri Open o params (uri_in params)
  as-notice Change o params = of-uri Change o params (uri_in params)
  as-notice Save o params = of-uri Save o params (uri_in params)
  as-notice Close o params = of-uri Close o params (uri_in params)
  as-notice Files o params =
      let events = items_in (member_of (codes "changes") params) in
      keeps (happened_in o s events) (in-stays o s events).documents

  if-notice : (notice : Option Notice) (o : Oracle) (params : Option Json)
      → Tells (noticed_if notice o s params)
  if-notice None o params = keeps (stays s) refl
  if-notice (Some notice) o params = as-notice notice o params

  by-stage : (stage : Stage) (o : Oracle) (method : List ℕ) (params : Option Json)
      → Tells (noticed_by stage o s method params)
  by-stage Running o method params = if-notice (notice_of method) o params
  by-stage Fresh o method params = keeps (stays s) refl
  by-stage Down o method params = keeps (stays s) refl

  by-message : (m : Message) (o : Oracle) → Tells (does o s m)
  unfolding does
  by-message not_json o = drops _
  by-message not_request o = keeps _ refl
  by-message reply o = keeps _ refl
  by-message too_large o = drops _
  by-message (notification method params) o = by-stage s.stage o method params
  by-message (request id method params) o =
      keeps (does o s (request id method params)) (requests_change_nothing o s id method params).0

pub lost_are_told : LostAreTold
unfolding Tells
lost_are_told s (taken_as m o) name none some = by-message s name none m o some
lost_are_told s refused name none some = drops s name none _ some
