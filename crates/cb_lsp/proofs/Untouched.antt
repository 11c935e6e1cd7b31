-- What is told of a document, and requests, change no file.
use Rattle.std.proofs.Common.{◌≡◌, ◌∙◌, ◌∷◌, ap, refl, [], ◌&&◌, ◌||◌, not, ℕ, Bool, true, false, cond, List, codes}
use Rattle.std.proofs.Common.{Option, None, Some, Result, Ok, Err}
use Rattle.std.specs.Str.{bytes_eq}
use Rattle.json.specs.Json.{Json, null}
use Rattle.cb_wire.specs.declared.reply.ErrorCode.TheVariants.{InvalidRequest}
use Rattle.cb_wire.specs.declared.reply.ErrorCode.TheVariants.{ServerNotInitialized}
use Rattle.cb_wire.specs.Trees.{error_reply, result_reply}
use Rattle.cb_wire.specs.declared.units.Encoding.{Encoding}
use Rattle.cb_desk.specs.declared.change.Refusal.{Refusal}
use Rattle.cb_desk.specs.Step.{unload}
use Rattle.cb_desk.specs.World.{World, has_file, text_of_file}
use Rattle.cb_lsp.specs.Changes.{TextChange, text_by}
use Rattle.cb_lsp.specs.declared.notice.Notice.TheVariants.{Ready, Open, Change, Save, Close}
use Rattle.cb_lsp.specs.declared.notice.Notice.TheVariants.{Files}
use Rattle.cb_lsp.specs.declared.server.Stage.{Stage}
use Rattle.cb_lsp.specs.declared.server.Stage.TheVariants.{Fresh, Running, Down}
use Rattle.cb_lsp.specs.Documents.{Document, Oracle, Reading, Work, after_change, after_open}
use Rattle.cb_lsp.specs.Documents.{after_step, changed_into, changed_to, document_of, first_found}
use Rattle.cb_lsp.specs.Documents.{first_refusal, given, given_found, gone, holds, if_open, is_open}
use Rattle.cb_lsp.specs.Documents.{is_renewed, kept_text, later_refusals, linked, no_room}
use Rattle.cb_lsp.specs.Documents.{opened_if, removed, renewed, saved_as, taken, text_of_document}
use Rattle.cb_lsp.specs.Documents.{text_step, unreadable, without}
use Rattle.cb_lsp.specs.Messages.{Serving, answered, answered_anew, asked_reply, does, initialized}
use Rattle.cb_lsp.specs.Messages.{moved, opened_with, out_of_memory, refreshed, refreshed_from}
use Rattle.cb_lsp.specs.Messages.{replied, replies, requested, running, stays}
use Rattle.cb_lsp.specs.Params.{changes_in, document_text}
use Rattle.cb_lsp.specs.Questions.{Asked, asked_by}
use Rattle.cb_lsp.specs.Refresh.{given_anew}
use Rattle.cb_lsp.specs.declared.question.Unasked.{Unasked}
use Rattle.cb_lsp.specs.Sync.{LeavesFiles, RequestsChangeNothing, WhatIsToldChangedNothing}
use Rattle.cb_lsp.specs.Sync.{WhatIsToldOfEventsChangedNothing}
use Rattle.cb_lsp.proofs.Refreshed.{request-keeps}

-- ---- what is told

module _ (w : Work) where
  opens : (name : List ℕ) (r : Result World Refusal) → LeavesFiles w (after_open w name r)
  opens name (Ok u) why e = cc
  opens name (Err reason) why e = refl

  opens-if : (no_memory no_text : Bool) (name bytes : List ℕ)
      → LeavesFiles w (opened_if no_memory no_text w name bytes)
  opens-if true no_text name bytes = λ why e. refl
  opens-if false no_text name bytes =
      opens name (taken no_text w.world (text_step w.world.files name bytes))

  opens-with : (refusals : List Bool) (name : List ℕ) (o : Option (List ℕ))
      → LeavesFiles w (opened_with refusals w name o)
  opens-with refusals name None = λ why e. refl
  opens-with refusals name (Some bytes) =
      opens-if (first_refusal refusals && not (is_open w.documents name))
      (first_refusal (later_refusals refusals)) name bytes

  changes : (d : Document) (r : Result World Refusal) → LeavesFiles w (after_change w d r)
  changes d (Ok u) why e = cc
  changes d (Err reason) why e = refl

  changes-into : (no_text : Bool) (d : Document) (o : Option (List ℕ))
      → LeavesFiles w (changed_into no_text w d o)
  changes-into no_text d None = λ why e. refl
  changes-into no_text d (Some bytes) =
      changes d (taken no_text w.world (text_step w.world.files d.name bytes))

  changes-to : (e : Encoding) (no_text : Bool) (d : Document) (o : Option (List TextChange))
      → LeavesFiles w (changed_to e no_text w d o)
  changes-to e no_text d None = λ why is. refl
  changes-to e no_text d (Some cs) =
      changes-into no_text d (text_by e (text_of_document w d) cs)

  changes-if : (e : Encoding) (no_text : Bool) (cs : Option (List TextChange))
      (o : Option Document)
      → LeavesFiles w (if_open (λ d. changed_to e no_text w d cs) w o)
  changes-if e no_text cs None = λ why is. refl
  changes-if e no_text cs (Some d) = changes-to e no_text d cs

  saves-as : (d : Document) (b : Bool) → LeavesFiles w (saved_as w d b)
  saves-as d true why e = refl
  saves-as d false why e = refl

  saves-if : (o : Option Document) → LeavesFiles w (if_open (λ d. saved_as w d d.lost) w o)
  saves-if None = λ why e. refl
  saves-if (Some d) = saves-as d d.lost

  steps : (v : Work) (r : Result World Refusal) → v.world ≡ w.world
      → LeavesFiles w (after_step v r)
  steps v (Ok u) same why e = cc
  steps v (Err reason) same why e = same

  gives : (v : Work) (no_text : Bool) (name : List ℕ) (o : Option (List ℕ)) → v.world ≡ w.world
      → LeavesFiles w (given no_text v name o)
  gives v no_text name None same = λ why e. same
  gives v no_text name (Some bytes) same =
      steps v (taken no_text v.world (text_step v.world.files name bytes)) same

  gives-found : (f : Reading) (v : Work) (no_text : Bool) (name : List ℕ) (o : Option (List ℕ))
      → v.world ≡ w.world → LeavesFiles w (given_found f no_text v name o)
  gives-found gone v no_text name o same = gives v no_text name o same
  gives-found linked v no_text name o same = λ why e. same
  gives-found unreadable v no_text name o same = λ why e. same
  gives-found no_room v no_text name o same = λ why e. same
  gives-found (holds bytes) v no_text name o same = gives v no_text name (Some bytes) same

  closes-if : (f : Reading) (no_text : Bool) (name : List ℕ) (o : Option Document)
      → LeavesFiles w (if_open (λ d. given_found f no_text (without name w) name (kept_text d.kept))
      w o)
  closes-if f no_text name None = λ why e. refl
  closes-if f no_text name (Some d) =
      gives-found f (without name w) no_text name (kept_text d.kept) refl

pub what_is_told_changed_nothing : WhatIsToldChangedNothing
what_is_told_changed_nothing e Open o w params name =
    opens-with w o.refusals name (document_text params)
what_is_told_changed_nothing e Change o w params name =
    changes-if w e (first_refusal o.refusals) (changes_in params) (document_of w.documents name)
what_is_told_changed_nothing e Save o w params name =
    saves-if w (document_of w.documents name)
what_is_told_changed_nothing e Close o w params name =
    closes-if w (first_found o.found) (first_refusal o.refusals) name (document_of w.documents name)
what_is_told_changed_nothing e Ready o w params name = λ why is. refl
what_is_told_changed_nothing e Files o w params name = λ why is. refl

-- ---- what is told of file events

pub told_of_events_changed_nothing : WhatIsToldOfEventsChangedNothing
told_of_events_changed_nothing o w may_enter no_memory name = (
  elim (is_renewed w may_enter name) as (λ b. LeavesFiles w (cond b
      (given_found (first_found o.found) (first_refusal o.refusals) w name None)
      (record { work = w; told = None }))) [
        | true ↦ gives-found w (first_found o.found) w (first_refusal o.refusals) name None refl
        | false ↦ λ why e. refl
      ],
  elim (is_open w.documents name || not (has_file w.world.files name)) as (λ b.
      LeavesFiles w (cond b (record { work = w; told = None })
      (after_step w (taken no_memory w.world (unload name))))) [
        | true ↦ λ why e. refl
        | false ↦ steps w w (taken no_memory w.world (unload name)) refl
      ],
)

-- ---- requests

pub steps-documents : (w : Work) (r : Result World Refusal)
    → (after_step w r).work.documents ≡ w.documents
steps-documents w (Ok u) = refl
steps-documents w (Err why) = refl

anew-documents : (f : Reading) (no_memory : Bool) (w : Work) (name : List ℕ)
    → (given_anew f no_memory w name).work.documents ≡ w.documents
anew-documents gone no_memory w name = refl
anew-documents linked no_memory w name = refl
anew-documents unreadable no_memory w name = refl
anew-documents no_room no_memory w name = refl
anew-documents (holds []) no_memory w name = refl
anew-documents (holds (b ∷ bs)) no_memory w name =
    let new = b ∷ bs in
    let r = taken no_memory w.world (text_step w.world.files name new) in
    elim (bytes_eq new (text_of_file w.world.files name)) as (λ b.
    (cond b (record { work = w; told = None }) (after_step w r)).work.documents ≡ w.documents)
    [ true ↦ refl | false ↦ steps-documents w r ]

pub found-documents : (f : Reading) (no_text : Bool) (w : Work) (name : List ℕ)
    (other : Option (List ℕ)) → (given_found f no_text w name other).work.documents ≡ w.documents
found-documents gone no_text w name None = refl
found-documents gone no_text w name (Some new) =
    steps-documents w (taken no_text w.world (text_step w.world.files name new))
found-documents linked no_text w name other = refl
found-documents unreadable no_text w name other = refl
found-documents no_room no_text w name other = refl
found-documents (holds new) no_text w name other =
    steps-documents w (taken no_text w.world (text_step w.world.files name new))

pub removed-documents : (m : Bool) (w : Work) (name : List ℕ)
    → (removed m w name).work.documents ≡ w.documents
removed-documents m w name =
    elim (is_open w.documents name || not (has_file w.world.files name)) as (λ b.
    (cond b (record { work = w; told = None })
    (after_step w (taken m w.world (unload name)))).work.documents ≡ w.documents)
    [ true ↦ refl | false ↦ steps-documents w (taken m w.world (unload name)) ]

pub renewed-documents : (o : Oracle) (w : Work) (may_enter : Bool) (name : List ℕ)
    → (renewed o w may_enter name).work.documents ≡ w.documents
renewed-documents o w may_enter name =
    let f = first_found o.found in
    let m = first_refusal o.refusals in
    elim (is_renewed w may_enter name) as (λ b. (cond b (given_found f m w name None)
    (record { work = w; told = None })).work.documents ≡ w.documents)
    [ true ↦ found-documents f m w name None | false ↦ refl ]

-- a file that is read again leaves the documents as they are
refreshed-documents : (o : Oracle) (s : Serving) (name : List ℕ)
    → (refreshed o s name).server.work.documents ≡ s.work.documents
refreshed-documents o s name =
    let f = first_found o.found in
    let m = first_refusal (later_refusals o.refusals) in
    let no_path = moved s name [] (record { work = s.work; told = Some out_of_memory }) in
    elim (is_open s.work.documents name) as (λ b. (cond b (stays s)
    (cond (first_refusal o.refusals) no_path (refreshed_from f m s name))).server.work.documents
    ≡ s.work.documents) [
      | true ↦ refl
      | false ↦ elim (first_refusal o.refusals) as (λ b.
          (cond b no_path (refreshed_from f m s name)).server.work.documents ≡ s.work.documents)
          [ true ↦ refl | false ↦ anew-documents f m s.work name ]
    ]

module _ (s : Serving) (id : Json) (method : List ℕ) (params : Option Json) where
  begins : (no_memory : Bool) → (initialized no_memory s id params).server.work ≡ s.work
  begins true = refl
  begins false = refl

  asks-documents : (stage : Stage) (o : Oracle)
      → (requested stage o s id method params).server.work.documents ≡ s.work.documents
  asks-documents stage o =
      request-keeps (λ t. t.work.documents ≡ s.work.documents)
      (λ o t name is. refreshed-documents o t name ∙ is) s id method params refl
      (λ m. ap (λ (w : Work). w.documents) (begins m)) refl stage o

  -- the client tells of files that are written
  answers : s.watches ≡ true → (o : Oracle) (asked : Result Asked Unasked)
      → (answered o s id asked).server.work ≡ s.work
  answers tells o (Err why) = refl
  answers tells o (Ok asked) =
      ap (λ b. (cond b (replied s (asked_reply o s id (Ok asked)))
      (answered_anew o s id asked)).server.work) tells

  runs : s.watches ≡ true → (o : Oracle) → (running o s id method params).server.work ≡ s.work
  runs tells o =
      let again = replies s (error_reply id InvalidRequest (codes "initialized already")) in
      let down = replies (record s { stage = Down }) (result_reply id null) in
      let answer = answered o s id (asked_by method params) in
      elim (bytes_eq method (codes "initialize")) as (λ b.
      (cond b again (cond (bytes_eq method (codes "shutdown")) down answer)).server.work
      ≡ s.work) [
        | true ↦ refl
        | false ↦ elim (bytes_eq method (codes "shutdown")) as
            (λ b. (cond b down answer).server.work ≡ s.work)
            [ true ↦ refl | false ↦ answers tells o (asked_by method params) ]
      ]

  asks : s.watches ≡ true → (stage : Stage) (o : Oracle)
      → (requested stage o s id method params).server.work ≡ s.work
  asks tells Running o = runs tells o
  asks tells Fresh o =
      let no_memory = first_refusal o.refusals in
      let early = replies s (error_reply id ServerNotInitialized (codes "not initialized")) in
      elim (bytes_eq method (codes "initialize")) as
      (λ b. (cond b (initialized no_memory s id params) early).server.work ≡ s.work)
      [ true ↦ begins no_memory | false ↦ refl ]
  asks tells Down o = refl

pub requests_change_nothing : RequestsChangeNothing
unfolding does
requests_change_nothing o s id method params = (
  asks-documents s id method params s.stage o,
  λ tells. asks s id method params tells s.stage o,
)
