-- What notifications and file events lead to.
use Rattle.std.proofs.Common.{◌≡◌, ◌∙◌, ◌&&◌, ap, sym, subst, refl, ℕ, Bool, true, false, List, []}
use Rattle.std.proofs.Common.{◌∷◌}
use Rattle.std.specs.Prelude.{codes, Option, None, Some, Result, if◌then◌else◌}
use Rattle.std.specs.List.{AllByRecursion}
use Rattle.std.specs.Option.{option_map}
use Rattle.json.specs.Find.{get}
use Rattle.json.specs.Json.{Json}
use Rattle.cb_lsp.specs.Names.{is_document_name}
use Rattle.cb_wire.specs.Uris.{escaped, name_below, path_of}
use Rattle.cb_lsp.specs.declared.notice.Notice.{Notice}
use Rattle.cb_lsp.specs.declared.notice.FileEvent.{FileEvent}
use Rattle.cb_lsp.specs.declared.notice.FileEvent.TheVariants.{Written}
use Rattle.cb_tags.specs.Writers.{Writer}
use Rattle.cb_tags.specs.Writing.{Puts}
use Rattle.cb_desk.specs.World.{World, WorldBounds}
use Rattle.cb_lsp.specs.Bodies.{DoesBy, written_text}
use Rattle.cb_lsp.specs.Documents.{Looked, Oracle, Reading, Work, first_found, given_found}
use Rattle.cb_lsp.specs.Documents.{is_renewed, looked_by, most_read, renewed}
use Rattle.cb_lsp.specs.Messages.{Serving, dropped, ends_as_c, happened, happened_at, is_opening}
use Rattle.cb_lsp.specs.Messages.{may_enter, moved, only_name, read_behind, read_renewed}
use Rattle.cb_lsp.specs.Messages.{noticed_at, noticed_of, registers, replies, show_if, show_of}
use Rattle.cb_lsp.specs.Messages.{stays, told_of}
use Rattle.cb_lsp.specs.Messages.{unread}
use Rattle.cb_lsp.specs.Params.{event_of, text_in, uri_in}
use Rattle.cb_lsp.specs.steps.Works.{one_change, one_event}
use Rattle.cb_lsp.proofs.Answered.{by-same, on-ok}

-- ---- the path of a URI

pub path-found : {P : Type 0} (bytes : P → List ℕ) (o : Option P) (p q : P) (uri path : List ℕ)
    → option_map bytes o ≡ path_of uri → o ≡ Some p → q ≡ p → path ≡ bytes q
    → Some path ≡ path_of uri
path-found bytes o p q uri path found some same is =
    ap Some (is ∙ ap bytes same) ∙ sym (ap (option_map bytes) some) ∙ found

pub no-path : {P : Type 0} (bytes : P → List ℕ) (o : Option P) (uri : List ℕ)
    → option_map bytes o ≡ path_of uri → o ≡ None → None ≡ path_of uri
no-path bytes o uri found none = sym (ap (option_map bytes) none) ∙ found

-- ---- file events

pub happened-to : (kind : FileEvent) (m : Bool) (f : Reading) (s : Serving) (event : Json)
    (uri path : List ℕ)
    → Some kind ≡ event_of event → Some uri ≡ text_in (get (codes "uri") event)
    → Some path ≡ path_of uri
    → happened_at kind (one_change m f) s (Some path) ≡ happened (one_event false m f) s event
happened-to kind m f s event uri path is named found = rw (← is, ← named, ← found)

pub happened-unread : (kind : FileEvent) (m : Bool) (f : Reading) (s : Serving) (event : Json)
    (uri : List ℕ)
    → Some kind ≡ event_of event → Some uri ≡ text_in (get (codes "uri") event)
    → replies s (unread uri) ≡ happened (one_event true m f) s event
happened-unread kind m f s event uri is named = rw (← is, ← named)

-- ---- documents

-- what is decided behind a first refusal
abbrev pub behind : Bool → Oracle → Oracle
behind m o = record { refusals = m ∷ o.refusals; found = o.found }

abbrev pub quiet : Oracle
quiet = record { refusals = []; found = [] }

pub noticed-path : (n : Notice) (o : Oracle) (s : Serving) (params : Option Json)
    (uri path : List ℕ) → Some uri ≡ uri_in params → Some path ≡ path_of uri
    → noticed_at n o s params path ≡ noticed_of n (behind false o) s params (uri_in params)
noticed-path n o s params uri path named found = rw (← named, ← found)

pub noticed-nowhere : (n : Notice) (s : Serving) (params : Option Json)
    (uri : List ℕ) → Some uri ≡ uri_in params → None ≡ path_of uri
    → stays s ≡ noticed_of n (behind false quiet) s params (uri_in params)
noticed-nowhere n s params uri named none = rw (← named, ← none)

pub noticed-unread : (n : Notice) (s : Serving) (params : Option Json) (uri : List ℕ)
    → Some uri ≡ uri_in params
    → dropped s (unread uri) ≡ noticed_of n (behind true quiet) s params (uri_in params)
noticed-unread n s params uri named = rw (← named)

-- nothing is read where a client is asked for events
pub nothing-asked : (s : Serving) (watches : Bool) → (registers s watches).read ≡ []
nothing-asked s true = refl
nothing-asked s false = refl

-- ---- a path

pub noticed-name : (n : Notice) (o : Oracle) (s : Serving) (params : Option Json)
    (path name : List ℕ) → name ≡ name_below s.client.root.path path → is_document_name name ≡ true
    → moved s name (read_behind n (first_found o.found) s.work path name)
    (told_of s.client.encoding n o s.work params name) ≡ noticed_at n o s params path
noticed-name n o s params path name is good = rw (← is, good)

-- the document is told of
pub noticed-told : {A E : Type 0} (finds : Looked → Type 0) (n : Notice) (o : Oracle) (held s : Serving)
    (params : Option Json) (path name : List ℕ) (work : Work) (told : Option (List ℕ))
    (old new : Writer) (r : Result A E) → held ≡ s
    → name ≡ name_below held.client.root.path path → is_document_name name ≡ true
    → record { work = work; told = told } ≡ told_of held.client.encoding n o held.work params name
    → Puts old new r (written_text (show_if name told))
    → AllByRecursion finds (read_behind n (first_found o.found) held.work path name)
    → DoesBy finds (noticed_at n o s params path) (record held { work = work }) old new r
noticed-told finds n o held s params path name work told old new r same is good tells put found =
    let read = read_behind n (first_found o.found) held.work path name in
    let meant : moved held name read (record { work = work; told = told })
    ≡ noticed_at n o held params path =
    ap (moved held name read) tells ∙ noticed-name n o held params path name is good in
    subst (λ x. DoesBy finds (noticed_at n o x params path) (record held { work = work }) old new r)
    same
    (by-same finds (noticed_at n o held params path)
    (moved held name read (record { work = work; told = told })) (record held { work = work }) old
    new r meant ((on-ok r refl, put), on-ok r found))

-- a file that was written is told of
pub renewed-told : {A E : Type 0} (finds : Looked → Type 0) (m : Bool) (f : Reading) (held s : Serving)
    (path name : List ℕ) (work : Work) (told : Option (List ℕ)) (old new : Writer) (r : Result A E)
    → held ≡ s → name ≡ name_below held.client.root.path path
    → is_renewed held.work (may_enter path name) name ≡ true
    → record { work = work; told = told } ≡ given_found f m held.work name None
    → Puts old new r (written_text (show_if name told))
    → finds (looked_by (only_name held.work name) held.work.world path f)
    → DoesBy finds (happened_at Written (one_change m f) s (Some path))
    (record held { work = work }) old new r
renewed-told finds m f held s path name work told old new r same is renews tells put found =
    let o = one_change m f in
    let looked = looked_by (only_name held.work name) held.work.world path f ∷ [] in
    let read : looked ≡ read_renewed f held.work (may_enter path name) path name =
    ap (λ b. if b then looked else []) (sym renews) in
    let chosen : given_found f m held.work name None
    ≡ renewed o held.work (may_enter path name) name =
    ap (λ b. if b then given_found f m held.work name None
    else record { work = held.work; told = None }) (sym renews) in
    let meant : moved held name looked (record { work = work; told = told })
    ≡ happened_at Written o held (Some path) =
    (λ i. moved held name (read i) ((tells ∙ chosen) i))
    ∙ ap (λ n. moved held n (read_renewed f held.work (may_enter path n) path n)
    (renewed o held.work (may_enter path n) n)) is in
    subst (λ x. DoesBy finds (happened_at Written o x (Some path)) (record held { work = work }) old
    new r) same
    (by-same finds (happened_at Written o held (Some path))
    (moved held name looked (record { work = work; told = told })) (record held { work = work }) old
    new r meant ((on-ok r refl, put), on-ok r (found, tt)))

-- what is read is looked at
pub looked-so : (finds : Looked → Type 0) (only : ℕ) (w : World) (b : WorldBounds)
    (path at : List ℕ) (most : ℕ) (f : Reading) → at ≡ path → most ≡ most_read b → b ≡ w.bounds
    → finds (record { path = at; most = most; only = only; found = f })
    → finds (looked_by only w path f)
looked-so finds only w b path at most f same is held found =
    subst finds (λ i. record {
      path = same i;
      most = (is ∙ ap most_read held) i;
      only = only;
      found = f;
    }) found

pub noticed-none : (n : Notice) (s : Serving) (params : Option Json) → None ≡ uri_in params
    → stays s ≡ noticed_of n quiet s params (uri_in params)
noticed-none n s params none = rw (← none)

pub noticed-bad : (n : Notice) (s : Serving) (params : Option Json) (path name : List ℕ)
    → name ≡ name_below s.client.root.path path → is_document_name name ≡ false
    → (ends_as_c path && is_opening n) ≡ true
    → replies s (show_of (escaped path) (codes "bad name")) ≡ noticed_at n quiet s params path
noticed-bad n s params path name is bad opens = rw (← is, bad, opens)

pub noticed-quiet : (n : Notice) (s : Serving) (params : Option Json) (path name : List ℕ)
    → name ≡ name_below s.client.root.path path → is_document_name name ≡ false
    → (ends_as_c path && is_opening n) ≡ false → stays s ≡ noticed_at n quiet s params path
noticed-quiet n s params path name is bad quiet = rw (← is, bad, quiet)
