-- Each open document has the text that its client has.
use Rattle.std.proofs.Common.{◌≡◌, ◌∙◌, sym, ap, refl, subst, ◌&&◌, ◌||◌, ℕ, not}
use Rattle.std.proofs.Common.{Bool, true, false, cond, List, [], ◌∷◌, codes}
use Rattle.std.proofs.Common.{Option, None, Some, Result, Ok, Err}
use Rattle.std.proofs.lemmas.Bool.{true≢false}
use Rattle.std.proofs.Common.{inl, inr}
use Rattle.std.specs.List.{AllByRecursion}
use Rattle.std.specs.Option.{option_map}
use Rattle.std.specs.Str.{bytes_eq}
use Rattle.json.specs.Json.{Json, Items, no_items, item}
use Rattle.json.specs.Find.{get}
use Rattle.cb_lsp.specs.Names.{is_document_name}
use Rattle.cb_wire.specs.Uris.{escaped, name_below, path_of}
use Rattle.cb_desk.specs.declared.change.Refusal.{Refusal}
use Rattle.cb_desk.specs.Files.{load_refusal, loaded, reload_refusal, reloaded, unload_refusal}
use Rattle.cb_desk.specs.Files.{unloaded, without_file}
use Rattle.cb_desk.specs.Refusals.{text_of}
use Rattle.cb_desk.specs.Step.{load, reload, step, unless_refused, unload}
use Rattle.cb_desk.specs.World.{File, World, has_file, text_of_file}
use Rattle.cb_desk.proofs.PlaceLemmas.{is-gone, name-same, same-name, text-with, text-with-here}
use Rattle.cb_desk.proofs.PlaceLemmas.{text-without}
use Rattle.cb_wire.specs.declared.units.Encoding.{Encoding}
use Rattle.cb_lsp.specs.Changes.{TextChange, or_else, text_by}
use Rattle.cb_lsp.specs.declared.notice.FileEvent.{FileEvent}
use Rattle.cb_lsp.specs.declared.notice.FileEvent.TheVariants.{Written, Gone}
use Rattle.cb_lsp.specs.declared.notice.Notice.{Notice}
use Rattle.cb_lsp.specs.declared.notice.Notice.TheVariants.{Ready, Open, Change, Save, Close}
use Rattle.cb_lsp.specs.declared.notice.Notice.TheVariants.{Files}
use Rattle.cb_lsp.specs.declared.server.Stage.{Stage}
use Rattle.cb_lsp.specs.declared.server.Stage.TheVariants.{Fresh, Running, Down}
use Rattle.cb_lsp.specs.Documents.{Document, Reading, Oracle, Work, after_change, after_open}
use Rattle.cb_lsp.specs.Documents.{as_lost, behind_event, first_refusal, later, later_refusals, lost_all}
use Rattle.cb_lsp.specs.Documents.{opened_if, taken, was_lost}
use Rattle.cb_lsp.specs.Documents.{after_step, changed_into, changed_to, document_of, first_found}
use Rattle.cb_lsp.specs.Documents.{given, given_found, gone, holds, if_open, is_named, is_open}
use Rattle.cb_lsp.specs.Documents.{kept_from, kept_text, linked, lost, no_room, nothing}
use Rattle.cb_lsp.specs.Documents.{present, removed, renewed, saved_as, text_of_document, text_step}
use Rattle.cb_lsp.specs.Documents.{text_unless, unreadable, with_document, without}
use Rattle.cb_lsp.specs.Documents.{without_document}
use Rattle.cb_lsp.specs.FileEvents.{last_events}
use Rattle.cb_lsp.specs.Messages.{Message, Serving, all_happened, bad_name, does, dropped}
use Rattle.cb_lsp.specs.Messages.{initialized, out_of_memory, refreshed, refreshed_from}
use Rattle.cb_lsp.specs.Messages.{unread}
use Rattle.cb_lsp.specs.Bodies.{Turn, after, refused, taken as taken_as}
use Rattle.cb_lsp.specs.Messages.{ends_as_c, fresh_server, happened, happened_as, happened_at}
use Rattle.cb_lsp.specs.Messages.{happened_in, happened_to, is_opening, may_enter, moved, notice_of}
use Rattle.cb_lsp.specs.Messages.{noticed_as, noticed_by, noticed_if, noticed_of, noticed_on}
use Rattle.cb_lsp.specs.Messages.{not_json, not_request, notification, opened_with, registers}
use Rattle.cb_lsp.specs.Messages.{read_behind, reply, replies, request, show_of, stays, told_of}
use Rattle.cb_lsp.specs.Messages.{too_large}
use Rattle.cb_lsp.specs.Params.{changes_in, document_text, event_of, items_in, member_of}
use Rattle.cb_lsp.specs.Params.{text_in, uri_in}
use Rattle.cb_lsp.specs.Sync.{AreInSync, Arrived, DocumentsStayInSync, HasArrived, IsDropped}
use Rattle.cb_lsp.specs.Sync.{Sent, after_all}
use Rattle.cb_lsp.specs.Sync.{in_bytes, name_at, name_of, nothing_sent, sent_after, sent_at}
use Rattle.cb_lsp.specs.Sync.{sent_if, sent_in_all, sent_of, text_after, text_changed}
use Rattle.cb_lsp.specs.Sync.{text_opened, text_through}
use Rattle.cb_lsp.specs.Sync.{with_text}
use Rattle.cb_lsp.proofs.Changes.{healed, same-text}
use Rattle.cb_lsp.proofs.Opened.{closed-document}
use Rattle.cb_lsp.proofs.Refreshed.{request-keeps}
use Rattle.cb_lsp.specs.Refresh.{given_anew}

-- ---- documents of different names

other-way : (a b : List ℕ) → bytes_eq a b ≡ false → bytes_eq b a ≡ false
other-way a b e =
    (elim (bytes_eq b a) as (λ t. bytes_eq b a ≡ t → t ≡ false) [
      | true ↦ λ h. absurd (true≢false (sym (name-same a)
          ∙ ap (bytes_eq a) (sym (same-name b a h)) ∙ e))
      | false ↦ λ h. refl
    ]) refl

put-here : (d : Document) (ds : List Document) → document_of (with_document d ds) d.name ≡ Some d
unfolding document_of with_document
put-here d [] = rw (name-same d.name) refl
put-here d (e ∷ es) =
    (elim (is_named d.name e) as (λ b. is_named d.name e ≡ b
    → document_of (cond b (d ∷ es) (e ∷ with_document d es)) d.name ≡ Some d) [
      | true ↦ λ h. rw (name-same d.name) refl
      | false ↦ λ h. rw h (put-here d es)
    ]) refl

put-other : (d : Document) (ds : List Document) (name : List ℕ) → bytes_eq d.name name ≡ false
    → document_of (with_document d ds) name ≡ document_of ds name
unfolding document_of with_document
put-other d [] name other = rw other refl
put-other d (e ∷ es) name other =
    (elim (is_named d.name e) as (λ b. is_named d.name e ≡ b
    → document_of (cond b (d ∷ es) (e ∷ with_document d es)) name
    ≡ cond (is_named name e) (Some e) (document_of es name)) [
      | true ↦ λ h.
          let apart : is_named name e ≡ false =
          ap (λ n. bytes_eq n name) (same-name e.name d.name h) ∙ other in
          rw (other, apart) refl
      | false ↦ λ h.
          ap (cond (is_named name e) (Some e)) (put-other d es name other)
    ]) refl

gone-other : (taken : List ℕ) (ds : List Document) (name : List ℕ) → bytes_eq taken name ≡ false
    → document_of (without_document taken ds) name ≡ document_of ds name
unfolding document_of without_document
gone-other taken [] name other = refl
gone-other taken (e ∷ es) name other =
    (elim (is_named taken e) as (λ b. is_named taken e ≡ b
    → document_of (cond b es (e ∷ without_document taken es)) name
    ≡ cond (is_named name e) (Some e) (document_of es name)) [
      | true ↦ λ h.
          let apart : is_named name e ≡ false =
          ap (λ n. bytes_eq n name) (same-name e.name taken h) ∙ other in
          rw apart refl
      | false ↦ λ h. ap (cond (is_named name e) (Some e)) (gone-other taken es name other)
    ]) refl

-- no two documents are of one file
Distinct : List Document → Type 0
Distinct [] = Unit {0}
Distinct (d ∷ ds) = (document_of ds d.name ≡ None) × Distinct ds

gone-here : (name : List ℕ) (ds : List Document) → Distinct ds
    → document_of (without_document name ds) name ≡ None
unfolding document_of without_document Distinct
gone-here name [] apart = refl
gone-here name (e ∷ es) apart =
    (elim (is_named name e) as (λ b. is_named name e ≡ b
    → document_of (cond b es (e ∷ without_document name es)) name ≡ None) [
      | true ↦ λ h. subst (λ n. document_of es n ≡ None) (same-name e.name name h) apart.0
      | false ↦ λ h. rw h (gone-here name es apart.1)
    ]) refl

put-distinct : (d : Document) (ds : List Document) → Distinct ds → Distinct (with_document d ds)
unfolding document_of with_document Distinct
put-distinct d [] apart = (refl, tt)
put-distinct d (e ∷ es) apart =
    (elim (is_named d.name e) as (λ b. is_named d.name e ≡ b
    → Distinct (cond b (d ∷ es) (e ∷ with_document d es))) [
      | true ↦ λ h.
          (subst (λ n. document_of es n ≡ None) (same-name e.name d.name h) apart.0, apart.1)
      | false ↦ λ h. (
        put-other d es e.name (other-way e.name d.name h) ∙ apart.0,
        put-distinct d es apart.1,
      )
    ]) refl

gone-distinct : (name : List ℕ) (ds : List Document) → Distinct ds
    → Distinct (without_document name ds)
unfolding document_of without_document Distinct
gone-distinct name [] apart = tt
gone-distinct name (e ∷ es) apart =
    (elim (is_named name e) as (λ b. is_named name e ≡ b
    → Distinct (cond b es (e ∷ without_document name es))) [
      | true ↦ λ h. apart.1
      | false ↦ λ h. (
        gone-other name es e.name (other-way e.name name h) ∙ apart.0,
        gone-distinct name es apart.1,
      )
    ]) refl

-- the document of a name has that name
pub found-name : (ds : List Document) (name : List ℕ) (d : Document) → document_of ds name ≡ Some d
    → d.name ≡ name
unfolding document_of
found-name [] name d e = cc
found-name (x ∷ xs) name d e =
    (elim (is_named name x) as (λ b. is_named name x ≡ b
    → cond b (Some x) (document_of xs name) ≡ Some d → d.name ≡ name) [
      | true ↦ λ h k. let same : x ≡ d = cc in
          subst (λ (y : Document). y.name ≡ name) same (same-name x.name name h)
      | false ↦ λ h k. found-name xs name d k
    ]) refl e

-- ---- a file that is given a text

is-after : (o : Option Refusal) (v u : World) → unless_refused o v ≡ Ok u → v ≡ u
is-after None v u e = cc
is-after (Some r) v u e = cc

record Given (w u : World) (name bytes : List ℕ) : Type 0 where
  here : text_of_file u.files name ≡ bytes
  others : (n : List ℕ) → bytes_eq name n ≡ false
      → text_of_file u.files n ≡ text_of_file w.files n

module _ (w u : World) (name bytes : List ℕ) where
  file : File
  file = record { name = name; bytes = bytes }

  reloaded-so : Given w (reloaded w name bytes) name bytes
  reloaded-so = record {
    here = text-with-here (record { name = name; bytes = bytes }) (without_file name w.files)
        (is-gone w.files name);
    others = λ n other.
        text-with (record { name = name; bytes = bytes }) (without_file name w.files) n other
        ∙ text-without w.files name n (other-way name n other);
  }

  loaded-so : has_file w.files name ≡ false → Given w (loaded w name bytes) name bytes
  loaded-so fresh = record {
    here = text-with-here (record { name = name; bytes = bytes }) w.files fresh;
    others = λ n other. text-with (record { name = name; bytes = bytes }) w.files n other;
  }

  has-stepped : step w (text_step w.files name bytes) ≡ Ok u → Given w u name bytes
  unfolding step
  has-stepped made =
      (elim (has_file w.files name) as (λ b. has_file w.files name ≡ b
      → step w (cond b (reload name bytes) (load name bytes)) ≡ Ok u → Given w u name bytes) [
        | true ↦ λ h k.
            subst (λ v. Given w v name bytes)
            (is-after (reload_refusal w name bytes) (reloaded w name bytes) u k) reloaded-so
        | false ↦ λ h k.
            subst (λ v. Given w v name bytes)
            (is-after (load_refusal w name bytes) (loaded w name bytes) u k) (loaded-so h)
      ]) refl made

  has-given : (m : Bool) → taken m w (text_step w.files name bytes) ≡ Ok u → Given w u name bytes
  has-given true made = cc
  has-given false made = has-stepped made

-- ---- what keeps in step

record Good (w : Work) (sent : Sent) : Type 0 where
  synced : AreInSync (λ text. text) w sent
  apart : Distinct w.documents

module _ (w : Work) (sent : Sent) (good : Good w sent) where
  -- nothing happens
  same-good : (name : List ℕ) (t : Option (List ℕ)) → t ≡ sent name
      → Good w (with_text name t sent)
  same-good name t is = record {
    synced = λ n d found kept.
        (elim (bytes_eq name n) as (λ b. bytes_eq name n ≡ b
        → cond b t (sent n) ≡ Some (text_of_file w.world.files n)) [
          | true ↦ λ h. is ∙ ap sent (same-name name n h) ∙ good.synced n d found kept
          | false ↦ λ h. good.synced n d found kept
        ]) refl;
    apart = good.apart;
  }

  -- of a document that is not open a client may have any text
  closed-good : (name : List ℕ) (t : Option (List ℕ)) → document_of w.documents name ≡ None
      → Good w (with_text name t sent)
  closed-good name t none = record {
    synced = λ n d found kept.
        (elim (bytes_eq name n) as (λ b. bytes_eq name n ≡ b
        → cond b t (sent n) ≡ Some (text_of_file w.world.files n)) [
          | true ↦ λ h.
              let missing : document_of w.documents n ≡ None =
              subst (λ m. document_of w.documents m ≡ None) (same-name name n h) none in cc
          | false ↦ λ h. good.synced n d found kept
        ]) refl;
    apart = good.apart;
  }

  -- a document is put in place of that of its file, and its text with it
  put-good : (d : Document) (u : World) (t : Option (List ℕ))
      → ((n : List ℕ) → bytes_eq d.name n ≡ false
      → text_of_file u.files n ≡ text_of_file w.world.files n)
      → (d.lost ≡ false → t ≡ Some (text_of_file u.files d.name))
      → Good (record { world = u; documents = with_document d w.documents })
      (with_text d.name t sent)
  put-good d u t others here = record {
    synced = λ n e found kept.
        (elim (bytes_eq d.name n) as (λ b. bytes_eq d.name n ≡ b
        → cond b t (sent n) ≡ Some (text_of_file u.files n)) [
          | true ↦ λ h.
              let name : d.name ≡ n = same-name d.name n h in
              let there : document_of (with_document d w.documents) n ≡ Some d =
              subst (λ m. document_of (with_document d w.documents) m ≡ Some d) name
              (put-here d w.documents) in
              let same : d ≡ e = cc in
              here (ap (λ (x : Document). x.lost) same ∙ kept)
              ∙ ap (λ m. Some (text_of_file u.files m)) name
          | false ↦ λ h.
              good.synced n e (sym (put-other d w.documents n h) ∙ found) kept
              ∙ ap Some (sym (others n h))
        ]) refl;
    apart = put-distinct d w.documents good.apart;
  }

  -- a document is closed
  drop-good : (name : List ℕ) (u : World)
      → ((n : List ℕ) → bytes_eq name n ≡ false
      → text_of_file u.files n ≡ text_of_file w.world.files n)
      → Good (record { world = u; documents = without_document name w.documents })
      (with_text name None sent)
  drop-good name u others = record {
    synced = λ n e found kept.
        (elim (bytes_eq name n) as (λ b. bytes_eq name n ≡ b
        → cond b None (sent n) ≡ Some (text_of_file u.files n)) [
          | true ↦ λ h.
              let missing : document_of (without_document name w.documents) n ≡ None =
              subst (λ m. document_of (without_document name w.documents) m ≡ None)
              (same-name name n h) (gone-here name w.documents good.apart) in cc
          | false ↦ λ h.
              good.synced n e (sym (gone-other name w.documents n h) ∙ found) kept
              ∙ ap Some (sym (others n h))
        ]) refl;
    apart = gone-distinct name w.documents good.apart;
  }

  -- ---- what notifications do

  opens : (m : Bool) (name bytes : List ℕ) (r : Result World Refusal)
      → taken m w.world (text_step w.world.files name bytes) ≡ r
      → Good (after_open w name r).work (with_text name (Some bytes) sent)
  opens m name bytes (Ok u) made =
      let g = has-given w.world u name bytes m made in
      put-good (record { name = name; kept = present; lost = false }) u (Some bytes) g.others
      (λ _. ap Some (sym g.here))
  opens m name bytes (Err why) made =
      put-good (record { name = name; kept = nothing; lost = true }) w.world (Some bytes)
      (λ n other. refl) (λ e. absurd (true≢false e))

  -- memory may be refused to a document that was not open
  opens-or-not : (m n : Bool) (name bytes : List ℕ)
      → Good (opened_if (m && not (is_open w.documents name)) n w name bytes).work
      (with_text name (Some bytes) sent)
  opens-or-not m n name bytes =
      (elim (is_open w.documents name) as (λ b. is_open w.documents name ≡ b
      → Good (opened_if (m && not b) n w name bytes).work (with_text name (Some bytes) sent)) [
        | true ↦ λ h. elim m as (λ c. Good (opened_if (c && not true) n w name bytes).work
            (with_text name (Some bytes) sent))
            [ true ↦ opens n name bytes _ refl | false ↦ opens n name bytes _ refl ]
        | false ↦ λ h. elim m as (λ c. Good (opened_if (c && not false) n w name bytes).work
            (with_text name (Some bytes) sent)) [
              | true ↦ closed-good name (Some bytes) (closed-document name w.documents h)
              | false ↦ opens n name bytes _ refl
            ]
      ]) refl

  opens-if : (ms : List Bool) (e : Encoding) (name : List ℕ) (o : Option (List ℕ))
      → Good (opened_with ms w name o).work
      (with_text name (text_opened in_bytes e (sent name) o) sent)
  opens-if ms e name None = same-good name (sent name) refl
  opens-if ms e name (Some bytes) =
      opens-or-not (first_refusal ms) (first_refusal (later_refusals ms)) name bytes

  loses : (d : Document) (why : List ℕ) (t : Option (List ℕ))
      → Good (lost w d why).work (with_text d.name t sent)
  loses d why t =
      put-good (record d { lost = true }) w.world t (λ n other. refl)
      (λ e. absurd (true≢false e))

  changes : (m : Bool) (d : Document) (bytes : List ℕ) (r : Result World Refusal)
      → taken m w.world (text_step w.world.files d.name bytes) ≡ r
      → Good (after_change w d r).work (with_text d.name (Some bytes) sent)
  changes m d bytes (Ok u) made =
      let g = has-given w.world u d.name bytes m made in
      put-good (record {
        name = d.name;
        kept = kept_from (text_of_file w.world.files d.name) d.kept;
        lost = false;
      }) u (Some bytes) g.others (λ _. ap Some (sym g.here))
  changes m d bytes (Err why) made = loses d (text_of why) (Some bytes)

  -- a document that is lost and stays so
  lost-good : (name : List ℕ) (d : Document) (t : Option (List ℕ))
      → document_of w.documents name ≡ Some d → d.lost ≡ true → Good w (with_text name t sent)
  lost-good name d t is lost-is = record {
    synced = λ n f found kept.
        (elim (bytes_eq name n) as (λ b. bytes_eq name n ≡ b
        → cond b t (sent n) ≡ Some (text_of_file w.world.files n)) [
          | true ↦ λ h.
              let there : document_of w.documents n ≡ Some d =
              subst (λ m. document_of w.documents m ≡ Some d) (same-name name n h) is in
              let same : d ≡ f = cc in
              absurd (true≢false (sym lost-is ∙ ap (λ (x : Document). x.lost) same ∙ kept))
          | false ↦ λ h. good.synced n f found kept
        ]) refl;
    apart = good.apart;
  }

  -- what the changes of a client lead to is what they lead to here, and where they lead to nothing
  -- a document has the text before, or is lost
  changes-into : (m : Bool) (e : Encoding) (d : Document) (cs : List TextChange) (o : Option (List ℕ))
      → document_of w.documents d.name ≡ Some d → text_by e (text_of_document w d) cs ≡ o
      → Good (changed_into m w d o).work
      (with_text d.name (text_through e (sent d.name) cs) sent)
  changes-into m e d cs o found made =
      (elim d.lost as (λ l. d.lost ≡ l
      → text_by e (text_unless l (text_of_file w.world.files d.name)) cs ≡ o
      → Good (changed_into m w d o).work
      (with_text d.name (text_through e (sent d.name) cs) sent)) [
        | true ↦ λ lost-is none.
            (elim o as (λ q. text_by e None cs ≡ q → Good (changed_into m w d q).work
            (with_text d.name (text_through e (sent d.name) cs) sent)) [
              | None ↦ λ h. lost-good d.name d (text_through e (sent d.name) cs) found lost-is
              | Some bytes ↦ λ h.
                  let same : text_through e (sent d.name) cs ≡ Some bytes =
                  healed e cs (sent d.name) bytes
                  (same-text e None cs ∙ ap (λ t. or_else t None) h) in
                  subst (λ t. Good (changed_into m w d (Some bytes)).work
                  (with_text d.name t sent)) (sym same) (changes m d bytes _ refl)
            ]) none
        | false ↦ λ kept made_here.
            let before = good.synced d.name d found kept in
            let after : text_through e (sent d.name) cs
            ≡ or_else (text_by e (Some (text_of_file w.world.files d.name)) cs)
            (Some (text_of_file w.world.files d.name)) =
            ap (λ t. text_through e t cs) before
            ∙ same-text e (Some (text_of_file w.world.files d.name)) cs in
            (elim o as (λ q. text_by e (Some (text_of_file w.world.files d.name)) cs ≡ q
            → Good (changed_into m w d q).work
            (with_text d.name (text_through e (sent d.name) cs) sent)) [
              | None ↦ λ h.
                  same-good d.name (text_through e (sent d.name) cs)
                  (after ∙ ap (λ t. or_else t (Some (text_of_file w.world.files d.name))) h
                  ∙ sym before)
              | Some bytes ↦ λ h.
                  let same : text_through e (sent d.name) cs ≡ Some bytes =
                  after ∙ ap (λ t. or_else t (Some (text_of_file w.world.files d.name))) h in
                  subst (λ t. Good (changed_into m w d (Some bytes)).work
                  (with_text d.name t sent)) (sym same) (changes m d bytes _ refl)
            ]) made_here
      ]) refl made

  changes-to : (m : Bool) (e : Encoding) (d : Document) (o : Option (List TextChange))
      → document_of w.documents d.name ≡ Some d
      → Good (changed_to e m w d o).work
      (with_text d.name (text_changed in_bytes e (sent d.name) o) sent)
  changes-to m e d None found = loses d (codes "bad parameters") (sent d.name)
  changes-to m e d (Some cs) found =
      changes-into m e d cs (text_by e (text_of_document w d) cs) found refl

  changes-if : (m : Bool) (e : Encoding) (name : List ℕ) (cs : Option (List TextChange))
      (o : Option Document) → document_of w.documents name ≡ o
      → Good (if_open (λ d. changed_to e m w d cs) w o).work
      (with_text name (text_changed in_bytes e (sent name) cs) sent)
  changes-if m e name cs None found = closed-good name (text_changed in_bytes e (sent name) cs) found
  changes-if m e name cs (Some d) found =
      let named = found-name w.documents name d found in
      subst (λ n. Good (changed_to e m w d cs).work
      (with_text n (text_changed in_bytes e (sent n) cs) sent)) named
      (changes-to m e d cs (subst (λ n. document_of w.documents n ≡ Some d) (sym named) found))

  saves-as : (d : Document) (b : Bool) → d.lost ≡ b → document_of w.documents d.name ≡ Some d
      → Good (saved_as w d b).work (with_text d.name (sent d.name) sent)
  saves-as d true is found = same-good d.name (sent d.name) refl
  saves-as d false is found =
      put-good (record d { kept = present }) w.world (sent d.name) (λ n other. refl)
      (λ _. good.synced d.name d found is)

  saves-if : (name : List ℕ) (o : Option Document) → document_of w.documents name ≡ o
      → Good (if_open (λ d. saved_as w d d.lost) w o).work (with_text name (sent name) sent)
  saves-if name None found = same-good name (sent name) refl
  saves-if name (Some d) found =
      let named = found-name w.documents name d found in
      subst (λ n. Good (saved_as w d d.lost).work (with_text n (sent n) sent)) named
      (saves-as d d.lost refl (subst (λ n. document_of w.documents n ≡ Some d) (sym named) found))

  -- a document is closed, and its file given a text
  closes : (m : Bool) (name bytes : List ℕ) (r : Result World Refusal)
      → taken m w.world (text_step w.world.files name bytes) ≡ r
      → Good (after_step (without name w) r).work (with_text name None sent)
  closes m name bytes (Ok u) made = drop-good name u (has-given w.world u name bytes m made).others
  closes m name bytes (Err why) made = drop-good name w.world (λ n other. refl)

  closes-with : (m : Bool) (name : List ℕ) (o : Option (List ℕ))
      → Good (given m (without name w) name o).work (with_text name None sent)
  closes-with m name None = drop-good name w.world (λ n other. refl)
  closes-with m name (Some bytes) = closes m name bytes _ refl

  closes-to : (m : Bool) (name : List ℕ) (f : Reading) (o : Option (List ℕ))
      → Good (given_found f m (without name w) name o).work (with_text name None sent)
  closes-to m name gone o = closes-with m name o
  closes-to m name linked o = drop-good name w.world (λ n other. refl)
  closes-to m name unreadable o = drop-good name w.world (λ n other. refl)
  closes-to m name no_room o = drop-good name w.world (λ n other. refl)
  closes-to m name (holds bytes) o = closes-with m name (Some bytes)

  closes-if : (m : Bool) (name : List ℕ) (f : Reading) (o : Option Document)
      → document_of w.documents name ≡ o
      → Good (if_open (λ d. given_found f m (without name w) name (kept_text d.kept)) w o).work
      (with_text name None sent)
  closes-if m name f None found = closed-good name None found
  closes-if m name f (Some d) found = closes-to m name f (kept_text d.kept)

  tells : (o : Oracle) (e : Encoding) (notice : Notice) (params : Option Json) (name : List ℕ)
      → Good (told_of e notice o w params name).work
      (with_text name (text_after in_bytes e notice params (sent name)) sent)
  tells o e Ready params name = same-good name (sent name) refl
  tells o e Open params name = opens-if o.refusals e name (document_text params)
  tells o e Change params name =
      changes-if (first_refusal o.refusals) e name (changes_in params) _ refl
  tells o e Save params name = saves-if name _ refl
  tells o e Close params name =
      closes-if (first_refusal o.refusals) name (first_found o.found) _ refl
  tells o e Files params name = same-good name (sent name) refl

  -- a file without a document goes away, or is given a text
  moves : (name : List ℕ) (u : World) → document_of w.documents name ≡ None
      → ((n : List ℕ) → bytes_eq name n ≡ false
      → text_of_file u.files n ≡ text_of_file w.world.files n)
      → Good (record w { world = u }) sent
  moves name u none others = record {
    synced = λ n d found kept.
        (elim (bytes_eq name n) as (λ b. bytes_eq name n ≡ b
        → sent n ≡ Some (text_of_file u.files n)) [
          | true ↦ λ h.
              let missing : document_of w.documents n ≡ None =
              subst (λ m. document_of w.documents m ≡ None) (same-name name n h) none in cc
          | false ↦ λ h. good.synced n d found kept ∙ ap Some (sym (others n h))
        ]) refl;
    apart = good.apart;
  }

  goes : (m : Bool) (name : List ℕ) (r : Result World Refusal)
      → taken m w.world (unload name) ≡ r
      → document_of w.documents name ≡ None → Good (after_step w r).work sent
  unfolding step
  goes true name (Ok u) made none = cc
  goes false name (Ok u) made none =
      let is : unloaded w.world name ≡ u =
      is-after (unload_refusal w.world name) (unloaded w.world name) u made in
      moves name u none (λ n h.
      ap (λ (v : World). text_of_file v.files n) (sym is)
      ∙ text-without w.world.files name n (other-way name n h))
  goes m name (Err why) made none = good

  goes-if : (m : Bool) (name : List ℕ) → Good (removed m w name).work sent
  goes-if m name =
      (elim (is_open w.documents name) as (λ b. is_open w.documents name ≡ b
      → Good (cond (b || not (has_file w.world.files name)) (record { work = w; told = None })
      (after_step w (taken m w.world (unload name)))).work sent) [
        | true ↦ λ h. good
        | false ↦ λ h.
            elim (not (has_file w.world.files name)) as (λ b. Good (cond b
            (record { work = w; told = None })
            (after_step w (taken m w.world (unload name)))).work sent) [
              | true ↦ good
              | false ↦ goes m name _ refl (closed-document name w.documents h)
            ]
      ]) refl

  renews : (m : Bool) (name bytes : List ℕ) (r : Result World Refusal)
      → taken m w.world (text_step w.world.files name bytes) ≡ r
      → document_of w.documents name ≡ None → Good (after_step w r).work sent
  renews m name bytes (Ok u) made none =
      moves name u none (has-given w.world u name bytes m made).others
  renews m name bytes (Err why) made none = good

  renews-to : (m : Bool) (name : List ℕ) (f : Reading) → document_of w.documents name ≡ None
      → Good (given_found f m w name None).work sent
  renews-to m name gone none = good
  renews-to m name linked none = good
  renews-to m name unreadable none = good
  renews-to m name no_room none = good
  renews-to m name (holds bytes) none = renews m name bytes _ refl none

  renews-if : (o : Oracle) (may_enter : Bool) (name : List ℕ)
      → Good (renewed o w may_enter name).work sent
  renews-if o may_enter name =
      let m = first_refusal o.refusals in
      (elim (is_open w.documents name) as (λ b. is_open w.documents name ≡ b
      → Good (cond (not b && (has_file w.world.files name || may_enter))
      (given_found (first_found o.found) m w name None) (record { work = w; told = None })).work
      sent) [
        | true ↦ λ h. good
        | false ↦ λ h.
            elim (has_file w.world.files name || may_enter) as (λ b. Good (cond b
            (given_found (first_found o.found) m w name None)
            (record { work = w; told = None })).work sent) [
              | true ↦ renews-to m name (first_found o.found) (closed-document name w.documents h)
              | false ↦ good
            ]
      ]) refl

-- ---- all documents are lost

lost-of : (ds : List Document) (name : List ℕ)
    → document_of (lost_all ds) name
    ≡ option_map as_lost (document_of ds name)
unfolding document_of
lost-of [] name = refl
lost-of (d ∷ ds) name =
    elim (is_named name d) as (λ b.
    cond b (Some (as_lost d)) (document_of (lost_all ds) name)
    ≡ option_map as_lost (cond b (Some d) (document_of ds name)))
    [ true ↦ refl | false ↦ lost-of ds name ]

is-lost : (o : Option Document) (d : Document)
    → option_map as_lost o ≡ Some d → d.lost ≡ true
is-lost None d e = cc
is-lost (Some c) d e = ap was_lost (sym e)

lost-distinct : (ds : List Document) → Distinct ds → Distinct (lost_all ds)
unfolding Distinct
lost-distinct [] apart = tt
lost-distinct (d ∷ ds) apart = (
  lost-of ds d.name ∙ ap (option_map as_lost) apart.0,
  lost-distinct ds apart.1,
)

-- of lost documents a client may have any text
lost-all-good : (w : Work) (sent any : Sent) → Good w sent
    → Good (record w { documents = lost_all w.documents }) any
lost-all-good w sent any good = record {
  synced = λ name d found kept.
      absurd (true≢false (sym (is-lost (document_of w.documents name) d
      (sym (lost-of w.documents name) ∙ found)) ∙ kept));
  apart = lost-distinct w.documents good.apart;
}

-- ---- what messages do

module _ (s : Serving) (sent : Sent) (good : Good s.work sent) where
  happened-at-good : (kind : FileEvent) (o : Oracle) (path : Option (List ℕ))
      → Good (happened_at kind o s path).server.work sent
  happened-at-good Gone o None = good
  happened-at-good Gone o (Some path) =
      goes-if s.work sent good (first_refusal o.refusals) (name_below s.client.root.path path)
  happened-at-good Written o None = good
  happened-at-good Written o (Some path) =
      let name = name_below s.client.root.path path in
      renews-if s.work sent good o (may_enter path name) name

  -- a file is read again
  anew-good : (f : Reading) (m : Bool) (name : List ℕ) → is_open s.work.documents name ≡ false
      → Good (given_anew f m s.work name).work sent
  anew-good gone m name h = good
  anew-good linked m name h = good
  anew-good unreadable m name h = good
  anew-good no_room m name h = good
  anew-good (holds []) m name h = good
  anew-good (holds (b ∷ bs)) m name h =
      let new = b ∷ bs in
      elim (bytes_eq new (text_of_file s.work.world.files name)) as (λ b. Good (cond b
      (record { work = s.work; told = None }) (given m s.work name (Some new))).work sent) [
        | true ↦ good
        | false ↦ renews-to s.work sent good m name (holds new)
            (closed-document name s.work.documents h)
      ]

  refreshed-good : (o : Oracle) (name : List ℕ) → Good (refreshed o s name).server.work sent
  refreshed-good o name =
      let f = first_found o.found in
      let m = first_refusal (later_refusals o.refusals) in
      let no_path = moved s name [] (record { work = s.work; told = Some out_of_memory }) in
      (elim (is_open s.work.documents name) as (λ b. is_open s.work.documents name ≡ b
      → Good (cond b (stays s) (cond (first_refusal o.refusals) no_path
      (refreshed_from f m s name))).server.work sent) [
        | true ↦ λ h. good
        | false ↦ λ h. elim (first_refusal o.refusals) as (λ b. Good (cond b no_path
            (refreshed_from f m s name)).server.work sent)
            [ true ↦ good | false ↦ anew-good f m name h ]
      ]) refl

  happened-to-good : (kind : FileEvent) (o : Oracle) (uri : Option (List ℕ))
      → Good (happened_to kind o s uri).server.work sent
  happened-to-good kind o None = good
  happened-to-good kind o (Some uri) =
      elim (first_refusal o.refusals) as (λ b. Good (cond b (replies s (unread uri))
      (happened_at kind (later o) s (path_of uri))).server.work sent)
      [ true ↦ good | false ↦ happened-at-good kind (later o) (path_of uri) ]

  happened-as-good : (kind : Option FileEvent) (o : Oracle) (event : Json)
      → Good (happened_as kind o s event).server.work sent
  happened-as-good None o event = good
  happened-as-good (Some kind) o event =
      happened-to-good kind o (text_in (get (codes "uri") event))

  at-good : (o : Oracle) (notice : Notice) (params : Option Json) (path : Option (List ℕ))
      → Good (noticed_on notice o s params path).server.work
      (sent_of in_bytes s.client.encoding sent notice params (name_at s.client.root.path path))
  at-good o notice params None = good
  at-good o notice params (Some path) =
      let name = name_below s.client.root.path path in
      elim (is_document_name name) as (λ b. Good
      (cond b (moved s name (read_behind notice (first_found o.found) s.work path name)
      (told_of s.client.encoding notice o s.work params name))
      (bad_name s notice path)).server.work
      (sent_of in_bytes s.client.encoding sent notice params (cond b (Some name) None))) [
        | true ↦ tells s.work sent good o s.client.encoding notice params name
        | false ↦ elim (ends_as_c path && is_opening notice) as (λ b. Good (cond b
            (replies s (show_of (escaped path) (codes "bad name"))) (stays s)).server.work sent)
            [ true ↦ good | false ↦ good ]
      ]

  of-good : (o : Oracle) (notice : Notice) (params : Option Json) (uri : Option (List ℕ))
      → Good (noticed_of notice o s params uri).server.work
      (sent_of in_bytes s.client.encoding sent notice params (name_of s.client.root.path uri))
  of-good o notice params None = good
  of-good o notice params (Some uri) =
      let next = sent_of in_bytes s.client.encoding sent notice params
      (name_at s.client.root.path (path_of uri)) in
      elim (first_refusal o.refusals) as (λ b. Good (cond b (dropped s (unread uri))
      (noticed_on notice (later o) s params (path_of uri))).server.work next) [
        | true ↦ lost-all-good s.work sent next good
        | false ↦ at-good (later o) notice params (path_of uri)
      ]

all-good : (o : Oracle) (s : Serving) (sent : Sent) → Good s.work sent → (events : Items)
    → Good (all_happened o s events).server.work sent
unfolding all_happened
all-good o s sent good no_items = good
all-good o s sent good (item event more) =
    all-good (behind_event o) (happened o s event).server sent
    (happened-as-good s sent good (event_of event) o event) more

happened-in-good : (o : Oracle) (s : Serving) (sent : Sent) → Good s.work sent
    → (events : Option Items) → Good (happened_in o s events).server.work sent
happened-in-good o s sent good None = good
happened-in-good o s sent good (Some events) = all-good o s sent good (last_events events)

registers-good : (s : Serving) (sent : Sent) → Good s.work sent → (b : Bool)
    → Good (registers s b).server.work sent
registers-good s sent good true = good
registers-good s sent good false = good

module _ (o : Oracle) (s : Serving) (sent : Sent) (good : Good s.work sent) where
  -- what a client has does not change by file events
  files-good : (params : Option Json) (w : Work) → Good w sent → (name : Option (List ℕ))
      → Good w (sent_of in_bytes s.client.encoding sent Files params name)
  files-good params w so None = so
  files-good params w so (Some name) = same-good w sent so name (sent name) refl

  ready-good : (params : Option Json) (w : Work) → Good w sent → (name : Option (List ℕ))
      → Good w (sent_of in_bytes s.client.encoding sent Ready params name)
  ready-good params w so None = so
  ready-good params w so (Some name) = same-good w sent so name (sent name) refl

  as-good : (notice : Notice) (params : Option Json)
      → Good (noticed_as notice o s params).server.work
      (sent_of in_bytes s.client.encoding sent notice params
      (name_of s.client.root.path (uri_in params)))
  as-good Ready params =
      ready-good params (registers s s.watches).server.work (registers-good s sent good s.watches)
      (name_of s.client.root.path (uri_in params))
  as-good Open params = of-good s sent good o Open params (uri_in params)
  as-good Change params = of-good s sent good o Change params (uri_in params)
  as-good Save params = of-good s sent good o Save params (uri_in params)
  as-good Close params = of-good s sent good o Close params (uri_in params)
  as-good Files params =
      files-good params (noticed_as Files o s params).server.work
      (happened-in-good o s sent good (items_in (member_of (codes "changes") params)))
      (name_of s.client.root.path (uri_in params))

  if-good : (notice : Option Notice) (params : Option Json)
      → Good (noticed_if notice o s params).server.work
      (sent_if in_bytes s.client sent notice params)
  if-good None params = good
  if-good (Some notice) params = as-good notice params

  by-good : (stage : Stage) (method : List ℕ) (params : Option Json)
      → Good (noticed_by stage o s method params).server.work
      (sent_at in_bytes stage s.client sent method params)
  by-good Running method params = if-good (notice_of method) params
  by-good Fresh method params = good
  by-good Down method params = good

  begun-good : (id : Json) (params : Option Json) (no_memory : Bool)
      → Good (initialized no_memory s id params).server.work sent
  begun-good id params true = good
  begun-good id params false = good

  message-good : (m : Message) → Good (does o s m).server.work (sent_after in_bytes s sent m)
  unfolding does
  message-good not_json = lost-all-good s.work sent sent good
  message-good not_request = good
  message-good reply = good
  message-good too_large = lost-all-good s.work sent sent good
  message-good (notification method params) = by-good s.stage method params
  message-good (request id method params) =
      request-keeps (λ t. Good t.work sent) (λ o t name so. refreshed-good t sent so o name) s id
      method params good (begun-good id params) good s.stage o

-- a body that was dropped, whatever it was
dropped-good : (s : Serving) (sent any : Sent) → Good s.work sent → (t : Turn) → IsDropped t
    → Good (after s t).work any
unfolding does
dropped-good s sent any good (taken_as not_json o) is = lost-all-good s.work sent any good
dropped-good s sent any good (taken_as too_large o) is = lost-all-good s.work sent any good
dropped-good s sent any good (taken_as not_request o) is = absurd is
dropped-good s sent any good (taken_as reply o) is = absurd is
dropped-good s sent any good (taken_as (notification method params) o) is = absurd is
dropped-good s sent any good (taken_as (request id method params) o) is = absurd is
dropped-good s sent any good refused is = lost-all-good s.work sent any good

arrived-good : (s : Serving) (sent : Sent) → Good s.work sent → (a : Arrived) → HasArrived a
    → Good (after s a.1).work (sent_after in_bytes s sent a.0)
arrived-good s sent good a (inl taken) =
    subst (λ t. Good (after s t).work (sent_after in_bytes s sent a.0)) (sym taken.1)
    (message-good taken.0 s sent good a.0)
arrived-good s sent good a (inr dropped) =
    dropped-good s sent (sent_after in_bytes s sent a.0) good a.1 dropped

all-messages : (s : Serving) (sent : Sent) → Good s.work sent → (arrived : List Arrived)
    → AllByRecursion HasArrived arrived
    → Good (after_all s arrived).work (sent_in_all in_bytes s sent arrived)
unfolding after_all sent_in_all
all-messages s sent good [] all = good
all-messages s sent good (a ∷ more) all =
    all-messages (after s a.1) (sent_after in_bytes s sent a.0) (arrived-good s sent good a all.0)
    more all.1

pub documents_stay_in_sync : DocumentsStayInSync
unfolding document_of Distinct
documents_stay_in_sync w root rooted version arrived all =
    (all-messages (fresh_server w root rooted version) nothing_sent
    (record { synced = λ name d found kept. cc; apart = tt }) arrived all).synced
