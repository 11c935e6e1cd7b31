-- Files that are read again, one after another, and then an answer.
use Rattle.std.proofs.Common.{◌≡◌, ◌∙◌, Bool, List, [], ◌∷◌, ℕ, refl, ap, sym, subst, true}
use Rattle.std.proofs.Common.{false, cond, codes, Option, Some, ◌<◌, ◌≤◌, ◌+◌, suc, length, get_or}
use Rattle.std.proofs.Common.{drop, map, add-one}
use Rattle.std.proofs.Math.ListN.{drop_of_length-le}
use Rattle.std.proofs.Math.Seq.{drop-cons}
use Rattle.std.specs.Str.{bytes_eq}
use Rattle.std.specs.Prelude.{Result, Ok, Err, if◌then◌else◌}
use Rattle.json.specs.Json.{Json, null}
use Rattle.cb_tags.specs.Writers.{Writer}
use Rattle.cb_tags.specs.Writing.{Puts}
use Rattle.cb_wire.specs.Trees.{error_reply, result_reply}
use Rattle.cb_wire.specs.declared.reply.ErrorCode.TheVariants.{InvalidRequest}
use Rattle.cb_wire.specs.declared.reply.ErrorCode.TheVariants.{ServerNotInitialized}
use Rattle.cb_lsp.specs.declared.question.Unasked.{Unasked}
use Rattle.cb_lsp.specs.declared.server.Stage.{Stage}
use Rattle.cb_lsp.specs.declared.server.Stage.TheVariants.{Fresh, Running, Down}
use Rattle.cb_lsp.specs.Bodies.{DoesBy, written_text}
use Rattle.cb_lsp.specs.Documents.{Looked, Oracle, Reading, Work, behind_event, first_refusal, gone}
use Rattle.cb_lsp.specs.Documents.{is_open, later, looked_at}
use Rattle.cb_lsp.specs.Messages.{Outcome, Serving, and_then, answered, answered_after}
use Rattle.cb_lsp.specs.Messages.{answered_anew, asked_reply, initialized, out_of_memory_reply}
use Rattle.cb_lsp.specs.Messages.{moved, out_of_memory, refreshed, refreshed_from, replied, replies}
use Rattle.cb_lsp.specs.Messages.{requested, show_if, stays}
use Rattle.cb_lsp.specs.Questions.{Asked, asked_by}
use Rattle.cb_lsp.specs.Refresh.{files_asked, given_anew}
use Rattle.cb_wire.specs.Uris.{path_below}
use Rattle.cb_lsp.specs.steps.Works.{one_event, only}
use Rattle.cb_lsp.proofs.Answered.{by-same, on-ok}
use Rattle.cb_lsp.proofs.InTurn.{first_of_all}
use Rattle.cb_lsp.proofs.Notices.{behind}

-- ---- what each of them leaves

-- what a server keeps wherever a file is read again it keeps after a question
module _ (P : Serving → Type 0)
    (each : (o : Oracle) (s : Serving) (name : List ℕ) → P s → P (refreshed o s name).server)
  where
    after-keeps : (o : Oracle) (s : Serving) (id : Json) (asked : Asked) (names : List (List ℕ))
        → P s → P (answered_after o s id asked names).server
    unfolding answered_after
    after-keeps o s id asked [] p = p
    after-keeps o s id asked (name ∷ names) p =
        after-keeps (behind_event o) (refreshed o s name).server id asked names (each o s name p)

    pub answer-keeps : (o : Oracle) (s : Serving) (id : Json) (asked : Result Asked Unasked) → P s
        → P (answered o s id asked).server
    answer-keeps o s id (Err why) p = p
    answer-keeps o s id (Ok asked) p =
        elim s.watches as (λ b. P (cond b (replied s (asked_reply o s id (Ok asked)))
        (answered_anew o s id asked)).server) [
          | true ↦ p
          | false ↦ elim (first_refusal o.refusals) as (λ b. P (cond b
              (replies s (out_of_memory_reply id)) (answered_after (later o) s id asked
              (files_asked s.client s.work.world asked))).server) [
                | true ↦ p
                | false ↦ after-keeps (later o) s id asked (files_asked s.client s.work.world asked) p
              ]
        ]

    -- after a request, too, if it keeps it where the client begins and where it ends
    module _ (s : Serving) (id : Json) (method : List ℕ) (params : Option Json) (p : P s)
        (begun : (no_memory : Bool) → P (initialized no_memory s id params).server)
        (down : P (record s { stage = Down }))
      where
        pub request-keeps : (stage : Stage) (o : Oracle)
            → P (requested stage o s id method params).server
        request-keeps Fresh o =
            let early = replies s (error_reply id ServerNotInitialized (codes "not initialized")) in
            elim (bytes_eq method (codes "initialize")) as
            (λ b. P (cond b (initialized (first_refusal o.refusals) s id params) early).server)
            [ true ↦ begun (first_refusal o.refusals) | false ↦ p ]
        request-keeps Running o =
            let again = replies s (error_reply id InvalidRequest (codes "initialized already")) in
            let stops = replies (record s { stage = Down }) (result_reply id null) in
            let answer = answered o s id (asked_by method params) in
            elim (bytes_eq method (codes "initialize")) as (λ b.
            P (cond b again (cond (bytes_eq method (codes "shutdown")) stops answer)).server) [
              | true ↦ p
              | false ↦ elim (bytes_eq method (codes "shutdown")) as (λ b. P (cond b stops answer).server)
                  [ true ↦ down | false ↦ answer-keeps o s id (asked_by method params) p ]
            ]
        request-keeps Down o = p

-- ---- one after another

-- what is done where files are read again
abbrev pub answering : Json → Asked → Oracle → Serving → List (List ℕ) → Outcome
answering id asked o s names = answered_after o s id asked names

pub name-first : (id : Json) (asked : Asked) (m n : Bool) (f : Reading) (more : Oracle)
    (s : Serving) (name : List ℕ) (left : List (List ℕ))
    → answering id asked (first_of_all m n f more) s (name ∷ left)
    ≡ and_then (refreshed (one_event m n f) s name)
    (answering id asked more (refreshed (one_event m n f) s name).server left)
unfolding answered_after
name-first id asked m n f more s name left = refl

-- no file is left
pub no-name : (id : Json) (asked : Asked) (o : Oracle) (s : Serving)
    → replied s (asked_reply o s id (Ok asked)) ≡ answering id asked o s []
unfolding answered_after
no-name id asked o s = refl

-- the names of files, from one on, and where there is none
pub names-drop : {A : Type 0} (name_of : A → List ℕ) (vs : List A) (i : ℕ) (v : A) → i < length vs
    → v ≡ get_or vs i v → map name_of (drop i vs) ≡ name_of v ∷ map name_of (drop (i + 1) vs)
names-drop name_of vs i v within is =
    let split : drop i vs ≡ v ∷ drop (i + 1) vs =
    rw (add-one, drop-cons vs i v) (ap (λ w. w ∷ drop (suc i) vs) (sym is)) in
    ap (map name_of) split

pub names-end : {A : Type 0} (name_of : A → List ℕ) (vs : List A) (i : ℕ) → length vs ≤ i
    → map name_of (drop i vs) ≡ []
names-end name_of vs i past = ap (map name_of) (drop_of_length-le vs past)

-- ---- one of them

-- memory was refused to the path
pub refreshed-unread : {A E : Type 0} (finds : Looked → Type 0) (s : Serving) (name : List ℕ)
    (old new : Writer) (r : Result A E) → is_open s.work.documents name ≡ false
    → Puts old new r (written_text (show_if name (Some out_of_memory)))
    → DoesBy finds (refreshed (one_event true false gone) s name) s old new r
refreshed-unread finds s name old new r shut put =
    let untold = moved s name [] (record { work = s.work; told = Some out_of_memory }) in
    by-same finds (refreshed (one_event true false gone) s name) untold s old new r
    (ap (λ b. if b then stays s else untold) (sym shut)) ((on-ok r refl, put), on-ok r tt)

-- what is found is given to it
pub refreshed-told : {A E : Type 0} (finds : Looked → Type 0) (m : Bool) (f : Reading)
    (held s : Serving) (name : List ℕ) (work : Work) (told : Option (List ℕ)) (old new : Writer)
    (r : Result A E) → held ≡ s → is_open held.work.documents name ≡ false
    → record { work = work; told = told } ≡ given_anew f m held.work name
    → Puts old new r (written_text (show_if name told))
    → finds (looked_at held.work.world (path_below held.client.root.path name) f)
    → DoesBy finds (refreshed (one_event false m f) s name) (record held { work = work }) old new r
refreshed-told finds m f held s name work told old new r same shut tells put found =
    let looked = looked_at held.work.world (path_below held.client.root.path name) f ∷ [] in
    let meant : moved held name looked (record { work = work; told = told })
    ≡ refreshed (one_event false m f) held name =
    ap (moved held name looked) tells
    ∙ ap (λ b. if b then stays held else refreshed_from f m held name) (sym shut) in
    subst (λ x. DoesBy finds (refreshed (one_event false m f) x name) (record held { work = work })
    old new r) same
    (by-same finds (refreshed (one_event false m f) held name)
    (moved held name looked (record { work = work; told = told })) (record held { work = work }) old
    new r meant ((on-ok r refl, put), on-ok r (found, tt)))

-- ---- whether they are

module _ (s : Serving) (id : Json) (asked : Asked) where
  pub answered-at-once : (o : Oracle) → s.watches ≡ true
      → replied s (asked_reply o s id (Ok asked)) ≡ answered o s id (Ok asked)
  answered-at-once o tells =
      ap (λ b. if b then replied s (asked_reply o s id (Ok asked)) else answered_anew o s id asked)
      (sym tells)

  pub answered-unread : s.watches ≡ false
      → replies s (out_of_memory_reply id) ≡ answered (only true) s id (Ok asked)
  answered-unread silent =
      ap (λ b. if b then replied s (asked_reply (only true) s id (Ok asked))
      else replies s (out_of_memory_reply id)) (sym silent)

  pub answered-behind : (o : Oracle) (names : List (List ℕ)) → s.watches ≡ false
      → names ≡ files_asked s.client s.work.world asked
      → answered_after o s id asked names ≡ answered (behind false o) s id (Ok asked)
  answered-behind o names silent are =
      ap (answered_after o s id asked) are
      ∙ ap (λ b. if b then replied s (asked_reply (behind false o) s id (Ok asked))
      else answered_after o s id asked (files_asked s.client s.work.world asked)) (sym silent)
