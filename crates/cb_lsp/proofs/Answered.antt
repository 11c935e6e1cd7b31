-- What is written leaves an outcome.
use Rattle.std.proofs.Common.{◌≡◌, ◌∙◌, ℕ, Bool, false, List, ap, sym, subst}
use Rattle.std.proofs.Common.{append-nil}
use Rattle.std.specs.Prelude.{OnOk, Option, Result, Ok, Err, []}
use Rattle.std.specs.List.{AllByRecursion}
use Rattle.json.specs.Json.{Json}
use Rattle.cb_tags.specs.Writers.{Writer}
use Rattle.cb_tags.specs.Writing.{Puts, PutsAll}
use Rattle.cb_tags.proofs.Prefixes.{PutsAll-none}
use Rattle.cb_wire.specs.declared.units.Encoding.{Encoding}
use Rattle.cb_wire.specs.Texts.{frame}
use Rattle.cb_wire.specs.Trees.{result_reply}
use Rattle.cb_wire.specs.Values.{value_text}
use Rattle.cb_wire.specs.Welcome.{welcome}
use Rattle.cb_lsp.specs.declared.server.Stage.TheVariants.{Running}
use Rattle.cb_lsp.specs.Answers.{Replied}
use Rattle.cb_lsp.specs.Documents.{Looked}
use Rattle.cb_lsp.specs.Messages.{Outcome, Serving, client_of, encoding_for, initialized, replied}
use Rattle.cb_lsp.specs.Messages.{replies, stays, with_root}
use Rattle.cb_lsp.specs.Params.{prepares_renames, takes_trees, takes_watchers}
use Rattle.cb_lsp.specs.Bodies.{written_text}
use Rattle.cb_lsp.specs.Bodies.{Does, DoesBy, Replies}

-- what holds anyway holds on success
pub on-ok : {A E P : Type 0} (r : Result A E) → P → OnOk r P
on-ok (Ok a) p = p
on-ok (Err e) p = tt

-- one message is written
pub does-one : {A E : Type 0} (s next : Serving) (j : Json) (old new : Writer) (r : Result A E)
    → next ≡ s → Puts old new r (frame (value_text j)) → Does (replies s j) next old new r
does-one s next j old new r stays put =
    (on-ok r stays, subst (Puts old new r) (sym (append-nil (frame (value_text j)))) put)

-- ---- a client that is initialized

-- a server that is told what its client takes
abbrev pub told_client : Encoding → (tree watches : Bool) → Serving → Serving
told_client encoding tree watches s = record s {
  client = record { root = s.client.root; encoding = encoding; tree = tree };
  stage = Running;
  watches = watches;
}

pub initialized-does : {A E : Type 0} (old next held : Serving) (params : Option Json) (id : Json)
    (encoding : Encoding) (tree watches prepares : Bool) (version : List ℕ) (before after : Writer)
    (r : Result A E)
    → held ≡ with_root old params → encoding ≡ encoding_for params → tree ≡ takes_trees params
    → watches ≡ takes_watchers params → prepares ≡ prepares_renames params → version ≡ held.version
    → next ≡ told_client encoding tree watches held
    → Puts before after r (frame (value_text (result_reply id (welcome encoding prepares version))))
    → Does (initialized false old id params) next before after r
initialized-does old next held params id encoding tree watches prepares version before after r rooted
    counts forms tells asks named is put =
    let to : Serving = record old {
      client = client_of old params;
      stage = Running;
      watches = takes_watchers params;
    } in
    let same : told_client encoding tree watches held ≡ to =
    ap (told_client encoding tree watches) rooted
    ∙ ap (λ e. told_client e tree watches (with_root old params)) counts
    ∙ ap (λ t. told_client (encoding_for params) t watches (with_root old params)) forms
    ∙ ap (λ t. told_client (encoding_for params) (takes_trees params) t (with_root old params)) tells
    in
    let says = ap (λ e. welcome e prepares version) counts
    ∙ ap (λ p. welcome (encoding_for params) p version) asks
    ∙ ap (λ v. welcome (encoding_for params) (prepares_renames params) v)
    (named ∙ ap (λ (s : Serving). s.version) rooted) in
    does-one to next (result_reply id (welcome (encoding_for params) (prepares_renames params)
    old.version)) before after r (is ∙ same)
    (subst (λ w. Puts before after r (frame (value_text (result_reply id w)))) says put)

-- ---- outcomes that are the same

-- nothing is done
pub does-nothing : (o : Outcome) (s next : Serving) (w : Writer) → stays s ≡ o → next ≡ s
    → (next ≡ o.server) × PutsAll w w (written_text o.written)
does-nothing o s next w is same =
    subst (λ (x : Outcome). (next ≡ x.server) × PutsAll w w (written_text x.written)) is
    (same, PutsAll-none w)

-- ---- what was read is found

pub by-same : {A E : Type 0} (finds : Looked → Type 0) (o known : Outcome) (next : Serving)
    (old new : Writer) (r : Result A E) → known ≡ o → DoesBy finds known next old new r
    → DoesBy finds o next old new r
by-same finds o known next old new r is does =
    subst (λ (x : Outcome). DoesBy finds x next old new r) is does

-- nothing was read
pub by-none : {A E : Type 0} (finds : Looked → Type 0) (o : Outcome) (next : Serving)
    (old new : Writer) (r : Result A E) → o.read ≡ [] → Does o next old new r
    → DoesBy finds o next old new r
by-none finds o next old new r none does =
    (does, on-ok r (subst (AllByRecursion finds) (sym none) tt))

pub by-as : {A E : Type 0} (finds : Looked → Type 0) (o : Outcome) (s next : Serving) (j : Json)
    (old new : Writer) (r : Result A E) → replies s j ≡ o → next ≡ s
    → Puts old new r (frame (value_text j)) → DoesBy finds o next old new r
by-as finds o s next j old new r is same put =
    by-same finds o (replies s j) next old new r is
    (does-one s next j old new r same put, on-ok r tt)

pub by-nothing : (finds : Looked → Type 0) (o : Outcome) (s next : Serving) (w : Writer)
    → stays s ≡ o → next ≡ s
    → ((next ≡ o.server) × PutsAll w w (written_text o.written)) × AllByRecursion finds o.read
by-nothing finds o s next w is same =
    (does-nothing o s next w is same, subst (λ (x : Outcome). AllByRecursion finds x.read) is tt)

-- a reply is written
pub by-reply : {A E : Type 0} (finds : Looked → Type 0) (o : Outcome) (s next : Serving)
    (r : Replied) (old new : Writer) (result : Result A E) → replied s r ≡ o → next ≡ s
    → Replies finds r old new result → DoesBy finds o next old new result
by-reply finds o s next r old new result is same put =
    by-same finds o (replied s r) next old new result is (
      (
        on-ok result same,
        subst (Puts old new result)
            (sym (append-nil (frame (value_text r.message)))) put.0,
      ),
      on-ok result put.1,
    )
