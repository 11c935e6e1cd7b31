-- What is told of documents that are changed and closed.
use Rattle.std.proofs.Common.{◌≡◌, ◌∙◌, sym, ap, refl, subst, ℕ}
use Rattle.std.proofs.Common.{Bool, true, false, cond, List, [], ◌∷◌}
use Rattle.std.proofs.Common.{Option, None, Some, Ok, Err, codes}
use Rattle.std.specs.Option.{option_map}
use Rattle.std.specs.Prelude.{is_some}
use Rattle.cb_desk.specs.declared.change.Refusal.{Refusal}
use Rattle.cb_desk.specs.declared.change.Refusal.TheVariants.{OutOfMemory}
use Rattle.cb_desk.specs.Refusals.{text_of}
use Rattle.cb_desk.specs.World.{File, text_of_file}
use Rattle.cb_wire.specs.declared.units.Encoding.{Encoding}
use Rattle.cb_lsp.specs.Changes.{TextChange, text_by}
use Rattle.cb_lsp.specs.Documents.{Document, Reading, Work, changed, changed_into, closed}
use Rattle.cb_lsp.specs.Documents.{document_of, given_found, if_open, is_open, kept_from, kept_text}
use Rattle.cb_lsp.specs.Documents.{lost, nothing, present, taken, text, text_of_document, text_step}
use Rattle.cb_lsp.specs.Documents.{text_unless, told_unless, was_lost, with_document}
use Rattle.cb_lsp.specs.Documents.{without_document}
use Rattle.cb_lsp.specs.steps.Noted.{is_present, noted, text_again, with_any, with_noted}
use Rattle.cb_lsp.specs.steps.Works.{changed_named, kept_before, one_change, text_at}
use Rattle.cb_lsp.proofs.DocumentPlaces.{same-document}
use Rattle.cb_lsp.proofs.Opened.{closed-document, document, open-document, told_of}

-- ---- a document that is changed

module _ (e : Encoding) where
  pub change-unopened : (inner w : Work) (name : List ℕ) (changes : Option (List TextChange))
      → inner ≡ w → is_open inner.documents name ≡ false
      → (ms : List Bool) × (told_of w.world w.documents None ≡ changed e ms w name changes)
  change-unopened inner w name changes is no_document =
      let none : is_open w.documents name ≡ false =
      ap (λ (x : Work). is_open x.documents name) (sym is) ∙ no_document in
      ([], rw (closed-document name w.documents none) refl)

-- a document that is lost, and what is told then
lost-told : (w u : Work) (name said : List ℕ) (told : Option (List ℕ)) (d : Document)
    → document_of w.documents name ≡ Some d → u.world ≡ w.world
    → u.documents ≡ with_noted None true name w.documents
    → told ≡ told_unless (was_lost (document_of w.documents name)) said
    → told_of u.world u.documents told ≡ lost w d said
lost-told w u name said told d is world documents tells =
    let put : u.documents ≡ with_document (noted None true d) w.documents =
    documents ∙ ap (λ o. with_any (option_map (noted None true) o) w.documents) is in
    let says : told ≡ told_unless d.lost said =
    tells ∙ ap (λ o. told_unless (was_lost o) said) is in
    rw (world, put, says) refl

-- what is kept when a file is given another text
kept-noted : (files : List File) (d : Document)
    → noted (kept_before files d.name (Some d)) false d
    ≡ document d.name (kept_from (text_of_file files d.name) d.kept) false
kept-noted files d =
    elim d.kept as
    (λ k. noted (cond (is_present k) (Some (text (text_of_file files d.name))) None) false
    (document d.name k d.lost) ≡ document d.name (kept_from (text_of_file files d.name) k) false) [
      | nothing ↦ refl
      | present ↦ refl
      | text bytes ↦ refl
    ]

some-of : (o : Option (List ℕ)) → is_some o ≡ true → (bytes : List ℕ) × (o ≡ Some bytes)
some-of None h = cc
some-of (Some bytes) h = (bytes, refl)

-- ---- its file is given another text, if there is one

pub change-nothing : (w : Work) (name : List ℕ)
    → told_of w.world w.documents None ≡ changed_named false w name None
change-nothing w name =
    elim (document_of w.documents name) as
    (λ o. told_of w.world w.documents None ≡ if_open (λ d. changed_into false w d None) w o)
    [ None ↦ refl | Some d ↦ refl ]

pub change-refused : (m : Bool) (w v u : Work) (name bytes said : List ℕ) (why : Refusal)
    (told : Option (List ℕ)) → is_open w.documents name ≡ true
    → (taken m w.world (text_step w.world.files name bytes) ≡ Err why) × (v ≡ w)
    → u.world ≡ v.world → u.documents ≡ with_noted None true name v.documents
    → told ≡ told_unless (was_lost (document_of v.documents name)) said → said ≡ text_of why
    → (n : Bool) × (told_of u.world u.documents told ≡ changed_named n w name (Some bytes))
change-refused m w v u name bytes said why told opens done world documents tells says =
    let (d, is) = open-document name w.documents opens in
    let world-is : u.world ≡ w.world = world ∙ ap (λ (x : Work). x.world) done.1 in
    let documents-are : u.documents ≡ with_noted None true name w.documents =
    documents ∙ ap (λ (x : Work). with_noted None true name x.documents) done.1 in
    let tells-are : told ≡ told_unless (was_lost (document_of w.documents name)) said =
    tells ∙ ap (λ (x : Work). told_unless (was_lost (document_of x.documents name)) said) done.1
    in
    let same = lost-told w u name said told d is world-is documents-are tells-are in
    (m, rw (is, same-document name w.documents d is, done.0) (same ∙ ap (lost w d) says))

change-at : (m : Bool) (w v : Work) (d : Document) (bytes : List ℕ)
    → document_of w.documents d.name ≡ Some d
    → (taken m w.world (text_step w.world.files d.name bytes) ≡ Ok v.world)
    × (v.documents ≡ with_noted (kept_before w.world.files d.name (document_of w.documents d.name))
    false d.name w.documents)
    → told_of v.world v.documents None ≡ changed_named m w d.name (Some bytes)
change-at m w v d bytes is done =
    let put : v.documents ≡ with_document (document d.name (kept_from (text_of_file w.world.files
    d.name) d.kept) false) w.documents =
    done.1
    ∙ ap (λ o. with_any (option_map (noted (kept_before w.world.files d.name o) false) o)
    w.documents) is
    ∙ ap (λ e. with_document e w.documents) (kept-noted w.world.files d) in
    rw (is, done.0, put) refl

pub change-done : (m : Bool) (w v : Work) (name bytes : List ℕ)
    → is_open w.documents name ≡ true
    → (taken m w.world (text_step w.world.files name bytes) ≡ Ok v.world)
    × (v.documents ≡ with_noted (kept_before w.world.files name (document_of w.documents name))
    false name w.documents)
    → (n : Bool) × (told_of v.world v.documents None ≡ changed_named n w name (Some bytes))
change-done m w v name bytes opens done =
    let (d, is) = open-document name w.documents opens in (
      m,
      subst (λ n. document_of w.documents n ≡ Some d
          → (taken m w.world (text_step w.world.files n bytes) ≡ Ok v.world)
          × (v.documents ≡ with_noted (kept_before w.world.files n (document_of w.documents n))
          false n w.documents)
          → told_of v.world v.documents None ≡ changed_named m w n (Some bytes))
          (same-document name w.documents d is) (change-at m w v d bytes) is done,
    )

-- ---- changes are made

module _ (e : Encoding) where
  pub change-unread : (w u : Work) (name said : List ℕ) (told : Option (List ℕ))
      → is_open w.documents name ≡ true → u.world ≡ w.world
      → u.documents ≡ with_noted None true name w.documents
      → told ≡ told_unless (was_lost (document_of w.documents name)) said
      → said ≡ codes "bad parameters"
      → (ms : List Bool) × (told_of u.world u.documents told ≡ changed e ms w name None)
  change-unread w u name said told opens world documents tells says =
      let (d, is) = open-document name w.documents opens in
      let same = lost-told w u name said told d is world documents tells in
      ([], rw is (same ∙ ap (lost w d) says))

  -- the text that changes of the document of a name lead to, if they do
  abbrev made_by : Work → List ℕ → List TextChange → Option (List ℕ)
  made_by w name cs = text_by e (text_at w.world.files name (document_of w.documents name)) cs

  made-of : (w : Work) (name : List ℕ) (cs : List TextChange) (d : Document)
      → document_of w.documents name ≡ Some d
      → made_by w name cs ≡ text_by e (text_of_document w d) cs
  made-of w name cs d is =
      ap (λ o. text_by e (text_at w.world.files name o) cs) is
      ∙ ap (λ n. text_by e (text_unless d.lost (text_of_file w.world.files n)) cs)
      (sym (same-document name w.documents d is))

  pub change-made : (m : Bool) (w : Work) (name : List ℕ) (cs : List TextChange)
      (o : Option (List ℕ)) → is_open w.documents name ≡ true → o ≡ made_by w name cs
      → changed_named m w name o ≡ changed e (m ∷ []) w name (Some cs)
  change-made m w name cs o opens made =
      let (d, is) = open-document name w.documents opens in
      rw is (ap (changed_into m w d) (made ∙ made-of w name cs d is))

  pub change-unmade : (w u : Work) (name said : List ℕ) (told : Option (List ℕ))
      (cs : List TextChange) → is_open w.documents name ≡ true → u.world ≡ w.world
      → u.documents ≡ with_noted None true name w.documents
      → told ≡ told_unless (was_lost (document_of w.documents name)) said
      → is_some (made_by w name cs) ≡ true → said ≡ text_of OutOfMemory
      → (ms : List Bool) × (told_of u.world u.documents told ≡ changed e ms w name (Some cs))
  change-unmade w u name said told cs opens world documents tells some says =
      let (d, is) = open-document name w.documents opens in
      let (bytes, made) = some-of (made_by w name cs) some in
      let made_here : Some bytes ≡ text_by e (text_of_document w d) cs =
      sym made ∙ made-of w name cs d is in
      let same = lost-told w u name said told d is world documents tells in
      (true ∷ [], rw is (same ∙ ap (lost w d) says ∙ ap (changed_into true w d) made_here))

-- ---- a document that is closed

pub close-unopened : (m : Bool) (f : Reading) (inner w : Work) (name : List ℕ) → inner ≡ w
    → is_open inner.documents name ≡ false
    → (n : Bool) × (told_of w.world w.documents None ≡ closed (one_change n f) w name)
close-unopened m f inner w name is no_document =
    let none : is_open w.documents name ≡ false =
    ap (λ (x : Work). is_open x.documents name) (sym is) ∙ no_document in
    (m, rw (closed-document name w.documents none) refl)

-- its file is given what is found, or else what was kept
pub close-given : (m : Bool) (f : Reading) (inner w v : Work) (name : List ℕ) (ds : List Document)
    (kept : Option (List ℕ)) (told : Option (List ℕ)) → inner ≡ w
    → is_open inner.documents name ≡ true
    → ds ≡ without_document name inner.documents
    → kept ≡ text_again (document_of inner.documents name)
    → told_of v.world v.documents told
    ≡ given_found f m (record { world = inner.world; documents = ds }) name kept
    → (n : Bool) × (told_of v.world v.documents told ≡ closed (one_change n f) w name)
close-given m f inner w v name ds kept told is opens left keeps given =
    let (d, here) = open-document name inner.documents opens in
    let kept-is : kept ≡ kept_text d.kept = keeps ∙ ap text_again here in (
      m,
      subst (λ (x : Work). told_of v.world v.documents told ≡ closed (one_change m f) x name) is
          (given ∙ rw (here, left, kept-is) refl),
    )
