-- What is told of documents that are opened, changed and closed.
use Rattle.std.proofs.Common.{◌≡◌, ◌∙◌, sym, ap, refl, subst, ◌||◌, ◌++◌, ℕ}
use Rattle.std.proofs.Common.{Bool, true, false, cond, List, [], ◌∷◌}
use Rattle.std.proofs.Common.{Option, None, Some, Ok, Err}
use Rattle.cb_desk.specs.declared.change.Refusal.{Refusal}
use Rattle.cb_desk.specs.declared.change.Refusal.TheVariants.{OutOfMemory}
use Rattle.cb_desk.specs.Refusals.{text_of}
use Rattle.cb_desk.specs.World.{World}
use Rattle.cb_desk.proofs.PlaceLemmas.{name-same}
use Rattle.cb_lsp.specs.Documents.{Document, Kept, Told, Work}
use Rattle.cb_lsp.specs.Documents.{document_of}
use Rattle.cb_lsp.specs.Documents.{is_named, is_open, nothing, opened}
use Rattle.cb_lsp.specs.Documents.{present, taken, text_step, told_unless, was_lost}
use Rattle.cb_lsp.specs.Documents.{with_document}
use Rattle.cb_lsp.specs.steps.Noted.{new_document}
use Rattle.cb_lsp.specs.steps.Noted.{with_noted, with_opened}
use Rattle.cb_lsp.proofs.DocumentPlaces.{same-document}

-- ---- a document that is opened

pub closed-document : (name : List ℕ) (ds : List Document) → is_open ds name ≡ false
    → document_of ds name ≡ None
unfolding document_of
closed-document name [] h = refl
closed-document name (d ∷ ds) h =
    (elim (is_named name d) as
    (λ b. b || is_open ds name ≡ false → cond b (Some d) (document_of ds name) ≡ None) [
      | true ↦ λ k. cc
      | false ↦ λ k. closed-document name ds k
    ]) h

pub open-document : (name : List ℕ) (ds : List Document) → is_open ds name ≡ true
    → (d : Document) × (document_of ds name ≡ Some d)
unfolding document_of
open-document name [] h = cc
open-document name (d ∷ ds) h =
    (elim (is_named name d) as
    (λ b. b || is_open ds name ≡ true
    → (e : Document) × (cond b (Some d) (document_of ds name) ≡ Some e)) [
      | true ↦ λ k. (d, refl)
      | false ↦ λ k. open-document name ds k
    ]) h

document-behind : (name : List ℕ) (ds : List Document) (e : Document)
    → document_of ds name ≡ None → is_named name e ≡ true
    → document_of (ds ++ e ∷ []) name ≡ Some e
unfolding document_of
document-behind name [] e h is = rw is refl
document-behind name (d ∷ ds) e h is =
    (elim (is_named name d) as
    (λ b. cond b (Some d) (document_of ds name) ≡ None
    → cond b (Some d) (document_of (ds ++ e ∷ []) name) ≡ Some e) [
      | true ↦ λ k. cc
      | false ↦ λ k. document-behind name ds e k is
    ]) h

put-behind : (d : Document) (ds : List Document) (e : Document)
    → document_of ds d.name ≡ None → is_named d.name e ≡ true
    → with_document d (ds ++ e ∷ []) ≡ with_document d ds
unfolding document_of with_document
put-behind d [] e h is = rw is refl
put-behind d (f ∷ ds) e h is =
    (elim (is_named d.name f) as
    (λ b. cond b (Some f) (document_of ds d.name) ≡ None
    → cond b (d ∷ (ds ++ e ∷ [])) (f ∷ with_document d (ds ++ e ∷ []))
    ≡ cond b (d ∷ ds) (f ∷ with_document d ds)) [
      | true ↦ λ k. cc
      | false ↦ λ k. ap (λ xs. f ∷ xs) (put-behind d ds e k is)
    ]) h

abbrev pub document : List ℕ → Kept → Bool → Document
document name k l = record { name = name; kept = k; lost = l }

noted-opened : (name : List ℕ) (ds : List Document) (k : Kept) (l : Bool)
    → with_noted (Some k) l name (with_opened name ds) ≡ with_document (document name k l) ds
noted-opened name ds k l =
    (elim (is_open ds name) as
    (λ b. is_open ds name ≡ b
    → with_noted (Some k) l name (cond b ds (ds ++ new_document name ∷ []))
    ≡ with_document (document name k l) ds) [
      | true ↦ λ e.
          let (d, is) = open-document name ds e in
          rw is (ap (λ n. with_document (document n k l) ds) (same-document name ds d is))
      | false ↦ λ e.
          let none = closed-document name ds e in
          rw (document-behind name ds (new_document name) none (name-same name))
          (put-behind (document name k l) ds (new_document name) none (name-same name))
    ]) refl

lost-opened : (name : List ℕ) (ds : List Document)
    → was_lost (document_of (with_opened name ds) name) ≡ was_lost (document_of ds name)
lost-opened name ds =
    (elim (is_open ds name) as
    (λ b. is_open ds name ≡ b
    → was_lost (document_of (cond b ds (ds ++ new_document name ∷ [])) name)
    ≡ was_lost (document_of ds name)) [
      | true ↦ λ e. refl
      | false ↦ λ e.
          let none = closed-document name ds e in
          rw (document-behind name ds (new_document name) none (name-same name), none) refl
    ]) refl

-- ---- what is told

abbrev pub told_of : World → List Document → Option (List ℕ) → Told
told_of w ds told = record { work = record { world = w; documents = ds }; told = told }

pub open-unheld : (world : World) (ds es : List Document) (w : Work) (name bytes said : List ℕ)
    → record { world = world; documents = ds } ≡ w → es ≡ ds → is_open ds name ≡ false
    → said ≡ text_of OutOfMemory
    → (ms : List Bool) × (told_of world es (Some said) ≡ opened ms w name bytes)
open-unheld world ds es w name bytes said is same unopened why = (
  true ∷ [],
  subst (λ x. told_of world es (Some said) ≡ opened (true ∷ []) x name bytes) is
      (rw (same, why, unopened) refl),
)

pub open-done : (m : Bool) (world next : World) (ds es fs gs : List Document) (w v : Work)
    (name bytes : List ℕ) → record { world = world; documents = ds } ≡ w
    → record { world = next; documents = fs } ≡ v → es ≡ with_opened name ds
    → (taken m world (text_step world.files name bytes) ≡ Ok v.world) × (v.documents ≡ es)
    → gs ≡ with_noted (Some present) false name fs
    → (ms : List Bool) × (told_of next gs None ≡ opened ms w name bytes)
open-done m world next ds es fs gs w v name bytes is as_v opens done notes =
    let next-is : next ≡ v.world = ap (λ (x : Work). x.world) as_v in
    let held : fs ≡ with_opened name ds = ap (λ (x : Work). x.documents) as_v ∙ done.1 ∙ opens in
    let meant = done.0 ∙ ap (λ x. Ok x) (sym next-is) in
    let put : gs ≡ with_document (document name present false) ds =
    notes ∙ ap (with_noted (Some present) false name) held ∙ noted-opened name ds present false in (
      false ∷ m ∷ [],
      subst (λ x. told_of next gs None ≡ opened (false ∷ m ∷ []) x name bytes) is
          (rw (meant, put) refl),
    )

pub open-refused : (m : Bool) (world next : World) (ds es fs gs : List Document) (w v : Work)
    (name bytes said : List ℕ) (why : Refusal) (was : Bool) (told : Option (List ℕ))
    → record { world = world; documents = ds } ≡ w → record { world = next; documents = fs } ≡ v
    → es ≡ with_opened name ds
    → (taken m world (text_step world.files name bytes) ≡ Err why)
    × (v ≡ record { world = world; documents = es })
    → gs ≡ with_noted (Some nothing) true name fs → was ≡ was_lost (document_of fs name)
    → said ≡ text_of why → told ≡ told_unless was said
    → (ms : List Bool) × (told_of next gs told ≡ opened ms w name bytes)
open-refused m world next ds es fs gs w v name bytes said why was told is as_v opens done notes
    was-is says tells =
    let same = as_v ∙ done.1 in
    let next-is : next ≡ world = ap (λ (x : Work). x.world) same in
    let held : fs ≡ with_opened name ds = ap (λ (x : Work). x.documents) same ∙ opens in
    let put : gs ≡ with_document (document name nothing true) ds =
    notes ∙ ap (with_noted (Some nothing) true name) held ∙ noted-opened name ds nothing true in
    let lost-is : was ≡ was_lost (document_of ds name) =
    was-is ∙ ap (λ xs. was_lost (document_of xs name)) held ∙ lost-opened name ds in (
      false ∷ m ∷ [],
      subst (λ x. told_of next gs told ≡ opened (false ∷ m ∷ []) x name bytes) is
          (rw (done.0, put, tells, lost-is, says, next-is) refl),
    )
