-- The places of documents in their list.
use Rattle.std.proofs.Common.{◌≡◌, ◌∙◌, sym, ap, refl, subst, ◌<◌, ◌≤◌, ◌+◌, ℕ, suc, not, nat_lt}
use Rattle.std.proofs.Common.{Bool, true, false, cond, List, [], ◌∷◌, length}
use Rattle.std.proofs.Common.{Option, None, Some, arith, get_or}
use Rattle.std.proofs.Math.ListN.{set}
use Rattle.std.specs.List.{position, position_or_len, remove}
use Rattle.cb_desk.proofs.PlaceLemmas.{same-name}
use Rattle.cb_lsp.specs.Documents.{Document, Kept, document_of, is_named, with_document}
use Rattle.cb_lsp.specs.Documents.{without_document}
use Rattle.cb_lsp.specs.steps.Noted.{noted, with_noted}

-- the place of the document of a file, or how many documents there are
abbrev pub place : List ℕ → List Document → ℕ
place name ds = position_or_len (is_named name) ds

pub there : (name : List ℕ) (ds : List Document) (other : Document) → place name ds < length ds
    → document_of ds name ≡ Some (get_or ds (place name ds) other)
unfolding document_of
there name [] other h = absurd (omega arith)
there name (d ∷ ds) other h =
    (elim (is_named name d) as
    (λ b. cond (not b) (1 + place name ds) 0 < suc (length ds)
    → cond b (Some d) (document_of ds name)
    ≡ Some (get_or (d ∷ ds) (cond (not b) (1 + place name ds) 0) other)) [
      | true ↦ λ k. refl
      | false ↦ λ k.
          let next : suc (place name ds) ≡ 1 + place name ds = omega arith in
          subst (λ n. document_of ds name ≡ Some (get_or (d ∷ ds) n other)) next
          (there name ds other (omega arith))
    ]) h

pub put : (d : Document) (ds : List Document) → place d.name ds < length ds
    → set ds (place d.name ds) d ≡ with_document d ds
unfolding with_document
put d [] h = absurd (omega arith)
put d (e ∷ es) h =
    (elim (is_named d.name e) as
    (λ b. cond (not b) (1 + place d.name es) 0 < suc (length es)
    → set (e ∷ es) (cond (not b) (1 + place d.name es) 0) d
    ≡ cond b (d ∷ es) (e ∷ with_document d es)) [
      | true ↦ λ k. refl
      | false ↦ λ k.
          let next : suc (place d.name es) ≡ 1 + place d.name es = omega arith in
          subst (λ n. set (e ∷ es) n d ≡ e ∷ with_document d es) next
          (ap (λ xs. e ∷ xs) (put d es (omega arith)))
    ]) h

pub gone : (name : List ℕ) (ds : List Document) → place name ds < length ds
    → remove ds (place name ds) ≡ without_document name ds
unfolding without_document
gone name [] h = absurd (omega arith)
gone name (d ∷ ds) h =
    (elim (is_named name d) as
    (λ b. cond (not b) (1 + place name ds) 0 < suc (length ds)
    → remove (d ∷ ds) (cond (not b) (1 + place name ds) 0)
    ≡ cond b ds (d ∷ without_document name ds)) [
      | true ↦ λ k. refl
      | false ↦ λ k.
          let next : suc (place name ds) ≡ 1 + place name ds = omega arith in
          subst (λ n. remove (d ∷ ds) n ≡ d ∷ without_document name ds) next
          (ap (λ xs. d ∷ xs) (gone name ds (omega arith)))
    ]) h

pub missing : (name : List ℕ) (ds : List Document) → length ds ≤ place name ds
    → document_of ds name ≡ None
unfolding document_of
missing name [] h = refl
missing name (d ∷ ds) h =
    (elim (is_named name d) as
    (λ b. suc (length ds) ≤ cond (not b) (1 + place name ds) 0
    → cond b (Some d) (document_of ds name) ≡ None) [
      | true ↦ λ k. absurd (omega arith)
      | false ↦ λ k. missing name ds (omega arith)
    ]) h

pub kept-all : (name : List ℕ) (ds : List Document) → document_of ds name ≡ None
    → without_document name ds ≡ ds
unfolding document_of without_document
kept-all name [] h = refl
kept-all name (d ∷ ds) h =
    (elim (is_named name d) as
    (λ b. cond b (Some d) (document_of ds name) ≡ None
    → cond b ds (d ∷ without_document name ds) ≡ d ∷ ds) [
      | true ↦ λ k. cc
      | false ↦ λ k. ap (λ xs. d ∷ xs) (kept-all name ds k)
    ]) h

pub same-document : (name : List ℕ) (ds : List Document) (d : Document)
    → document_of ds name ≡ Some d → d.name ≡ name
unfolding document_of
same-document name [] d h = cc
same-document name (e ∷ es) d h =
    (elim (is_named name e) as
    (λ b. is_named name e ≡ b → cond b (Some e) (document_of es name) ≡ Some d
    → d.name ≡ name) [
      | true ↦ λ is k.
          let same : e ≡ d = cc in
          subst (λ (x : Document). x.name ≡ name) same (same-name e.name name is)
      | false ↦ λ is k. same-document name es d k
    ]) refl h

-- ---- where they are found

place-some : (n most i : ℕ) → cond (nat_lt n most) (Some n) None ≡ Some i
    → (i ≡ n) × (n < most)
place-some n most i h = grind arith

place-none : (n most : ℕ) → cond (nat_lt n most) (Some n) None ≡ None → most ≤ n
place-none n most h = grind arith

pub found : (name : List ℕ) (ds : List Document) (i : ℕ) → position (is_named name) ds ≡ Some i
    → (i ≡ place name ds) × (place name ds < length ds)
found name ds i h = place-some (place name ds) (length ds) i h

pub unfound : (name : List ℕ) (ds : List Document) → position (is_named name) ds ≡ None
    → document_of ds name ≡ None
unfound name ds h = missing name ds (place-none (place name ds) (length ds) h)

-- ---- a list that is held

pub found-document : (name : List ℕ) (held ds : List Document) (i : ℕ) (d : Document)
    → held ≡ ds → Some i ≡ position (is_named name) ds → d ≡ get_or held i d
    → document_of ds name ≡ Some d
found-document name held ds i d same at is =
    let p = found name ds i (sym at) in
    let inside : d ≡ get_or ds i d = subst (λ es. d ≡ get_or es i d) same is in
    there name ds d p.1 ∙ ap (λ e. Some e) (sym (subst (λ n. d ≡ get_or ds n d) p.0 inside))

pub gone-at : (name : List ℕ) (held ds : List Document) (i : ℕ) → held ≡ ds
    → Some i ≡ position (is_named name) ds → remove held i ≡ without_document name ds
gone-at name held ds i same at =
    let p = found name ds i (sym at) in rw (same, p.0) (gone name ds p.1)

-- ---- notes

noted-name : (k : Option Kept) (l : Bool) (d : Document) → (noted k l d).name ≡ d.name
noted-name None l d = refl
noted-name (Some k) l d = refl

put-at : (name : List ℕ) (ds : List Document) (e : Document) → e.name ≡ name
    → place name ds < length ds → set ds (place name ds) e ≡ with_document e ds
put-at name ds e same short =
    subst (λ n. place n ds < length ds → set ds (place n ds) e ≡ with_document e ds) same
    (put e ds) short

pub noted-at : (k : Option Kept) (l : Bool) (name : List ℕ) (held ds : List Document) (i : ℕ)
    (d e : Document) → held ≡ ds → Some i ≡ position (is_named name) ds → d ≡ get_or held i d
    → e ≡ noted k l d → set held i e ≡ with_noted k l name ds
noted-at k l name held ds i d e held-is at is new =
    let p = found name ds i (sym at) in
    let document = found-document name held ds i d held-is at is in
    let same : e.name ≡ name =
    ap (λ (x : Document). x.name) new ∙ noted-name k l d ∙ same-document name ds d document in
    rw (document, ← new, held-is, p.0) (put-at name ds e same p.1)

pub none-noted : (k : Option Kept) (l : Bool) (name : List ℕ) (ds : List Document)
    → None ≡ position (is_named name) ds → ds ≡ with_noted k l name ds
none-noted k l name ds at = rw (unfound name ds (sym at)) refl
