-- The edits of uses, one after another, are those of their files, as uses go by file.
use Rattle.std.proofs.Common.{◌≡◌, ◌≢◌, ◌∙◌, not, sym, ap, subst, refl, ℕ, Bool, true, false}
use Rattle.std.proofs.Common.{List, [], ◌∷◌, ◌++◌, filter, map, if◌then◌else◌}
use Rattle.std.proofs.lemmas.Bool.{false≢true, true≢false}
use Rattle.std.specs.List.{AllByRecursion, flat_map}
use Rattle.std.specs.Str.{bytes_eq}
use Rattle.cb_desk.proofs.PlaceLemmas.{name-same, same-name}
use Rattle.cb_desk.proofs.Valid.{all-along, all-filter, all-passed}
use Rattle.cb_desk.specs.World.{File}
use Rattle.cb_index.specs.Rows.{Fact}
use Rattle.cb_scan.specs.Order.{AreOrdered}
use Rattle.cb_wire.specs.Edits.{HasEdits, edit_text, edits_texts, file_texts, texts_from}
use Rattle.cb_wire.specs.Uris.{uri_of}
use Rattle.cb_lsp.specs.Clients.{Client}
use Rattle.cb_lsp.specs.Renames.{file_edits, files_of, use_edit, uses_in}
use Rattle.cb_lsp.specs.steps.Meanings.{IsUpTo}
use Rattle.cb_lsp.specs.steps.References.{UsesAreByPlace}
use Rattle.cb_lsp.specs.steps.Renames.{texts_of_uses}
use Rattle.cb_lsp.proofs.Reaches.{apart, swapped}
use Rattle.cb_lsp.proofs.UsesReached.{AreUsesByFile, uses-by-file}

-- ---- uses in a row of one file, as groups

abbrev pub Groups : Type 0
Groups = List (List ℕ × List Fact)

-- of the first group, if it is of a file, the uses; and the groups behind it, or else all
abbrev first_in : (file : List ℕ) → Groups → List Fact
first_in file [] = []
first_in file (g ∷ gs) = if bytes_eq g.0 file then g.1 else []

abbrev pub behind : (file : List ℕ) → Groups → Groups
behind file [] = []
behind file (g ∷ gs) = if bytes_eq g.0 file then gs else g ∷ gs

unfoldable pub cut : List Fact → Groups
cut [] = []
cut (u ∷ us) = (u.file, u ∷ first_in u.file (cut us)) ∷ behind u.file (cut us)

module _ (c : Client) (files : List File) (new : List ℕ) where
  texts_in : (opens : Bool) → (file : List ℕ) → List Fact → List (List ℕ)
  texts_in opens file us = file_texts opens (uri_of c.root file) (map (use_edit c files new) us)

  all_texts : Groups → List (List ℕ)
  all_texts gs = flat_map (λ (g : List ℕ × List Fact). texts_in true g.0 g.1) gs

  texts_of_groups : (opens : Bool) → Groups → List (List ℕ)
  texts_of_groups opens [] = []
  texts_of_groups opens (g ∷ gs) = texts_in opens g.0 g.1 ++ all_texts gs

  -- one after another, in groups
  grouped : (opens : Bool) (us : List Fact)
      → texts_of_uses c files new opens us ≡ texts_of_groups opens (cut us)
  unfolding texts_of_uses cut texts_in all_texts texts_of_groups texts_from
  grouped opens [] = refl
  grouped opens (u ∷ []) = refl
  grouped opens (u ∷ v ∷ vs) =
      let more = first_in v.file (cut vs) in
      let gs = behind v.file (cut vs) in
      let first : Bool → List ℕ = λ b.
      edit_text opens (not b) (uri_of c.root u.file) (use_edit c files new u) in
      (elim (bytes_eq v.file u.file) as (λ b. bytes_eq v.file u.file ≡ b
      → first b ∷ texts_of_uses c files new (not b) (v ∷ vs)
      ≡ texts_of_groups opens ((u.file, u ∷ (if b then v ∷ more else []))
      ∷ (if b then gs else (v.file, v ∷ more) ∷ gs))) [
        | true ↦ λ e.
            ap (λ ts. first true ∷ ts) (grouped false (v ∷ vs)
            ∙ ap (λ file. texts_in false file (v ∷ more) ++ all_texts gs)
            (same-name v.file u.file e))
        | false ↦ λ e. ap (λ ts. first false ∷ ts) (grouped true (v ∷ vs))
      ]) refl

  flat-groups : (gs : Groups) → texts_of_groups true gs ≡ all_texts gs
  unfolding all_texts texts_of_groups
  flat-groups [] = refl
  flat-groups (g ∷ gs) = refl

  flat-made : (us : List Fact) (fs : List (List ℕ))
      → all_texts (map (λ file. (file, uses_in file us)) fs)
      ≡ edits_texts (map (file_edits c files new us) fs)
  unfolding all_texts texts_in
  flat-made us [] = refl
  flat-made us (f ∷ fs) = ap (λ ts. texts_in true f (uses_in f us) ++ ts) (flat-made us fs)

-- ---- groups are those of the files

abbrev pub by_file : List Fact → List (List ℕ) → Groups
by_file us fs = map (λ file. (file, uses_in file us)) fs

-- names that are another one
abbrev AreOther : List ℕ → List (List ℕ) → Type 0
AreOther name fs = AllByRecursion (λ file. not (bytes_eq file name) ≡ true) fs

abbrev AreElsewhere : List ℕ → List Fact → Type 0
AreElsewhere name us = AllByRecursion (λ (u : Fact). not (bytes_eq u.file name) ≡ true) us

opposite : (b : Bool) → b ≡ false → not b ≡ true
opposite true e = absurd (true≢false e)
opposite false e = refl

back : (b : Bool) → not b ≡ true → b ≡ false
back true e = absurd (false≢true e)
back false e = refl

-- a filter that all pass
passed : {X : Type 0} (p : X → Bool) (xs : List X) → AllByRecursion (λ x. p x ≡ true) xs
    → filter p xs ≡ xs
passed p [] all = refl
passed p (x ∷ xs) all = λ i. if all.0 i then x ∷ passed p xs all.1 i else passed p xs all.1 i

none-in : (file : List ℕ) (us : List Fact) → AreElsewhere file us → uses_in file us ≡ []
none-in file [] all = refl
none-in file (u ∷ us) all =
    ap (λ b. if b then u ∷ uses_in file us else uses_in file us) (back (bytes_eq u.file file) all.0)
    ∙ none-in file us all.1

-- one more use counts in its file alone
one-more : (u : Fact) (us : List Fact) (fs : List (List ℕ)) → AreOther u.file fs
    → by_file us fs ≡ by_file (u ∷ us) fs
one-more u us [] all = refl
one-more u us (f ∷ fs) all =
    let away : bytes_eq u.file f ≡ false = swapped u.file f ∙ back (bytes_eq f u.file) all.0 in
    λ i. (f, if sym away i then u ∷ uses_in f us else uses_in f us) ∷ one-more u us fs all.1 i

-- the files of uses elsewhere
files-elsewhere : (name : List ℕ) (us : List Fact) → AreElsewhere name us
    → AreOther name (files_of us)
unfolding files_of
files-elsewhere name [] all = tt
files-elsewhere name (u ∷ us) all = (
  all.0,
  all-filter (λ file. not (bytes_eq file name) ≡ true) (λ file. not (bytes_eq file u.file))
      (files_of us) (files-elsewhere name us all.1),
)

-- behind a use of a file come no more of it, where the next one is of another file
no-more : (u v : Fact) (vs : List Fact) → AreUsesByFile (u ∷ v ∷ vs)
    → bytes_eq v.file u.file ≡ false → AreElsewhere u.file (v ∷ vs)
unfolding AreOrdered
no-more u v vs order other = (
  opposite (bytes_eq v.file u.file) other,
  all-along (λ (w : Fact). IsUpTo v.file w.file)
      (λ (w : Fact). not (bytes_eq w.file u.file) ≡ true) vs
      (λ w up. opposite (bytes_eq w.file u.file) (swapped w.file u.file
      ∙ apart u.file v.file w.file order.0.0 up (swapped u.file v.file ∙ other)))
      order.1.0,
)

-- the groups of uses, behind one more
abbrev HasGroups : Fact → List Fact → Groups → Type 0
HasGroups u us gs =
    (first_in u.file gs ≡ uses_in u.file us)
    × (behind u.file gs
    ≡ by_file (u ∷ us) (filter (λ file. not (bytes_eq file u.file)) (files_of us)))

grouped-behind : (u : Fact) (us : List Fact) → AreUsesByFile (u ∷ us)
    → HasGroups u us (by_file us (files_of us))
unfolding files_of
grouped-behind u [] order = (refl, refl)
grouped-behind u (v ∷ vs) order =
    let us : List Fact = v ∷ vs in
    let rest : List (List ℕ) = filter (λ file. not (bytes_eq file v.file)) (files_of vs) in
    let test : List ℕ → Bool = λ file. not (bytes_eq file u.file) in
    (elim (bytes_eq v.file u.file) as (λ b. bytes_eq v.file u.file ≡ b
    → ((if b then uses_in v.file us else []) ≡ uses_in u.file us)
    × ((if b then by_file us rest else by_file us (v.file ∷ rest))
    ≡ by_file (u ∷ us) (if not b then v.file ∷ filter test rest else filter test rest))) [
      | true ↦ λ e.
          let one = same-name v.file u.file e in
          let others : AreOther u.file rest =
          subst (λ name. AreOther name rest) one
          (all-passed (λ file. not (bytes_eq file v.file)) (files_of vs)) in (
            ap (λ file. uses_in file us) one,
            one-more u us rest others ∙ ap (by_file (u ∷ us)) (sym (passed test rest others)),
          )
      | false ↦ λ e.
          let elsewhere = no-more u v vs order e in
          let others : AreOther u.file rest =
          all-filter (λ file. test file ≡ true) (λ file. not (bytes_eq file v.file))
          (files_of vs) (files-elsewhere u.file vs elsewhere.1) in (
            sym (none-in u.file us elsewhere),
            one-more u us (v.file ∷ rest) (elsewhere.0, others)
                ∙ ap (λ fs. by_file (u ∷ us) (v.file ∷ fs)) (sym (passed test rest others)),
          )
    ]) refl

pub cut-by-file : (us : List Fact) → AreUsesByFile us → cut us ≡ by_file us (files_of us)
unfolding cut files_of AreOrdered
cut-by-file [] order = refl
cut-by-file (u ∷ us) order =
    let met : HasGroups u us (cut us) =
    subst (HasGroups u us) (sym (cut-by-file us order.1)) (grouped-behind u us order) in
    λ i. (u.file, if sym (name-same u.file) i then u ∷ met.0 i else met.0 i) ∷ met.1 i

-- ---- all edits

pub edits-by-file : (c : Client) (files : List File) (new : List ℕ) (us : List Fact)
    → UsesAreByPlace us
    → texts_of_uses c files new true us
    ≡ edits_texts (map (file_edits c files new us) (files_of us))
edits-by-file c files new us order =
    grouped c files new true us ∙ flat-groups c files new (cut us)
    ∙ ap (all_texts c files new) (cut-by-file us (uses-by-file us order))
    ∙ flat-made c files new us (files_of us)

-- each file has one
abbrev HasUses : (List ℕ × List Fact) → Type 0
HasUses g = g.1 ≢ []

uses-behind : (file : List ℕ) (gs : Groups) → AllByRecursion HasUses gs
    → AllByRecursion HasUses (behind file gs)
uses-behind file [] all = tt
uses-behind file (g ∷ gs) all =
    elim (bytes_eq g.0 file) as (λ b. AllByRecursion HasUses (if b then gs else g ∷ gs))
    [ true ↦ all.1 | false ↦ all ]

cut-uses : (us : List Fact) → AllByRecursion HasUses (cut us)
unfolding cut
cut-uses [] = tt
cut-uses (u ∷ us) = (λ e. cc, uses-behind u.file (cut us) (cut-uses us))

some-edits : (c : Client) (files : List File) (new : List ℕ) (us : List Fact) → us ≢ []
    → map (use_edit c files new) us ≢ []
some-edits c files new [] some = absurd (some refl)
some-edits c files new (u ∷ us) some = λ e. cc

made-edits : (c : Client) (files : List File) (new : List ℕ) (us : List Fact)
    (fs : List (List ℕ)) → AllByRecursion HasUses (by_file us fs)
    → AllByRecursion HasEdits (map (file_edits c files new us) fs)
made-edits c files new us [] all = tt
made-edits c files new us (f ∷ fs) all =
    (some-edits c files new (uses_in f us) all.0, made-edits c files new us fs all.1)

pub files-have-edits : (c : Client) (files : List File) (new : List ℕ) (us : List Fact)
    → UsesAreByPlace us
    → AllByRecursion HasEdits (map (file_edits c files new us) (files_of us))
files-have-edits c files new us order =
    made-edits c files new us (files_of us)
    (subst (AllByRecursion HasUses) (cut-by-file us (uses-by-file us order)) (cut-uses us))
