-- The definitions of a name go by file and place, as the files ascend.
use Rattle.std.proofs.Common.{◌≡◌, ◌∙◌, refl, ℕ, Bool, true, false, List, [], ◌∷◌}
use Rattle.std.proofs.Common.{map, filter, cond, Less, inl, inr, arith}
use Rattle.std.specs.Cmp.Lexicographic.{slice_cmp}
use Rattle.std.specs.List.{AllByRecursion, flat_map}
use Rattle.std.specs.List.Sorted.{IsStrictlySortedBy}
use Rattle.std.specs.Ordering.{nat_cmp}
use Rattle.std.specs.Str.{bytes_eq}
use Rattle.cb_desk.proofs.Valid.{all-along}
use Rattle.cb_desk.specs.World.{File, IsAscending}
use Rattle.cb_index.proofs.IndexLemmas.{ordered-append}
use Rattle.cb_index.specs.Rows.{file_tags_named, tag_in, tags_named}
use Rattle.cb_scan.proofs.InOrder.{facts_in_order}
use Rattle.cb_scan.proofs.WithinLemmas.{all-append}
use Rattle.cb_scan.specs.declared.facts.Def.{Def}
use Rattle.cb_scan.specs.declared.profile.Profile.{Profile}
use Rattle.cb_scan.specs.Order.{AreOrdered, IsDefBefore}
use Rattle.cb_scan.specs.Profiles.{facts_in}
use Rattle.cb_scan.specs.lex.Tokens.{bytes_of}
use Rattle.cb_tags.specs.TagLines.{Tag}
use Rattle.cb_lsp.specs.steps.Meanings.{AreByFile}
use Rattle.cb_lsp.specs.steps.References.{AreByPlace, IsPlacedBefore}
use Rattle.cb_lsp.proofs.FromPlaces.{by-file}

-- ---- tags of one file

begins-no-later : (f : File) (d e : Def) → IsDefBefore d e
    → IsPlacedBefore (tag_in f d) (tag_in f e)
begins-no-later f d e (inl less) = inr (refl, omega (arith, less))
begins-no-later f d e (inr same) = inr (refl, omega (arith, same.0))

module _ (f : File) (test : Def → Bool) where
  after-one : (d : Def) (es : List Def) → AllByRecursion (IsDefBefore d) es
      → AllByRecursion (IsPlacedBefore (tag_in f d)) (map (tag_in f) (filter test es))
  after-one d [] all = tt
  after-one d (e ∷ es) all =
      elim (test e) as (λ b. AllByRecursion (IsPlacedBefore (tag_in f d))
      (map (tag_in f) (cond b (e ∷ filter test es) (filter test es)))) [
        | true ↦ (begins-no-later f d e all.0, after-one d es all.1)
        | false ↦ after-one d es all.1
      ]

  one-file : (ds : List Def) → AreOrdered IsDefBefore ds
      → AreByPlace (map (tag_in f) (filter test ds))
  unfolding AreOrdered
  one-file [] order = tt
  one-file (d ∷ ds) order =
      elim (test d) as
      (λ b. AreByPlace (map (tag_in f) (cond b (d ∷ filter test ds) (filter test ds)))) [
        | true ↦ (after-one d ds order.0, one-file ds order.1)
        | false ↦ one-file ds order.1
      ]

abbrev AreOf : List ℕ → List Tag → Type 0
AreOf name ts = AllByRecursion (λ (t : Tag). t.file ≡ name) ts

tags-of : (f : File) (ds : List Def) → AreOf f.name (map (tag_in f) ds)
tags-of f [] = tt
tags-of f (d ∷ ds) = (refl, tags-of f ds)

-- ---- and of those after it

module _ (p : Profile) (name : List ℕ) where
  named : (f : File) → List Def
  named f = filter (λ (d : Def). bytes_eq name (bytes_of f.bytes d.name)) (facts_in p f.bytes).defs

  later-tags : (s : Tag) (f : File) → s.file ≡ f.name → (gs : List File)
      → AllByRecursion (λ (g : File). slice_cmp nat_cmp f.name g.name ≡ Less) gs
      → AllByRecursion (IsPlacedBefore s) (flat_map (file_tags_named p name) gs)
  unfolding named
  later-tags s f of [] up = tt
  later-tags s f of (g ∷ gs) up =
      all-append (IsPlacedBefore s) (file_tags_named p name g)
      (flat_map (file_tags_named p name) gs)
      (all-along (λ (t : Tag). t.file ≡ g.name) (IsPlacedBefore s) (file_tags_named p name g)
      (λ t here. inl ((λ i. slice_cmp nat_cmp (of i) (here i)) ∙ up.0)) (tags-of g (named g)))
      (later-tags s f of gs up.1)

  flat-by-place : (fs : List File) → IsAscending fs
      → AreByPlace (flat_map (file_tags_named p name) fs)
  unfolding named AreOrdered IsStrictlySortedBy
  flat-by-place [] order = tt
  flat-by-place (f ∷ fs) order =
      ordered-append IsPlacedBefore (file_tags_named p name f)
      (flat_map (file_tags_named p name) fs)
      (one-file f (λ (d : Def). bytes_eq name (bytes_of f.bytes d.name))
      (facts_in p f.bytes).defs (facts_in_order p f.bytes).defs)
      (flat-by-place fs order.1)
      (all-along (λ (t : Tag). t.file ≡ f.name)
      (λ (t : Tag). AllByRecursion (IsPlacedBefore t) (flat_map (file_tags_named p name) fs))
      (file_tags_named p name f) (λ t of. later-tags t f of fs order.0) (tags-of f (named f)))

  pub tags_named-by_place : (fs : List File) → IsAscending fs → AreByPlace (tags_named p name fs)
  unfolding tags_named
  tags_named-by_place fs order = flat-by-place fs order

  pub tags_named-by_file : (fs : List File) → IsAscending fs → AreByFile (tags_named p name fs)
  tags_named-by_file fs order = by-file (tags_named p name fs) (tags_named-by_place fs order)
