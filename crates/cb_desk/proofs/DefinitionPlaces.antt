-- The places of the definitions of a name are those of its tags.
use Rattle.std.proofs.Common.{◌≡◌, ◌∙◌, ap, refl, ℕ, zero, suc, ◌-◌, ◌<◌, true, false, cond, List}
use Rattle.std.proofs.Common.{[], ◌∷◌, ◌++◌, map, filter, Option, arith}
use Rattle.std.specs.Prelude.{slice_get}
use Rattle.std.specs.List.{flat_map}
use Rattle.std.specs.Option.{option_map}
use Rattle.std.specs.Str.{bytes_eq}
use Rattle.std.proofs.lemmas.List.{map-append}
use Rattle.cb_scan.specs.declared.profile.Profile.{Profile}
use Rattle.cb_scan.specs.declared.facts.Def.{Def}
use Rattle.cb_scan.specs.Profiles.{facts_in}
use Rattle.cb_tags.specs.TagLines.{Tag}
use Rattle.cb_index.specs.Rows.{file_tags_named, tag_in, tags_named}
use Rattle.cb_desk.specs.Answer.{defines, name_of}
use Rattle.cb_desk.specs.Places.{nth}
use Rattle.cb_desk.specs.Stack.{places}
use Rattle.cb_desk.specs.World.{File, Place}
use Rattle.cb_desk.proofs.BytesEqual.{bytes-turned}

-- the place of a tag
abbrev pub place_of_tag : Tag → Place
place_of_tag t = record { file = t.file; line = t.line }

module _ (name : List ℕ) where
  places-from : (f : File) (ds : List Def)
      → map place_of_tag
      (map (tag_in f) (filter (λ (d : Def). bytes_eq name (name_of f.bytes d)) ds))
      ≡ map (λ (d : Def). record { file = f.name; line = d.line })
      (filter (defines f.bytes name) ds)
  places-from f [] = refl
  places-from f (d ∷ ds) =
      ap (λ b. map place_of_tag
      (map (tag_in f) (cond b (d ∷ filter (λ (e : Def). bytes_eq name (name_of f.bytes e)) ds)
      (filter (λ (e : Def). bytes_eq name (name_of f.bytes e)) ds))))
      (bytes-turned name (name_of f.bytes d))
      ∙ (elim (defines f.bytes name d) as (λ b. map place_of_tag
      (map (tag_in f) (cond b (d ∷ filter (λ (e : Def). bytes_eq name (name_of f.bytes e)) ds)
      (filter (λ (e : Def). bytes_eq name (name_of f.bytes e)) ds)))
      ≡ map (λ (e : Def). record { file = f.name; line = e.line })
      (cond b (d ∷ filter (defines f.bytes name) ds) (filter (defines f.bytes name) ds))) [
        | true ↦ ap (λ l. record { file = f.name; line = d.line } ∷ l) (places-from f ds)
        | false ↦ places-from f ds
      ])

  tag-places : (by : Profile) (fs : List File)
      → map place_of_tag (tags_named by name fs) ≡ places by fs name
  unfolding tags_named
  tag-places by [] = refl
  tag-places by (f ∷ fs) =
      map-append place_of_tag (file_tags_named by name f) (flat_map (file_tags_named by name) fs)
      ∙ (λ i. places-from f (facts_in by f.bytes).defs i ++ tag-places by fs i)

get-map : {X Y : Type 0} (g : X → Y) (n : ℕ) (xs : List X)
    → option_map g (slice_get xs n) ≡ slice_get (map g xs) n
get-map g n [] = refl
get-map g zero (x ∷ xs) = refl
get-map g (suc n) (x ∷ xs) = get-map g n xs

-- the nth place is that of the nth tag
pub nth-place : (by : Profile) (name : List ℕ) (fs : List File) (n : ℕ) (t : Option Tag) → 0 < n
    → t ≡ slice_get (tags_named by name fs) (n - 1)
    → option_map place_of_tag t ≡ nth n (places by fs name)
nth-place by name fs zero t some is = absurd (omega (arith, some))
nth-place by name fs (suc n) t some is =
    ap (option_map place_of_tag) is ∙ ap (λ m. option_map place_of_tag
    (slice_get (tags_named by name fs) m)) (let e : suc n - 1 ≡ n = omega arith in e)
    ∙ get-map place_of_tag n (tags_named by name fs)
    ∙ ap (λ l. slice_get l n) (tag-places name by fs)
