-- The nth definition of a name is in a file that is shown.
use Rattle.std.proofs.Common.{◌≡◌, ◌∙◌, ◌<◌, refl, ap, ℕ, zero, suc, Bool, true, false, List, []}
use Rattle.std.proofs.Common.{◌∷◌, map, filter, length, subst, Some, None, slice_get, arith}
use Rattle.std.specs.Prelude.{◌||◌, cond, slice_index_or}
use Rattle.std.specs.List.{AllByRecursion, Contains}
use Rattle.std.proofs.lemmas.Slice.Eq.{bytes_eq-Decides}
use Rattle.cb_scan.specs.declared.profile.Profile.{Profile}
use Rattle.cb_scan.specs.declared.facts.Def.{Def}
use Rattle.cb_scan.specs.Profiles.{facts_in}
use Rattle.cb_desk.specs.Answer.{defines}
use Rattle.cb_desk.specs.Places.{nth}
use Rattle.cb_desk.specs.Stack.{places, places_in}
use Rattle.cb_desk.specs.World.{File, Place, has_file, is_named, text_of_file}
use Rattle.cb_desk.specs.steps.Named.{file_named}
use Rattle.cb_desk.proofs.Valid.{all-along, all-join}

-- what holds of all holds of each
pub all_contained : {X : Type 0} (P : X → Type 0) (xs : List X) (x : X) → AllByRecursion P xs
    → Contains xs x → P x
all_contained P xs x all has = subst P has.2 (at xs all has.0 has.1)
  where
    at : (ys : List _) → AllByRecursion P ys → (k : ℕ) → k < length ys → P (slice_index_or ys k x)
    at [] all k below = absurd (omega (arith, below))
    at (y ∷ ys) all zero below = all.0
    at (y ∷ ys) all (suc k) below = at ys all.1 k (omega (arith, below))

itself : (f : File) → is_named f.name f ≡ true
itself f = (bytes_eq-Decides f.name f.name).1 refl

module _ (by : Profile) (name : List ℕ) where
  all_of_file : (f : File) (ds : List Def)
      → AllByRecursion (λ (p : Place). p.file ≡ f.name)
      (map (λ (d : Def). record { file = f.name; line = d.line }) ds)
  all_of_file f [] = tt
  all_of_file f (d ∷ ds) = (refl, all_of_file f ds)

  -- every such place is in one of the files
  all_placed : (files : List File)
      → AllByRecursion (λ (p : Place). has_file files p.file ≡ true) (places by files name)
  all_placed [] = tt
  all_placed (f ∷ files) =
      all-join (λ (p : Place). has_file (f ∷ files) p.file ≡ true) (places_in by name f)
      (places by files name)
      (all-along (λ (p : Place). p.file ≡ f.name)
      (λ (p : Place). has_file (f ∷ files) p.file ≡ true) (places_in by name f)
      (λ p is. ap (λ n. is_named n f || has_file files n) is
      ∙ ap (λ b. b || has_file files f.name) (itself f))
      (all_of_file f (filter (defines f.bytes name) (facts_in by f.bytes).defs)))
      (all-along (λ (p : Place). has_file files p.file ≡ true)
      (λ (p : Place). has_file (f ∷ files) p.file ≡ true) (places by files name)
      (λ p is. ap (λ b. is_named p.file f || b) is ∙ or_true (is_named p.file f))
      (all_placed files))
    where
      or_true : (b : Bool) → (b || true) ≡ true
      or_true true = refl
      or_true false = refl

  got : (P : Place → Type 0) (ps : List Place) (k : ℕ) (p : Place) → AllByRecursion P ps
      → slice_get ps k ≡ Some p → P p
  got P [] k p all is = cc
  got P (q ∷ ps) zero p all is = subst P (same q p is) all.0
    where
      same : (x y : Place) → Some x ≡ Some y → x ≡ y
      same x y e = cc
  got P (q ∷ ps) (suc k) p all is = got P ps k p all.1 is

  pub nth_is_placed : (files : List File) (n : ℕ) (p : Place) → nth n (places by files name) ≡ Some
      p
      → has_file files p.file ≡ true
  nth_is_placed files zero p is = cc
  nth_is_placed files (suc n) p is =
      got (λ (q : Place). has_file files q.file ≡ true) (places by files name) n p
      (all_placed files) is

-- ---- the file of a name
named_file : (b : Bool) (f g : File) → Some f ≡ cond b (Some g) None → f.name ≡ g.name
named_file true f g is = same f g is
  where
    same : (x y : File) → Some x ≡ Some y → x.name ≡ y.name
    same x y e = let z : x ≡ y = cc in ap (λ (h : File). h.name) z
named_file false f g is = cc

pub has_that_name : (f : File) (files : List File) (name : List ℕ) → Some f ≡ file_named files name
    → f.name ≡ name
has_that_name f files name is =
    named_file (has_file files name) f (record { name = name; bytes = text_of_file files name }) is

no_file : (b : Bool) (g : File) → None ≡ cond b (Some g) None → b ≡ true → ⊥
no_file true g is has = cc
no_file false g is has = cc

pub is_there : (files : List File) (name : List ℕ) → None ≡ file_named files name
    → has_file files name ≡ true → ⊥
is_there files name is has =
    no_file (has_file files name) (record { name = name; bytes = text_of_file files name }) is has
