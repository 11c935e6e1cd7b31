-- The files that a shelf shows.
use Rattle.std.proofs.Common.{◌≡◌, ◌∙◌, ap, refl, ℕ, Bool, true, false, cond, List, [], ◌∷◌, map}
use Rattle.std.proofs.Common.{Option, Some, None, is_some, Less, nat_cmp}
use Rattle.std.specs.Cmp.Lexicographic.{slice_cmp}
use Rattle.std.specs.List.{AllByRecursion}
use Rattle.std.specs.List.Sorted.{IsStrictlySortedBy}
use Rattle.std.specs.Option.{option_map}
use Rattle.cb_scan.specs.declared.profile.Profile.{Profile}
use Rattle.cb_scan.specs.Order.{AreOrdered}
use Rattle.cb_index.specs.Archived.{Archived, name_of}
use Rattle.cb_index.specs.Files.{AreAscending, files_of}
use Rattle.cb_index.specs.Shelved.{with_facts}
use Rattle.cb_index.specs.declared.entry.Shown.{Shown}
use Rattle.cb_desk.specs.World.{File, IsAscending, has_file, text_named, text_of_file}
use Rattle.cb_desk.specs.steps.Lent.{without_facts}
use Rattle.cb_desk.specs.steps.Named.{file_named}

-- without their facts they are the files
pub bare-files : (by : Profile) (fs : List File)
    → map without_facts (map (with_facts by) fs) ≡ fs
bare-files by [] = refl
bare-files by (f ∷ fs) = ap (λ l. f ∷ l) (bare-files by fs)

module _ (a : Archived) where
  all-above : (s : Shown) (shown : List Shown) → AllByRecursion
      (λ (t : Shown). slice_cmp nat_cmp (name_of a s.name) (name_of a t.name) ≡ Less) shown
      → AllByRecursion (λ (g : File). slice_cmp nat_cmp (name_of a s.name) g.name ≡ Less)
      (files_of a shown)
  all-above s [] up = tt
  all-above s (t ∷ shown) up = (up.0, all-above s shown up.1)

  -- their names ascend
  pub files-ascend : (shown : List Shown) → AreAscending a shown → IsAscending (files_of a shown)
  unfolding AreOrdered IsStrictlySortedBy
  files-ascend [] up = tt
  files-ascend (s ∷ shown) up = (all-above s shown up.0, files-ascend shown up.1)

-- no file of a name is there
pub none-named : (files : List File) (name : List ℕ) → has_file files name ≡ false
    → None ≡ file_named files name
none-named files name other = rw other refl

-- the text of a file that was found
pub text-found : (files : List File) (name : List ℕ) (f : Option File) → f ≡ file_named files name
    → option_map (λ (g : File). g.bytes) f ≡ text_named files name
text-found files name f is =
    ap (option_map (λ (g : File). g.bytes)) is ∙ by_cases (has_file files name)
  where
    by_cases : (b : Bool) → option_map (λ (g : File). g.bytes)
        (cond b (Some (record { name = name; bytes = text_of_file files name })) None)
        ≡ cond b (Some (text_of_file files name)) None
    by_cases true = refl
    by_cases false = refl

-- whether a file was found
pub found_is : {X : Type 0} (g : X → File) (r : Option X) (b : Bool) (f : File)
    → option_map g r ≡ cond b (Some f) None → is_some r ≡ b
found_is g None true f is = cc
found_is g None false f is = refl
found_is g (Some x) true f is = refl
found_is g (Some x) false f is = cc
