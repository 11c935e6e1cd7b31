-- Texts of an archive.
use Rattle.std.proofs.Common.{◌≡◌, ◌<◌, ℕ, zero, suc, List, [], ◌∷◌, Some, ap, arith, get_or}
use Rattle.std.proofs.Common.{length}
use Rattle.std.proofs.Common.{map, refl, sym, Option, None}
use Rattle.std.proofs.lemmas.Option.{slice_get-get_or, slice_get_past, slice_get_read}
use Rattle.std.specs.Prelude.{slice_get}
use Rattle.std.specs.Borrow.{Bor}
use Rattle.std.specs.List.{AllByRecursion}
use Rattle.std.specs.Option.{option_copied, option_map}
use Rattle.std.specs.Slice.{IsItemAt}
use Rattle.cb_scan.specs.declared.profile.Profile.{Profile}
use Rattle.cb_index.specs.Archived.{Archived, AreBytes, IsVersionBy, scanned_in, text_at, text_of}
use Rattle.cb_index.specs.Scanned.{Scanned}

-- what is lent of a list is what stands there
pub item_got : {X : Type 0} (xs : List X) (i : ℕ) (r : Option (Bor X)) → IsItemAt xs i r
    → option_copied r ≡ slice_get xs i
item_got xs i None is = sym (slice_get_past xs i is.3)
item_got xs i (Some x) is = sym (slice_get_read xs (length xs) i x.now refl is.3.0 is.1)

-- a text whose number is below their count is there
pub text_there : (a : Archived) (version : ℕ) → version < length a.texts
    → text_at a version ≡ Some (text_of a version)
text_there a version below =
    ap (option_map (scanned_in a)) (slice_get-get_or a.texts version [] below)

-- two archives have one text, where they have one profile and the same bytes
pub same_text : (a b : Archived) → b.profile ≡ a.profile → (version : ℕ)
    → slice_get b.texts version ≡ slice_get a.texts version → text_at b version ≡ text_at a version
same_text a b profile version bytes =
    λ i. option_map (λ t. record { profile = profile i; bytes = t }) (bytes i)

-- ---- versions of one profile
module _ (profile : Profile) where
  abbrev by_profile : List ℕ → Scanned
  by_profile bytes = record { profile = profile; bytes = bytes }

  abbrev bytes_of : List Scanned → List (List ℕ)
  bytes_of vs = map (λ (v : Scanned). v.bytes) vs

  -- each is its bytes, scanned by the profile
  pub version_at : (vs : List Scanned) → AllByRecursion (IsVersionBy profile) vs → (n : ℕ)
      → slice_get vs n ≡ option_map by_profile (slice_get (bytes_of vs) n)
  version_at [] all n = refl
  version_at (v ∷ vs) all zero = λ i. Some (record { profile = all.0.0 i; bytes = v.bytes })
  version_at (v ∷ vs) all (suc n) = version_at vs all.1 n

  pub version_indexed : (vs : List Scanned) → AllByRecursion (IsVersionBy profile) vs → (n : ℕ)
      → (d : Scanned) → n < length vs → get_or vs n d ≡ by_profile (get_or (bytes_of vs) n [])
  version_indexed [] all n d below = absurd (omega (arith, below))
  version_indexed (v ∷ vs) all zero d below =
      λ i. record { profile = all.0.0 i; bytes = v.bytes }
  version_indexed (v ∷ vs) all (suc n) d below =
      version_indexed vs all.1 n d (omega (arith, below))

  -- and these are bytes
  pub all_bytes : (vs : List Scanned) → AllByRecursion (IsVersionBy profile) vs
      → AllByRecursion AreBytes (bytes_of vs)
  all_bytes [] all = tt
  all_bytes (v ∷ vs) all = (all.0.1, all_bytes vs all.1)
