-- What an archive keeps.
use Rattle.std.specs.Prelude.{ℕ, ◌≡◌, ◌<◌, List, [], Option, slice_get, slice_index_or}
use Rattle.std.specs.List.{AllByRecursion}
use Rattle.std.specs.Option.{option_map}
use Rattle.cb_scan.specs.declared.profile.Profile.{Profile}
use Rattle.cb_index.specs.Scanned.{Scanned}

-- the profile by which all its texts are scanned; the names and the texts, each under its place;
-- and for how many there is room
pub record Archived : Type 0 where
  pub profile : Profile
  pub names : List (List ℕ)
  pub texts : List (List ℕ)
  pub name_room : ℕ
  pub version_room : ℕ

-- each number of a text is a byte
abbrev pub AreBytes : List ℕ → Type 0
AreBytes text = AllByRecursion (λ b. b < 256) text

-- the name under a number; empty where there is none
abbrev pub name_of : Archived → ℕ → List ℕ
name_of a n = slice_index_or a.names n []

-- a text is scanned by this profile, and each of its numbers is a byte
abbrev pub IsVersionBy : Profile → Scanned → Type 0
IsVersionBy profile text = (text.profile ≡ profile) × AreBytes text.bytes

-- bytes as a text of an archive
abbrev pub scanned_in : Archived → List ℕ → Scanned
scanned_in a bytes = record { profile = a.profile; bytes = bytes }

-- the text under a number, if it is there
abbrev pub text_at : Archived → ℕ → Option Scanned
text_at a version = option_map (scanned_in a) (slice_get a.texts version)

-- the text under a number; empty where there is none
abbrev pub text_of : Archived → ℕ → Scanned
text_of a version = scanned_in a (slice_index_or a.texts version [])
