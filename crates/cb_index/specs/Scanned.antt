-- A text, the profile by which it is scanned, and what that finds.
use Rattle.std.specs.Prelude.{ℕ, List}
use Rattle.cb_scan.specs.declared.profile.Profile.{Profile}
use Rattle.cb_scan.specs.Profiles.{facts_in}
use Rattle.cb_scan.specs.TextFacts.{TextFacts}

-- a profile, and the bytes of a text
pub record Scanned : Type 0 where
  pub profile : Profile
  pub bytes : List ℕ

-- what the profile finds in the text
abbrev pub facts_of : Scanned → TextFacts
facts_of text = facts_in text.profile text.bytes
