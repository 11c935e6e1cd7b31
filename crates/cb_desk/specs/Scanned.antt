-- The texts of files with what a profile finds in them.
use Rattle.std.specs.Prelude.{ℕ, List, Option}
use Rattle.std.specs.Option.{option_map}
use Rattle.cb_scan.specs.declared.profile.Profile.{Profile}
use Rattle.cb_scan.specs.Profiles.{facts_in}
use Rattle.cb_scan.specs.TextFacts.{TextFacts}
use Rattle.cb_desk.specs.World.{File, text_named}

-- a text, and what is found in it
pub record ScannedText : Type 0 where
  pub bytes : List ℕ
  pub facts : TextFacts

-- a text with the facts that a profile finds in it: of those that it wants
abbrev pub scanned_by : Profile → List ℕ → ScannedText
scanned_by p text = record { bytes = text; facts = facts_in p text }

-- the text of the file of that name with the facts that a profile finds in it, if there is one
abbrev pub scanned_named : Profile → List File → List ℕ → Option ScannedText
scanned_named p files name = option_map (scanned_by p) (text_named files name)
