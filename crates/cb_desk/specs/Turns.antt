-- How often files are shown and hidden on the way from one world to another.
use Rattle.std.specs.Prelude.{◌≡◌, ◌≤◌, ◌+◌, ◌*◌, ◌++◌, ◌&&◌, ◌||◌, ℕ, Bool, List, length, filter}
use Rattle.std.specs.Prelude.{not, Result, Ok, Err, ⊤}
use Rattle.std.specs.List.{list_any}
use Rattle.std.specs.Str.{bytes_eq}
use Rattle.cb_desk.specs.Desk.{counted, is_marked}
use Rattle.cb_desk.specs.Step.{Step, load}
use Rattle.cb_desk.specs.World.{File, World, has_file}

-- two files have one name and the same bytes
abbrev pub same_file : File → File → Bool
same_file f g = bytes_eq f.name g.name && bytes_eq f.bytes g.bytes

-- a file is in a world, with its name and its bytes
abbrev pub is_unchanged : World → File → Bool
is_unchanged w f = list_any (same_file f) w.files

-- the files of the second world whose names the first one does not have
abbrev pub only_in_second : World → World → List File
only_in_second v w = filter (λ f. not (has_file v.files f.name)) w.files

-- the files in which two worlds differ: those that one of them lacks or has with other bytes
abbrev pub differing : World → World → List File
differing v w = filter (λ f. not (is_unchanged w f)) v.files ++ only_in_second v w

-- a file of the first world differs in the second, or one of them has a mark in it
abbrev pub is_touched : World → World → File → Bool
is_touched v w f = not (is_unchanged w f) || (is_marked v.marks f || is_marked w.marks f)

-- the files in which two worlds differ, and those in which one of them has a mark
abbrev pub touched : World → World → List File
touched v w = filter (is_touched v w) v.files ++ only_in_second v w

-- from one world to another, files are shown and hidden at least once for each file in which these
-- differ; at most twice, and twice more for each file in which they differ or one has a mark; all
-- up to the greatest number
pub record AreTurnsOf (v w : World) (old new : ℕ) : Type 0 where
  pub rise : old ≤ new
  pub some : counted old (length (differing v w)) ≤ new
  pub few : new ≤ counted old (2 + 2 * length (touched v w))

-- a call that goes from one world to another; a refused one shows and hides nothing
abbrev pub Turns : {A E : Type 0} → (v w : World) → (old new : ℕ) → Result A E → Type 0
Turns v w old new (Ok _) = AreTurnsOf v w old new
Turns v w old new (Err _) = new ≡ old

-- a load that is done shows its file, and shows or hides no other
abbrev pub LoadTurns : Step → (old new : ℕ) → Type 0
LoadTurns (load name bytes) old new = new ≡ counted old 1
LoadTurns _ old new = ⊤
