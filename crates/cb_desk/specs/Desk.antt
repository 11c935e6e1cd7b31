-- What a desk is: its timeline, how many bytes it has scanned, and how often its files were shown
-- or hidden.
use Rattle.std.specs.Prelude.{◌≡◌, ◌≤◌, ◌+◌, ◌-◌, ◌^◌, ℕ, Bool, min, List, [], ◌∷◌, length, filter}
use Rattle.std.specs.Prelude.{map, Option, None, Some, Result, Ok, Err}
use Rattle.std.specs.List.{list_any}
use Rattle.cb_scan.specs.declared.profile.Profile.{Profile}
use Rattle.cb_scan.specs.Profiles.{facts_in}
use Rattle.cb_desk.specs.declared.change.Refusal.{Refusal}
use Rattle.cb_desk.specs.declared.change.Refusal.TheVariants.{OutOfMemory}
use Rattle.cb_desk.specs.Marks.{replaced_file}
use Rattle.cb_desk.specs.Places.{is_in}
use Rattle.cb_desk.specs.Step.{Step, load, reload, unload, rename, want, mark, mark_all}
use Rattle.cb_desk.specs.Step.{replace, tag, pop}
use Rattle.cb_desk.specs.Timeline.{Timeline}
use Rattle.cb_desk.specs.World.{File, Place, World}

-- the worlds of a desk; how many bytes it has scanned; how often a file was shown or hidden
pub record DeskState : Type 0 where
  pub timeline : Timeline
  pub meter : ℕ
  pub turns : ℕ

-- a count with more added, up to the greatest number
abbrev pub counted : ℕ → ℕ → ℕ
counted count more = min (count + more) (2 ^ 64 - 1)

-- ---- how many bytes a call scans

-- the bytes of files
abbrev pub bytes_in : List File → ℕ
bytes_in [] = 0
bytes_in (f ∷ files) = length f.bytes + bytes_in files

-- how many definitions a profile finds in files
abbrev pub definitions_in : Profile → List File → ℕ
definitions_in p [] = 0
definitions_in p (f ∷ files) = length (facts_in p f.bytes).defs + definitions_in p files

-- a file has a mark
abbrev pub is_marked : List Place → File → Bool
is_marked marks f = list_any (is_in f.name) marks

-- the files with a mark, each with its new contents when the wanted text is replaced
abbrev pub replaced_with_marks : Option (List ℕ) → World → List ℕ → List File
replaced_with_marks None w text = []
replaced_with_marks (Some old) w text =
    map (replaced_file old text w.marks) (filter (is_marked w.marks) w.files)

abbrev pub new_texts : World → List ℕ → List File
new_texts w text = replaced_with_marks w.wanted w text

-- the bytes that an accepted change scans: those that are loaded or reloaded, or the new contents
-- of the files with a mark
abbrev pub scanned : World → Step → ℕ
scanned w (load name bytes) = length bytes
scanned w (reload name bytes) = length bytes
scanned w (unload name) = 0
scanned w (rename old new) = 0
scanned w (want text) = 0
scanned w (mark n) = 0
scanned w mark_all = 0
scanned w (replace text) = bytes_in (new_texts w text)
scanned w (tag name n) = 0
scanned w pop = 0

-- ---- the meter

-- not below the old count, and not above that with more added
pub record IsBetween (old more new : ℕ) : Type 0 where
  pub least : old ≤ new
  pub most : new ≤ counted old more

-- so many bytes were counted; where memory was refused, no more than these
abbrev pub CountsUpTo : {A E : Type 0} → ℕ → ℕ → ℕ → Result A E → Type 0
CountsUpTo more old new (Ok _) = new ≡ counted old more
CountsUpTo more old new (Err _) = IsBetween old more new

-- a call that memory refuses counts no more than so many bytes, and one that is refused for another
-- reason none
abbrev pub CountsRefused : ℕ → ℕ → ℕ → Refusal → Type 0
CountsRefused more old new OutOfMemory = IsBetween old more new
CountsRefused more old new _ = new ≡ old

-- a call that is done counts so many bytes
abbrev pub Counts : {A : Type 0} → ℕ → ℕ → ℕ → Result A Refusal → Type 0
Counts more old new (Ok _) = new ≡ counted old more
Counts more old new (Err r) = CountsRefused more old new r
