-- The tags file: what it may replace, and how it comes to its name.
use Rattle.std.specs.Prelude.{◌≡◌, ◌⊎◌, ◌||◌, ◌&&◌, ◌==◌, ◌++◌, ℕ, Bool, true, false, List, [], ◌∷◌}
use Rattle.std.specs.Prelude.{Option, None, Some, codes, decimal, nat_eq, nat_lt, if◌then◌else◌}
use Rattle.std.specs.List.{AllByRecursion, ends_with, starts_with}
use Rattle.cb_session.specs.declared.input.Ended.TheVariants.{Done, Fault}
use Rattle.cb_session.specs.declared.input.Fault.TheVariants.{Write, Memory}
use Rattle.cb_tags.specs.Writers.{Writer}
use Rattle.cb_words.specs.declared.job.Job.{Job}
use Rattle.cbrowse.specs.Files.{Disk, Sight, Step, begins, closes, creates, leads, opens, removes}
use Rattle.cbrowse.specs.Files.{renames, stands}
use Rattle.cbrowse.specs.Messages.{files_of, force_of, tagsfile_of}
use Rattle.cbrowse.specs.Writes.{WritesText, fresh}
use Rattle.cbrowse.specs.declared.execute.finish.Finish.{Finish}
use Rattle.cbrowse.specs.declared.execute.finish.Finish.TheVariants.{Ran, Served, Unreadable}
use Rattle.cbrowse.specs.declared.execute.finish.Finish.TheVariants.{Unlisted, Unwritable}
use Rattle.cbrowse.specs.declared.execute.storage.Seen.{Seen}
use Rattle.cbrowse.specs.declared.execute.tagsfile.Way.{Way}
use Rattle.cbrowse.specs.declared.execute.tagsfile.Way.TheVariants.{Beside, InPlace}

-- ---- what may be replaced

-- what follows the first tab of the first line; nothing where that has none
abbrev pub after_tab : List ℕ → List ℕ
after_tab [] = []
after_tab (b ∷ bs) = if b == 9 then bs else if b == 10 then [] else after_tab bs

-- a digit begins a text
abbrev pub begins_number : List ℕ → Bool
begins_number [] = false
begins_number (b ∷ bs) = nat_lt 47 b && nat_lt b 58

-- a tags file begins so: with a pseudo-tag, or with three fields with a tab between, of which the
-- last begins with a pattern or a number
abbrev pub is_tags : List ℕ → Bool
is_tags text =
    starts_with nat_eq text (codes "!_TAG_")
    || (starts_with nat_eq (after_tab (after_tab text)) (codes "/^")
    || begins_number (after_tab (after_tab text)))

-- the most bytes of a file that are looked at for this
abbrev pub most_first : ℕ
most_first = 1048576

-- a file of this name may be a C source
abbrev pub is_source_name : List ℕ → Bool
is_source_name name = ends_with nat_eq name (codes ".c") || ends_with nat_eq name (codes ".h")

-- two names lead to one file
abbrev pub is_same : Seen → Seen → Bool
is_same a b = (a.device == b.device) && (a.inode == b.inode)

-- another file stands under a name, or none
abbrev pub IsOther : (Sight → Type 0) → Seen → (name : List ℕ) → Type 0
IsOther shows seen name =
    ((other : Seen) × shows (stands name (Some other)) × (is_same other seen ≡ false))
    ⊎ shows (stands name None)

-- what a file holds may be lost: it is a tags file, or force is used, and neither its name nor its
-- own path is that of a C source
abbrev pub MayLose : (Sight → Type 0) → (name : List ℕ) → (force : Bool) → Type 0
MayLose shows name force =
    (path first : List ℕ)
    × shows (leads name path) × shows (begins name most_first first)
    × ((is_source_name name || is_source_name path) ≡ false)
    × ((force || is_tags first) ≡ true)

-- a regular file may be replaced: it is none of the operands, and it is empty or may lose what it
-- holds
pub record MayReplace (shows : Sight → Type 0) (name : List ℕ) (operands : List (List ℕ))
    (force : Bool) (seen : Seen) : Type 0 where
  pub none : AllByRecursion (IsOther shows seen) operands
  pub held : (seen.empty ≡ true) ⊎ MayLose shows name force

-- the way to a name: a new file takes it where nothing stands, or a regular file that may be
-- replaced; what else stands there is written in place, and so is such a file behind a link
abbrev pub IsWay : (Sight → Type 0) → (name : List ℕ) → (operands : List (List ℕ)) → (force : Bool)
    → Way → Type 0
IsWay shows name operands force (Beside None) = shows (stands name None)
IsWay shows name operands force (Beside (Some seen)) =
    shows (stands name (Some seen)) × (seen.regular ≡ true) × (seen.link ≡ false)
    × MayReplace shows name operands force seen
IsWay shows name operands force (InPlace seen) =
    shows (stands name (Some seen))
    × ((seen.regular ≡ false)
    ⊎ ((seen.link ≡ true) × MayReplace shows name operands force seen))

-- ---- how it comes to its name

-- the name of a draft
abbrev pub IsDraft : (name draft : List ℕ) → Type 0
IsDraft name draft = (n : ℕ) × (draft ≡ name ++ (codes "." ++ (decimal n ++ codes ".tmp")))

-- a tags file may be begun so: as a draft beside its name, or where it stands
abbrev pub MayBegin : (Sight → Type 0) → (name : List ℕ) → (operands : List (List ℕ))
    → (force : Bool) → (draft : Option (List ℕ)) → Type 0
MayBegin shows name operands force (Some draft) =
    IsDraft name draft × ((like : Option Seen) × IsWay shows name operands force (Beside like))
MayBegin shows name operands force None =
    (seen : Seen) × IsWay shows name operands force (InPlace seen)

-- the first step
abbrev pub first_step : (name : List ℕ) → (draft : Option (List ℕ)) → Step
first_step name (Some draft) = creates draft
first_step name None = opens name

-- the last steps, where the text is whole: a draft takes the name
abbrev pub last_steps : (name : List ℕ) → (draft : Option (List ℕ)) → List Step
last_steps name (Some draft) = renames draft name ∷ []
last_steps name None = []

-- a tags file is begun
abbrev pub Begins : (Sight → Type 0) → (List Step → Type 0) → (name : List ℕ)
    → (operands : List (List ℕ)) → (force : Bool) → (draft : Option (List ℕ)) → Type 0
Begins shows done name operands force draft =
    MayBegin shows name operands force draft × done (first_step name draft ∷ [])

-- none is begun: memory was refused, or the file cannot be written
abbrev pub BeginsNone : Finish → Type 0
BeginsNone (Ran ended) = ended ≡ Fault Memory
BeginsNone Unwritable = Unit {0}
BeginsNone (Served end) = ⊥
BeginsNone (Unreadable place) = ⊥
BeginsNone Unlisted = ⊥

-- a draft is taken away, or stays where that fails
abbrev pub Drops : (List Step → Type 0) → (draft : List ℕ) → Type 0
Drops done draft = done (removes draft ∷ []) ⊎ done []

-- how a text that was written ends so: a draft takes the name only where it is whole; another one is
-- dropped, and the file cannot be written
abbrev pub Settles : (List Step → Type 0) → (name : List ℕ) → (draft : Option (List ℕ)) → Finish
    → Finish → Type 0
Settles done name None end end' = (end' ≡ end) × done []
Settles done name (Some draft) end end' =
    ((end ≡ Ran Done) × (end' ≡ Ran Done) × done (renames draft name ∷ []))
    ⊎ ((end' ≡ Unwritable) × Drops done draft)

-- ---- what a job leaves

-- the whole text is under the name: what was written when the file was closed, in a new one, which
-- takes the place of the old one, or in the one that stands there
abbrev pub Replaces : Disk → Job → List ℕ → Type 0
Replaces disk job text =
    (draft : Option (List ℕ))
    × MayBegin disk.shows (tagsfile_of job) (files_of job) (force_of job) draft
    × ((held : Option (List ℕ)) × (file : Writer) × WritesText text (fresh held) file Done
    × disk.done (first_step (tagsfile_of job) draft
    ∷ (closes file.bytes ∷ last_steps (tagsfile_of job) draft)))

-- a file that cannot be written: the old one stands, since a draft was dropped; or a prefix of the
-- text is in what was written in place
abbrev pub Spoils : Disk → Job → List ℕ → (draft : Option (List ℕ)) → Type 0
Spoils disk job text (Some draft) =
    (held : Option (List ℕ))
    × (disk.done (creates draft ∷ closes held ∷ removes draft ∷ [])
    ⊎ disk.done (creates draft ∷ closes held ∷ []))
Spoils disk job text None =
    (held : Option (List ℕ)) × (file : Writer) × WritesText text (fresh held) file (Fault Write)
    × disk.done (opens (tagsfile_of job) ∷ closes file.bytes ∷ [])

-- a job leaves a tags file with this text; or nothing was done, since memory was refused or the file
-- cannot be written; or it was begun, and cannot be written
abbrev pub MakesFile : Disk → Job → List ℕ → Finish → Type 0
MakesFile disk job text (Ran ended) =
    ((ended ≡ Fault Memory) × disk.done []) ⊎ ((ended ≡ Done) × Replaces disk job text)
MakesFile disk job text Unwritable =
    disk.done []
    ⊎ ((draft : Option (List ℕ))
    × MayBegin disk.shows (tagsfile_of job) (files_of job) (force_of job) draft
    × Spoils disk job text draft)
MakesFile disk job text (Served end) = ⊥
MakesFile disk job text (Unreadable place) = ⊥
MakesFile disk job text Unlisted = ⊥
