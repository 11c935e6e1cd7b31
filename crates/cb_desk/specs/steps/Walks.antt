-- The worlds that records lead to, and what keeps them within reach.
use Rattle.std.specs.Prelude.{◌≡◌, ◌≤◌, ◌<◌, ℕ, Bool, true, List, [], ◌∷◌, ◌++◌, length, map}
use Rattle.std.specs.Prelude.{nat_eq, take, drop, reverse}
use Rattle.std.specs.List.{list_any}
use Rattle.cb_index.specs.Archived.{Archived}
use Rattle.cb_index.specs.Compact.{shows_version}
use Rattle.cb_index.specs.declared.entry.Shown.{Shown}
use Rattle.cb_desk.specs.Timeline.{Timeline, IsValidTimeline}
use Rattle.cb_desk.specs.World.{World}
use Rattle.cb_desk.specs.steps.Records.{AreThere, Fits, IsTurn, Kept, Numbered, Rooms}
use Rattle.cb_desk.specs.steps.Records.{Turn, moves, other, world_in}

-- the worlds that some turns lead to, one after another
abbrev pub walk : Archived → Numbered → List Turn → List Numbered
walk a w [] = []
walk a w (t ∷ ts) = other a t w ∷ walk a (other a t w) ts

-- the worlds that numbers stand for
abbrev pub worlds_in : Archived → List Numbered → List World
worlds_in a ws = map (world_in a) ws

-- a world is there, and there is room for it
pub record IsKept (rooms : Rooms) (a : Archived) (w : Numbered) : Type 0 where
  pub there : AreThere a w
  pub fits : Fits rooms a w

-- a name is among what is shown
abbrev pub shows_name : ℕ → List Shown → Bool
shows_name n shown = list_any (λ (s : Shown). nat_eq s.name n) shown

-- a world shows each name and each version that it uses and the world before it does not
pub record IsNext (old new : Numbered) : Type 0 where
  pub names : old.names ≤ new.names
  pub versions : old.versions ≤ new.versions
  pub all_names : (n : ℕ) → old.names ≤ n → n < new.names → shows_name n new.shown ≡ true
  pub all_versions : (v : ℕ) → old.versions ≤ v → v < new.versions
      → shows_version v new.shown ≡ true

-- a world shows each version that it uses
abbrev pub ShowsItsVersions : Numbered → Type 0
ShowsItsVersions w = (v : ℕ) → v < w.versions → shows_version v w.shown ≡ true

-- a world, with those before it, uses all of an archive
pub record UsesAll (a : Archived) (w : Numbered) : Type 0 where
  pub names : w.names ≡ length a.names
  pub versions : w.versions ≡ length a.texts

-- turns lead back to a world that shows each version that it uses: each can be made, and what a
-- world uses and the one before it does not is shown in it
unfoldable pub LeadsBack : Rooms → Archived → Numbered → List Turn → Type 0
LeadsBack rooms a w [] = IsKept rooms a w × ShowsItsVersions w
LeadsBack rooms a w (t ∷ ts) =
    IsKept rooms a w × IsTurn a t w × IsNext (other a t w) w × LeadsBack rooms a (other a t w) ts

-- turns lead on to a world that uses all of the archive
unfoldable pub LeadsOn : Rooms → Archived → Numbered → List Turn → Type 0
LeadsOn rooms a w [] = IsKept rooms a w × UsesAll a w
LeadsOn rooms a w (t ∷ ts) =
    IsKept rooms a w × IsTurn a t w × IsNext w (other a t w) × LeadsOn rooms a (other a t w) ts

-- the present world and the records of the others; the first are the past, the newest last
pub record Recorded : Type 0 where
  pub kept : Kept
  pub records : List Turn
  pub done : ℕ

-- the records that lead back and on, the nearest first
abbrev pub turns_back : Recorded → List Turn
turns_back h = reverse (take h.done h.records)

abbrev pub turns_on : Recorded → List Turn
turns_on h = drop h.done h.records

-- the timeline that records stand for
abbrev pub timeline_in : Recorded → Timeline
timeline_in h = record {
  past = worlds_in h.kept.archive (walk h.kept.archive h.kept.now (turns_back h));
  present = world_in h.kept.archive h.kept.now;
  future = worlds_in h.kept.archive (walk h.kept.archive h.kept.now (turns_on h));
}

-- how many files the next turn shows and hides
abbrev pub next_moves : List Turn → ℕ
next_moves [] = 0
next_moves (t ∷ ts) = moves t

-- all worlds of the timeline, in numbers
abbrev pub worlds_of : Recorded → List Numbered
worlds_of h =
    walk h.kept.archive h.kept.now (turns_back h) ++ h.kept.now
    ∷ walk h.kept.archive h.kept.now (turns_on h)

-- how many names the first world uses: none in a new timeline, and those of all forgotten worlds
-- after their past is forgotten
abbrev pub first_names : ℕ → List Turn → ℕ
first_names names [] = names
first_names names (t ∷ ts) = first_names t.names ts

-- the archive holds no version that the timeline does not use: each is shown in one of its worlds.
-- So is each name but those of the first world
pub record IsAllUsed (h : Recorded) : Type 0 where
  pub names : (n : ℕ) → first_names h.kept.now.names (turns_back h) ≤ n
      → n < length h.kept.archive.names
      → list_any (λ w. shows_name n w.shown) (worlds_of h) ≡ true
  pub versions : (v : ℕ) → v < length h.kept.archive.texts
      → list_any (λ w. shows_version v w.shown) (worlds_of h) ≡ true

-- every world of the timeline is within reach, and valid; and the archive holds nothing else
pub record IsRecorded (h : Recorded) : Type 0 where
  pub within : h.done ≤ length h.records
  pub used : IsAllUsed h
  pub back : LeadsBack h.kept.rooms h.kept.archive h.kept.now (turns_back h)
  pub on : LeadsOn h.kept.rooms h.kept.archive h.kept.now (turns_on h)
  pub valid : IsValidTimeline (timeline_in h)
