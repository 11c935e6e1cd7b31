-- What a change brings to the archive, and the turn to the new world.
use Rattle.std.specs.Prelude.{◌≡◌, ◌<◌, ℕ, Bool, List, ◌++◌, map, take, filter, nat_eq, not}
use Rattle.std.specs.Prelude.{slice_get, Option, Some, if◌then◌else◌, ⊤}
use Rattle.std.specs.List.{AllByRecursion}
use Rattle.std.specs.Str.{bytes_eq}
use Rattle.cb_scan.specs.declared.profile.Profile.{Profile}
use Rattle.cb_index.specs.Archived.{Archived, name_of}
use Rattle.cb_index.specs.Scanned.{Scanned}
use Rattle.cb_index.specs.declared.entry.Shown.{Shown}
use Rattle.cb_desk.specs.declared.places.FileLine.{FileLine}
use Rattle.cb_desk.specs.Step.{Step, load}
use Rattle.cb_desk.specs.steps.Edits.{Edits, edited, turned_edits}
use Rattle.cb_desk.specs.steps.Records.{AreThere, Fits, IsTurn, Kept, Numbered, Rooms, Turn, other}
use Rattle.cb_desk.specs.steps.Records.{moves, other_wanted, place_in, world_in}
use Rattle.cb_desk.specs.steps.Walks.{IsNext, UsesAll}
use Rattle.cb_desk.specs.World.{World, place_key}

-- a text is scanned by this profile
abbrev pub IsOf : Profile → Scanned → Type 0
IsOf profile text = text.profile ≡ profile

-- texts of one profile
pub record NewTexts : Type 0 where
  pub profile : Profile
  pub texts : List (List ℕ)

-- the profile of new texts; new names and texts, and the turn
pub record Planned : Type 0 where
  pub profile : Profile
  pub names : List (List ℕ)
  pub texts : List (List ℕ)
  pub turn : Turn

-- an archive keeps its profile and what a world and those before it use, and has what is new behind
-- it
pub record Keeps (old : Archived) (w : Numbered) (p : Planned) (new : Archived) : Type 0 where
  pub profile : new.profile ≡ old.profile
  pub names : new.names ≡ take w.names old.names ++ p.names
  pub texts : new.texts ≡ take w.versions old.texts ++ p.texts

-- the turn leads to that world in such an archive, and the world uses all of it
pub record LeadsTo (k : Kept) (p : Planned) (v : World) (a : Archived) : Type 0 where
  pub turn : IsTurn a p.turn k.now
  pub there : AreThere a (other a p.turn k.now)
  pub world : world_in a (other a p.turn k.now) ≡ v
  pub next : IsNext k.now (other a p.turn k.now)
  pub all : UsesAll a (other a p.turn k.now)

-- the turn of a load shows one file, and hides none
abbrev pub MovesOne : Step → Turn → Type 0
MovesOne (load name bytes) t = moves t ≡ 1
MovesOne _ t = ⊤

-- the new texts have the profile of the archive, and the turn leads to that world in every archive
-- that keeps them
abbrev pub IsPlan : Kept → Planned → World → Type 0
IsPlan k p v =
    (p.profile ≡ k.archive.profile)
    × ((a : Archived) → Keeps k.archive k.now p a → LeadsTo k p v a)

-- there is room for the world that the turn leads to, in every such archive
abbrev pub HasRoomFor : Rooms → Archived → Numbered → Planned → Type 0
HasRoomFor rooms old w p = (a : Archived) → Keeps old w p a → Fits rooms a (other a p.turn w)

-- edits that can be taken back and leave places whose names are below that number
pub record AreEdits (names : ℕ) (es : Edits) (ps : List FileLine) : Type 0 where
  pub back : edited (turned_edits es) (edited es ps) ≡ ps
  pub named : AllByRecursion (λ (p : FileLine). p.name < names) (edited es ps)

-- the world with other marks and frames, and another wanted text if there is one
abbrev pub with_places : Archived → Numbered → Option (Option (List ℕ))
    → (marks frames : Edits) → World
with_places a w wanted marks frames = record (world_in a w) {
  wanted = other_wanted wanted w.wanted;
  marks = map (place_in a) (edited marks w.marks);
  frames = map (place_in a) (edited frames w.frames);
}

-- the world with other marks, and another wanted text if there is one
abbrev pub with_marks : Archived → Numbered → Option (Option (List ℕ)) → List FileLine → World
with_marks a w wanted marks =
    record (world_in a w) { wanted = other_wanted wanted w.wanted; marks = map (place_in a) marks }

-- ---- changes of the files

-- a version is one of those that are shown
abbrev pub IsAmong : List Shown → Shown → Type 0
IsAmong shown s = (i : ℕ) × (slice_get shown i ≡ Some s)

-- a place is in the file of that name
abbrev pub is_of : Archived → List ℕ → FileLine → Bool
is_of a name p = bytes_eq (name_of a p.name) name

-- the places without those of the file of that name, and with another number for its name
abbrev pub places_without : Archived → List ℕ → List FileLine → List FileLine
places_without a name ps = filter (λ p. not (is_of a name p)) ps

abbrev pub renumbered : Archived → List ℕ → ℕ → FileLine → FileLine
renumbered a name number p = if is_of a name p then record p { name = number } else p

-- the name under a number, where one number is that of a new name
abbrev pub name_then : Archived → ℕ → List ℕ → ℕ → List ℕ
name_then a number new n = if nat_eq n number then new else name_of a n

-- what places are ordered by then
abbrev pub key_then : Archived → ℕ → List ℕ → FileLine → List ℕ
key_then a number new p = place_key (record { file = name_then a number new p.name; line = p.line })
