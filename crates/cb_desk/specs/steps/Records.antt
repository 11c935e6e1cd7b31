-- Worlds in numbers, and what leads from one to another.
use Rattle.std.specs.Prelude.{◌≡◌, ◌≤◌, ◌<◌, ◌+◌, ◌*◌, ℕ, List, [], ◌++◌, length, map}
use Rattle.std.specs.Prelude.{filter, not, Option, None}
use Rattle.std.specs.Prelude.{Some, if◌then◌else◌}
use Rattle.std.specs.List.{AllByRecursion, flat_map, list_any}
use Rattle.std.specs.List.Sorted.{IsStrictlyIncreasing}
use Rattle.cb_scan.specs.Order.{in_order, put}
use Rattle.cb_index.specs.Archived.{Archived, name_of, text_of}
use Rattle.cb_index.specs.Files.{AreApart, call_count, def_count, files_of}
use Rattle.cb_index.specs.Files.{shown_name, total, use_count}
use Rattle.cb_index.specs.Names.{is_among, names_of}
use Rattle.cb_index.specs.Shelved.{Shelved}
use Rattle.cb_index.specs.declared.entry.Shown.{Shown}
use Rattle.cb_desk.specs.declared.places.FileLine.{FileLine}
use Rattle.cb_desk.specs.steps.Edits.{Edits, edited, turned_edits}
use Rattle.cb_desk.specs.Places.{same_place}
use Rattle.cb_desk.specs.Search.{lines_with}
use Rattle.cb_desk.specs.Turns.{touched}
use Rattle.cb_desk.specs.World.{Place, World, WorldBounds, place_key}

-- a world in numbers: its bounds; what is shown of an archive, by file name; and how many names and
-- versions of the archive this world and those before it use
pub record Numbered : Type 0 where
  pub bounds : WorldBounds
  pub shown : List Shown
  pub wanted : Option (List ℕ)
  pub marks : List FileLine
  pub frames : List FileLine
  pub names : ℕ
  pub versions : ℕ

-- what leads from one world in numbers to another: what is hidden first and what is shown then,
-- which text is wanted if it is another, the edits of the marks and of the frames
pub record Turn : Type 0 where
  pub hides : List Shown
  pub shows : List Shown
  pub wanted : Option (Option (List ℕ))
  pub marks : Edits
  pub frames : Edits
  pub names : ℕ
  pub versions : ℕ

-- how many files a turn shows and hides
abbrev pub moves : Turn → ℕ
moves t = length t.hides + length t.shows

-- the place, and the world, that numbers stand for
abbrev pub place_in : Archived → FileLine → Place
place_in a p = record { file = name_of a p.name; line = p.line }

abbrev pub world_in : Archived → Numbered → World
world_in a w = record {
  profile = a.profile;
  bounds = w.bounds;
  files = files_of a w.shown;
  wanted = w.wanted;
  marks = map (place_in a) w.marks;
  frames = map (place_in a) w.frames;
}

-- ---- turns

-- what is left when these are hidden
abbrev pub without : List Shown → List Shown → List Shown
without hides shown = filter (λ (s : Shown). not (is_among (names_of hides) s.name)) shown

-- the text that is wanted in the other world
abbrev pub other_wanted : Option (Option (List ℕ)) → Option (List ℕ) → Option (List ℕ)
other_wanted None wanted = wanted
other_wanted (Some other) wanted = other

-- the other world
abbrev pub other : Archived → Turn → Numbered → Numbered
other a t w = record {
  bounds = w.bounds;
  shown = in_order (shown_name a) (without t.hides w.shown ++ t.shows);
  wanted = other_wanted t.wanted w.wanted;
  marks = edited t.marks w.marks;
  frames = edited t.frames w.frames;
  names = t.names;
  versions = t.versions;
}

-- the text that the turn back is to bring back
abbrev pub kept_wanted : Option (Option (List ℕ)) → Option (List ℕ) → Option (Option (List ℕ))
kept_wanted None wanted = None
kept_wanted (Some other) wanted = Some wanted

-- what leads back
abbrev pub turned : Turn → Numbered → Turn
turned t w = record {
  hides = t.shows;
  shows = t.hides;
  wanted = kept_wanted t.wanted w.wanted;
  marks = turned_edits t.marks;
  frames = turned_edits t.frames;
  names = w.names;
  versions = w.versions;
}

-- ---- when a turn can be made, and made back

-- files are hidden and shown at most twice, and twice more for each that differs or has a mark
abbrev pub AreFew : Turn → World → World → Type 0
AreFew t v w = moves t ≤ 2 + 2 * length (touched v w)

-- on the way there and back
pub record IsFew (a : Archived) (t : Turn) (w : Numbered) : Type 0 where
  pub on : AreFew t (world_in a w) (world_in a (other a t w))
  pub back : AreFew t (world_in a (other a t w)) (world_in a w)

-- the turn leads to its other world and back: what is hidden is shown now, what is shown then is
-- not shown now, and no two files that are shown have one name
pub record IsTurn (a : Archived) (t : Turn) (w : Numbered) : Type 0 where
  pub hides_rise : IsStrictlyIncreasing (names_of t.hides)
  pub shows_rise : IsStrictlyIncreasing (names_of t.shows)
  pub apart : AreApart a (without t.hides w.shown ++ t.hides)
  pub apart_then : AreApart a (without t.hides w.shown ++ t.shows)
  pub shown : in_order (shown_name a) (without t.hides w.shown ++ t.hides) ≡ w.shown
  pub others : without t.shows (other a t w).shown ≡ without t.hides w.shown
  pub marks : edited (turned_edits t.marks) (edited t.marks w.marks) ≡ w.marks
  pub frames : edited (turned_edits t.frames) (edited t.frames w.frames) ≡ w.frames
  pub few : IsFew a t w

-- numbers are below those that the world uses, which are there
pub record AreThere (a : Archived) (w : Numbered) : Type 0 where
  pub shown : AllByRecursion (λ (s : Shown). (s.name < w.names) × (s.version < w.versions)) w.shown
  pub marks : AllByRecursion (λ (p : FileLine). p.name < w.names) w.marks
  pub frames : AllByRecursion (λ (p : FileLine). p.name < w.names) w.frames
  pub names : w.names ≤ length a.names
  pub versions : w.versions ≤ length a.texts

-- for how many there is room: shown files, and their definitions, uses and calls; marks and frames
pub record Rooms : Type 0 where
  pub files : ℕ
  pub defs : ℕ
  pub uses : ℕ
  pub calls : ℕ
  pub marks : ℕ
  pub frames : ℕ

-- there is room for a world
pub record Fits (r : Rooms) (a : Archived) (w : Numbered) : Type 0 where
  pub files : length w.shown ≤ r.files
  pub defs : total def_count a w.shown ≤ r.defs
  pub uses : total use_count a w.shown ≤ r.uses
  pub calls : total call_count a w.shown ≤ r.calls
  pub marks : length w.marks ≤ r.marks
  pub frames : length w.frames ≤ r.frames

-- the room is as large as before
pub record KeepsRooms (old new : Rooms) : Type 0 where
  pub files : old.files ≤ new.files
  pub defs : old.defs ≤ new.defs
  pub uses : old.uses ≤ new.uses
  pub calls : old.calls ≤ new.calls
  pub marks : old.marks ≤ new.marks
  pub frames : old.frames ≤ new.frames

-- ---- what is in memory

-- a list of places, and for how many there is room
pub record PlacesHeld : Type 0 where
  pub places : List FileLine
  pub room : ℕ

-- a world in the numbers of an archive; how often something was shown or hidden; and the room
pub record Kept : Type 0 where
  pub archive : Archived
  pub turns : ℕ
  pub now : Numbered
  pub rooms : Rooms

-- the world without a file, in numbers
abbrev pub no_numbers : WorldBounds → Numbered
no_numbers b = record {
  bounds = b;
  shown = [];
  wanted = None;
  marks = [];
  frames = [];
  names = 0;
  versions = 0;
}

-- a shelf that no longer shows some files
abbrev pub hidden : Shelved → List Shown → Shelved
hidden s hides = record s { shown = without hides s.shown }

-- ---- marks in numbers

-- the marks without a place that is among them, or with it at its place
abbrev pub toggled_numbers : Archived → FileLine → List FileLine → List FileLine
toggled_numbers a p marks =
    if list_any (λ m. same_place (place_in a p) (place_in a m)) marks
    then filter (λ m. not (same_place (place_in a p) (place_in a m))) marks
    else put (λ m. place_key (place_in a m)) p marks

-- the lines of a text that hold another, as places of a file
abbrev pub held_by : (text : List ℕ) (name : ℕ) (bytes : List ℕ) → List FileLine
held_by text name bytes = map (λ n. record { name = name; line = n }) (lines_with text bytes)

-- those of all files that are shown
abbrev pub held_numbers : Archived → List ℕ → List Shown → List FileLine
held_numbers a text shown =
    flat_map (λ (s : Shown). held_by text s.name (text_of a s.version).bytes) shown
