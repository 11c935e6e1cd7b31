-- Changes of the wanted text and of the marks, and the change of the text on the marked lines.
use Rattle.std.specs.Prelude.{ℕ, Bool, nat_lt, List, [], ◌∷◌, length, Option, None, Some}
use Rattle.std.specs.Prelude.{if◌then◌else◌, filter, map, not}
use Rattle.std.specs.List.{list_any}
use Rattle.cb_scan.specs.Order.{put}
use Rattle.cb_desk.specs.declared.change.Refusal.{Refusal}
use Rattle.cb_desk.specs.declared.change.Refusal.TheVariants.{BadText, TooLarge, NoPattern}
use Rattle.cb_desk.specs.declared.change.Refusal.TheVariants.{NoSuchLine, NothingWanted}
use Rattle.cb_desk.specs.declared.change.Refusal.TheVariants.{NothingMarked}
use Rattle.cb_desk.specs.declared.rows.Field.TheVariants.{Text}
use Rattle.cb_desk.specs.Answer.{AnswerRow, answer}
use Rattle.cb_desk.specs.Places.{is_in, same_place, is_place_of}
use Rattle.cb_desk.specs.Replacement.{replaced_text}
use Rattle.cb_desk.specs.World.{World, File, Place, place_key, is_short}

-- ---- want

-- why a text can't be wanted: the lowest refusal that applies
abbrev pub want_refusal : List ℕ → Option Refusal
want_refusal [] = Some NoPattern
want_refusal (b ∷ bs) = if is_short (b ∷ bs) then None else Some BadText

-- the world in which that text is wanted, and nothing is marked
abbrev pub wanting : World → List ℕ → World
wanting w text = record w { wanted = Some text; marks = [] }

-- ---- mark

-- the place of a row
abbrev pub place_of_row : AnswerRow → Place
place_of_row r = record { file = r.file; line = r.line }

-- the places that the answer to field 4 shows for a text
abbrev pub places_of_text : World → Option (List ℕ) → List Place
places_of_text w None = []
places_of_text w (Some text) = map place_of_row (answer w Text text)

-- those of the wanted text
abbrev pub wanted_places : World → List Place
wanted_places w = places_of_text w w.wanted

-- why a place can't be marked: nothing is wanted, or there is no such place
abbrev pub mark_refusal : Option (List ℕ) → Option Place → Option Refusal
mark_refusal None place = Some NothingWanted
mark_refusal (Some text) None = Some NoSuchLine
mark_refusal (Some text) (Some p) = None

-- the marks without a place that is among them, or with it at its place
abbrev pub toggled : Place → List Place → List Place
toggled p marks =
    if list_any (same_place p) marks then filter (λ q. not (same_place p q)) marks
    else put place_key p marks

-- the world in which a place is marked, or no longer marked
abbrev pub toggled_at : World → Option Place → World
toggled_at w None = w
toggled_at w (Some p) = record w { marks = toggled p w.marks }

-- why nothing can be marked: nothing is wanted
abbrev pub mark_all_refusal : Option (List ℕ) → Option Refusal
mark_all_refusal None = Some NothingWanted
mark_all_refusal (Some text) = None

-- the world in which each line that holds the wanted text is marked
abbrev pub all_marked : World → World
all_marked w = record w { marks = wanted_places w }

-- ---- replace

-- the numbers of the lines that are marked in a file
abbrev pub marked_lines : List ℕ → List Place → List ℕ
marked_lines name marks = map (λ p. p.line) (filter (is_in name) marks)

-- a file in which the old text is replaced on the marked lines
abbrev pub replaced_file : (old new : List ℕ) → List Place → File → File
replaced_file old new marks f =
    record f { bytes = replaced_text old new (marked_lines f.name marks) f.bytes }

-- all files, those with a mark changed
abbrev pub replaced_files : (old new : List ℕ) → World → List File
replaced_files old new w = map (replaced_file old new w.marks) w.files

-- a file has more than so many bytes
abbrev pub is_too_large : ℕ → File → Bool
is_too_large most f = nat_lt most (length f.bytes)

-- why marked lines can't be changed: a file would be too large, nothing is wanted, or nothing is
-- marked
abbrev pub marked_refusal : World → Option (List ℕ) → List Place → List ℕ → Option Refusal
marked_refusal w None marks new = Some NothingWanted
marked_refusal w (Some old) [] new = Some NothingMarked
marked_refusal w (Some old) (p ∷ ps) new =
    if list_any (is_too_large w.bounds.file_bytes) (replaced_files old new w) then Some TooLarge
    else None

-- why the wanted text can't be replaced: the lowest refusal that applies
abbrev pub replace_refusal : World → List ℕ → Option Refusal
replace_refusal w new = if is_short new then marked_refusal w w.wanted w.marks new else Some BadText

-- the world with other files in which nothing is wanted and nothing is marked; a frame of a line
-- that is gone leaves the stack
abbrev pub with_files : World → List File → World
with_files w files = record {
  profile = w.profile;
  bounds = w.bounds;
  files = files;
  wanted = None;
  marks = [];
  frames = filter (is_place_of files) w.frames;
}

-- the world in which the wanted text is replaced on the marked lines
abbrev pub replaced_on_marks : World → Option (List ℕ) → List ℕ → World
replaced_on_marks w None new = w
replaced_on_marks w (Some old) new = with_files w (replaced_files old new w)
