-- What changes do to small worlds, computed. Expected worlds and refusals are worked out by hand.
use Rattle.std.specs.Prelude.{◌≡◌, ℕ, List, [], ◌∷◌, Ok, Err, Some, codes, refl}
use Rattle.cb_scan.specs.declared.profile.Rules.TheVariants.{Standard}
use Rattle.cb_scan.specs.Profiles.{all_by}
use Rattle.cb_scan.specs.Definitions.{definitions_from}
use Rattle.cb_scan.specs.examples.Functions.{finding}
use Rattle.cb_scan.specs.Order.{put, in_order}
use Rattle.cb_desk.specs.declared.change.Refusal.TheVariants.{BadName, NoSuchFile, FileExists}
use Rattle.cb_desk.specs.declared.change.Refusal.TheVariants.{NoSuchDefinition, StackEmpty}
use Rattle.cb_desk.specs.declared.change.Refusal.TheVariants.{TooLarge, TooManyFiles}
use Rattle.cb_desk.specs.World.{World, WorldBounds, File, Place, empty_world}
use Rattle.cb_desk.specs.World.{standard_bounds, text_of_file}
use Rattle.cb_desk.specs.Step.{step, load, reload, unload, rename, tag, pop}

-- the world without a file, within the bounds of a session that is given none
abbrev empty : World
empty = empty_world (all_by Standard) standard_bounds

-- a file, from two literals
abbrev file : (name text : List ℕ) → File
file name text = record { name = name; bytes = text }

-- a frame, from a literal and a line
abbrev frame : (name : List ℕ) (line : ℕ) → Place
frame name line = record { file = name; line = line }

-- three files, and four frames of two of them
abbrev a : File
a = file (codes "a.c") (codes "x;\ny;")

abbrev b : File
b = file (codes "b.h") (codes "z;")

abbrev d : File
d = file (codes "d.c") []

abbrev at_a : ℕ → Place
at_a line = frame (codes "a.c") line

abbrev at_b : Place
at_b = frame (codes "b.h") 1

abbrev three_files : World
three_files =
    record empty { files = a ∷ b ∷ d ∷ []; frames = at_a 2 ∷ at_b ∷ at_a 1 ∷ at_b ∷ [] }

-- a file is put between those of a lower and a higher name, and the frames stay
pub loaded_in_order : step three_files (load (codes "c.c") (codes "new"))
    ≡ Ok (record three_files { files = a ∷ b ∷ file (codes "c.c") (codes "new") ∷ d ∷ [] })
unfolding step
loaded_in_order = refl

-- capital letters come first
pub loaded_first : step (record three_files { frames = [] }) (load (codes "Z.c") [])
    ≡ Ok (record empty { files = file (codes "Z.c") [] ∷ a ∷ b ∷ d ∷ []; frames = [] })
unfolding step
loaded_first = refl

-- a reloaded file stays at its place without its frames, and the others keep their order
pub reloaded_in_place : step three_files (reload (codes "b.h") (codes "w;"))
    ≡ Ok (record three_files
    { files = a ∷ file (codes "b.h") (codes "w;") ∷ d ∷ []; frames = at_a 2 ∷ at_a 1 ∷ [] })
unfolding step
reloaded_in_place = refl

-- also where it has these bytes already
pub reloaded_the_same : step three_files (reload (codes "a.c") (codes "x;\ny;"))
    ≡ Ok (record three_files { frames = at_b ∷ at_b ∷ [] })
unfolding step
reloaded_the_same = refl

-- two files with a mark for one text
abbrev two_marked : World
two_marked =
    record empty { files = a ∷ b ∷ []; wanted = Some (codes ";"); marks = at_a 2 ∷ at_b ∷ [] }

-- its marks are gone, the wanted text and the marks of the other file stay
pub reloaded_without_its_marks : step two_marked (reload (codes "a.c") (codes ";"))
    ≡ Ok (record two_marked { files = file (codes "a.c") (codes ";") ∷ b ∷ []; marks = at_b ∷ [] })
unfolding step
reloaded_without_its_marks = refl

-- a file is taken away with its frames, and the others keep their order
pub unloaded_with_frames : step three_files (unload (codes "a.c"))
    ≡ Ok (record empty { files = b ∷ d ∷ []; frames = at_b ∷ at_b ∷ [] })
unfolding step
unloaded_with_frames = refl

-- the file of the text of `a`, under its new name
abbrev c : File
c = file (codes "c.h") (codes "x;\ny;")

-- a renamed file goes to its new place, and its frames keep theirs
pub renamed_in_place : step three_files (rename (codes "a.c") (codes "c.h"))
    ≡ Ok (record empty {
      files = b ∷ c ∷ d ∷ [];
      frames = frame (codes "c.h") 2 ∷ at_b ∷ frame (codes "c.h") 1 ∷ at_b ∷ [];
    })
unfolding step text_of_file in_order
renamed_in_place = refl

-- the top frame is the last one
pub popped_top : step three_files pop
    ≡ Ok (record three_files { frames = at_a 2 ∷ at_b ∷ at_a 1 ∷ [] })
unfolding step
popped_top = refl

-- two functions `f` on one line, and a third one in another file
abbrev functions_f : World
functions_f = record empty {
  files = file (codes "a.c") (codes "\nf(){}f(){}") ∷ file (codes "b.c") (codes "f(){}") ∷ [];
  frames = frame (codes "b.c") 1 ∷ [];
}

-- definitions of a name count by file and place, equal places included
pub tagged_second : step functions_f (tag (codes "f") 2)
    ≡ Ok (record functions_f { frames = frame (codes "b.c") 1 ∷ at_a 2 ∷ [] })
unfolding step definitions_from put in_order finding
tagged_second = refl

pub tagged_third : step functions_f (tag (codes "f") 3)
    ≡ Ok (record functions_f { frames = frame (codes "b.c") 1 ∷ frame (codes "b.c") 1 ∷ [] })
unfolding step definitions_from put in_order finding
tagged_third = refl

-- there is no fourth, and none has the number 0
pub no_fourth : step functions_f (tag (codes "f") 4) ≡ Err NoSuchDefinition
unfolding step definitions_from put in_order finding
no_fourth = refl

pub no_definition_0 : step functions_f (tag (codes "f") 0) ≡ Err NoSuchDefinition
unfolding step
no_definition_0 = refl

-- of two refusals the lower one is answered
pub bad_name_before_no_file : step three_files (rename (codes "q.c") (codes "b")) ≡ Err BadName
unfolding step
bad_name_before_no_file = refl

pub no_file_before_file_exists : step three_files (rename (codes "q.c") (codes "a.c"))
    ≡ Err NoSuchFile
unfolding step
no_file_before_file_exists = refl

-- a file can't get the name that it has
pub renamed_to_itself : step three_files (rename (codes "a.c") (codes "a.c")) ≡ Err FileExists
unfolding step
renamed_to_itself = refl

-- a name that is there can't be loaded, and one that is not there can't be unloaded
pub loaded_twice : step three_files (load (codes "a.c") []) ≡ Err FileExists
unfolding step
loaded_twice = refl

pub unloaded_nothing : step three_files (unload (codes "q.c")) ≡ Err NoSuchFile
unfolding step
unloaded_nothing = refl

-- a name that is not there can't be reloaded, also one that no file can have
pub reloaded_nothing : step three_files (reload (codes "q.c") []) ≡ Err NoSuchFile
unfolding step
reloaded_nothing = refl

pub reloaded_bad_name : step three_files (reload (codes "b") []) ≡ Err NoSuchFile
unfolding step
reloaded_bad_name = refl

-- an empty stack has no top
pub popped_nothing : step empty pop ≡ Err StackEmpty
unfolding step
popped_nothing = refl

-- ---- bounds of three files, each of 20 bytes

abbrev three_short : WorldBounds
three_short = record { files = 3; file_bytes = 20; history = 65536 }

abbrev two_files : World
two_files = record (empty_world (all_by Standard) three_short) { files = a ∷ b ∷ [] }

-- a file of 20 bytes is one, and the third; one of 21 bytes is too large, and so is a text of 21
-- bytes in the place of another
pub loaded_at_bounds : step two_files (load (codes "c.c") (codes "int c(void) { a(); }"))
    ≡ Ok (record two_files
    { files = a ∷ b ∷ file (codes "c.c") (codes "int c(void) { a(); }") ∷ [] })
unfolding step
loaded_at_bounds = refl

pub loaded_too_large : step two_files (load (codes "c.c") (codes "int c(void) { a(1); }"))
    ≡ Err TooLarge
unfolding step
loaded_too_large = refl

pub reloaded_too_large : step two_files (reload (codes "b.h") (codes "int c(void) { a(1); }"))
    ≡ Err TooLarge
unfolding step
reloaded_too_large = refl

-- a fourth file is one too many, where its text is not too large as well
pub loaded_too_many : step (record two_files { files = a ∷ b ∷ d ∷ [] }) (load (codes "c.c") [])
    ≡ Err TooManyFiles
unfolding step
loaded_too_many = refl
