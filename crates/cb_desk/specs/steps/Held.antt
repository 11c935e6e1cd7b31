-- The places of the lines that hold a text.
use Rattle.std.specs.Prelude.{ℕ, List, map}
use Rattle.std.specs.List.{flat_map}
use Rattle.cb_desk.specs.Search.{lines_with}
use Rattle.cb_desk.specs.World.{File, Place}

-- those of a file
abbrev pub held_in : List ℕ → File → List Place
held_in text f = map (λ n. record { file = f.name; line = n }) (lines_with text f.bytes)

-- those of all files, by file and line
abbrev pub held_places : List ℕ → List File → List Place
held_places text files = flat_map (held_in text) files
