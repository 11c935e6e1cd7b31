-- Places of a file, and what becomes of them when it goes away or gets another name.
use Rattle.std.specs.Prelude.{ℕ, zero, suc, Bool, ◌==◌, ◌&&◌, nat_le, List, length, slice_get}
use Rattle.std.specs.Prelude.{Option, None, if◌then◌else◌, filter, map, not}
use Rattle.std.specs.Str.{bytes_eq}
use Rattle.cb_scan.specs.Lines.{lines}
use Rattle.cb_desk.specs.World.{File, Place, text_of_file}

-- a place is in the file of that name
abbrev pub is_in : List ℕ → Place → Bool
is_in name p = bytes_eq p.file name

-- two places are one
abbrev pub same_place : Place → Place → Bool
same_place p q = bytes_eq p.file q.file && p.line == q.line

-- a place is a line that is there
abbrev pub is_place_of : List File → Place → Bool
is_place_of files p = nat_le 1 p.line && nat_le p.line (length (lines (text_of_file files p.file)))

-- the places without those of a file, in the order that they have
abbrev pub without_places : List ℕ → List Place → List Place
without_places name places = filter (λ p. not (is_in name p)) places

-- a place of the file of the old name gets the new one
abbrev pub renamed_place : List ℕ → List ℕ → Place → Place
renamed_place old new p = if is_in old p then record p { file = new } else p

-- the places with the new name, in the order that they have
abbrev pub renamed_places : List ℕ → List ℕ → List Place → List Place
renamed_places old new places = map (renamed_place old new) places

-- the nth of a list, counted from 1
abbrev pub nth : {A : Type 0} → ℕ → List A → Option A
nth zero xs = None
nth (suc n) xs = slice_get xs n
