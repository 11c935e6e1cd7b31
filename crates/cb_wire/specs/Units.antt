-- The units of a line, which columns count.
use Rattle.std.specs.Prelude.{◌≡◌, ◌-◌, ◌==◌, ℕ, zero, suc, nat_le, cond, List, [], ◌∷◌}
use Rattle.std.specs.Prelude.{length, take, drop, Option, Some, None}
use Rattle.std.specs.List.{sum_by}
use Rattle.bstr.specs.Utf8.{decoded}
use Rattle.cb_wire.specs.declared.units.Character.{Character}
use Rattle.cb_wire.specs.declared.units.Encoding.{Encoding}
use Rattle.cb_wire.specs.declared.units.Encoding.TheVariants.{Utf8, Utf16}

-- a byte alone, of one unit
abbrev pub one_byte : Character
one_byte = record { bytes = 1; units = 1 }

-- a well-formed sequence: of four bytes it is two units of UTF-16, else one
abbrev pub sequence : Option ℕ → ℕ → Character
sequence None size = one_byte
sequence (Some c) size = record { bytes = size; units = cond (size == 4) 2 1 }

-- the first character of a line: in UTF-16 the well-formed sequence of UTF-8 that stands there, or
-- a byte alone where none does; in UTF-8 each byte
abbrev pub first : Encoding → List ℕ → Character
first Utf8 line = one_byte
first Utf16 line = sequence (decoded line).char (decoded line).size

-- the characters of a line: fuel is at least the number of bytes
unfoldable pub characters_from : Encoding → ℕ → List ℕ → List Character
characters_from encoding zero line = []
characters_from encoding (suc fuel) [] = []
characters_from encoding (suc fuel) (b ∷ rest) =
    let c = first encoding (b ∷ rest) in
    c ∷ characters_from encoding fuel (drop c.bytes (b ∷ rest))

abbrev pub characters : Encoding → List ℕ → List Character
characters encoding line = characters_from encoding (length line) line

-- the bytes, and the units, of some characters
abbrev pub bytes_of : List Character → ℕ
bytes_of cs = sum_by (λ c. c.bytes) cs

abbrev pub units_of : List Character → ℕ
units_of cs = sum_by (λ c. c.units) cs

-- the first characters, as many as fit whole into a size
abbrev pub fitting : (Character → ℕ) → ℕ → List Character → List Character
fitting size room [] = []
fitting size room (c ∷ cs) = cond (nat_le (size c) room) (c ∷ fitting size (room - size c) cs) []

-- the column of a place in a line: the units of the characters before it. A place within a
-- character has the column of that character, and one past the end that of the end
abbrev pub column : Encoding → List ℕ → ℕ → ℕ
column encoding line place = units_of (fitting (λ c. c.bytes) place (characters encoding line))

-- the place of a column in a line, in the same way
abbrev pub place_in_line : Encoding → List ℕ → ℕ → ℕ
place_in_line encoding line col = bytes_of (fitting (λ c. c.units) col (characters encoding line))

-- a place in a line where a character begins, or the end
abbrev pub IsBoundary : Encoding → List ℕ → ℕ → Type 0
IsBoundary encoding line place = (n : ℕ) × (place ≡ bytes_of (take n (characters encoding line)))

-- a column in a line where a character begins, or the end
abbrev pub IsColumn : Encoding → List ℕ → ℕ → Type 0
IsColumn encoding line col = (n : ℕ) × (col ≡ units_of (take n (characters encoding line)))
