-- The fields of a head, and the length that they tell.
use Rattle.std.specs.Prelude.{◌+◌, ◌-◌, ◌==◌, ◌&&◌, ◌||◌, ℕ, nat_le, Bool, not, cond}
use Rattle.std.specs.Prelude.{List, [], ◌∷◌, length, take, drop, map, codes, Option, Some, None}
use Rattle.std.specs.Prelude.{option_and_then}
use Rattle.std.specs.List.{list_all, position, prefix_len, suffix_len}
use Rattle.std.specs.Str.{str_eq_ignore_ascii_case}
use Rattle.std.specs.Str.Parse.{digits_value}
use Rattle.bstr.specs.Text.{lines_of, without_terminator}
use Rattle.cb_wire.specs.declared.header.TheConstants.{MOST_DIGITS}

abbrev pub is_colon : ℕ → Bool
is_colon b = b == 58

abbrev pub is_blank : ℕ → Bool
is_blank b = b == 32 || b == 9

-- a byte of the name of a field
abbrev pub is_name_byte : ℕ → Bool
is_name_byte b = nat_le 0x21 b && (nat_le b 0x7E && not (is_colon b))

-- a text without blanks at its ends
abbrev pub without_last : List ℕ → List ℕ
without_last text = take (length text - suffix_len is_blank text) text

abbrev pub trimmed : List ℕ → List ℕ
trimmed text = without_last (drop (prefix_len is_blank text) text)

abbrev pub is_digit : ℕ → Bool
is_digit b = nat_le 48 b && nat_le b 57

-- 1 to 9 decimal digits, and the number that they write
abbrev pub is_number : List ℕ → Bool
is_number word =
    nat_le 1 (length word) && (nat_le (length word) MOST_DIGITS && list_all is_digit word)

abbrev pub number : List ℕ → Option ℕ
number word = cond (is_number word) (Some (digits_value 10 word)) None

-- the one length of a message
abbrev pub first_length : Option ℕ → Option ℕ → Option (Option ℕ)
first_length None (Some n) = Some (Some n)
first_length None None = None
first_length (Some m) n = None

-- a field with this name and value
abbrev pub of_field : Option ℕ → List ℕ → List ℕ → Option (Option ℕ)
of_field found name value =
    cond (nat_le 1 (length name) && list_all is_name_byte name)
    (cond (str_eq_ignore_ascii_case name (codes "content-length"))
    (first_length found (number (trimmed value))) (Some found)) None

abbrev pub of_split : Option ℕ → List ℕ → Option ℕ → Option (Option ℕ)
of_split found line None = None
of_split found line (Some at) = of_field found (take at line) (drop (at + 1) line)

-- the length that was found, behind a line more: an empty one, or `NAME:VALUE`, of which only
-- `Content-Length`, in either case, counts, and only once; nothing where it is no such line
abbrev pub of_line : Option ℕ → List ℕ → Option (Option ℕ)
of_line found line =
    cond (nat_le 1 (length line)) (of_split found line (position is_colon line)) (Some found)

abbrev pub of_lines : List (List ℕ) → Option ℕ → Option ℕ
of_lines [] found = found
of_lines (l ∷ ls) found = option_and_then (of_lines ls) (of_line found l)

-- the length of the body behind a head; nothing where there is none, or a line is no field
abbrev pub content_length : List ℕ → Option ℕ
content_length head = of_lines (map without_terminator (lines_of head)) None
