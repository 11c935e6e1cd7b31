-- Bodies with an escape of one half of a surrogate pair, without the other half.
use Rattle.std.specs.Prelude.{◌==◌, ◌&&◌, ◌||◌, ◌++◌, ◌-◌, ℕ, zero, suc, Bool, false, not, nat_le}
use Rattle.std.specs.Prelude.{List, [], ◌∷◌, take, drop, codes, Option, None, Some, if◌then◌else◌}
use Rattle.std.specs.Char.{is_ascii_hexdigit}

-- the second hexadecimal digit of a surrogate: `8` to `B` of a first half, `C` to `F` of a second
abbrev pub is_first_half : ℕ → Bool
is_first_half digit =
    digit == 56 || (digit == 57 || (digit == 65 || (digit == 66 || (digit == 97 || digit == 98))))

abbrev pub is_second_half : ℕ → Bool
is_second_half digit =
    (nat_le 67 digit && nat_le digit 70) || (nat_le 99 digit && nat_le digit 102)

-- the bytes of the escape `\uDXXX`, but for its second digit
abbrev pub is_escape : (s u d x y : ℕ) → Bool
is_escape s u d x y =
    (s == 92 && u == 117)
    && ((d == 68 || d == 100) && (is_ascii_hexdigit x && is_ascii_hexdigit y))

-- the second digit of the escape `\uDXXX` that a text begins with
abbrev pub half_at : List ℕ → Option ℕ
half_at (s ∷ u ∷ d ∷ half ∷ x ∷ y ∷ rest) = if is_escape s u d x y then Some half else None
half_at _ = None

-- a text begins with the escape of a half
abbrev pub is_half_of : (is_half : ℕ → Bool) → Option ℕ → Bool
is_half_of is_half None = false
is_half_of is_half (Some digit) = is_half digit

abbrev pub begins_with_half : (is_half : ℕ → Bool) → List ℕ → Bool
begins_with_half is_half text = is_half_of is_half (half_at text)

-- a text begins with an escape of both halves; or with one of a half without the other
abbrev pub begins_with_pair : List ℕ → Bool
begins_with_pair text =
    begins_with_half is_first_half text && begins_with_half is_second_half (drop 6 text)

abbrev pub begins_with_lone_half : List ℕ → Bool
begins_with_lone_half text =
    not (begins_with_pair text)
    && (begins_with_half is_first_half text || begins_with_half is_second_half text)

abbrev pub begins_with_escape : List ℕ → Bool
begins_with_escape [] = false
begins_with_escape (b ∷ bs) = b == 92

-- how many bytes stand for one character at the front of a text: a pair, a half, a backslash and
-- what it escapes, or a byte
abbrev pub front_size : List ℕ → ℕ
front_size text =
    if begins_with_pair text then 12
    else (if begins_with_lone_half text then 6
    else (if begins_with_escape text then 2 else 1))

-- what is read in their place: U+FFFD for a half alone
abbrev pub front_text : List ℕ → List ℕ
front_text text =
    if begins_with_lone_half text then codes "\\uFFFD" else take (front_size text) text

-- a text whose first bytes, so many of them, were read
unfoldable pub read_after : (bytes : ℕ) → List ℕ → List ℕ
read_after n [] = []
read_after (suc n) (b ∷ bs) = read_after n bs
read_after zero (b ∷ bs) = front_text (b ∷ bs) ++ read_after (front_size (b ∷ bs) - 1) bs

-- a body with U+FFFD for each half of a surrogate pair that stands alone
abbrev pub with_whole_pairs : List ℕ → List ℕ
with_whole_pairs body = read_after 0 body
