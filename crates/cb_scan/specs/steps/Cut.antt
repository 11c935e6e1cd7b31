-- The pieces of a text as they are computed: one byte after the other, the first byte decides the
-- class.
use Rattle.std.specs.Prelude.{◌+◌, ℕ, zero, suc, Bool, false, ◌==◌, ◌||◌, ◌&&◌, not, if◌then◌else◌}
use Rattle.std.specs.Prelude.{nat_le, List, [], ◌∷◌, length, drop}
use Rattle.std.specs.List.{prefix_len}
use Rattle.cb_scan.specs.declared.lex.lexeme.Escape.{Escape}
use Rattle.cb_scan.specs.declared.lex.lexeme.Escape.TheVariants.{Plain, Backslash, Return}
use Rattle.cb_scan.specs.declared.lex.piece.Class.{Class}
use Rattle.cb_scan.specs.declared.lex.piece.Class.TheVariants.{Name, Number, Str, Chr, LineNote}
use Rattle.cb_scan.specs.declared.lex.piece.Class.TheVariants.{BlockNote, Blank, Newline, Byte}
use Rattle.cb_scan.specs.declared.lex.piece.Piece.{Piece}
use Rattle.cb_scan.specs.lex.Lexeme.{is_letter, is_digit, is_word, is_blank, goes_on, first_is}
use Rattle.cb_scan.specs.Bytes.{apostrophe, backslash, carriage_return, dot, line_feed, quote}
use Rattle.cb_scan.specs.Bytes.{slash, star}

-- the first byte is b
abbrev pub begins : ℕ → List ℕ → Bool
begins b rest = first_is (λ a. a == b) rest

-- the bytes after a `\` make it a join
unfoldable pub ends_join : List ℕ → Bool
ends_join [] = false
ends_join (b ∷ rest) = b == line_feed || (b == carriage_return && begins line_feed rest)

-- a byte that is a piece of its own wherever one begins with it, and no letter
abbrev pub is_alone : ℕ → Bool
is_alone b = (nat_le 40 b && nat_le b 45) || (nat_le 58 b && nat_le b 64) || nat_le 123 b

-- the class of the piece that begins here
unfoldable pub class_at : List ℕ → Class
class_at [] = Byte
class_at (b ∷ rest) =
    if is_letter b then Name
    else if is_digit b || (b == dot && first_is is_digit rest) then Number
    else if b == quote then Str
    else if b == apostrophe then Chr
    else if b == slash && begins slash rest then LineNote
    else if b == slash && begins star rest then BlockNote
    else if is_blank b || (b == backslash && ends_join rest) then Blank
    else if b == line_feed then Newline
    else Byte

-- what the first byte of a piece says of its class: 0 a name, 1 a blank, 2 a line feed, 3 a number,
-- 4 a string, 5 a character constant, 6 a lone byte; at 7 what follows decides
unfoldable pub first_code : ℕ → ℕ
first_code b =
    if is_letter b then 0
    else if b == dot || b == slash || b == backslash then 7
    else if is_digit b then 3
    else if b == quote then 4
    else if b == apostrophe then 5
    else if is_blank b then 1
    else if b == line_feed then 2
    else 6

-- how many bytes go on a number after the byte `last`
unfoldable pub number_len : ℕ → List ℕ → ℕ
number_len last [] = 0
number_len last (b ∷ rest) = if goes_on last b then suc (number_len b rest) else 0

-- b goes on a blank, in a join or out of one
abbrev pub goes_on_blank : Bool → ℕ → List ℕ → Bool
goes_on_blank joining b rest =
    is_blank b || (joining && b == line_feed) || (b == backslash && ends_join rest)

-- how many bytes go on a blank; `joining` says that a join has begun whose LF is still to come
unfoldable pub blank_len : Bool → List ℕ → ℕ
blank_len joining [] = 0
blank_len joining (b ∷ rest) =
    if goes_on_blank joining b rest
    then suc (blank_len (b == backslash || (joining && not (b == line_feed))) rest) else 0

-- what is after b in a line comment
unfoldable pub comment_escape : Escape → ℕ → Escape
comment_escape Plain b = if b == backslash then Backslash else Plain
comment_escape Backslash b =
    if b == backslash then Backslash else if b == carriage_return then Return else Plain
comment_escape Return b = if b == backslash then Backslash else Plain

-- b ends a line comment
unfoldable pub ends_comment : Escape → ℕ → Bool
ends_comment Plain b = b == line_feed
ends_comment Backslash b = false
ends_comment Return b = false

-- how many bytes go on a line comment
unfoldable pub comment_len : Escape → List ℕ → ℕ
comment_len e [] = 0
comment_len e (b ∷ rest) =
    if ends_comment e b then 0 else suc (comment_len (comment_escape e b) rest)

-- what is after b in a literal
unfoldable pub literal_escape : Escape → ℕ → Escape
literal_escape Plain b = if b == backslash then Backslash else Plain
literal_escape Backslash b = if b == carriage_return then Return else Plain
literal_escape Return b = if b == backslash then Backslash else Plain

-- b ends a literal with the quote q
unfoldable pub ends_literal : ℕ → Escape → ℕ → Bool
ends_literal q Plain b = b == q || b == line_feed
ends_literal q Backslash b = false
ends_literal q Return b = b == q

-- how many bytes go on a literal with the quote q, with its closing quote
unfoldable pub literal_len : ℕ → Escape → List ℕ → ℕ
literal_len q e [] = 0
literal_len q e (b ∷ rest) =
    if ends_literal q e b then (if b == q then 1 else 0)
    else suc (literal_len q (literal_escape e b) rest)

-- how many bytes go on a block comment, with its `*/`; `starred` says that a `*` is directly before
unfoldable pub block_len : Bool → List ℕ → ℕ
block_len starred [] = 0
block_len starred (b ∷ rest) = if starred && b == slash then 1 else suc (block_len (b == star) rest)

-- how many bytes the piece of this class takes that begins here
unfoldable pub length_in : Class → List ℕ → ℕ
length_in Name rest = prefix_len is_word rest
length_in Number rest = number_len dot rest
length_in Str rest = suc (literal_len quote Plain (drop 1 rest))
length_in Chr rest = suc (literal_len apostrophe Plain (drop 1 rest))
length_in LineNote rest = suc (suc (comment_len Plain (drop 2 rest)))
length_in BlockNote rest = suc (suc (block_len false (drop 2 rest)))
length_in Blank rest = blank_len false rest
length_in Newline rest = 1
length_in Byte rest = 1

-- how many bytes the piece takes that begins here
abbrev pub piece_len : List ℕ → ℕ
piece_len rest = length_in (class_at rest) rest

-- the piece that begins at this place, where so much is left of the text
abbrev pub piece_at : ℕ → List ℕ → Piece
piece_at place rest = record {
  class = class_at rest;
  span = record { start = place; end = place + piece_len rest };
}

-- the pieces from a place on: fuel is at least the number of bytes left
unfoldable pub pieces_from : ℕ → ℕ → List ℕ → List Piece
pieces_from zero place rest = []
pieces_from (suc fuel) place [] = []
pieces_from (suc fuel) place (b ∷ rest) =
    piece_at place (b ∷ rest)
    ∷ pieces_from fuel (place + piece_len (b ∷ rest)) (drop (piece_len (b ∷ rest)) (b ∷ rest))

-- the pieces from a place on, where so much is left of the text
abbrev pub pieces_at : ℕ → List ℕ → List Piece
pieces_at place rest = pieces_from (length rest) place rest

-- the pieces of a text
abbrev pub pieces : List ℕ → List Piece
pieces text = pieces_at 0 text
