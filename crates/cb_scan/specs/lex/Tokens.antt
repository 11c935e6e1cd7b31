-- Tokens: the pieces that mean something, and what each is for the rules on definitions.
use Rattle.std.specs.Prelude.{ℕ, ◌-◌, Bool, true, false, ◌||◌, ◌==◌, not, List, slice_index}
use Rattle.std.specs.Prelude.{slice_range, codes, if◌then◌else◌, filter, map}
use Rattle.std.specs.Str.{bytes_eq}
use Rattle.cb_scan.specs.declared.lex.piece.Span.{Span}
use Rattle.cb_scan.specs.declared.lex.piece.Piece.{Piece}
use Rattle.cb_scan.specs.declared.lex.piece.Class.{Class}
use Rattle.cb_scan.specs.declared.lex.piece.Class.TheVariants as class
use Rattle.cb_scan.specs.declared.lex.token.Token.{Token}
use Rattle.cb_scan.specs.declared.lex.token.Role.{Role}
use Rattle.cb_scan.specs.declared.lex.token.Role.TheVariants.{Word, Mark, Str, Other}
use Rattle.cb_scan.specs.declared.lex.token.WordKind.{WordKind}
use Rattle.cb_scan.specs.declared.lex.token.WordKind.TheVariants.{Name, Define, Include, Typedef}
use Rattle.cb_scan.specs.declared.lex.token.WordKind.TheVariants.{Extern, Static, Struct, Union}
use Rattle.cb_scan.specs.declared.lex.token.WordKind.TheVariants.{Enum, Reserved}
use Rattle.cb_scan.specs.Lines.{line_of}
use Rattle.cb_scan.specs.lex.Reserved.{is_reserved}
use Rattle.cb_scan.specs.Bytes.{line_feed}

-- the bytes of a span
abbrev pub bytes_of : List ℕ → Span → List ℕ
bytes_of text span = slice_range text span.start span.end

-- names, numbers, literals and lone bytes are tokens (ISO C 2011, 6.4); comments, blanks and
-- newlines are none
abbrev pub is_significant : Class → Bool
is_significant class.Name = true
is_significant class.Number = true
is_significant class.Str = true
is_significant class.Chr = true
is_significant class.LineNote = false
is_significant class.BlockNote = false
is_significant class.Blank = false
is_significant class.Newline = false
is_significant class.Byte = true

-- a name, and the two that mean something as the own word of a directive
abbrev pub name_kind : List ℕ → WordKind
name_kind bytes = if bytes_eq bytes (codes "define") then Define
    else (if bytes_eq bytes (codes "include") then Include else Name)

-- a name, two of which mean something as the own word of a directive; or a reserved word, six of
-- which a rule asks for
unfoldable pub word_of : List ℕ → WordKind
word_of bytes =
    if not (is_reserved bytes) then name_kind bytes
    else (if bytes_eq bytes (codes "typedef") then Typedef
    else (if bytes_eq bytes (codes "extern") then Extern
    else (if bytes_eq bytes (codes "static") then Static
    else (if bytes_eq bytes (codes "struct") then Struct
    else (if bytes_eq bytes (codes "union") then Union
    else (if bytes_eq bytes (codes "enum") then Enum
    else Reserved))))))

-- what a piece is for the rules
abbrev pub role_by : Class → List ℕ → Span → Role
role_by class.Name text span = Word (word_of (bytes_of text span))
role_by class.Byte text span = Mark (slice_index text span.start)
role_by class.Str text span = Str
role_by _ text span = Other

abbrev pub role_of : List ℕ → Piece → Role
role_of text p = role_by p.class text p.span

-- a place at which a line begins: the first of the text, or one after a line feed
abbrev pub starts_line : List ℕ → ℕ → Bool
starts_line text place = place == 0 || slice_index text (place - 1) == line_feed

-- the token of a piece
abbrev pub token_of : List ℕ → Piece → Token
token_of text p = record {
  role = role_of text p;
  span = p.span;
  line = line_of text p.span.start;
  starts_line = starts_line text p.span.start;
}

-- the tokens among the pieces
abbrev pub tokens : List ℕ → List Piece → List Token
tokens text ps = map (token_of text) (filter (λ p. is_significant p.class) ps)

-- ---- what a token is

-- the lone byte b
abbrev pub is_mark : ℕ → Role → Bool
is_mark b (Mark x) = x == b
is_mark b (Word w) = false
is_mark b Str = false
is_mark b Other = false

-- a word that passes a test
abbrev pub has_kind : (WordKind → Bool) → Role → Bool
has_kind test (Word w) = test w
has_kind test (Mark x) = false
has_kind test Str = false
has_kind test Other = false

-- a string
abbrev pub is_str : Role → Bool
is_str Str = true
is_str (Word w) = false
is_str (Mark x) = false
is_str Other = false

abbrev pub kind_is_name : WordKind → Bool
kind_is_name Name = true
kind_is_name Define = true
kind_is_name Include = true
kind_is_name _ = false

abbrev pub kind_is_typedef : WordKind → Bool
kind_is_typedef Typedef = true
kind_is_typedef _ = false

abbrev pub kind_is_extern : WordKind → Bool
kind_is_extern Extern = true
kind_is_extern _ = false

abbrev pub kind_is_static : WordKind → Bool
kind_is_static Static = true
kind_is_static _ = false

abbrev pub kind_is_define : WordKind → Bool
kind_is_define Define = true
kind_is_define _ = false

abbrev pub kind_is_include : WordKind → Bool
kind_is_include Include = true
kind_is_include _ = false

-- a word of any kind
abbrev pub is_any_word : Role → Bool
is_any_word = has_kind (λ _. true)

-- a name; one of three reserved words
abbrev pub is_name_token : Role → Bool
is_name_token = has_kind kind_is_name

abbrev pub is_typedef : Role → Bool
is_typedef = has_kind kind_is_typedef

abbrev pub is_extern : Role → Bool
is_extern = has_kind kind_is_extern

abbrev pub is_static : Role → Bool
is_static = has_kind kind_is_static
