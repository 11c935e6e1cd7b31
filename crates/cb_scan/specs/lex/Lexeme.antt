-- What a lexeme of each class is: the first n bytes of what is left of a text.
use Rattle.std.specs.Prelude.{◌≡◌, ◌≢◌, ◌⊎◌, ◌+◌, ◌-◌, ◌≤◌, ℕ, suc, Bool, true, false, ◌==◌, ◌||◌}
use Rattle.std.specs.Prelude.{◌&&◌, nat_le, List, [], ◌∷◌, ◌++◌, length, take, drop, codes, Option}
use Rattle.std.specs.Prelude.{Some, None}
use Rattle.std.specs.List.{list_all}
use Rattle.memchr.specs.Find.{FindsNeedle}
use Rattle.cb_scan.specs.declared.lex.piece.Class.{Class}
use Rattle.cb_scan.specs.declared.lex.piece.Class.TheVariants.{Name, Number, Str, Chr, LineNote}
use Rattle.cb_scan.specs.declared.lex.piece.Class.TheVariants.{BlockNote, Blank, Newline, Byte}
use Rattle.cb_scan.specs.Bytes.{apostrophe, backslash, carriage_return, dot, form_feed, line_feed}
use Rattle.cb_scan.specs.Bytes.{minus, plus, quote, space, tab, underscore, vertical_tab}

-- a letter (A to Z, a to z) or `_`
abbrev pub is_letter : ℕ → Bool
is_letter b = (nat_le 65 b && nat_le b 90) || (nat_le 97 b && nat_le b 122) || b == underscore

-- a digit (0 to 9)
abbrev pub is_digit : ℕ → Bool
is_digit b = nat_le 48 b && nat_le b 57

-- a letter, a digit or `_`
abbrev pub is_word : ℕ → Bool
is_word b = is_letter b || is_digit b

-- a space, tab, vertical tab, form feed or carriage return
abbrev pub is_blank : ℕ → Bool
is_blank b = b == space || b == tab || b == vertical_tab || b == form_feed || b == carriage_return

-- the first byte passes the test
unfoldable pub first_is : (ℕ → Bool) → List ℕ → Bool
first_is p [] = false
first_is p (b ∷ rest) = p b

-- an identifier (C11 6.4.2.1, in ASCII): a letter or `_`, then letters, digits and `_`
unfoldable pub is_identifier : List ℕ → Bool
is_identifier [] = false
is_identifier (b ∷ bs) = is_letter b && list_all is_word bs

-- b may follow `last` in a number: a letter, a digit, `_`, `.`, or a sign after e, E, p or P
abbrev pub goes_on : ℕ → ℕ → Bool
goes_on last b = is_word b || b == dot
    || ((b == plus || b == minus) && (last == 101 || last == 69 || last == 112 || last == 80))

-- each byte may follow the one before it in a number, and the first one `last`
unfoldable pub all_go_on : ℕ → List ℕ → Bool
all_go_on last [] = true
all_go_on last (b ∷ bs) = goes_on last b && all_go_on b bs

-- a number (C11 6.4.8): a digit, or `.` and a digit, and what may follow
unfoldable pub is_number : List ℕ → Bool
is_number [] = false
is_number (b ∷ bs) = (is_digit b || (b == dot && first_is is_digit bs)) && all_go_on b bs

-- blanks and joins; a join is `\` LF or `\` CR LF (C11 5.1.1.2, phase 2)
pub data Blanks : List ℕ → ℕ → Type 0 where
  no_blank : {rest : List ℕ} → Blanks rest 0
  a_blank : {a n : ℕ} {rest : List ℕ} → is_blank a ≡ true → Blanks rest n
      → Blanks (a ∷ rest) (suc n)
  a_join : {a b n : ℕ} {rest : List ℕ} → a ≡ backslash → b ≡ line_feed → Blanks rest n
      → Blanks (a ∷ b ∷ rest) (suc (suc n))
  a_cr_join : {a b c n : ℕ} {rest : List ℕ} → a ≡ backslash → b ≡ carriage_return → c ≡ line_feed
      → Blanks rest n → Blanks (a ∷ b ∷ c ∷ rest) (suc (suc (suc n)))

-- what follows is an LF or the end
abbrev pub IsLineEnd : List ℕ → Type 0
IsLineEnd rest = (length rest ≡ 0) ⊎ (take 1 rest ≡ line_feed ∷ [])

-- a line comment after its `//` (C11 6.4.9): joins and bytes other than LF, up to an LF or the end
pub data Commented : List ℕ → ℕ → Type 0 where
  comment_ends : {rest : List ℕ} → IsLineEnd rest → Commented rest 0
  commented_byte : {a n : ℕ} {rest : List ℕ} → a ≢ line_feed → Commented rest n
      → Commented (a ∷ rest) (suc n)
  commented_join : {a b n : ℕ} {rest : List ℕ} → a ≡ backslash → b ≡ line_feed → Commented rest n
      → Commented (a ∷ b ∷ rest) (suc (suc n))
  commented_cr_join : {a b c n : ℕ} {rest : List ℕ} → a ≡ backslash → b ≡ carriage_return
      → c ≡ line_feed → Commented rest n → Commented (a ∷ b ∷ c ∷ rest) (suc (suc (suc n)))

-- a literal after its quote q (C11 6.4.4.4 and 6.4.5; this project's profile where it isn't
-- closed): it ends with q or before a line's end, and its items are `\` CR LF; else `\` and any
-- byte, also a `\` that ends the text; else any byte but q, `\` and LF
pub data Quoted (q : ℕ) : List ℕ → ℕ → Type 0 where
  closed : {a : ℕ} {rest : List ℕ} → a ≡ q → Quoted q (a ∷ rest) 1
  not_closed : {rest : List ℕ} → IsLineEnd rest → Quoted q rest 0
  joined : {a b c n : ℕ} {rest : List ℕ} → a ≡ backslash → b ≡ carriage_return → c ≡ line_feed
      → Quoted q rest n → Quoted q (a ∷ b ∷ c ∷ rest) (suc (suc (suc n)))
  escaped : {a b n : ℕ} {rest : List ℕ} → a ≡ backslash
      → take 2 (b ∷ rest) ≢ carriage_return ∷ line_feed ∷ [] → Quoted q rest n
      → Quoted q (a ∷ b ∷ rest) (suc (suc n))
  last_escape : {a : ℕ} → a ≡ backslash → Quoted q (a ∷ []) 1
  quoted_byte : {a n : ℕ} {rest : List ℕ} → a ≢ q → a ≢ backslash → a ≢ line_feed → Quoted q rest n
      → Quoted q (a ∷ rest) (suc n)

-- a literal: the quote q, and what follows it
abbrev pub IsLiteral : ℕ → List ℕ → ℕ → Type 0
IsLiteral q rest n = (take 1 rest ≡ q ∷ []) × (1 ≤ n) × Quoted q (drop 1 rest) (n - 1)

-- a closed literal with the quote q: these bytes are a literal, whatever follows them
abbrev pub IsClosedLiteral : ℕ → List ℕ → Type 0
IsClosedLiteral q bytes = (more : List ℕ) → IsLiteral q (bytes ++ more) (length bytes)

-- a line comment: `//`, and what follows it
abbrev pub IsLineComment : List ℕ → ℕ → Type 0
IsLineComment rest n = (take 2 rest ≡ codes "//") × (2 ≤ n) × Commented (drop 2 rest) (n - 2)

-- where a comment ends whose `*/` stands `k` bytes after its `/*`, or nowhere
abbrev pub comment_end : ℕ → Option ℕ → ℕ
comment_end len None = len
comment_end len (Some k) = k + 4

-- a block comment (C11 6.4.9): `/*`, up to and with the first `*/` after these two bytes, else to
-- the end
abbrev pub IsBlockComment : List ℕ → ℕ → Type 0
IsBlockComment rest n = (take 2 rest ≡ codes "/*")
    × ((found : Option ℕ) × FindsNeedle (drop 2 rest) (codes "*/") 0 found
    × (n ≡ comment_end (length rest) found))

-- the first n bytes spell a lexeme of a class other than `Byte`
abbrev pub Spells : Class → List ℕ → ℕ → Type 0
Spells Name rest n = (n ≤ length rest) × (is_identifier (take n rest) ≡ true)
Spells Number rest n = (n ≤ length rest) × (is_number (take n rest) ≡ true)
Spells Str rest n = IsLiteral quote rest n
Spells Chr rest n = IsLiteral apostrophe rest n
Spells LineNote rest n = IsLineComment rest n
Spells BlockNote rest n = IsBlockComment rest n
Spells Blank rest n = (1 ≤ n) × Blanks rest n
Spells Newline rest n = (take 1 rest ≡ line_feed ∷ []) × (n ≡ 1)
Spells Byte rest n = ⊥

-- one byte at which no other class has a lexeme
abbrev pub IsLoneByte : List ℕ → ℕ → Type 0
IsLoneByte rest n = (1 ≤ length rest) × (n ≡ 1) × ((class : Class) (m : ℕ) → ¬ Spells class rest m)

-- the first n bytes of rest are a lexeme of the class
abbrev pub IsLexeme : Class → List ℕ → ℕ → Type 0
IsLexeme Name rest n = Spells Name rest n
IsLexeme Number rest n = Spells Number rest n
IsLexeme Str rest n = Spells Str rest n
IsLexeme Chr rest n = Spells Chr rest n
IsLexeme LineNote rest n = Spells LineNote rest n
IsLexeme BlockNote rest n = Spells BlockNote rest n
IsLexeme Blank rest n = Spells Blank rest n
IsLexeme Newline rest n = Spells Newline rest n
IsLexeme Byte rest n = IsLoneByte rest n

-- the bytes of the text from place i to place j are a lexeme of the class
abbrev pub Lexeme : Class → List ℕ → ℕ → ℕ → Type 0
Lexeme class text i j = IsLexeme class (drop i text) (j - i)
