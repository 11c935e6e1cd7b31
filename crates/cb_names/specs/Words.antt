-- What a word is for the rules on names (ISO C 2011, 6.7, and what compilers add to it). This is the
-- project's profile.
use Rattle.std.specs.Prelude.{ℕ, Bool, List, [], ◌∷◌, codes, if◌then◌else◌}
use Rattle.std.specs.List.{list_any}
use Rattle.std.specs.Str.{bytes_eq}
use Rattle.cb_scan.specs.declared.rules.wide.token.WideToken.{WideToken}
use Rattle.cb_scan.specs.lex.Tokens.{bytes_of}
use Rattle.cb_names.specs.declared.word.Item.{Item}
use Rattle.cb_names.specs.declared.word.Word.{Word}
use Rattle.cb_names.specs.declared.word.Word.TheVariants as word

-- one of the words
abbrev pub is_among : List (List ℕ) → List ℕ → Bool
is_among words w = list_any (λ x. bytes_eq x w) words

-- the words of types, beside `struct`, `union` and `enum`
unfoldable pub type_words : List (List ℕ)
type_words =
    codes "int" ∷ codes "char" ∷ codes "void" ∷ codes "long" ∷ codes "short" ∷ codes "float"
    ∷ codes "_Bool" ∷ codes "double" ∷ codes "signed" ∷ codes "unsigned" ∷ codes "_Complex"
    ∷ codes "_Atomic" ∷ codes "__int128" ∷ codes "__const" ∷ codes "__volatile__"
    ∷ codes "__inline" ∷ codes "__inline__" ∷ codes "__thread" ∷ []

-- the spellings of `typeof`
unfoldable pub typeof_words : List (List ℕ)
typeof_words = codes "typeof" ∷ codes "__typeof__" ∷ codes "__typeof" ∷ []

-- the words that begin an attribute wherever they stand
unfoldable pub hard_words : List (List ℕ)
hard_words =
    codes "__attribute__" ∷ codes "__attribute" ∷ codes "__declspec" ∷ codes "_Alignas"
    ∷ codes "__asm__" ∷ codes "__asm" ∷ codes "asm" ∷ []

-- the words of statements, besides `for`, whose parentheses are no call
unfoldable pub control_words : List (List ℕ)
control_words = codes "if" ∷ codes "while" ∷ codes "switch" ∷ []

-- what a word is
unfoldable pub word_of : List ℕ → Word
word_of w =
    if is_among type_words w then word.Type
    else (if is_among typeof_words w then word.Typeof
    else (if is_among hard_words w then word.Hard
    else (if is_among control_words w then word.Control
    else (if bytes_eq w (codes "for") then word.For
    else (if bytes_eq w (codes "case") then word.Case
    else (if bytes_eq w (codes "default") then word.Default
    else (if bytes_eq w (codes "goto") then word.Goto
    else (if bytes_eq w (codes "else") then word.Else
    else word.Other))))))))

-- a token of a text, and what its word is
abbrev pub item_of : List ℕ → WideToken → Item
item_of text x = record { token = x; word = word_of (bytes_of text x.token.span) }
