-- Reserved words, and names: the identifiers that are none.
use Rattle.std.specs.Prelude.{ℕ, Bool, ◌&&◌, not, List, [], ◌∷◌, codes}
use Rattle.std.specs.List.{list_any}
use Rattle.cb_scan.specs.lex.Lexeme.{is_identifier}
use Rattle.std.specs.Str.{bytes_eq}

-- the 44 keywords (ISO C 2011, 6.4.1) and six words that this project's profile adds, by their
-- lengths
unfoldable pub reserved_words : List (List ℕ)
reserved_words =
    codes "if" ∷ codes "do"
    ∷ codes "int" ∷ codes "for" ∷ codes "asm"
    ∷ codes "char" ∷ codes "void" ∷ codes "else" ∷ codes "case" ∷ codes "long" ∷ codes "enum"
    ∷ codes "goto" ∷ codes "auto"
    ∷ codes "const" ∷ codes "break" ∷ codes "while" ∷ codes "short" ∷ codes "float" ∷ codes "union"
    ∷ codes "_Bool"
    ∷ codes "struct" ∷ codes "return" ∷ codes "static" ∷ codes "sizeof" ∷ codes "extern"
    ∷ codes "switch" ∷ codes "double" ∷ codes "signed" ∷ codes "inline"
    ∷ codes "defined" ∷ codes "default" ∷ codes "typedef" ∷ codes "_Atomic" ∷ codes "__asm__"
    ∷ codes "unsigned" ∷ codes "continue" ∷ codes "volatile" ∷ codes "register" ∷ codes "restrict"
    ∷ codes "_Alignas" ∷ codes "_Alignof" ∷ codes "_Complex" ∷ codes "_Generic"
    ∷ codes "__attribute__" ∷ codes "__extension__" ∷ codes "__declspec" ∷ codes "_Noreturn"
    ∷ codes "_Imaginary" ∷ codes "_Thread_local" ∷ codes "_Static_assert"
    ∷ []

-- one of the reserved words
unfoldable pub is_reserved : List ℕ → Bool
is_reserved word = list_any (λ r. bytes_eq r word) reserved_words

-- an identifier that is not reserved
abbrev pub is_name : List ℕ → Bool
is_name bytes = is_identifier bytes && not (is_reserved bytes)
