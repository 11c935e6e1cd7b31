-- What a token is for the rules of the wide profile. This is the project's profile.
use Rattle.std.specs.Prelude.{ℕ, Bool, true, false, ◌==◌, List, [], ◌∷◌, take}
use Rattle.std.specs.Prelude.{codes, if◌then◌else◌}
use Rattle.std.specs.List.{list_any}
use Rattle.std.specs.Str.{bytes_eq}
use Rattle.cb_scan.specs.declared.lex.token.Role.{Role}
use Rattle.cb_scan.specs.declared.lex.token.Role.TheVariants.{Word, Mark, Str, Other}
use Rattle.cb_scan.specs.declared.lex.token.Token.{Token}
use Rattle.cb_scan.specs.declared.lex.token.WordKind.{WordKind}
use Rattle.cb_scan.specs.declared.lex.token.WordKind.TheVariants.{Name, Define, Include, Typedef}
use Rattle.cb_scan.specs.declared.lex.token.WordKind.TheVariants.{Extern, Static, Struct, Union}
use Rattle.cb_scan.specs.declared.lex.token.WordKind.TheVariants.{Enum, Reserved}
use Rattle.cb_scan.specs.declared.rules.wide.role.WideRole.{WideRole}
use Rattle.cb_scan.specs.declared.rules.wide.role.WideRole.TheVariants as wide
use Rattle.cb_scan.specs.lex.Lexeme.{first_is}
use Rattle.cb_scan.specs.lex.Tokens.{bytes_of}
use Rattle.cb_scan.specs.Bytes.{apostrophe}

-- the specifiers that have no role of their own; `extern`, `static` and `typedef` are others
unfoldable pub specifier_words : List (List ℕ)
specifier_words =
    codes "auto" ∷ codes "const" ∷ codes "inline" ∷ codes "register" ∷ codes "restrict"
    ∷ codes "volatile" ∷ codes "_Noreturn" ∷ codes "_Thread_local" ∷ codes "__extension__" ∷ []

-- the words that stand in statements and in no declaration
unfoldable pub statement_words : List (List ℕ)
statement_words =
    codes "break" ∷ codes "case" ∷ codes "continue" ∷ codes "default" ∷ codes "do" ∷ codes "else"
    ∷ codes "for" ∷ codes "goto" ∷ codes "if" ∷ codes "return" ∷ codes "sizeof" ∷ codes "switch"
    ∷ codes "while" ∷ []

-- the words that begin an attribute whatever stands in its parentheses
unfoldable pub attribute_words : List (List ℕ)
attribute_words = codes "__attribute__" ∷ codes "__declspec" ∷ codes "_Alignas" ∷ []

-- one of the words
abbrev pub is_among : List (List ℕ) → List ℕ → Bool
is_among words word = list_any (λ w. bytes_eq w word) words

-- what a reserved word is for which the standard profile has no rule
unfoldable pub reserved_role : List ℕ → WideRole
reserved_role word =
    if is_among attribute_words word then wide.Attribute
    else (if is_among specifier_words word then wide.Specifier
    else (if is_among statement_words word then wide.Statement
    else wide.Reserved))

-- a name, by whether it begins with two underscores
abbrev pub name_role : List ℕ → WideRole
name_role word = if bytes_eq (take 2 word) (codes "__") then wide.Underscored else wide.Name

-- what a word is
abbrev pub word_role : WordKind → List ℕ → WideRole
word_role Name word = name_role word
word_role Define word = name_role word
word_role Include word = name_role word
word_role Typedef word = wide.Typedef
word_role Extern word = wide.Extern
word_role Static word = wide.Static
word_role Struct word = wide.Struct
word_role Union word = wide.Union
word_role Enum word = wide.Enum
word_role Reserved word = reserved_role word

-- what a token with these bytes is; what is neither word, mark nor string is a number or, where it
-- begins with an apostrophe, a character constant
abbrev pub role_from : Role → List ℕ → WideRole
role_from (Word kind) bytes = word_role kind bytes
role_from (Mark b) bytes = wide.Mark b
role_from Str bytes = wide.Str
role_from Other bytes =
    if first_is (λ b. b == apostrophe) bytes then wide.Character else wide.Number

-- what a token of a text is
abbrev pub wide_role : List ℕ → Token → WideRole
wide_role text t = role_from t.role (bytes_of text t.span)

-- ---- what a role is

-- the lone byte b
abbrev pub is_sign : ℕ → WideRole → Bool
is_sign b (wide.Mark x) = x == b
is_sign b _ = false

-- a name, which is not reserved
abbrev pub is_wide_name : WideRole → Bool
is_wide_name wide.Name = true
is_wide_name wide.Underscored = true
is_wide_name _ = false

-- a name that begins with two underscores
abbrev pub is_underscored : WideRole → Bool
is_underscored wide.Underscored = true
is_underscored _ = false

-- a string
abbrev pub is_text : WideRole → Bool
is_text wide.Str = true
is_text _ = false

-- a number or a string, with which no list of parameters begins
abbrev pub is_literal : WideRole → Bool
is_literal wide.Number = true
is_literal wide.Str = true
is_literal _ = false

-- a word, reserved or not
abbrev pub is_wide_word : WideRole → Bool
is_wide_word wide.Str = false
is_wide_word wide.Number = false
is_wide_word wide.Character = false
is_wide_word (wide.Mark x) = false
is_wide_word _ = true

-- a word that begins an attribute whatever follows its `(`
abbrev pub is_attribute_word : WideRole → Bool
is_attribute_word wide.Attribute = true
is_attribute_word _ = false

-- `struct`, `union` or `enum`
abbrev pub is_keyword : WideRole → Bool
is_keyword wide.Struct = true
is_keyword wide.Union = true
is_keyword wide.Enum = true
is_keyword _ = false

-- `typedef`; `extern`; `static`
abbrev pub is_typedef_word : WideRole → Bool
is_typedef_word wide.Typedef = true
is_typedef_word _ = false

abbrev pub is_extern_word : WideRole → Bool
is_extern_word wide.Extern = true
is_extern_word _ = false

abbrev pub is_static_word : WideRole → Bool
is_static_word wide.Static = true
is_static_word _ = false

-- a specifier: it says nothing of the type
abbrev pub is_specifier : WideRole → Bool
is_specifier wide.Specifier = true
is_specifier wide.Typedef = true
is_specifier wide.Extern = true
is_specifier wide.Static = true
is_specifier _ = false

-- a word of a statement
abbrev pub is_statement_word : WideRole → Bool
is_statement_word wide.Statement = true
is_statement_word _ = false
