-- The uses of names in short texts, and the scopes of places, computed.
use Rattle.std.specs.Prelude.{◌≡◌, ℕ, List, [], ◌∷◌, Option, Some, None, codes, map, refl}
use Rattle.std.specs.Option.{option_map}
use Rattle.cb_scan.specs.examples.Macros.{expanding}
use Rattle.cb_scan.specs.rules.Scope.{scope}
use Rattle.cb_scan.specs.lex.Tokens.{bytes_of}
use Rattle.cb_scan.specs.rules.Uses.{uses}
use Rattle.cb_scan.specs.steps.Cut.{pieces}

-- the names used
abbrev names : List ℕ → List (List ℕ)
names text = map (λ u. bytes_of text u.name) (uses text (pieces text))

-- their lines
abbrev lines_of_names : List ℕ → List ℕ
lines_of_names text = map (λ u. u.line) (uses text (pieces text))

-- the name of the macro or function around a place
abbrev around : List ℕ → ℕ → Option (List ℕ)
around text place = option_map (bytes_of text) (scope text (pieces text) place)

-- `unfolding using_names` opens how uses are found
unfoldable pub using_names : Unit {0}
unfolding expanding uses
using_names = tt

-- reserved words are no names
pub names_of_code : names (codes "int x = y;") ≡ codes "x" ∷ codes "y" ∷ []
unfolding using_names
names_of_code = refl

-- comments and literals hold no names
pub comment_and_literals : names (codes "/*a*/ \"b\" 'c' d //e") ≡ codes "d" ∷ []
unfolding using_names
comment_and_literals = refl

-- the own word of a directive is no use, and all names after it are
pub directive_names : names (codes "#define F(a) G\n#if A\n# 3 b")
    ≡ codes "F" ∷ codes "a" ∷ codes "G" ∷ codes "A" ∷ codes "b" ∷ []
unfolding using_names
directive_names = refl

-- nothing of an include is a use
pub include_names : names (codes "#include <a.h> b\nc") ≡ codes "c" ∷ []
unfolding using_names
include_names = refl

-- outside directives `define` and `include` are names as any other
pub own_words_in_code : names (codes "define include") ≡ codes "define" ∷ codes "include" ∷ []
unfolding using_names
own_words_in_code = refl

pub lines_of_uses : lines_of_names (codes "a\n\nb") ≡ 1 ∷ 3 ∷ []
unfolding using_names
lines_of_uses = refl

-- ---- scopes

-- the range of a function begins with its name and ends after its `}`
pub before_function : around (codes "int f() { a; } b") 0 ≡ None
unfolding using_names
before_function = refl

pub at_function_name : around (codes "int f() { a; } b") 4 ≡ Some (codes "f")
unfolding using_names
at_function_name = refl

pub in_function : around (codes "int f() { a; } b") 10 ≡ Some (codes "f")
unfolding using_names
in_function = refl

pub after_function : around (codes "int f() { a; } b") 15 ≡ None
unfolding using_names
after_function = refl

-- a body that no `}` ends goes to the end of the text
pub in_open_function : around (codes "f() { a") 6 ≡ Some (codes "f")
unfolding using_names
in_open_function = refl

-- a macro goes before the function around it
pub macro_in_function : around (codes "f() {\n#define G() a\n}") 18 ≡ Some (codes "G")
unfolding using_names
macro_in_function = refl

-- and ends with its line
pub after_macro : around (codes "f() {\n#define G() a\nb }") 20 ≡ Some (codes "f")
unfolding using_names
after_macro = refl
