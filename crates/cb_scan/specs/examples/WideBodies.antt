-- What bodies of structures, unions and enumerations define in short texts, computed.
use Rattle.std.specs.Prelude.{◌≡◌, [], ◌∷◌, ◌++◌, codes, refl}
use Rattle.cb_scan.specs.examples.Wide.{rows, seeing}

-- the comma inside the call of a macro is not outside of parentheses
pub enumerators : rows (codes "enum e { A, B = 3, C = F(1, x) };")
    ≡ codes "g e" ∷ codes "e A enum:e" ∷ codes "e B enum:e" ∷ codes "e C enum:e" ∷ []
unfolding seeing
enumerators = refl

-- `(` directly follows `KEY`, and `LEFT` follows no comma
pub made_by_macros : rows (codes "enum { KEY(UP), KEY(DOWN) LEFT, END };") ≡ codes "e END" ∷ []
unfolding seeing
made_by_macros = refl

-- directives do not part tokens; without a tag there is none beside the names
pub enumerators_between_directives : rows (codes "typedef enum { A\n#if X\n, B\n#endif\n} T;")
    ≡ codes "e A" ∷ codes "e B" ∷ codes "t T" ∷ []
unfolding seeing
enumerators_between_directives = refl

-- a name stands before a value; `uint32_t` is not typed
pub bit_fields : rows (codes "struct s { unsigned a : 3, : 0, b : 2; uint32_t : 5; };")
    ≡ codes "s s" ∷ codes "m a struct:s" ∷ codes "m b struct:s" ∷ []
unfolding seeing
bit_fields = refl

-- pointers and arrays; `const` is no name
pub members : rows (codes "struct s { int *p, q[N], (*f)(int, char), (*const c)(void); };")
    ≡ codes "s s" ∷ codes "m p struct:s" ∷ codes "m q struct:s" ∷ codes "m f struct:s"
    ∷ codes "m c struct:s" ∷ []
unfolding seeing
members = refl

-- bodies without a tag take that of the body around
pub nested_bodies
    : rows (codes "struct s { struct { int a; union { int b; } u; }; struct t { int c; } d;"
    ++ codes " };")
    ≡ codes "s s" ∷ codes "m a struct:s" ∷ codes "m b struct:s" ∷ codes "m u struct:s"
    ∷ codes "s t" ∷ codes "m c struct:t" ∷ codes "m d struct:s" ∷ []
unfolding seeing
nested_bodies = refl

-- a type that is defined for a body without a tag is no tag
pub typedef_of_a_body : rows (codes "typedef struct { int a; enum g { A } k; } T;")
    ≡ codes "m a" ∷ codes "g g" ∷ codes "e A enum:g" ∷ codes "m k" ∷ codes "t T" ∷ []
unfolding seeing
typedef_of_a_body = refl

-- `(8)` makes an attribute; `link` is the last candidate; `(` follows `DECLARE_BITMAP`; `__packed`
-- follows `]`
pub macros_in_members
    : rows (codes "struct s { TAILQ_ENTRY(s) link; DECLARE_BITMAP(map, 8); int a __aligned("
    ++ codes "8); char b[2] __packed; };")
    ≡ codes "s s" ∷ codes "m link struct:s" ∷ codes "m a struct:s" ∷ codes "m b struct:s" ∷ []
unfolding seeing
macros_in_members = refl

-- an attribute is left out; `__packed` directly follows a brace
pub attribute_before_the_tag : rows (codes "struct __attribute__((packed)) s { int a; } __packed;")
    ≡ codes "s s" ∷ codes "m a struct:s" ∷ []
unfolding seeing
attribute_before_the_tag = refl

-- so is a word with a number in parentheses
pub attribute_by_a_number : rows (codes "struct __aligned(8) s { int a; };")
    ≡ codes "s s" ∷ codes "m a struct:s" ∷ []
unfolding seeing
attribute_by_a_number = refl

-- a macro without `;` does not hide the structure after it
pub macro_before_a_body : rows (codes "OBJECT_DECLARE(A, B)\nstruct s { int a; };")
    ≡ codes "s s" ∷ codes "m a struct:s" ∷ []
unfolding seeing
macro_before_a_body = refl

-- what directly follows `struct` is no variable; `foo_t` is not typed
pub tags_without_bodies
    : rows (codes "struct s; struct s *p; struct s; enum e v; struct s { foo_t; struct t; }"
    ++ codes ";")
    ≡ codes "v p" ∷ codes "v v" ∷ codes "s s" ∷ []
unfolding seeing
tags_without_bodies = refl
