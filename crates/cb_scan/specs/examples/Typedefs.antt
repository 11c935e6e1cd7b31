-- The names that short typedefs define, computed.
use Rattle.std.specs.Prelude.{◌≡◌, ℕ, List, [], ◌∷◌, codes, map, refl}
use Rattle.cb_scan.specs.rules.Code.{code}
use Rattle.cb_scan.specs.examples.Functions.{finding}
use Rattle.cb_scan.specs.lex.Tokens.{bytes_of}
use Rattle.cb_scan.specs.rules.Typedefs.{last_name, name_after_stars, nested, pointer_name}
use Rattle.cb_scan.specs.rules.Typedefs.{typedefs}
use Rattle.cb_scan.specs.steps.Cut.{pieces}

-- the names
abbrev names : List ℕ → List (List ℕ)
names text = map (λ t. bytes_of text t.span) (typedefs (code text (pieces text)))

-- `unfolding naming` opens how the names of typedefs are found
unfoldable pub naming : Unit {0}
unfolding finding last_name name_after_stars nested pointer_name
naming = tt

pub one_name : names (codes "typedef int a;") ≡ codes "a" ∷ []
unfolding naming
one_name = refl

-- parts by commas, an array, a pointer
pub parts_of_one : names (codes "typedef a b, *c, d[e];") ≡ codes "b" ∷ codes "c" ∷ codes "d" ∷ []
unfolding naming
parts_of_one = refl

-- the name after `(` and `*`s goes before the last name
pub pointer_to_function : names (codes "typedef int (**f)(a, b);") ≡ codes "f" ∷ []
unfolding naming
pointer_to_function = refl

-- the first name that directly follows such a `*`; a comma in parentheses parts nothing
pub inner_pointer : names (codes "typedef int (*(*f)(void))(int, a), q;")
    ≡ codes "f" ∷ codes "q" ∷ []
unfolding naming
inner_pointer = refl

-- no name directly follows this `*`
pub const_pointer : names (codes "typedef int (*const p)(void);") ≡ []
unfolding naming
const_pointer = refl

-- parameters are in parentheses
pub function_type : names (codes "typedef int f(int a, int b);") ≡ codes "f" ∷ []
unfolding naming
function_type = refl

-- braces and what is in them is not taken
pub structure : names (codes "typedef struct s { int x, y; } t;") ≡ codes "t" ∷ []
unfolding naming
structure = refl

-- no `;` ends it
pub not_ended : names (codes "typedef int a") ≡ []
unfolding naming
not_ended = refl

-- a `typedef` that does not follow a stop is part of the one before it
pub one_typedef : names (codes "typedef struct { int x; } A typedef int B;") ≡ codes "B" ∷ []
unfolding naming
one_typedef = refl

-- another begins after a stop, before a `;` ends this one
pub another_begins : names (codes "typedef s { } typedef a b;") ≡ codes "b" ∷ []
unfolding naming
another_begins = refl

-- `typedef` elsewhere begins none
pub not_first : names (codes "int typedef a;") ≡ []
unfolding naming
not_first = refl

-- nothing is open at the comma
pub stray_closing : names (codes "typedef int ), A;") ≡ codes "A" ∷ []
unfolding naming
stray_closing = refl

-- a typedef at depth 1 takes what follows at depth 0
pub begun_deep : names (codes "f() { extern \"C\" { typedef int A; } B;") ≡ codes "B" ∷ []
unfolding naming
begun_deep = refl
