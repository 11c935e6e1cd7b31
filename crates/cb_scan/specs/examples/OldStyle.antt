-- The functions in the old style of short texts, computed.
use Rattle.std.specs.Prelude.{◌≡◌, true, false, [], ◌∷◌, codes, refl}
use Rattle.cb_scan.specs.examples.Functions.{ends, finding, names, statics}

-- one declaration
pub one_declared : names (codes "int f(a) int a; {") ≡ codes "f" ∷ []
unfolding finding
one_declared = refl

-- the opening goes on to its first `;`, and declarations follow
pub two_declared : names (codes "int f(a, b)\nint a;\nchar *b, c[2];\n{") ≡ codes "f" ∷ []
unfolding finding
two_declared = refl

-- the body ends as any other
pub old_body : ends (codes "f(a) int a; { { } } g(") ≡ 10 ∷ []
unfolding finding
old_body = refl

-- what stands before the last stop that is no `;` does not count
pub after_function : names (codes "f(a) int a; { } int b; {") ≡ codes "f" ∷ []
unfolding finding
after_function = refl

pub after_linkage : names (codes "f(a) int a; extern \"C\" { int b; {") ≡ []
unfolding finding
after_linkage = refl

-- parentheses without a name in them open nothing, and `f` is no declaration of types
pub no_names : names (codes "int f() int a; {") ≡ []
unfolding finding
no_names = refl

-- the first called name alone is looked at
pub macro_before : names (codes "FOO(x) int f(a) int a; {") ≡ codes "FOO" ∷ []
unfolding finding
macro_before = refl

-- neither types nor a comma too many are a list of names
pub typed : names (codes "int f(int a) int b; {") ≡ []
unfolding finding
typed = refl

pub comma_twice : names (codes "int f(a,,b) int a; {") ≡ []
unfolding finding
comma_twice = refl

pub comma_last : names (codes "int f(a,) int a; {") ≡ []
unfolding finding
comma_last = refl

pub no_comma : names (codes "int f(a b) int a; {") ≡ []
unfolding finding
no_comma = refl

pub not_closed : names (codes "int f(a, int b; {") ≡ []
unfolding finding
not_closed = refl

-- after `)` stands a word, reserved or not
pub no_word : names (codes "int f(a); {") ≡ []
unfolding finding
no_word = refl

pub star_after : names (codes "f(a) *a; {") ≡ []
unfolding finding
star_after = refl

pub typedef_after : names (codes "f(a) typedef b; {") ≡ codes "f" ∷ []
unfolding finding
typedef_after = refl

-- an opening has no `=`, and does not begin with `typedef`
pub equals_in_opening : names (codes "f(a) int a = 1; {") ≡ []
unfolding finding
equals_in_opening = refl

pub typedef_first : names (codes "typedef f(a) int a; {") ≡ []
unfolding finding
typedef_first = refl

-- nor does a declaration
pub equals_in_declaration : names (codes "f(a) int a; int b = 1; {") ≡ []
unfolding finding
equals_in_declaration = refl

pub typedef_between : names (codes "f(a) int a; typedef int b; {") ≡ []
unfolding finding
typedef_between = refl

-- a declaration begins with a word
pub no_word_first : names (codes "f(a) int a; *b; {") ≡ []
unfolding finding
no_word_first = refl

pub empty_segment : names (codes "f(a) int a; ; {") ≡ []
unfolding finding
empty_segment = refl

-- the nearest opening names the function
pub two_openings : names (codes "f(a) int a; g(b) int b; int c; {") ≡ codes "g" ∷ []
unfolding finding
two_openings = refl

-- a segment is tried as an opening before it is tried as a declaration
pub opening_first : names (codes "f(a) int a; g(b) int c; {") ≡ codes "g" ∷ []
unfolding finding
opening_first = refl

-- a head that is not empty is tried alone
pub head_goes_first : names (codes "f(a) int a; int b {") ≡ []
unfolding finding
head_goes_first = refl

-- directives do not part segments
pub directive_between : names (codes "f(a)\n#if 1\nint a;\n#endif\n{") ≡ codes "f" ∷ []
unfolding finding
directive_between = refl

-- `static` counts in the opening alone
pub static_opening : statics (codes "static f(a) int a; { } g(a) int a; {") ≡ true ∷ false ∷ []
unfolding finding
static_opening = refl

pub static_declaration : statics (codes "f(a) int a; static int b; {") ≡ false ∷ []
unfolding finding
static_declaration = refl
