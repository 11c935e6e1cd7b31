-- The variables of short texts, computed.
use Rattle.std.specs.Prelude.{◌≡◌, [], ◌∷◌, codes, refl}
use Rattle.cb_scan.specs.examples.Wide.{rows, seeing}

-- each part by itself; `static` holds for all
pub statics : rows (codes "static int a, *b = &a, c[2] = { 1, 2 }, (*d)(int) = f;")
    ≡ codes "v a !" ∷ codes "v b !" ∷ codes "v c !" ∷ codes "v d !" ∷ []
unfolding seeing
statics = refl

-- the declaration goes on after the body
pub after_a_body : rows (codes "struct s { int a; } x, *y = 0;")
    ≡ codes "s s" ∷ codes "m a struct:s" ∷ codes "v x" ∷ codes "v y" ∷ []
unfolding seeing
after_a_body = refl

-- after `=` a brace is part of the value
pub initializer : rows (codes "static struct s x = { .a = 1, .b = { 2 } };") ≡ codes "v x !" ∷ []
unfolding seeing
initializer = refl

-- external without a value alone; a `{` that does not count ends a declaration
pub externals : rows (codes "extern int a, b = 1; extern \"C\" int c; extern \"C\" { int d; }")
    ≡ codes "x a" ∷ codes "v b" ∷ codes "x c" ∷ codes "v d" ∷ []
unfolding seeing
externals = refl

-- a trailing word; the last candidate; `__u32` is not typed, so `__c` is no trailing word
pub trailing_words
    : rows (codes "static int a __initdata = 1; static int __initdata b = 2; __u32 __c;")
    ≡ codes "v a !" ∷ codes "v b !" ∷ codes "v __c" ∷ []
unfolding seeing
trailing_words = refl

-- not typed, or called
pub macros_that_declare
    : rows (codes "DEFINE_X(a); static DEFINE_Y(b) = 1; LIST_HEAD(h, t) c; MACRO;")
    ≡ codes "v c" ∷ []
unfolding seeing
macros_that_declare = refl

-- `static` after `)` begins anew
pub missing_semicolon : rows (codes "INIT(A) = { 1 } END(A)\nstatic int b = 2;")
    ≡ codes "v b !" ∷ []
unfolding seeing
missing_semicolon = refl

-- a `}` in the first column inside a value
pub brace_in_the_first_column : rows (codes "struct s t[] = {\n{\n1,\n},\n{\n2,\n},\n};\nint z;")
    ≡ codes "v t" ∷ codes "v z" ∷ []
unfolding seeing
brace_in_the_first_column = refl

-- the body of a macro is no code
pub in_a_macro : rows (codes "#define S struct s { int a; } b;\nint c;")
    ≡ codes "d S" ∷ codes "v c" ∷ []
unfolding seeing
in_a_macro = refl

-- a `*` before the name makes a pointer of it
pub called_in_parentheses : rows (codes "static void (CALL *f)(int), (CALL g)(int);")
    ≡ codes "v f !" ∷ codes "p g !" ∷ []
unfolding seeing
called_in_parentheses = refl
