-- The functions and typedefs of short texts by the wide profile, computed.
use Rattle.std.specs.Prelude.{◌≡◌, [], ◌∷◌, ◌++◌, codes, refl}
use Rattle.cb_scan.specs.examples.Wide.{rows, seeing}

-- a structure that a function gives has no body
pub no_body : rows (codes "struct t f(void) { struct t u; if (x) { return u; } }")
    ≡ codes "f f" ∷ []
unfolding seeing
no_body = refl

-- nothing between the name of a function and its end is a variable
pub old_style
    : rows (codes "int f(a, b) int a; char *b; { int c; extern int d; struct s { int m; } e"
    ++ codes "; }")
    ≡ codes "f f" ∷ codes "s s" ∷ codes "m m struct:s" ∷ []
unfolding seeing
old_style = refl

-- a declaration ends with the body of a function
pub two_heads : rows (codes "#if X\nint a(void)\n#else\nint a(int b)\n#endif\n{ int c; }\nint d;")
    ≡ codes "f a" ∷ codes "v d" ∷ []
unfolding seeing
two_heads = refl

-- an attribute does not name a function
pub attribute_before_a_function : rows (codes "NO_SANITIZE(\"x\") int f(void) { }")
    ≡ codes "f f" ∷ []
unfolding seeing
attribute_before_a_function = refl

-- the name of a prototype; without one the first called name
pub functions_named_as_prototypes
    : rows (codes "static STACK_OF(X) *f(int a) { } TEST(x) { } main() { }")
    ≡ codes "f f !" ∷ codes "f TEST" ∷ codes "f main" ∷ []
unfolding seeing
functions_named_as_prototypes = refl

-- the name of a prototype, or that of a part
pub typedefs_named_as_prototypes
    : rows (codes "typedef void (a)(int); typedef int (*b) OF((int)); typedef int c(int (*d"
    ++ codes ")(void)), *e;")
    ≡ codes "t a" ∷ codes "t b" ∷ codes "t c" ∷ codes "t e" ∷ []
unfolding seeing
typedefs_named_as_prototypes = refl

-- words before and after the name of a prototype do not hide it
pub typedefs_among_macros
    : rows (codes "typedef void handler(int) UNUSED; typedef void cb(void *p) __unused, *cbp;"
    ++ codes " typedef NTSTATUS NTAPI DRIVER_INITIALIZE(int);")
    ≡ codes "t handler" ∷ codes "t cb" ∷ codes "t cbp" ∷ codes "t DRIVER_INITIALIZE" ∷ []
unfolding seeing
typedefs_among_macros = refl

-- the last of the words and stars in parentheses
pub typedefs_of_called_pointers
    : rows (codes "typedef int (WINAPI *pf)(void); typedef GLboolean (APIENTRYP PFNX)(GLuin"
    ++ codes "t);")
    ≡ codes "t pf" ∷ codes "t PFNX" ∷ []
unfolding seeing
typedefs_of_called_pointers = refl

-- a macro before it does not hide a typedef
pub typedef_after_a_macro : rows (codes "G_BEGIN_DECLS\ntypedef struct _T T;") ≡ codes "t T" ∷ []
unfolding seeing
typedef_after_a_macro = refl
