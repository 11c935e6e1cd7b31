-- The prototypes of short texts, computed.
use Rattle.std.specs.Prelude.{◌≡◌, [], ◌∷◌, ◌++◌, codes, refl}
use Rattle.cb_scan.specs.examples.Wide.{rows, seeing}

-- `h` is in parentheses; `ATTR(1)` is an attribute; `j` is not typed
pub prototypes : rows (codes "int f(void), *g(int (*h)(int)); static void i(char *) ATTR(1); j(k);")
    ≡ codes "p f" ∷ codes "p g" ∷ codes "p i !" ∷ []
unfolding seeing
prototypes = refl

-- a pointer that is called; one that is not; a name in parentheses
pub names_in_parentheses
    : rows (codes "int (*signal(int a))(int); int (*p)(int); int (lua_f) (int a);")
    ≡ codes "p signal" ∷ codes "v p" ∷ codes "p lua_f" ∷ []
unfolding seeing
names_in_parentheses = refl

-- double parentheses after a name; an attribute by its string
pub macros_around_parameters
    : rows (codes "extern int inflate OF((int a)); printflike(1, 2) void w(char *, ...);")
    ≡ codes "p inflate" ∷ codes "p w" ∷ []
unfolding seeing
macros_around_parameters = refl

-- what stands after `*` alone counts; a stray `.` and a stray `for`
pub macros_as_types
    : rows (codes "STACK_OF(X) *f(int); static STACK_OF(X) *g = 0; x.y = 1; for (i = 0; i <"
    ++ codes " N; i++) h(i);")
    ≡ codes "p f" ∷ codes "v g !" ∷ []
unfolding seeing
macros_as_types = refl
