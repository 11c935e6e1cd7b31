-- The names of structures, unions and enumerations in short texts, computed.
use Rattle.std.specs.Prelude.{◌≡◌, ℕ, List, [], ◌∷◌, codes, map, refl}
use Rattle.cb_scan.specs.declared.facts.Kind.{Kind}
use Rattle.cb_scan.specs.declared.facts.Kind.TheVariants.{Typedef, Struct, Union, Enum}
use Rattle.cb_scan.specs.Definitions.{definitions, definitions_from}
use Rattle.cb_scan.specs.Order.{in_order, put}
use Rattle.cb_scan.specs.examples.Macros.{expanding}
use Rattle.cb_scan.specs.examples.Typedefs.{naming}
use Rattle.cb_scan.specs.rules.Code.{code}
use Rattle.cb_scan.specs.rules.Structures.{structures}
use Rattle.cb_scan.specs.lex.Tokens.{bytes_of}
use Rattle.cb_scan.specs.steps.Cut.{pieces}

-- the names
abbrev names : List ℕ → List (List ℕ)
names text = map (λ s. bytes_of text s.name.span) (structures (code text (pieces text)))

-- which of the three each is
abbrev kinds : List ℕ → List Kind
kinds text = map (λ s. s.kind) (structures (code text (pieces text)))

-- the kinds of all definitions of a text
abbrev all_kinds : List ℕ → List Kind
all_kinds text = map (λ d. d.kind) (definitions text)

-- `unfolding ordering` opens how all definitions are found
unfoldable ordering : Unit {0}
unfolding expanding naming definitions_from in_order put
ordering = tt

pub structure : names (codes "struct s { int a; };") ≡ codes "s" ∷ []
unfolding naming
structure = refl

-- at any depth
pub nested_ones : names (codes "union u { enum g { A } a; };") ≡ codes "u" ∷ codes "g" ∷ []
unfolding naming
nested_ones = refl

pub nested_kinds : kinds (codes "union u { enum g { A } a; };") ≡ Union ∷ Enum ∷ []
unfolding naming
nested_kinds = refl

pub in_body : names (codes "f() { struct s { int a; } b;") ≡ codes "s" ∷ []
unfolding naming
in_body = refl

-- a name without `{` is a use
pub pointer : names (codes "struct s *p; struct s;") ≡ []
unfolding naming
pointer = refl

-- a structure may have no name
pub nameless : names (codes "struct { int a; } b;") ≡ []
unfolding naming
nameless = refl

-- nothing stands between the keyword, the name and the `{`
pub between : names (codes "struct A s { enum class g { union s B {") ≡ []
unfolding naming
between = refl

-- a reserved word is no name
pub reserved_name : names (codes "struct if { struct __attribute__ {") ≡ []
unfolding naming
reserved_name = refl

-- another keyword begins anew
pub keyword_twice : kinds (codes "struct union enum g {") ≡ Enum ∷ []
unfolding naming
keyword_twice = refl

-- a directive between does not part them
pub directive_between : names (codes "struct s\n#if 1\n{") ≡ codes "s" ∷ []
unfolding naming
directive_between = refl

-- a directive names none
pub in_directive : names (codes "#define S struct s {\n") ≡ []
unfolding naming
in_directive = refl

-- at one place a typedef stands before a structure
pub typedef_first : all_kinds (codes "typedef struct s { int a; };") ≡ Typedef ∷ Struct ∷ []
unfolding ordering
typedef_first = refl
