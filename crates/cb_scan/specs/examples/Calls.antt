-- The calls in short texts, computed.
use Rattle.std.specs.Prelude.{◌≡◌, ℕ, List, [], ◌∷◌, codes, map, refl}
use Rattle.cb_scan.specs.Definitions.{calls}
use Rattle.cb_scan.specs.examples.Macros.{expanding}
use Rattle.cb_scan.specs.Order.{in_order, put}
use Rattle.cb_scan.specs.lex.Tokens.{bytes_of}
use Rattle.cb_scan.specs.rules.Uses.{calls_among}
use Rattle.cb_scan.specs.steps.Cut.{pieces}

-- a call: the called name, and the name of the function or macro that calls it
record Named : Type 0 where
  callee : List ℕ
  caller : List ℕ

abbrev by : List ℕ → List ℕ → Named
by caller callee = record { callee = callee; caller = caller }

-- the calls of a text
abbrev called : List ℕ → List Named
called text = map (λ c. by (bytes_of text c.caller) (bytes_of text c.callee))
    (calls text (pieces text))

-- `unfolding calling` opens how calls are found
unfoldable pub calling : Unit {0}
unfolding expanding calls calls_among in_order put
calling = tt

-- a name directly followed by `(`, in the body of a function
pub in_body : called (codes "f(a(b)) { g(h(1)); i; }")
    ≡ by (codes "f") (codes "g") ∷ by (codes "f") (codes "h") ∷ []
unfolding calling
in_body = refl

-- outside bodies nothing calls
pub outside : called (codes "int x = g(1);") ≡ []
unfolding calling
outside = refl

-- the `(` may be on the next line, and a comment between
pub paren_on_next_line : called (codes "f() { g /**/\n(1); }") ≡ by (codes "f") (codes "g") ∷ []
unfolding calling
paren_on_next_line = refl

-- a reserved word calls nothing
pub reserved_word : called (codes "f() { if (a) return (b); }") ≡ []
unfolding calling
reserved_word = refl

-- nor do comments, strings and `#if` lines
pub no_code : called (codes "f() { /* g() */ \"h()\";\n#if i()\n}") ≡ []
unfolding calling
no_code = refl

-- the body of a macro with arguments
pub in_macro : called (codes "#define F(x) g(x) h\n") ≡ by (codes "F") (codes "g") ∷ []
unfolding calling
in_macro = refl

-- by place, also where a macro is in a function
pub by_place : called (codes "f() { a();\n#define G() b()\nc(); }")
    ≡ by (codes "f") (codes "a") ∷ by (codes "G") (codes "b") ∷ by (codes "f") (codes "c") ∷ []
unfolding calling
by_place = refl
