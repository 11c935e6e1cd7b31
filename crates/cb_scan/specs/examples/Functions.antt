-- The functions of short texts, computed.
use Rattle.std.specs.Prelude.{◌≡◌, ℕ, Bool, true, false, List, [], ◌∷◌, codes, map, refl}
use Rattle.cb_scan.specs.rules.Code.{code}
use Rattle.cb_scan.specs.rules.Depth.{depth, head_start}
use Rattle.cb_scan.specs.rules.Functions.{functions}
use Rattle.cb_scan.specs.rules.Heads.{ends_in_declarator, called_name}
use Rattle.cb_scan.specs.rules.OldStyle.{after_called, lists_names}
use Rattle.cb_scan.specs.examples.Pieces.{cutting}
use Rattle.cb_scan.specs.lex.Reserved.{is_reserved, reserved_words}
use Rattle.cb_scan.specs.steps.Cut.{pieces}
use Rattle.cb_scan.specs.lex.Tokens.{bytes_of, word_of}

-- the names of the functions of a text
abbrev pub names : List ℕ → List (List ℕ)
names text = map (λ f. bytes_of text f.name.span) (functions (code text (pieces text)))

-- the lines of their names
abbrev lines_of_names : List ℕ → List ℕ
lines_of_names text = map (λ f. f.name.line) (functions (code text (pieces text)))

-- which of them are static
abbrev pub statics : List ℕ → List Bool
statics text = map (λ f. f.local) (functions (code text (pieces text)))

-- the indices of the tokens that end their bodies
abbrev pub ends : List ℕ → List ℕ
ends text = map (λ f. f.end) (functions (code text (pieces text)))

-- `unfolding finding` opens how functions are found
unfoldable pub finding : Unit {0}
unfolding cutting depth head_start ends_in_declarator called_name after_called lists_names
    is_reserved
    reserved_words word_of
finding = tt

-- the `{` after `extern` and a string doesn't count, so `f` is at depth 0
pub linkage_block : names (codes "extern \"C\" {\nint f(int a) {") ≡ codes "f" ∷ []
unfolding finding
linkage_block = refl

-- nor where the string isn't closed
pub open_linkage : names (codes "extern \"C\n{ int f() {") ≡ codes "f" ∷ []
unfolding finding
open_linkage = refl

-- a prefix is a name and is between them: this `{` counts
pub prefixed_linkage : names (codes "extern L\"C\" { int f() {") ≡ []
unfolding finding
prefixed_linkage = refl

-- a directive between the two doesn't part them
pub directive_in_linkage : names (codes "extern \"C\"\n#if A\n{ int f() {") ≡ codes "f" ∷ []
unfolding finding
directive_in_linkage = refl

-- a `}` in the first column at depth 3 ends all
pub first_column : names (codes "f() {{{\n}\ng() {") ≡ codes "f" ∷ codes "g" ∷ []
unfolding finding
first_column = refl

-- in another column it takes one
pub other_column : names (codes "f() {{{\n }\ng() {") ≡ codes "f" ∷ []
unfolding finding
other_column = refl

-- a `}` at depth 0 is a stop
pub surplus_brace : names (codes "} f() {") ≡ codes "f" ∷ []
unfolding finding
surplus_brace = refl

pub typedef_head : names (codes "typedef int f(int a) {") ≡ []
unfolding finding
typedef_head = refl

pub equals_in_head : names (codes "int x = f(1) {") ≡ []
unfolding finding
equals_in_head = refl

-- no name is directly followed by `(`
pub in_parentheses : names (codes "int (f)(int a) {") ≡ []
unfolding finding
in_parentheses = refl

pub ends_in_reserved : names (codes "int f() const {") ≡ []
unfolding finding
ends_in_reserved = refl

pub structure : names (codes "struct s {") ≡ []
unfolding finding
structure = refl

-- a reserved word is no name
pub attribute_before : names (codes "__attribute__((a)) f() {") ≡ codes "f" ∷ []
unfolding finding
attribute_before = refl

-- the first name that `(` directly follows
pub macro_before : names (codes "FOO(x) int f(int a) {") ≡ codes "FOO" ∷ []
unfolding finding
macro_before = refl

-- an `#if` line in a body is no code: its `{` doesn't count
pub brace_in_directive : names (codes "f() {\n#if A {\n }\ng() {") ≡ codes "f" ∷ codes "g" ∷ []
unfolding finding
brace_in_directive = refl

pub directive_in_head : names (codes "int f()\n#if g() {\n{") ≡ codes "f" ∷ []
unfolding finding
directive_in_head = refl

-- comments and literals hold no code
pub comment_and_literal : names (codes "/*f(){*/ char c[2]; '{' \"{\" g() {") ≡ codes "g" ∷ []
unfolding finding
comment_and_literal = refl

pub nested_call : names (codes "f() { if (g()) { } } h() {") ≡ codes "f" ∷ codes "h" ∷ []
unfolding finding
nested_call = refl

-- the line is that of the name
pub line_of_name : lines_of_names (codes "/*\n*/ int\nf() {") ≡ 3 ∷ []
unfolding finding
line_of_name = refl

pub static_head : statics (codes "static f() { } g() {") ≡ true ∷ false ∷ []
unfolding finding
static_head = refl

pub static_before_stop : statics (codes "static int a; f() {") ≡ false ∷ []
unfolding finding
static_before_stop = refl

-- anywhere in the head
pub static_parameter : statics (codes "f(int a[static 2]) {") ≡ true ∷ []
unfolding finding
static_parameter = refl

-- the body ends at the `}` that leaves depth 0
pub closed_body : ends (codes "f() { { } }") ≡ 6 ∷ []
unfolding finding
closed_body = refl

-- or at the end of the code
pub open_body : ends (codes "f() { { }") ≡ 6 ∷ []
unfolding finding
open_body = refl
