-- The macros of short texts, computed.
use Rattle.std.specs.Prelude.{◌≡◌, ℕ, List, [], ◌∷◌, codes, map, refl}
use Rattle.std.specs.List.{flat_map}
use Rattle.cb_scan.specs.examples.Functions.{finding}
use Rattle.cb_scan.specs.rules.Macros.{after_arguments, macro_names, macros, plain_macro_of}
use Rattle.cb_scan.specs.rules.Code.{directives}
use Rattle.cb_scan.specs.rules.Scope.{macro_ranges}
use Rattle.cb_scan.specs.lex.Tokens.{bytes_of}
use Rattle.cb_scan.specs.steps.Cut.{pieces}

-- the names of the macros with arguments
abbrev names : List ℕ → List (List ℕ)
names text = map (λ m. bytes_of text m.name.span) (macros text (pieces text))

-- the names of those without
abbrev plain_names : List ℕ → List (List ℕ)
plain_names text =
    map (λ t. bytes_of text t.span) (flat_map plain_macro_of (directives text (pieces text)))

-- the names of both
abbrev all_names : List ℕ → List (List ℕ)
all_names text = map (λ t. bytes_of text t.span) (macro_names text (pieces text))

-- the tokens of their bodies
abbrev bodies : List ℕ → List (List (List ℕ))
bodies text = map (λ m. map (λ t. bytes_of text t.span) m.body) (macros text (pieces text))

-- where their ranges end
abbrev ends : List ℕ → List ℕ
ends text = map (λ r. r.end) (macro_ranges text (pieces text))

-- `unfolding expanding` opens how macros are found
unfoldable pub expanding : Unit {0}
unfolding finding after_arguments
expanding = tt

pub with_arguments : names (codes "#define F(x) x\n") ≡ codes "F" ∷ []
unfolding expanding
with_arguments = refl

-- a blank parts the name from its `(`
pub blank_before_paren : names (codes "#define F (x)\n") ≡ []
unfolding expanding
blank_before_paren = refl

pub without_arguments : names (codes "#define F 1\n") ≡ []
unfolding expanding
without_arguments = refl

-- comments are no tokens
pub comment_before_own_word : names (codes "# /**/ define /**/ F() 1") ≡ codes "F" ∷ []
unfolding expanding
comment_before_own_word = refl

-- a reserved word is no name
pub reserved_name : names (codes "#define if(x) x") ≡ []
unfolding expanding
reserved_name = refl

-- the body is what follows the first `)`
pub body_tokens : bodies (codes "#define F(x) (x)+1\ny")
    ≡ (codes "(" ∷ codes "x" ∷ codes ")" ∷ codes "+" ∷ codes "1" ∷ []) ∷ []
unfolding expanding
body_tokens = refl

-- `\` LF goes on with the line
pub joined_body : bodies (codes "#define F() a\\\nb\nc") ≡ (codes "a" ∷ codes "b" ∷ []) ∷ []
unfolding expanding
joined_body = refl

-- the range ends before the newline, after a comment that is no token
pub range_after_comment : ends (codes "#define F() a /**/\nb") ≡ 18 ∷ []
unfolding expanding
range_after_comment = refl

-- or at the end of the text
pub range_at_end : ends (codes "#define F() a ") ≡ 14 ∷ []
unfolding expanding
range_at_end = refl

-- ---- without arguments
pub plain : plain_names (codes "#define F 1\n#define G\n") ≡ codes "F" ∷ codes "G" ∷ []
unfolding expanding
plain = refl

-- a `(` that does not begin where the name ends opens no arguments
pub plain_before_paren : plain_names (codes "#define F (x)\n") ≡ codes "F" ∷ []
unfolding expanding
plain_before_paren = refl

pub plain_before_join : plain_names (codes "#define F\\\n(x)\n") ≡ codes "F" ∷ []
unfolding expanding
plain_before_join = refl

pub not_plain : plain_names (codes "#define F(x) 1\n") ≡ []
unfolding expanding
not_plain = refl

-- neither a reserved word nor a number is a name
pub plain_reserved : plain_names (codes "#define if 1\n#define 1 F\n#define") ≡ []
unfolding expanding
plain_reserved = refl

pub other_directive : plain_names (codes "#undef F\ndefine G") ≡ []
unfolding expanding
other_directive = refl

-- by place, and none twice
pub both_sorts : all_names (codes "#define F 1\n#define G(x) x\n#define H")
    ≡ codes "F" ∷ codes "G" ∷ codes "H" ∷ []
unfolding expanding
both_sorts = refl

-- it has no range
pub no_range : ends (codes "#define F 1\n") ≡ []
unfolding expanding
no_range = refl
