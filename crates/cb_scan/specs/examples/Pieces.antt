-- The pieces of short texts, computed.
use Rattle.std.specs.Prelude.{◌≡◌, ℕ, [], ◌∷◌, codes, refl}
use Rattle.std.proofs.Common.{arith, inr, lit≤}
use Rattle.cb_scan.specs.declared.lex.piece.Class.{Class}
use Rattle.cb_scan.specs.declared.lex.piece.Class.TheVariants.{Name, Number, Str, LineNote}
use Rattle.cb_scan.specs.declared.lex.piece.Class.TheVariants.{BlockNote, Blank, Newline, Byte}
use Rattle.cb_scan.specs.declared.lex.piece.Piece.{Piece}
use Rattle.cb_scan.specs.lex.Lexeme.{first_is, IsLexeme, not_closed, quoted_byte}
use Rattle.cb_scan.specs.steps.Cut.{ends_join, class_at, number_len, blank_len, comment_escape}
use Rattle.cb_scan.specs.steps.Cut.{ends_comment, comment_len, literal_escape, ends_literal}
use Rattle.cb_scan.specs.steps.Cut.{literal_len, block_len, length_in, pieces_from, pieces}

-- the piece of this class from one place to another
abbrev piece : Class → ℕ → ℕ → Piece
piece class i j = record { class = class; span = record { start = i; end = j } }

-- `unfolding cutting` opens how pieces are counted
unfoldable pub cutting : Unit {0}
unfolding first_is ends_join class_at number_len blank_len comment_escape ends_comment comment_len
    literal_escape ends_literal literal_len block_len length_in pieces_from
cutting = tt

-- `"a` LF `b`: a literal that isn't closed ends before the line's end
pub open_literal : pieces (34 ∷ 97 ∷ 10 ∷ 98 ∷ [])
    ≡ piece Str 0 2 ∷ piece Newline 2 3 ∷ piece Name 3 4 ∷ []
unfolding cutting
open_literal = refl

-- `"\\` LF: inside a literal `\\` is an item, and the LF isn't joined
pub escaped_backslash : pieces (34 ∷ 92 ∷ 92 ∷ 10 ∷ []) ≡ piece Str 0 3 ∷ piece Newline 3 4 ∷ []
unfolding cutting
escaped_backslash = refl

-- `\\` LF: outside a literal the second `\` joins
pub joining_backslash : pieces (92 ∷ 92 ∷ 10 ∷ []) ≡ piece Byte 0 1 ∷ piece Blank 1 3 ∷ []
unfolding cutting
joining_backslash = refl

-- `"a\` CR LF `b"`: a join inside a literal
pub joined_literal : pieces (34 ∷ 97 ∷ 92 ∷ 13 ∷ 10 ∷ 98 ∷ 34 ∷ []) ≡ piece Str 0 7 ∷ []
unfolding cutting
joined_literal = refl

-- `\` CR `A`: without an LF it is no join
pub lone_return : pieces (92 ∷ 13 ∷ 65 ∷ [])
    ≡ piece Byte 0 1 ∷ piece Blank 1 2 ∷ piece Name 2 3 ∷ []
unfolding cutting
lone_return = refl

pub signed_exponent : pieces (codes "1e+5.x") ≡ piece Number 0 6 ∷ []
unfolding cutting
signed_exponent = refl

pub sign_elsewhere : pieces (codes "1+5")
    ≡ piece Number 0 1 ∷ piece Byte 1 2 ∷ piece Number 2 3 ∷ []
unfolding cutting
sign_elsewhere = refl

pub leading_dot : pieces (codes ".5") ≡ piece Number 0 2 ∷ []
unfolding cutting
leading_dot = refl

pub lone_dot : pieces (codes ".x") ≡ piece Byte 0 1 ∷ piece Name 1 2 ∷ []
unfolding cutting
lone_dot = refl

pub open_comment : pieces (codes "/*a") ≡ piece BlockNote 0 3 ∷ []
unfolding cutting
open_comment = refl

-- the `*` that opens a comment doesn't close it
pub shared_star : pieces (codes "/*/") ≡ piece BlockNote 0 3 ∷ []
unfolding cutting
shared_star = refl

pub closed_comment : pieces (codes "/**/a") ≡ piece BlockNote 0 4 ∷ piece Name 4 5 ∷ []
unfolding cutting
closed_comment = refl

-- `//\` CR LF `b` LF: a line comment goes on after a join
pub joined_comment : pieces (47 ∷ 47 ∷ 92 ∷ 13 ∷ 10 ∷ 98 ∷ 10 ∷ [])
    ≡ piece LineNote 0 6 ∷ piece Newline 6 7 ∷ []
unfolding cutting
joined_comment = refl

-- `"a` before an LF is a literal
pub open_lexeme : IsLexeme Str (34 ∷ 97 ∷ 10 ∷ []) 2
open_lexeme = (
  refl,
  lit≤ tt,
  quoted_byte (λ e. omega arith) (λ e. omega arith) (λ e. omega arith) (not_closed (inr refl)),
)
