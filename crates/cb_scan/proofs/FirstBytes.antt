-- What the first byte of a piece says of its class.
use Rattle.std.proofs.Common.{◌≡◌, ◌∙◌, ◌<◌, ℕ, Bool, true, false, cond, List, [], ◌∷◌, refl, ap}
use Rattle.std.proofs.Common.{length, map, get_or, arith}
use Rattle.std.proofs.lemmas.List.FromFn.{get_or-map-range_with_len}
use Rattle.std.specs.Prelude.{◌||◌, ◌&&◌, ◌==◌, nat_eq}
use Rattle.std.specs.List.{range_with_len}
use Rattle.cb_scan.specs.declared.lex.lexeme.TheConstants.{FIRST}
use Rattle.cb_scan.specs.declared.lex.piece.Class.{Class}
use Rattle.cb_scan.specs.declared.lex.piece.Class.TheVariants.{Name, Number, Str, Chr, LineNote}
use Rattle.cb_scan.specs.declared.lex.piece.Class.TheVariants.{BlockNote, Blank, Newline, Byte}
use Rattle.cb_scan.specs.lex.Lexeme.{is_letter, is_digit, is_blank, first_is}
use Rattle.cb_scan.specs.Bytes.{apostrophe, backslash, dot, line_feed, quote, slash, star}
use Rattle.cb_scan.specs.steps.Cut.{begins, class_at, ends_join, first_code}

-- ---- the table has the code of each byte
table_is : FIRST ≡ map first_code (range_with_len 0 256)
unfolding first_code
table_is = refl

pub code_is : (b : ℕ) → b < 256 → get_or FIRST b 0 ≡ first_code b
code_is b below =
    ap (λ l. get_or l b 0) table_is ∙ get_or-map-range_with_len first_code 0 256 b b 0 below (omega arith)

-- ---- a code tells the class, but for 7
abbrev pub by_code : ℕ → Class → Class
by_code n c =
    cond (nat_eq n 0) Name (cond (nat_eq n 1) Blank (cond (nat_eq n 2) Newline (cond (nat_eq n 3) Number
    (cond (nat_eq n 4) Str (cond (nat_eq n 5) Chr (cond (nat_eq n 6) Byte c))))))

agree : (l p s k d q a b f fd bs bst ej : Bool)
    → cond l Name (cond (d || (p && fd)) Number (cond q Str (cond a Chr (cond (s && bs) LineNote
    (cond (s && bst) BlockNote (cond (b || (k && ej)) Blank (cond f Newline Byte)))))))
    ≡ by_code (cond l 0 (cond ((p || s) || k) 7 (cond d 3 (cond q 4 (cond a 5 (cond b 1 (cond f 2 6)))))))
    (cond l Name (cond (d || (p && fd)) Number (cond q Str (cond a Chr (cond (s && bs) LineNote
    (cond (s && bst) BlockNote (cond (b || (k && ej)) Blank (cond f Newline Byte))))))))
agree true p s k d q a b f fd bs bst ej = refl
agree false true s k d q a b f fd bs bst ej = refl
agree false false true k d q a b f fd bs bst ej = refl
agree false false false true d q a b f fd bs bst ej = refl
agree false false false false true q a b f fd bs bst ej = refl
agree false false false false false true a b f fd bs bst ej = refl
agree false false false false false false true b f fd bs bst ej = refl
agree false false false false false false false true f fd bs bst ej = refl
agree false false false false false false false false true fd bs bst ej = refl
agree false false false false false false false false false fd bs bst ej = refl

pub class_by_code : (text : List ℕ) → 0 < length text
    → class_at text ≡ by_code (first_code (get_or text 0 0)) (class_at text)
unfolding class_at first_code
class_by_code [] some = absurd (omega (arith, some))
class_by_code (b ∷ rest) some =
    agree (is_letter b) (b == dot) (b == slash) (b == backslash) (is_digit b) (b == quote)
    (b == apostrophe) (is_blank b) (b == line_feed) (first_is is_digit rest) (begins slash rest)
    (begins star rest) (ends_join rest)
