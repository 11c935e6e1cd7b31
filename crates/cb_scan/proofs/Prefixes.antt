-- What the class at a place says of the bytes there, and the other way round.
use Rattle.std.proofs.Common.{◌≡◌, ◌⊎◌, ℕ, true, false, ◌==◌, ◌&&◌, ◌||◌, List, ◌∷◌, refl, sym}
use Rattle.std.proofs.Common.{subst, ◌∙◌, arith, ⊎_elim}
use Rattle.std.proofs.lemmas.Bool.{cond-true, cond-false, cond_both, eqb-true, and_parts, or_cases, or_left}
use Rattle.std.proofs.lemmas.Bool.Decides.{nat_tests}
use Rattle.cb_scan.specs.declared.lex.piece.Class.{Class}
use Rattle.cb_scan.specs.declared.lex.piece.Class.TheVariants.{Name, Number, Str, Chr, LineNote}
use Rattle.cb_scan.specs.declared.lex.piece.Class.TheVariants.{BlockNote, Blank, Newline, Byte}
use Rattle.cb_scan.specs.lex.Lexeme.{is_letter, is_digit, is_blank, first_is}
use Rattle.cb_scan.specs.steps.Cut.{begins, ends_join, class_at}

-- the tests that made the choice
pub data Prefix (b : ℕ) (rest : List ℕ) : Class → Type 0 where
  at_name : is_letter b ≡ true → Prefix b rest Name
  at_number : (is_digit b || (b == 46 && first_is is_digit rest)) ≡ true → Prefix b rest Number
  at_str : (b == 34) ≡ true → Prefix b rest Str
  at_chr : (b == 39) ≡ true → Prefix b rest Chr
  at_line_comment : (b == 47 && begins 47 rest) ≡ true → Prefix b rest LineNote
  at_block_comment : (b == 47 && begins 42 rest) ≡ true → Prefix b rest BlockNote
  at_blank : (is_blank b || (b == 92 && ends_join rest)) ≡ true → Prefix b rest Blank
  at_newline : (b == 10) ≡ true → Prefix b rest Newline
  at_byte : (b == 10) ≡ false → Prefix b rest Byte

pub prefix_of : (b : ℕ) (rest : List ℕ) → Prefix b rest (class_at (b ∷ rest))
unfolding class_at
prefix_of b rest =
    let P = Prefix b rest in
    cond_both _ _ _ P (λ t. at_name t) (λ _.
    cond_both _ _ _ P (λ t. at_number t) (λ _.
    cond_both _ _ _ P (λ t. at_str t) (λ _.
    cond_both _ _ _ P (λ t. at_chr t) (λ _.
    cond_both _ _ _ P (λ t. at_line_comment t) (λ _.
    cond_both _ _ _ P (λ t. at_block_comment t) (λ _.
    cond_both _ _ _ P (λ t. at_blank t) (λ _.
    cond_both _ _ _ P (λ t. at_newline t) (λ f. at_byte f))))))))

-- the class from the first bytes
pub class-letter : (b : ℕ) (rest : List ℕ) → is_letter b ≡ true → class_at (b ∷ rest) ≡ Name
unfolding class_at
class-letter b rest yes_is = cond-true _ _ _ yes_is

digit-no_letter : (b : ℕ) → is_digit b ≡ true → is_letter b ≡ false
digit-no_letter b d = grind (arith, nat_tests)

pub class-digit : (b : ℕ) (rest : List ℕ) → is_digit b ≡ true → class_at (b ∷ rest) ≡ Number
unfolding class_at
class-digit b rest d = cond-false _ _ _ (digit-no_letter b d)
    ∙ cond-true _ _ _ (or_left (is_digit b) (b == 46 && first_is is_digit rest) d)

pub class-dot : (rest : List ℕ) → first_is is_digit rest ≡ true → class_at (46 ∷ rest) ≡ Number
unfolding class_at
class-dot rest d = cond-true _ _ _ d

pub class-number : (b : ℕ) (rest : List ℕ) → (is_digit b || (b == 46 && first_is is_digit rest)) ≡ true
    → class_at (b ∷ rest) ≡ Number
class-number b rest t = ⊎_elim
    (λ d. class-digit b rest d)
    (λ e.
    let parts = and_parts _ _ e in
    subst (λ a. class_at (a ∷ rest) ≡ Number) (sym (eqb-true _ _ parts.0)) (class-dot rest parts.1))
    (or_cases _ _ t)

pub class-quote : (rest : List ℕ) → class_at (34 ∷ rest) ≡ Str
unfolding class_at
class-quote rest = refl

pub class-apostrophe : (rest : List ℕ) → class_at (39 ∷ rest) ≡ Chr
unfolding class_at
class-apostrophe rest = refl

pub class-line_comment : (rest : List ℕ) → class_at (47 ∷ 47 ∷ rest) ≡ LineNote
unfolding class_at first_is
class-line_comment rest = refl

pub class-block_comment : (rest : List ℕ) → class_at (47 ∷ 42 ∷ rest) ≡ BlockNote
unfolding class_at first_is
class-block_comment rest = refl

blank_is : (b : ℕ) → is_blank b ≡ true → (b ≡ 32) ⊎ ((b ≡ 9) ⊎ ((b ≡ 11) ⊎ ((b ≡ 12) ⊎ (b ≡ 13))))
blank_is b t = grind (arith, nat_tests)

blank_same : (a b : ℕ) (rest : List ℕ) → class_at (a ∷ rest) ≡ Blank → b ≡ a → class_at (b ∷ rest) ≡ Blank
blank_same a b rest h e = subst (λ (x : ℕ). class_at (x ∷ rest) ≡ Blank) (sym e) h

pub class-blank : (b : ℕ) (rest : List ℕ) → is_blank b ≡ true → class_at (b ∷ rest) ≡ Blank
unfolding class_at
class-blank b rest t =
    ⊎_elim (λ e. blank_same 32 b rest refl e) (λ o.
    ⊎_elim (λ e. blank_same 9 b rest refl e) (λ o.
    ⊎_elim (λ e. blank_same 11 b rest refl e) (λ o.
    ⊎_elim (λ e. blank_same 12 b rest refl e) (λ e. blank_same 13 b rest refl e) o) o) o) (blank_is b t)

pub class-join : (rest : List ℕ) → class_at (92 ∷ 10 ∷ rest) ≡ Blank
unfolding class_at ends_join
class-join rest = refl

pub class-cr_join : (rest : List ℕ) → class_at (92 ∷ 13 ∷ 10 ∷ rest) ≡ Blank
unfolding class_at ends_join first_is
class-cr_join rest = refl

pub class-feed : (rest : List ℕ) → class_at (10 ∷ rest) ≡ Newline
unfolding class_at
class-feed rest = refl
