-- The piece at a place: its class, how far it reaches, and that it alone is the longest lexeme
-- there.
use Rattle.std.proofs.Common.{◌≡◌, ◌⊎◌, ◌-◌, ◌<◌, ◌≤◌, ℕ, zero, suc, Bool, true, false, ◌==◌, ◌&&◌}
use Rattle.std.proofs.Common.{◌||◌, List, [], ◌∷◌, length, length-drop, take, drop, refl, sym, ap}
use Rattle.std.proofs.Common.{subst, ◌∙◌, arith, inl, inr, ⊎_elim}
use Rattle.std.proofs.lemmas.Bool.{eqb-true, and_from, and_parts, or_cases, or_left, or_right, true≢false}
use Rattle.std.specs.List.{list_all, prefix_len}
use Rattle.cb_scan.specs.declared.lex.lexeme.Escape.TheVariants.{Plain}
use Rattle.cb_scan.specs.declared.lex.piece.Class.{Class}
use Rattle.cb_scan.specs.declared.lex.piece.Class.TheVariants.{Name, Number, Str, Chr, LineNote}
use Rattle.cb_scan.specs.declared.lex.piece.Class.TheVariants.{BlockNote, Blank, Newline, Byte}
use Rattle.cb_scan.specs.lex.Lexeme.{is_letter, is_digit, is_word, is_blank, is_identifier}
use Rattle.cb_scan.specs.lex.Lexeme.{is_number, first_is, goes_on, all_go_on, comment_end, Blanks}
use Rattle.cb_scan.specs.lex.Lexeme.{no_blank, a_blank, a_join, a_cr_join, Commented, Quoted}
use Rattle.cb_scan.specs.lex.Lexeme.{Spells, IsLexeme}
use Rattle.cb_scan.specs.steps.Cut.{begins, ends_join, class_at, number_len, goes_on_blank}
use Rattle.cb_scan.specs.steps.Cut.{blank_len, comment_len, literal_len, block_len, length_in}
use Rattle.cb_scan.specs.steps.Cut.{piece_len}
use Rattle.cb_scan.proofs.Blocks.{block_len-within, block_len-found, finds_close}
use Rattle.cb_scan.proofs.Prefixes.{Prefix, prefix_of, at_name, at_number, at_str, at_chr}
use Rattle.cb_scan.proofs.Prefixes.{at_line_comment, at_block_comment, at_blank, at_newline}
use Rattle.cb_scan.proofs.Prefixes.{at_byte, class-letter, class-number, class-quote}
use Rattle.cb_scan.proofs.Prefixes.{class-apostrophe, class-line_comment, class-block_comment}
use Rattle.cb_scan.proofs.Prefixes.{class-blank, class-join, class-cr_join, class-feed}
use Rattle.cb_scan.proofs.Lengths.{list_all-prefix, prefix-step, prefix_within, prefix_longest}
use Rattle.cb_scan.proofs.Lengths.{all_go_on-counted, number-step, number_longest}
use Rattle.cb_scan.proofs.Lengths.{number_len-within, blank-step, blank_counted, blank_longest}
use Rattle.cb_scan.proofs.Lengths.{blank_len-within, comment_longest, comment_spelled}
use Rattle.cb_scan.proofs.Lengths.{comment_len-within}
use Rattle.cb_scan.proofs.Literals.{IsQuote, literal_longest, literal_spelled, literal_len-within}

pub quote : IsQuote 34
quote = record { slash = refl; feed = refl }

apostrophe : IsQuote 39
apostrophe = record { slash = refl; feed = refl }

letter-word : (b : ℕ) → is_letter b ≡ true → is_word b ≡ true
letter-word b t = or_left _ _ t

number-goes : (b : ℕ) (rest : List ℕ) → (is_digit b || (b == 46 && first_is is_digit rest)) ≡ true → goes_on 46 b ≡ true
number-goes b rest t = ⊎_elim
    (λ d. or_left _ _ (or_left _ _ (or_right (is_letter b) (is_digit b) d)))
    (λ e. let parts = and_parts (b == 46) (first_is is_digit rest) e in or_left _ _
    (or_right (is_word b) (b == 46) parts.0))
    (or_cases (is_digit b) (b == 46 && first_is is_digit rest) t)

-- a second byte is there where a test on it passed
second : (b : ℕ) (rest : List ℕ) → begins b rest ≡ true → (r : List ℕ) × (rest ≡ b ∷ r)
unfolding first_is
second b [] t = absurd (true≢false (sym t))
second b (a ∷ r) t = (r, ap (λ x. x ∷ r) (eqb-true a b t))

-- a blank takes a byte at least
blank-some : (b : ℕ) (rest : List ℕ) → (is_blank b || (b == 92 && ends_join rest)) ≡ true
    → 1 ≤ blank_len false (b ∷ rest)
blank-some b rest t =
    let goes : goes_on_blank false b rest ≡ true = grind arith in
    let e = blank-step false b rest goes in
    omega arith

record Bounds (n size : ℕ) : Type 0 where
  pub some : 1 ≤ n
  pub within : n ≤ size

bounds_of : (b : ℕ) (rest : List ℕ) (class : Class) → Prefix b rest class
    → Bounds (length_in class (b ∷ rest)) (length (b ∷ rest))
unfolding length_in
bounds_of b rest Name (at_name t) =
    let step = prefix-step is_word b rest (letter-word b t) in
    let inner = prefix_within is_word rest in
    record { some = omega arith; within = omega arith }
bounds_of b rest Number (at_number t) =
    let step = number-step 46 b rest (number-goes b rest t) in
    let inner = number_len-within b rest in
    record { some = omega arith; within = omega arith }
bounds_of b rest Str (at_str t) =
    let inner = literal_len-within 34 quote Plain rest in
    record { some = omega arith; within = omega arith }
bounds_of b rest Chr (at_chr t) =
    let inner = literal_len-within 39 apostrophe Plain rest in
    record { some = omega arith; within = omega arith }
bounds_of b rest LineNote (at_line_comment t) =
    let parts = and_parts (b == 47) (begins 47 rest) t in
    let more = second 47 rest parts.1 in
    let size = ap length more.1 in
    let inner = comment_len-within Plain (drop 1 rest) in
    let left : length (drop 1 rest) ≡ length rest - 1 = length-drop 1 rest in
    record { some = omega arith; within = omega arith }
bounds_of b rest BlockNote (at_block_comment t) =
    let parts = and_parts (b == 47) (begins 42 rest) t in
    let more = second 42 rest parts.1 in
    let size = ap length more.1 in
    let inner = block_len-within false (drop 1 rest) in
    let left : length (drop 1 rest) ≡ length rest - 1 = length-drop 1 rest in
    record { some = omega arith; within = omega arith }
bounds_of b rest Blank (at_blank t) = record { some = blank-some b rest t; within = blank_len-within false (b ∷ rest) }
bounds_of b rest Newline (at_newline t) = record { some = omega arith; within = omega arith }
bounds_of b rest Byte (at_byte f) = record { some = omega arith; within = omega arith }

-- a piece takes a byte at least, and no more than there are
pub piece-some : (text : List ℕ) → 0 < length text → 1 ≤ piece_len text
piece-some [] some = absurd (omega arith)
piece-some (b ∷ rest) some = let h = bounds_of b rest (class_at (b ∷ rest)) (prefix_of b rest) in h.some

pub piece-within : (text : List ℕ) → 0 < length text → piece_len text ≤ length text
piece-within [] some = absurd (omega arith)
piece-within (b ∷ rest) some = let h = bounds_of b rest (class_at (b ∷ rest)) (prefix_of b rest) in h.within

-- the same class by class, for the code that counts
pub name_some : (text : List ℕ) → class_at text ≡ Name → 0 < length text → 1 ≤ prefix_len is_word text
unfolding length_in
name_some text e some = subst (λ c. 1 ≤ length_in c text) e (piece-some text some)

pub number_some : (text : List ℕ) → class_at text ≡ Number → 0 < length text → 1 ≤ number_len 46 text
unfolding length_in
number_some text e some = subst (λ c. 1 ≤ length_in c text) e (piece-some text some)

pub blank_some : (text : List ℕ) → class_at text ≡ Blank → 0 < length text → 1 ≤ blank_len false text
unfolding length_in
blank_some text e some = subst (λ c. 1 ≤ length_in c text) e (piece-some text some)

pub line_comment_two : (text : List ℕ) → class_at text ≡ LineNote → 0 < length text → 2 ≤ length text
unfolding length_in
line_comment_two text e some = let h =
    subst (λ c. length_in c text ≤ length text) e (piece-within text some) in omega arith

pub block_comment_two : (text : List ℕ) → class_at text ≡ BlockNote → 0 < length text → 2 ≤ length text
unfolding length_in
block_comment_two text e some = let h =
    subst (λ c. length_in c text ≤ length text) e (piece-within text some) in omega arith

pub ruleset first_bytes = (name_some, number_some, blank_some, line_comment_two, block_comment_two)

-- a test on the first byte, before and after a cut
first_is-take : (p : ℕ → Bool) (n : ℕ) (xs : List ℕ) → first_is p (take n xs) ≡ true → first_is p xs ≡ true
unfolding first_is
first_is-take p zero xs t = absurd (true≢false (sym t))
first_is-take p (suc n) [] t = absurd (true≢false (sym t))
first_is-take p (suc n) (x ∷ xs) t = t

digit_kept : (last : ℕ) (xs : List ℕ) → first_is is_digit xs ≡ true
    → first_is is_digit (take (number_len last xs) xs) ≡ true
unfolding first_is
digit_kept last [] t = absurd (true≢false (sym t))
digit_kept last (d ∷ xs) t =
    let goes : goes_on last d ≡ true = or_left _ _ (or_left _ _ (or_right (is_letter d) (is_digit d) t)) in
    subst (λ n. first_is is_digit (take n (d ∷ xs)) ≡ true) (sym (number-step last d xs goes)) t

number_prefix : (b : ℕ) (rest more : List ℕ) → (first_is is_digit rest ≡ true → first_is is_digit more ≡ true)
    → (is_digit b || (b == 46 && first_is is_digit rest)) ≡ true
    → (is_digit b || (b == 46 && first_is is_digit more)) ≡ true
number_prefix b rest more along t = ⊎_elim
    (λ d. or_left (is_digit b) (b == 46 && first_is is_digit more) d)
    (λ e.
    let parts = and_parts (b == 46) (first_is is_digit rest) e in
    or_right (is_digit b) (b == 46 && first_is is_digit more)
    (and_from (b == 46) (first_is is_digit more) parts.0 (along parts.1)))
    (or_cases (is_digit b) (b == 46 && first_is is_digit rest) t)

-- what the class at a place counts is a lexeme of that class
spelled : (b : ℕ) (rest : List ℕ) (class : Class) → Prefix b rest class
    → Spells class (b ∷ rest) (length_in class (b ∷ rest)) ⊎ (class ≡ Byte)
unfolding length_in is_identifier is_number
spelled b rest Name (at_name t) =
    let inner = prefix_within is_word rest in
    inl (subst (λ n. Spells Name (b ∷ rest) n) (sym (prefix-step is_word b rest (letter-word b t))) (
      omega arith,
      and_from (is_letter b) (list_all is_word (take (prefix_len is_word rest) rest)) t
          (list_all-prefix is_word rest),
    ))
spelled b rest Number (at_number t) =
    let inner = number_len-within b rest in
    let taken = take (number_len b rest) rest in
    inl (subst (λ n. Spells Number (b ∷ rest) n) (sym (number-step 46 b rest (number-goes b rest t))) (
      omega arith,
      and_from (is_digit b || (b == 46 && first_is is_digit taken)) (all_go_on b taken)
          (number_prefix b rest taken (digit_kept b rest) t) (all_go_on-counted b rest),
    ))
spelled b rest Str (at_str t) =
    let n = literal_len 34 Plain rest in
    let e : n ≡ suc n - 1 = omega arith in
    inl (
      ap (λ x. x ∷ []) (eqb-true b 34 t),
      omega arith,
      subst (λ m. Quoted 34 rest m) e (literal_spelled 34 quote rest),
    )
spelled b rest Chr (at_chr t) =
    let n = literal_len 39 Plain rest in
    let e : n ≡ suc n - 1 = omega arith in
    inl (
      ap (λ x. x ∷ []) (eqb-true b 39 t),
      omega arith,
      subst (λ m. Quoted 39 rest m) e (literal_spelled 39 apostrophe rest),
    )
spelled b rest LineNote (at_line_comment t) =
    let parts = and_parts (b == 47) (begins 47 rest) t in
    let more = second 47 rest parts.1 in
    let n = comment_len Plain (drop 1 rest) in
    let e : n ≡ suc (suc n) - 2 = omega arith in
    inl (
      ap (λ x. x ∷ take 1 rest) (eqb-true b 47 parts.0)
          ∙ ap (λ l. 47 ∷ take 1 l) more.1,
      omega arith,
      subst (λ m. Commented (drop 1 rest) m) e (comment_spelled (drop 1 rest)),
    )
spelled b rest BlockNote (at_block_comment t) =
    let parts = and_parts (b == 47) (begins 42 rest) t in
    let more = second 42 rest parts.1 in
    let size = ap length more.1 in
    let xs = drop 1 rest in
    let left : length xs ≡ length rest - 1 = length-drop 1 rest in
    let close = finds_close xs in
    let long : suc (suc (length xs)) ≡ length (b ∷ rest) = omega arith in
    inl (
      ap (λ x. x ∷ take 1 rest) (eqb-true b 47 parts.0) ∙ ap (λ l. 47 ∷ take 1 l) more.1,
      (close.0, close.1, block_len-found xs close.0 close.1 ∙ ap (λ n. comment_end n close.0) long),
    )
spelled b rest Blank (at_blank t) =
    inl (blank-some b rest t, blank_counted (length (b ∷ rest)) (b ∷ rest) (omega arith))
spelled b rest Newline (at_newline t) = inl (ap (λ x. x ∷ []) (eqb-true b 10 t), refl)
spelled b rest Byte (at_byte f) = inr refl

blanks_class : {text : List ℕ} {n : ℕ} → Blanks text n → 1 ≤ n → class_at text ≡ Blank
blanks_class no_blank some = absurd (let x : ⊥ = omega arith in x)
blanks_class (a_blank {a = a} {rest = rest} t more) some = class-blank a rest t
blanks_class (a_join {a = a} {b = b} {rest = rest} x y more) some = rw (x, y) (class-join rest)
blanks_class (a_cr_join {a = a} {b = b} {c = c} {rest = rest} x y z more) some = rw (x, y, z) (class-cr_join rest)

first_from : (q : ℕ) (class : Class) → ((rest : List ℕ) → class_at (q ∷ rest) ≡ class) → (text : List ℕ)
    → take 1 text ≡ q ∷ [] → class_at text ≡ class
first_from q class known [] e = absurd (let x : ⊥ = cc in x)
first_from q class known (b ∷ rest) e =
    subst (λ (a : ℕ). class_at (a ∷ rest) ≡ class) (let x : q ≡ b = cc in x) (known rest)

two_from : (p q : ℕ) (class : Class) → ((rest : List ℕ) → class_at (p ∷ q ∷ rest) ≡ class) → (text : List ℕ)
    → take 2 text ≡ p ∷ q ∷ [] → (class_at text ≡ class) × (2 ≤ length text)
two_from p q class known [] e = absurd (let x : ⊥ = cc in x)
two_from p q class known (a ∷ []) e = absurd (let x : ⊥ = cc in x)
two_from p q class known (a ∷ b ∷ rest) e =
    let x : p ≡ a = cc in
    let y : q ≡ b = cc in (
      subst (λ (c : ℕ). class_at (c ∷ b ∷ rest) ≡ class) x
          (subst (λ (d : ℕ). class_at (p ∷ d ∷ rest) ≡ class) y (known rest)),
      omega arith,
    )

-- a name's or a number's bytes, taken apart
name_parts : (text : List ℕ) (n : ℕ) → n ≤ length text → is_identifier (take n text) ≡ true
    → (class_at text ≡ Name) × (n ≤ prefix_len is_word text)
unfolding is_identifier
name_parts text zero le t = absurd (true≢false (sym t))
name_parts [] (suc n) le t = absurd (let x : ⊥ = omega arith in x)
name_parts (b ∷ rest) (suc n) le t =
    let parts = and_parts (is_letter b) (list_all is_word (take n rest)) t in (
      class-letter b rest parts.0,
      prefix_longest is_word (b ∷ rest) (suc n) le
          (and_from (is_word b) (list_all is_word (take n rest)) (letter-word b parts.0) parts.1),
    )

number_parts : (text : List ℕ) (n : ℕ) → n ≤ length text → is_number (take n text) ≡ true
    → (class_at text ≡ Number) × (n ≤ number_len 46 text)
unfolding is_number all_go_on
number_parts text zero le t = absurd (true≢false (sym t))
number_parts [] (suc n) le t = absurd (let x : ⊥ = omega arith in x)
number_parts (b ∷ rest) (suc n) le t =
    let parts = and_parts (is_digit b || (b == 46 && first_is is_digit (take n rest))) (all_go_on b (take n rest)) t in
    let start = number_prefix b (take n rest) rest (first_is-take is_digit n rest) parts.0 in (
      class-number b rest start,
      number_longest 46 (b ∷ rest) (suc n) le
          (and_from (goes_on 46 b) (all_go_on b (take n rest)) (number-goes b rest start) parts.1),
    )

-- a lexeme of a class says what the class is, and is no longer than what that class counts
parts_of : (class : Class) (text : List ℕ) (n : ℕ) → Spells class text n
    → (class_at text ≡ class) × (n ≤ length_in class text)
unfolding length_in
parts_of Name text n h = name_parts text n h.0 h.1
parts_of Number text n h = number_parts text n h.0 h.1
parts_of Str text n h =
    let inner = literal_longest 34 quote h.2 in
    (first_from 34 Str class-quote text h.0, omega arith)
parts_of Chr text n h =
    let inner = literal_longest 39 apostrophe h.2 in
    (first_from 39 Chr class-apostrophe text h.0, omega arith)
parts_of LineNote text n h =
    let inner = comment_longest h.2 Plain in
    let two = two_from 47 47 LineNote class-line_comment text h.0 in
    (two.0, omega arith)
parts_of BlockNote text n h =
    let two = two_from 47 42 BlockNote class-block_comment text h.0 in
    let close = h.1 in
    let size : length (drop 2 text) ≡ length text - 2 = length-drop 2 text in
    let long : length text ≡ suc (suc (length (drop 2 text))) = omega (arith, two.1) in
    let e : n ≡ suc (suc (block_len false (drop 2 text))) =
    close.2 ∙ ap (λ m. comment_end m close.0) long ∙ sym (block_len-found (drop 2 text) close.0 close.1) in
    (two.0, omega arith)
parts_of Blank text n h = (blanks_class h.1 h.0, blank_longest h.1 false)
parts_of Newline text n h = (first_from 10 Newline class-feed text h.0, omega (arith, h.1))
parts_of Byte text n h = absurd h

as_lexeme : (class : Class) (text : List ℕ) (n : ℕ) → Spells class text n → IsLexeme class text n
as_lexeme Name text n h = h
as_lexeme Number text n h = h
as_lexeme Str text n h = h
as_lexeme Chr text n h = h
as_lexeme LineNote text n h = h
as_lexeme BlockNote text n h = h
as_lexeme Blank text n h = h
as_lexeme Newline text n h = h
as_lexeme Byte text n h = absurd h

-- what is counted at a place is a lexeme of the class there
pub piece-lexeme : (text : List ℕ) → 0 < length text → IsLexeme (class_at text) text (piece_len text)
unfolding length_in
piece-lexeme [] some = absurd (let x : ⊥ = omega arith in x)
piece-lexeme (b ∷ rest) some = ⊎_elim
    (λ h. as_lexeme _ _ _ h)
    (λ e.
    let none : (class : Class) (m : ℕ) → ¬ Spells class (b ∷ rest) m = λ class m h.
    let known = parts_of class (b ∷ rest) m h in
    subst (λ c. Spells c (b ∷ rest) m) (sym known.0 ∙ e) h in
    subst (λ c. IsLexeme c (b ∷ rest) (length_in c (b ∷ rest))) (sym e) (omega arith, refl, none))
    (spelled b rest (class_at (b ∷ rest)) (prefix_of b rest))

-- where no other class has a lexeme the class is `Byte`
lone : (text : List ℕ) (n : ℕ) → IsLexeme Byte text n → class_at text ≡ Byte
lone [] n h = absurd (let x : ⊥ = omega (arith, h.0) in x)
lone (b ∷ rest) n h = ⊎_elim
    (λ s. absurd (h.2 (class_at (b ∷ rest)) (piece_len (b ∷ rest)) s))
    (λ e. e)
    (spelled b rest (class_at (b ∷ rest)) (prefix_of b rest))

-- each lexeme at a place is of the class there
pub lexeme-class : (class : Class) (text : List ℕ) (n : ℕ) → IsLexeme class text n → class_at text ≡ class
lexeme-class Name text n h = let p = parts_of Name text n h in p.0
lexeme-class Number text n h = let p = parts_of Number text n h in p.0
lexeme-class Str text n h = let p = parts_of Str text n h in p.0
lexeme-class Chr text n h = let p = parts_of Chr text n h in p.0
lexeme-class LineNote text n h = let p = parts_of LineNote text n h in p.0
lexeme-class BlockNote text n h = let p = parts_of BlockNote text n h in p.0
lexeme-class Blank text n h = let p = parts_of Blank text n h in p.0
lexeme-class Newline text n h = let p = parts_of Newline text n h in p.0
lexeme-class Byte text n h = lone text n h

lexeme_within : (class : Class) (text : List ℕ) (n : ℕ) → IsLexeme class text n → n ≤ length_in class text
unfolding length_in
lexeme_within Name text n h = let p = parts_of Name text n h in p.1
lexeme_within Number text n h = let p = parts_of Number text n h in p.1
lexeme_within Str text n h = let p = parts_of Str text n h in p.1
lexeme_within Chr text n h = let p = parts_of Chr text n h in p.1
lexeme_within LineNote text n h = let p = parts_of LineNote text n h in p.1
lexeme_within BlockNote text n h = let p = parts_of BlockNote text n h in p.1
lexeme_within Blank text n h = let p = parts_of Blank text n h in p.1
lexeme_within Newline text n h = let p = parts_of Newline text n h in p.1
lexeme_within Byte text n h = omega (arith, h.1)

-- and no longer than what is counted
pub lexeme-longest : (class : Class) (text : List ℕ) (n : ℕ) → IsLexeme class text n → n ≤ piece_len text
lexeme-longest class text n h =
    subst (λ c. n ≤ length_in c text) (sym (lexeme-class class text n h)) (lexeme_within class text n h)
