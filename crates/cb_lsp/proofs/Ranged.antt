-- Ranges begin before they end, and names lie in their lines.
use Rattle.std.proofs.Common.{◌≡◌, ◌∙◌, ◌≤◌, ◌+◌, ◌-◌, ◌==◌, ◌&&◌, not, ℕ, zero, suc, cond, sym, ap}
use Rattle.std.proofs.Common.{subst, refl, arith, true, false, List, [], ◌∷◌, length, take, drop}
use Rattle.std.proofs.Common.{inl, inr, length-drop, add-one}
use Rattle.std.specs.List.{list_all}
use Rattle.std.proofs.lemmas.Bool.{true≢false}
use Rattle.std.proofs.lemmas.Bool.Decides.{eqb_tells, leb_tells}
use Rattle.std.proofs.lemmas.List.Sums.{sum_by-append, sum_by-cons}
use Rattle.std.proofs.Math.Seq.{take-add}
use Rattle.cb_scan.specs.Definitions.{IsNameOf}
use Rattle.cb_scan.specs.declared.lex.piece.Span.{Span}
use Rattle.cb_scan.specs.lex.Lexeme.{is_identifier, is_letter, is_word}
use Rattle.cb_scan.specs.lex.Reserved.{is_name, is_reserved}
use Rattle.cb_wire.specs.declared.units.Encoding.{Encoding}
use Rattle.cb_wire.specs.Positions.{line_feeds, line_start, shown_line}
use Rattle.cb_wire.specs.Units.{column, first}
use Rattle.cb_wire.proofs.Fitting.{first_is, measured-end, measured-step, measured-stop}
use Rattle.cb_lsp.specs.Places.{line_range, range_of, range_of_line, start_of_file, whole_line}
use Rattle.cb_lsp.specs.Ranges.{IsInOrder, LiesInside}

-- ---- columns

-- a later place of a line has no earlier column, and no column is behind that of the end
module _ (e : Encoding) where
  column-more : (most : ℕ) (line : List ℕ) → length line ≤ most → (few more : ℕ) → few ≤ more
      → column e line few ≤ column e line more
  column-more most [] small few more p =
      omega (arith, measured-end (λ c. c.bytes) (λ c. c.units) e [] few refl)
  column-more zero (x ∷ xs) small few more p = absurd (omega arith)
  column-more (suc most) (x ∷ xs) small few more p =
      let line = x ∷ xs in
      let c = first e line in
      let is = first_is e line (omega arith) in
      let rest = drop c.bytes line in
      elim (leb_tells c.bytes few) as (λ _. column e line few ≤ column e line more) [
        | inl h ↦
            omega (
              arith,
              measured-step (λ k. k.bytes) (λ k. k.units) e line few c refl (omega arith) rest refl
                  h.1,
              measured-step (λ k. k.bytes) (λ k. k.units) e line more c refl (omega arith) rest refl
                  (omega (arith, h.1)),
              column-more most rest
                  (omega (arith, small, is.some, is.few, length-drop c.bytes line)) (few - c.bytes)
                  (more - c.bytes) (omega arith),
            )
        | inr h ↦
            omega (
              arith,
              measured-stop (λ k. k.bytes) (λ k. k.units) e line few c refl (omega arith) h.1,
            )
      ]

  column-most : (most : ℕ) (line : List ℕ) → length line ≤ most → (place : ℕ)
      → column e line place ≤ column e line (length line)
  column-most most [] small place =
      omega (arith, measured-end (λ c. c.bytes) (λ c. c.units) e [] place refl)
  column-most zero (x ∷ xs) small place = absurd (omega arith)
  column-most (suc most) (x ∷ xs) small place =
      let line = x ∷ xs in
      let c = first e line in
      let is = first_is e line (omega arith) in
      let rest = drop c.bytes line in
      let left : length line - c.bytes ≡ length rest = sym (length-drop c.bytes line) in
      elim (leb_tells c.bytes place) as (λ _. column e line place ≤ column e line (length line)) [
        | inl h ↦
            omega (
              arith,
              measured-step (λ k. k.bytes) (λ k. k.units) e line place c refl (omega arith) rest
                  refl h.1,
              measured-step (λ k. k.bytes) (λ k. k.units) e line (length line) c refl (omega arith)
                  rest refl is.within,
              ap (column e rest) left,
              column-most most rest (omega (arith, small, is.some, is.few, left))
                  (place - c.bytes),
            )
        | inr h ↦
            omega (
              arith,
              measured-stop (λ k. k.bytes) (λ k. k.units) e line place c refl (omega arith) h.1,
            )
      ]

-- ---- places

-- the line feeds before a place, and those from there up to another
feeds-apart : (text : List ℕ) (start end : ℕ) → start ≤ end → line_feeds (take end text)
    ≡ line_feeds (take start text) + line_feeds (take (end - start) (drop start text))
feeds-apart text start end p =
    let whole : end ≡ start + (end - start) = omega arith in
    ap (λ n. line_feeds (take n text)) whole
    ∙ ap line_feeds (take-add start (end - start) text)
    ∙ sum_by-append (λ c. cond (c == 10) 1 0) (take start text)
    (take (end - start) (drop start text))

pub places-in_order : (e : Encoding) (text : List ℕ) (start end : ℕ) → start ≤ end
    → IsInOrder (range_of e text start end)
places-in_order e text start end p =
    let n = line_feeds (take start text) in
    let m = line_feeds (take end text) in
    elim (eqb_tells m n) as (λ _. IsInOrder (range_of e text start end)) [
      | inl h ↦ inr (
        sym h.1,
        omega (
          arith,
          ap (λ k. column e (shown_line text k) (end - line_start text k)) h.1,
          column-more e (length (shown_line text n)) (shown_line text n) (omega arith)
              (start - line_start text n) (end - line_start text n) (omega arith),
        ),
      )
      | inr h ↦ inl (omega (arith, feeds-apart text start end p, h.1))
    ]

-- ---- lines

pub line-in_order : (e : Encoding) (text : List ℕ) (n : ℕ) → IsInOrder (range_of_line e text n)
line-in_order e text n = inr (refl, omega arith)

pub file-in_order : IsInOrder start_of_file
file-in_order = inr (refl, omega arith)

-- ---- names

-- no letter, no digit and no `_` is a line feed
word-no_feed : (b : ℕ) → is_word b ≡ true → (b == 10) ≡ false
word-no_feed b word =
    elim (eqb_tells b 10) as (λ _. (b == 10) ≡ false) [
      | inl h ↦ absurd (true≢false (sym word ∙ ap is_word h.1))
      | inr h ↦ h.0
    ]

words-no_feed : (bs : List ℕ) → list_all is_word bs ≡ true → line_feeds bs ≡ 0
words-no_feed [] all = refl
words-no_feed (b ∷ bs) all =
    (elim (is_word b) as (λ t. is_word b ≡ t → (t && list_all is_word bs) ≡ true
    → line_feeds (b ∷ bs) ≡ 0) [
      | true ↦ λ h more.
          sum_by-cons (λ c. cond (c == 10) 1 0) b bs
          ∙ ap (λ t. cond t 1 0 + line_feeds bs) (word-no_feed b h)
          ∙ omega (arith, words-no_feed bs more)
      | false ↦ λ h more. absurd (true≢false (sym more))
    ]) refl all

pub letter-word : (b : ℕ) (bs : List ℕ) → (is_letter b && list_all is_word bs) ≡ true
    → list_all is_word (b ∷ bs) ≡ true
letter-word b bs all =
    (elim (is_letter b) as (λ t. is_letter b ≡ t → (t && list_all is_word bs) ≡ true
    → list_all is_word (b ∷ bs) ≡ true) [
      | true ↦ λ h more. rw h more
      | false ↦ λ h more. absurd (true≢false (sym more))
    ]) refl all

identifier-no_feed : (bs : List ℕ) → is_identifier bs ≡ true → line_feeds bs ≡ 0
unfolding is_identifier
identifier-no_feed [] all = refl
identifier-no_feed (b ∷ bs) all = words-no_feed (b ∷ bs) (letter-word b bs all)

name-no_feed : (bs : List ℕ) → is_name bs ≡ true → line_feeds bs ≡ 0
name-no_feed bs is =
    (elim (is_identifier bs) as (λ t. is_identifier bs ≡ t → (t && not (is_reserved bs)) ≡ true
    → line_feeds bs ≡ 0) [
      | true ↦ λ h more. identifier-no_feed bs h
      | false ↦ λ h more. absurd (true≢false (sym more))
    ]) refl is

-- the line of a place, by the line feeds before it
line-is : (e : Encoding) (text : List ℕ) (place : ℕ) → let n = line_feeds (take place text) in
    line_range e text place ≡ whole_line e n (shown_line text n)
line-is e text place =
    let n = line_feeds (take place text) in
    let back : suc n - 1 ≡ n = omega arith in
    ap (range_of_line e text) (add-one n) ∙ ap (λ k. whole_line e k (shown_line text n)) back

pub name-inside : (e : Encoding) (text : List ℕ) (name : Span) → IsNameOf text name
    → LiesInside (range_of e text name.start name.end) (line_range e text name.start)
name-inside e text name is =
    let n = line_feeds (take name.start text) in
    let m = line_feeds (take name.end text) in
    let shown = shown_line text n in
    let same : m ≡ n = omega (
      arith,
      feeds-apart text name.start name.end is.0.0,
      name-no_feed (take (name.end - name.start) (drop name.start text)) is.1,
    ) in
    let most : column e (shown_line text m) (name.end - line_start text m)
    ≤ column e shown (length shown) = omega (
      arith,
      ap (λ k. column e (shown_line text k) (name.end - line_start text k)) same,
      column-most e (length shown) shown (omega arith) (name.end - line_start text n),
    ) in
    subst (LiesInside (range_of e text name.start name.end)) (sym (line-is e text name.start))
    (inr (refl, omega arith), inr (same, most))
