-- The line feeds before a place, line by line.
use Rattle.std.proofs.Common.{◌≡◌, ℕ, zero, suc, ◌+◌, ◌-◌, ◌<◌, ◌≤◌, ◌==◌, true, false, cond}
use Rattle.std.proofs.Common.{List, [], ◌∷◌, length, take, drop, map, refl, sym, ap, ◌∙◌, subst}
use Rattle.std.proofs.Common.{arith, inl, inr, zero-add, length-drop, ⊎_elim, ◌⊎◌, nat_lt, ◌&&◌}
use Rattle.std.specs.Prelude.{slice_index}
use Rattle.std.specs.List.{slice_index_or, sum_by}
use Rattle.std.proofs.lemmas.Bool.{and_from, cases_Bool, cond-true, cond-false, eq-eqb, false≢true}
use Rattle.std.proofs.lemmas.Bool.Decides.{eqb_tells, nat_tests}
use Rattle.std.proofs.lemmas.List.{length-take}
use Rattle.std.proofs.lemmas.List.Sums.{sum_by-append, sum_by-cons, sum_by-take-drop}
use Rattle.std.proofs.Math.Seq.{take-add}
use Rattle.bstr.specs.Text.{lines_of, line_len, no_cr, without_terminator}
use Rattle.bstr.proofs.lemmas.LineLemmas.{line_len-bounds, lines-step}
use Rattle.cb_wire.specs.declared.position.Position.{Position}
use Rattle.cb_wire.specs.declared.units.Encoding.{Encoding}
use Rattle.cb_wire.specs.Units.{column, place_in_line}
use Rattle.cb_wire.specs.Positions.{line_feeds, line_start, shown_line, place, position}
use Rattle.cb_wire.specs.Positions.{position_on}
use Rattle.cb_wire.specs.Positions.{IsPlace, IsPosition}
use Rattle.cb_wire.proofs.Fitting.{boundary-within, column-back, has_a_column}
use Rattle.cb_wire.proofs.Fitting.{names_a_place, place-back}

-- a byte before some bytes is a line feed, or is none
pub feeds-yes : (b : ℕ) (bs : List ℕ) → (b == 10) ≡ true → line_feeds (b ∷ bs) ≡ 1 + line_feeds bs
feeds-yes b bs h =
    sum_by-cons (λ c. cond (c == 10) 1 0) b bs ∙ ap (λ t. cond t 1 0 + line_feeds bs) h

pub feeds-no : (b : ℕ) (bs : List ℕ) → (b == 10) ≡ false → line_feeds (b ∷ bs) ≡ line_feeds bs
feeds-no b bs h =
    sum_by-cons (λ c. cond (c == 10) 1 0) b bs ∙ ap (λ t. cond t 1 0 + line_feeds bs) h
    ∙ zero-add (line_feeds bs)

-- the first line ends in a line feed, with so many bytes before it
pub record IsEnded (text : List ℕ) : Type 0 where
  pub before : ℕ
  pub long : line_len text ≡ suc before
  pub last : slice_index (take (suc before) text) before ≡ 10
  pub feeds : line_feeds (take (suc before) text) ≡ 1

pub ended : (text : List ℕ) → IsEnded text ⊎ (line_feeds text ≡ 0)
unfolding line_len
ended [] = inr refl
ended (b ∷ bs) =
    elim (eqb_tells b 10) as (λ _. IsEnded (b ∷ bs) ⊎ (line_feeds (b ∷ bs) ≡ 0)) [
      | inl h ↦ inl (record {
        before = 0;
        long = cond-true (b == 10) 1 (suc (line_len bs)) h.0;
        last = h.1;
        feeds = feeds-yes b [] h.0;
      })
      | inr h ↦
          ⊎_elim
          (λ e. inl (record {
            before = suc e.before;
            long = cond-false (b == 10) 1 (suc (line_len bs)) h.0 ∙ ap suc e.long;
            last = e.last;
            feeds = feeds-no b (take (suc e.before) bs) h.0 ∙ e.feeds;
          }))
          (λ none. inr (feeds-no b bs h.0 ∙ none))
          (ended bs)
    ]

-- the first line has no line feed before its end
early : (text : List ℕ) (k : ℕ) → k < line_len text → line_feeds (take k text) ≡ 0
unfolding line_len
early [] k p = absurd (omega arith)
early (b ∷ bs) zero p = refl
early (b ∷ bs) (suc k) p =
    elim (eqb_tells b 10) as (λ _. line_feeds (b ∷ take k bs) ≡ 0) [
      | inl h ↦ absurd (omega (arith, cond-true (b == 10) 1 (suc (line_len bs)) h.0))
      | inr h ↦ feeds-no b (take k bs) h.0
          ∙ early bs k (omega (arith, cond-false (b == 10) 1 (suc (line_len bs)) h.0))
    ]

none-before : (text : List ℕ) (k : ℕ) → line_feeds text ≡ 0 → line_feeds (take k text) ≡ 0
none-before text k none = omega (arith, sum_by-take-drop (λ c. cond (c == 10) 1 0) text k)

-- a line with a line feed is shown shorter
no_cr-short : (bs : List ℕ) (n : ℕ) → length bs ≤ n → length (no_cr bs) ≤ n
no_cr-short bs n p = ⊎_elim
    (λ t. subst (λ l. length l ≤ n) (sym (cond-true _ _ _ t))
    (omega (arith, length-take (length bs - 1) bs)))
    (λ f. subst (λ l. length l ≤ n) (sym (cond-false _ _ _ f)) p)
    (cases_Bool (nat_lt 0 (length bs) && slice_index bs (length bs - 1) == 13))

shown-short : (line : List ℕ) (n : ℕ) → length line ≡ suc n → slice_index line n ≡ 10
    → length (without_terminator line) ≤ n
shown-short line n long last =
    let at : length line - 1 ≡ n = omega arith in
    ⊎_elim
    (λ t. subst (λ l. length l ≤ n) (sym (cond-true _ _ _ t))
    (no_cr-short (take (length line - 1) line) n
    (omega (arith, length-take (length line - 1) line))))
    (λ f. absurd (false≢true (sym f ∙ and_from _ _ (grind (arith, nat_tests))
    (eq-eqb (slice_index line (length line - 1)) 10 (ap (slice_index line) at ∙ last)))))
    (cases_Bool (nat_lt 0 (length line) && slice_index line (length line - 1) == 10))

-- the first line of a text, and what follows it
module _ (text : List ℕ) (some : 0 < length text) where
  pub shown-zero : shown_line text 0 ≡ without_terminator (take (line_len text) text)
  shown-zero =
      ap (λ ls. slice_index_or (map without_terminator ls) 0 []) (lines-step text some)

  pub shown-suc : (n : ℕ) → shown_line text (suc n) ≡ shown_line (drop (line_len text) text) n
  shown-suc n =
      ap (λ ls. slice_index_or (map without_terminator ls) (suc n) []) (lines-step text some)

  pub start-suc : (n : ℕ) → line_start text (suc n)
      ≡ line_len text + line_start (drop (line_len text) text) n
  start-suc n =
      let head = take (line_len text) text in
      let bounds = line_len-bounds text some in
      let long : length head ≡ line_len text = omega (arith, length-take (line_len text) text) in
      ap (λ ls. sum_by length (take (suc n) ls)) (lines-step text some)
      ∙ sum_by-cons length head (take n (lines_of (drop (line_len text) text)))
      ∙ ap (λ m. m + line_start (drop (line_len text) text) n) long

-- before a place on a shown line there are as many line feeds as lines before it
found : (fuel : ℕ) (text : List ℕ) → length text ≤ fuel → (n k : ℕ) → n ≤ line_feeds text
    → k ≤ length (shown_line text n) → line_feeds (take (line_start text n + k) text) ≡ n
found fuel [] small n k p q = omega (arith, none-before [] (line_start [] n + k) refl)
found zero (b ∷ bs) small n k p q = absurd (omega arith)
found (suc fuel) (b ∷ bs) small zero k p q =
    let text = b ∷ bs in
    let some : 0 < length text = omega arith in
    let bounds = line_len-bounds text some in
    let head = take (line_len text) text in
    let long : length head ≡ line_len text = omega (arith, length-take (line_len text) text) in
    let shown = ap length (shown-zero text some) in
    ap (λ n. line_feeds (take n text)) (zero-add k)
    ∙ ⊎_elim
    (λ e.
    let last : slice_index head e.before ≡ 10 =
    ap (λ n. slice_index (take n text) e.before) e.long ∙ e.last in
    early text k (omega (
      arith,
      e.long,
      shown,
      shown-short head e.before (long ∙ e.long) last,
    )))
    (λ none. none-before text k none)
    (ended text)
found (suc fuel) (b ∷ bs) small (suc n) k p q =
    let text = b ∷ bs in
    let some : 0 < length text = omega arith in
    let bounds = line_len-bounds text some in
    let tail = drop (line_len text) text in
    let more = line_start tail n + k in
    let feeds : line_feeds text ≡ line_feeds (take (line_len text) text) + line_feeds tail =
    sym (sum_by-take-drop (λ c. cond (c == 10) 1 0) text (line_len text)) in
    ⊎_elim
    (λ e.
    let one : line_feeds (take (line_len text) text) ≡ 1 =
    ap (λ m. line_feeds (take m text)) e.long ∙ e.feeds in
    let later = found fuel tail (omega (arith, bounds.0, length-drop (line_len text) text)) n k
    (omega (arith, feeds, one)) (omega (arith, ap length (shown-suc text some n))) in
    let at : line_start text (suc n) + k ≡ line_len text + more =
    omega (arith, start-suc text some n) in
    ap (λ m. line_feeds (take m text)) at
    ∙ ap line_feeds (take-add (line_len text) more text)
    ∙ sum_by-append (λ c. cond (c == 10) 1 0) (take (line_len text) text) (take more tail)
    ∙ ap (λ m. m + line_feeds (take more tail)) one ∙ ap (λ m. 1 + m) later
    ∙ one_more n)
    (λ none. absurd (omega (arith, none)))
    (ended text)
  where
    one_more : (n : ℕ) → 1 + n ≡ suc n
    one_more n = omega arith

pub feeds-before : (text : List ℕ) (n k : ℕ) → n ≤ line_feeds text
    → k ≤ length (shown_line text n) → line_feeds (take (line_start text n + k) text) ≡ n
feeds-before text = found (length text) text (omega arith)

module _ (e : Encoding) (text : List ℕ) where
  -- the position of a place on a shown line
  pub on_line : (n k : ℕ) → n ≤ line_feeds text → k ≤ length (shown_line text n)
      → position e text (line_start text n + k)
      ≡ record { line = n; character = column e (shown_line text n) k }
  on_line n k p q =
      let at = line_start text n + k in
      let left : at - line_start text n ≡ k = omega arith in
      ap (position_on e text at) (feeds-before text n k p q)
      ∙ ap (λ m. record { line = n; character = column e (shown_line text n) m }) left

  pub place-again : (at : ℕ) → IsPlace e text at → place e text (position e text at) ≡ at
  place-again at is =
      let n = is.0 in
      let k = is.1 in
      ap (λ m. place e text (position e text m)) is.3
      ∙ ap (place e text) (on_line n k is.2 (boundary-within e (shown_line text n) k is.4))
      ∙ ap (λ m. line_start text n + m) (place-back e (shown_line text n) k is.4)
      ∙ sym is.3

  pub position-again : (p : Position) → IsPosition e text p → position e text (place e text p) ≡ p
  position-again p is =
      let shown = shown_line text p.line in
      let k = place_in_line e shown p.character in
      on_line p.line k is.0 (boundary-within e shown k (names_a_place e shown p.character))
      ∙ ap (λ c. record { line = p.line; character = c }) (column-back e shown p.character is.1)

  pub names_a_place-on : (p : Position) → p.line ≤ line_feeds text
      → IsPlace e text (place e text p)
  names_a_place-on p few =
      let shown = shown_line text p.line in
      (p.line, place_in_line e shown p.character, few, refl, names_a_place e shown p.character)

  pub has_a_position : (at : ℕ) → IsPosition e text (position e text at)
  has_a_position at =
      let n = line_feeds (take at text) in (
        omega (arith, sum_by-take-drop (λ c. cond (c == 10) 1 0) text at),
        has_a_column e (shown_line text n) (at - line_start text n),
      )
