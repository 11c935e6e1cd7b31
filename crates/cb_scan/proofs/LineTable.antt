-- The table of line starts finds each line, and each byte is on one of the lines.
use Rattle.std.proofs.Common.{◌≡◌, ◌∙◌, ℕ, zero, suc, ◌+◌, ◌-◌, ◌<◌, ◌≤◌, ◌==◌, true, false, cond}
use Rattle.std.proofs.Common.{List, [], ◌∷◌, ◌++◌, Some, None, length, take, drop, get_or, refl}
use Rattle.std.proofs.Common.{sym, ap, subst, arith, add-one, append_assoc, length-append}
use Rattle.std.proofs.Common.{length-drop, take-append-drop}
use Rattle.std.specs.Prelude.{slice_get, slice_range}
use Rattle.std.specs.List.{count_by, flat_map, slice_index_or}
use Rattle.std.proofs.lemmas.List.{drop_at, take_at, length-map}
use Rattle.std.proofs.lemmas.List.Sums.{sum_by-cons}
use Rattle.std.proofs.lemmas.Option.{slice_get-get_or, slice_get_past}
use Rattle.bstr.specs.Text.{lines_of, line_len, without_terminator}
use Rattle.bstr.proofs.lemmas.LineLemmas.{line_len-bounds, lines-step, lines-nil}
use Rattle.cb_scan.specs.Lines.{IsLineOf, line_of, line_text, lines}
use Rattle.cb_scan.specs.steps.LineStarts.{starts_from, line_starts}

-- lines, one after the other
abbrev pub joined : List (List ℕ) → List ℕ
joined ls = flat_map (λ l. l) ls

-- the lines of a text are the text, and each takes a byte at least
record AreLines (text : List ℕ) (ls : List (List ℕ)) : Type 0 where
  whole : joined ls ≡ text
  few : length ls ≤ length text

are_lines : (fuel : ℕ) (text : List ℕ) → length text ≤ fuel → AreLines text (lines_of text)
are_lines fuel [] small = subst (AreLines []) (sym lines-nil) (record { whole = refl; few = omega arith })
are_lines zero (b ∷ bs) small = absurd (omega arith)
are_lines (suc fuel) (b ∷ bs) small =
    let text = b ∷ bs in
    let some : 0 < length text = omega arith in
    let bounds = line_len-bounds text some in
    let later = are_lines fuel (drop (line_len text) text) (omega (arith, length-drop (line_len text) text)) in
    subst (AreLines text) (sym (lines-step text some)) (record {
      whole = ap (λ l. take (line_len text) text ++ l) later.whole ∙ take-append-drop (line_len text) text;
      few = omega (arith, later.few, length-drop (line_len text) text);
    })

pub lines-whole : (text : List ℕ) → joined (lines_of text) ≡ text
lines-whole text = (are_lines (length text) text (omega arith)).whole

pub lines-few : (text : List ℕ) → length (lines_of text) ≤ length text
lines-few text = (are_lines (length text) text (omega arith)).few

-- the lines after the first are one less at most
lines_rest : (bs : List ℕ) → length (lines_of bs) ≤ suc (length (lines_of (drop (line_len bs) bs)))
lines_rest [] = omega (arith, ap length lines-nil)
lines_rest (b ∷ bs) = omega (arith, ap length (lines-step (b ∷ bs) (omega arith)))

-- a byte before some bytes takes no line away, and a line feed adds one
lines_after : (b : ℕ) (bs : List ℕ) → cond (b == 10) 1 0 + length (lines_of bs) ≤ length (lines_of (b ∷ bs))
unfolding line_len
lines_after b bs =
    let step = ap length (lines-step (b ∷ bs) (omega arith)) in
    let split =
    elim (b == 10) as (λ c. cond c 1 0 + length (lines_of bs) ≤ suc
    (length (lines_of (drop (cond c 1 (suc (line_len bs))) (b ∷ bs)))))
    [ true ↦ omega arith | false ↦ omega (arith, lines_rest bs) ] in
    omega (arith, step, split)

-- the line feeds before a byte are fewer than the lines
feeds_few : (text : List ℕ) (place : ℕ) → place < length text
    → count_by (λ b. b == 10) (take place text) + 1 ≤ length (lines_of text)
feeds_few [] place within = absurd (omega arith)
feeds_few (b ∷ bs) zero within = omega (arith, ap length (lines-step (b ∷ bs) (omega arith)))
feeds_few (b ∷ bs) (suc place) within =
    omega (
      arith,
      sum_by-cons (λ c. cond (c == 10) 1 0) b (take place bs),
      lines_after b bs,
      feeds_few bs place (omega arith),
    )

-- a byte of a text is on one of its lines
pub line-within : (text : List ℕ) (place : ℕ) → place < length text → IsLineOf text (line_of text place)
line-within text place within =
    (omega arith, omega (arith, feeds_few text place within, length-map (lines_of text) without_terminator))

-- one entry a line, and one for the end
starts_length : (at : ℕ) (ls : List (List ℕ)) → length (starts_from at ls) ≡ length ls + 1
starts_length at [] = refl
starts_length at (l ∷ ls) = omega (arith, starts_length (at + length l) ls)

pub line_starts-length : (text : List ℕ) → length (line_starts text) ≡ length (lines text) + 1
unfolding line_starts
line_starts-length text =
    starts_length 0 (lines_of text) ∙ ap (λ n. n + 1) (sym (length-map (lines_of text) without_terminator))

-- line k of some lines after a text lies between its entries
pub record LiesBetween (text line : List ℕ) (start end : ℕ) : Type 0 where
  pub order : start ≤ end
  pub within : end ≤ length text
  pub reads : slice_range text start end ≡ line

first_start : (at : ℕ) (ls : List (List ℕ)) → get_or (starts_from at ls) 0 0 ≡ at
first_start at [] = refl
first_start at (l ∷ ls) = refl

lies : (pre : List ℕ) (at : ℕ) (ls : List (List ℕ)) (k : ℕ) → length pre ≡ at → k < length ls
    → LiesBetween (pre ++ joined ls) (get_or ls k []) (get_or (starts_from at ls) k 0)
    (get_or (starts_from at ls) (suc k) 0)
lies pre at [] k is within = absurd (omega arith)
lies pre at (l ∷ ls) zero is within =
    let ends = first_start (at + length l) ls in
    subst (λ e. LiesBetween (pre ++ (l ++ joined ls)) l at e) (sym ends) (record {
      order = omega arith;
      within = omega (arith, length-append pre (l ++ joined ls), length-append l (joined ls));
      reads =
          let long : at + length l - at ≡ length l = omega arith in
          (λ i. take (long i) (drop_at pre (l ++ joined ls) at is i)) ∙ take_at l (joined ls) (length l) refl;
    })
lies pre at (l ∷ ls) (suc k) is within =
    subst (λ t. LiesBetween t (get_or ls k []) (get_or (starts_from (at + length l) ls) k 0)
    (get_or (starts_from (at + length l) ls) (suc k) 0)) (append_assoc pre l (joined ls))
    (lies (pre ++ l) (at + length l) ls k (length-append pre l ∙ ap (λ n. n + length l) is) (omega arith))

-- line k of a text lies between entries k and k + 1
pub line_lies : (text : List ℕ) (k : ℕ) → k < length (lines_of text)
    → LiesBetween text (get_or (lines_of text) k []) (get_or (line_starts text) k 0)
    (get_or (line_starts text) (suc k) 0)
unfolding line_starts
line_lies text k within =
    subst (λ t. LiesBetween t (get_or (lines_of text) k []) (get_or (starts_from 0 (lines_of text)) k 0)
    (get_or (starts_from 0 (lines_of text)) (suc k) 0)) (lines-whole text) (lies [] 0 (lines_of text) k refl within)

module _ (text starts : List ℕ) (k : ℕ) (table : starts ≡ line_starts text) where
  -- a line that the table has
  in_table : k + 1 < length starts → k < length (lines_of text)
  in_table within = omega (
    arith,
    within,
    ap length table,
    line_starts-length text,
    length-map (lines_of text) without_terminator,
  )

  pub table_line : k + 1 < length starts
      → LiesBetween text (get_or (lines_of text) k []) (get_or starts k 0) (get_or starts (k + 1) 0)
  table_line within =
      subst (λ j. LiesBetween text (get_or (lines_of text) k []) (get_or starts k 0) (get_or starts j 0))
      (sym (add-one k))
      (subst (λ s. LiesBetween text (get_or (lines_of text) k []) (get_or s k 0) (get_or s (suc k) 0)) (sym table)
      (line_lies text k (in_table within)))

  pub table_order : k + 1 < length starts → get_or starts k 0 ≤ get_or starts (k + 1) 0
  table_order within = (table_line within).order

  pub table_within : k + 1 < length starts → get_or starts (k + 1) 0 ≤ length text
  table_within within = (table_line within).within

  -- the line itself
  pub table_reads : k + 1 < length starts
      → Some (slice_range text (get_or starts k 0) (get_or starts (k + 1) 0)) ≡ slice_get (lines_of text) k
  table_reads within = ap Some (table_line within).reads ∙ sym (slice_get-get_or (lines_of text) k [] (in_table within))

  -- no line after the table
  pub table_none : length starts ≤ k + 1 → None ≡ slice_get (lines_of text) k
  table_none past = sym (slice_get_past (lines_of text) k
      (omega (arith, past, ap length table, line_starts-length text, length-map (lines_of text) without_terminator)))

-- from 1 on the shown line n is the line at index n - 1
pub line_text-at : (text : List ℕ) (n : ℕ) → 0 < n → line_text text n ≡ slice_index_or (lines text) (n - 1) []
line_text-at text zero above = absurd (omega arith)
line_text-at text (suc n) above = let before : n ≡ suc n - 1 =
    omega arith in ap (λ k. slice_index_or (lines text) k []) before
