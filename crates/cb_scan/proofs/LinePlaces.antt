-- Where lines begin, and on which line a byte is, by the table of line starts.
use Rattle.std.proofs.Common.{◌≡◌, ◌∙◌, ℕ, zero, suc, ◌+◌, ◌-◌, ◌<◌, ◌≤◌, ◌==◌, Bool, true, false, cond}
use Rattle.std.proofs.Common.{List, [], ◌∷◌, length, take, drop, get_or, refl, ⊎_elim}
use Rattle.std.proofs.Common.{sym, ap, subst, arith, length-drop, length-take-le}
use Rattle.std.proofs.Common.{take-add, take_all}
use Rattle.std.specs.Prelude.{nat_le, sum_by, count_by}
use Rattle.std.specs.List.Sorted.{IsPartitionPoint, IsPartitionedBy}
use Rattle.std.proofs.lemmas.Bool.{cases_Bool, cond-true, cond-false, le-leb, leb-true, leb-false}
use Rattle.std.proofs.lemmas.List.Concat.{length-flat_map}
use Rattle.std.proofs.lemmas.List.Sums.{count_by-le-length, sum_by-append, sum_by-cons, sum_by-take-le}
use Rattle.bstr.specs.Text.{lines_of, line_len}
use Rattle.bstr.proofs.lemmas.LineLemmas.{line_len-bounds, lines-step, lines-nil}
use Rattle.cb_scan.specs.Lines.{line_of, line_start}
use Rattle.cb_scan.specs.steps.LineStarts.{starts_from, line_starts}
use Rattle.cb_scan.proofs.LineTable.{lines-few, lines-whole}

-- entry k is the place after the first k lines
after : (at : ℕ) (ls : List (List ℕ)) (k d : ℕ) → k ≤ length ls
    → get_or (starts_from at ls) k d ≡ at + sum_by length (take k ls)
after at [] zero d within = omega arith
after at (l ∷ ls) zero d within = omega arith
after at [] (suc k) d within = absurd (omega arith)
after at (l ∷ ls) (suc k) d within =
    after (at + length l) ls k d (omega arith) ∙ omega (arith, sum_by-cons length l (take k ls))

-- there is one entry more than there are lines
entries : (at : ℕ) (ls : List (List ℕ)) → length (starts_from at ls) ≡ length ls + 1
entries at [] = refl
entries at (l ∷ ls) = omega (arith, entries (at + length l) ls)

-- all lines are as long as their text
lines-length : (text : List ℕ) → sum_by length (lines_of text) ≡ length text
lines-length text = sym (length-flat_map (λ l. l) (lines_of text)) ∙ ap length (lines-whole text)

pub line_start-within : (text : List ℕ) (n : ℕ) → line_start text n ≤ length text
line_start-within text n = omega (arith, sum_by-take-le length (lines_of text) (n - 1), lines-length text)

module _ (text starts : List ℕ) (table : starts ≡ line_starts text) where
  size : length starts ≡ length (lines_of text) + 1
  unfolding line_starts
  size = ap length table ∙ entries 0 (lines_of text)

  entry : (k d : ℕ) → k < length starts → get_or starts k d ≡ sum_by length (take k (lines_of text))
  unfolding line_starts
  entry k d within =
      ap (λ s. get_or s k d) table ∙ after 0 (lines_of text) k d (omega (arith, size)) ∙ omega arith

  pub start_reads : (n : ℕ) → n - 1 < length starts → get_or starts (n - 1) 0 ≡ line_start text n
  start_reads n within = entry (n - 1) 0 within

  pub start_ends : (n : ℕ) → length starts ≤ n - 1 → length text ≡ line_start text n
  start_ends n past = sym (lines-length text)
      ∙ ap (sum_by length) (sym (take_all (n - 1) (lines_of text) (omega (arith, size))))

-- ---- on which line a byte is
abbrev feeds : List ℕ → ℕ
feeds bs = count_by (λ b. b == 10) bs

feeds-cons : (b : ℕ) (bs : List ℕ) → feeds (b ∷ bs) ≡ cond (b == 10) 1 0 + feeds bs
feeds-cons b bs = sum_by-cons (λ c. cond (c == 10) 1 0) b bs

-- bytes have at most as many lines as there are bytes, and one more
pub line_of-few : (text : List ℕ) (place : ℕ) → line_of text place ≤ length text + 1
line_of-few text place =
    omega (
      arith,
      sum_by-take-le (λ b. cond (b == 10) 1 0) text place,
      count_by-le-length (λ b. b == 10) text,
    )

-- lines rise with places
pub line_of-rises : (text : List ℕ) (a b : ℕ) → a ≤ b → line_of text a ≤ line_of text b
line_of-rises text a b order =
    let past : b ≡ a + (b - a) = omega (arith, order) in
    subst (λ n. line_of text a ≤ line_of text n) (sym past)
    (subst (λ t. line_of text a ≤ feeds t + 1) (sym (take-add a (b - a) text))
    (omega (
      arith,
      sum_by-append (λ c. cond (c == 10) 1 0) (take a text) (take (b - a) (drop a text)),
    )))

-- no line feed is before the end of the first line
first_line : (text : List ℕ) (place : ℕ) → place < line_len text → feeds (take place text) ≡ 0
unfolding line_len
first_line [] place within = absurd (omega arith)
first_line (b ∷ bs) zero within = refl
first_line (b ∷ bs) (suc place) within = ⊎_elim
    (λ yes. absurd (omega (arith, within, cond-true _ 1 (suc (line_len bs)) yes)))
    (λ no. feeds-cons b (take place bs) ∙ ap (λ c. cond c 1 0 + feeds (take place bs)) no
    ∙ omega (arith, first_line bs place (omega (arith, within, cond-false _ 1 (suc (line_len bs)) no))))
    (cases_Bool (b == 10))

-- a first line that ends before the text does has one line feed
whole_line : (text : List ℕ) → line_len text < length text → feeds (take (line_len text) text) ≡ 1
unfolding line_len
whole_line [] more = absurd (omega arith)
whole_line (b ∷ bs) more = ⊎_elim
    (λ yes. ap (λ c. feeds (take (cond c 1 (suc (line_len bs))) (b ∷ bs))) yes
    ∙ feeds-cons b [] ∙ ap (λ c. cond c 1 0 + feeds []) yes)
    (λ no. ap (λ c. feeds (take (cond c 1 (suc (line_len bs))) (b ∷ bs))) no
    ∙ feeds-cons b (take (line_len bs) bs) ∙ ap (λ c. cond c 1 0 + feeds (take (line_len bs) bs)) no
    ∙ omega (arith, whole_line bs (omega (arith, more, cond-false _ 1 (suc (line_len bs)) no))))
    (cases_Bool (b == 10))

-- a byte after the first line is one line further than in the rest
later_line : (text : List ℕ) (more : ℕ) → line_len text < length text
    → line_of text (line_len text + more) ≡ suc (line_of (drop (line_len text) text) more)
later_line text more some =
    ap (λ t. feeds t + 1) (take-add (line_len text) more text)
    ∙ omega (
      arith,
      sum_by-append (λ b. cond (b == 10) 1 0) (take (line_len text) text) (take more (drop (line_len text) text)),
      whole_line text some,
    )

-- where line k + 1 of a text begins
first_lines : (text : List ℕ) → 0 < length text → (k : ℕ)
    → sum_by length (take (suc k) (lines_of text))
    ≡ line_len text + sum_by length (take k (lines_of (drop (line_len text) text)))
first_lines text some k =
    let n = line_len text in
    let later = take k (lines_of (drop n text)) in
    ap (λ ls. sum_by length (take (suc k) ls)) (lines-step text some)
    ∙ sum_by-cons length (take n text) later
    ∙ ap (λ m. m + sum_by length later) (length-take-le n text (line_len-bounds text some).1)

-- a byte between two entries is on the line of the first
between : (fuel : ℕ) (text : List ℕ) (k place : ℕ) → length text ≤ fuel → k < length (lines_of text)
    → sum_by length (take k (lines_of text)) ≤ place → place < sum_by length (take (suc k) (lines_of text))
    → line_of text place ≡ suc k
between fuel [] k place small within low high = absurd (omega (arith, within, ap length lines-nil))
between zero (b ∷ bs) k place small within low high = absurd (omega arith)
between (suc fuel) (b ∷ bs) zero place small within low high =
    let text = b ∷ bs in
    let ends = first_lines text (omega arith) zero in
    omega (arith, first_line text place (omega (arith, high, ends)))
between (suc fuel) (b ∷ bs) (suc j) place small within low high =
    let text = b ∷ bs in
    let some : 0 < length text = omega arith in
    let n = line_len text in
    let rest = drop n text in
    let more : j < length (lines_of rest) = omega (arith, within, ap length (lines-step text some)) in
    let left : 0 < length rest = omega (arith, more, lines-few rest) in
    let fewer : n < length text = omega (arith, left, length-drop n text) in
    let begins = first_lines text some j in
    let ends = first_lines text some (suc j) in
    let past : place ≡ n + (place - n) = omega (arith, low, begins) in
    let there = between fuel rest j (place - n)
    (omega (arith, small, length-drop n text, (line_len-bounds text some).0)) more
    (omega (arith, low, begins)) (omega (arith, high, ends, past)) in
    ap (line_of text) past ∙ later_line text (place - n) fewer ∙ ap suc there

-- fewer lines are no longer
fewer_lines : (ls : List (List ℕ)) (i j : ℕ) → i ≤ j
    → sum_by length (take i ls) ≤ sum_by length (take j ls)
fewer_lines [] zero j order = omega arith
fewer_lines [] (suc i) zero order = absurd (omega arith)
fewer_lines [] (suc i) (suc j) order = omega arith
fewer_lines (l ∷ ls) zero j order = omega arith
fewer_lines (l ∷ ls) (suc i) zero order = absurd (omega arith)
fewer_lines (l ∷ ls) (suc i) (suc j) order =
    omega (
      arith,
      sum_by-cons length l (take i ls),
      sum_by-cons length l (take j ls),
      fewer_lines ls i j (omega arith),
    )

-- whether an entry is at a place or before it
abbrev pub begun : ℕ → ℕ → Bool
begun place start = nat_le start place

module _ (text starts : List ℕ) (table : starts ≡ line_starts text) (place : ℕ) where
  -- no entry at a place or before it follows one after it
  pub starts_parted : IsPartitionedBy (begun place) starts
  starts_parted i j d order within said =
      le-leb (get_or starts i d) place (omega (
        arith,
        entry text starts table i d (omega arith),
        entry text starts table j d within,
        fewer_lines (lines_of text) i j order,
        leb-true (get_or starts j d) place said,
      ))

  -- as many entries are at a byte or before it as its line says
  pub starts_before : (n : ℕ) → place < length text → n ≤ length starts
      → IsPartitionPoint (λ s. begun place s ≡ true) (λ s. begun place s ≡ false) starts n
      → n ≡ line_of text place
  starts_before zero within bound parted = absurd (omega (
    arith,
    leb-false (get_or starts 0 0) place (parted.1 0 0 (omega arith) (omega (arith, size text starts table))),
    entry text starts table 0 0 (omega (arith, size text starts table)),
  ))
  starts_before (suc k) within bound parted =
      let last = leb-true (get_or starts k 0) place (parted.0 k 0 (omega arith) (omega arith)) in
      let here = entry text starts table k 0 (omega arith) in
      let few : k < length (lines_of text) = ⊎_elim
      (λ yes. leb-true (suc k) (length (lines_of text)) yes)
      (λ no. absurd (omega (
        arith,
        within,
        last,
        here,
        lines-length text,
        ap (sum_by length) (take_all k (lines_of text) (omega (arith, leb-false (suc k) (length (lines_of text)) no))),
      )))
      (cases_Bool (nat_le (suc k) (length (lines_of text)))) in
      let next = entry text starts table (suc k) 0 (omega (arith, few, size text starts table)) in
      let after = leb-false (get_or starts (suc k) 0) place
      (parted.1 (suc k) 0 (omega arith) (omega (arith, few, size text starts table))) in
      sym (between (length text) text k place (omega arith) few (omega (arith, last, here)) (omega (arith, after, next)))
