-- The first line of a text, its end and what follows, in bytes and in units.
use Rattle.std.proofs.Common.{◌≡◌, ◌∙◌, sym, ap, ap₂, refl, ℕ, zero, suc, ◌+◌, ◌-◌, ◌<◌}
use Rattle.std.proofs.Common.{false, not, ◌==◌, nat_lt, List, [], ◌∷◌}
use Rattle.std.proofs.Common.{◌++◌, length, take, drop, map, arith, zero-add, append_assoc}
use Rattle.std.proofs.Common.{append-nil, length-append, drop-drop, take_at, drop_at, slice_index}
use Rattle.std.proofs.Common.{lt-ltb, eq-eqb}
use Rattle.std.specs.List.{slice_index_or, sum_by}
use Rattle.std.proofs.lemmas.Bool.{and_from, and_right, cond-true, cond-false, or_parts}
use Rattle.std.proofs.lemmas.List.{get_or_push, length_push, nil_from_length}
use Rattle.std.proofs.lemmas.List.Sums.{take_while-cons}
use Rattle.bstr.specs.Text.{line_len, no_cr, without_terminator}
use Rattle.bstr.proofs.lemmas.LineLemmas.{lines-nil}
use Rattle.cb_wire.specs.Offsets.{column_offset, end_size, ends_line, first_line, line_offset}
use Rattle.cb_wire.specs.Offsets.{offset, second_line}
use Rattle.cb_wire.specs.Positions.{line_start, shown_line}
use Rattle.cb_wire.proofs.Cells.{HasNoEnd}
use Rattle.cb_wire.proofs.Positions.{shown-suc, shown-zero, start-suc}

-- what stands behind a line: its end, or nothing at the end of the text
pub data IsEnd (end rest : List ℕ) : Type 0 where
  last : end ≡ [] → rest ≡ [] → IsEnd end rest
  feed : end ≡ 10 ∷ [] → IsEnd end rest
  both : end ≡ 13 ∷ 10 ∷ [] → IsEnd end rest

-- a text is a line, its end and the rest
pub record Lined (text line end rest : List ℕ) : Type 0 where
  pub is : text ≡ line ++ (end ++ rest)
  pub no_end : HasNoEnd line
  pub at_end : IsEnd end rest

-- ---- in units

first-of : (line end rest : List ℕ) → HasNoEnd line → IsEnd end rest
    → first_line (line ++ (end ++ rest)) ≡ line
first-of [] end rest bare (last e r) = ap₂ (λ a b. first_line (a ++ b)) e r
first-of [] end rest bare (feed e) = ap (λ a. first_line (a ++ rest)) e
first-of [] end rest bare (both e) = ap (λ a. first_line (a ++ rest)) e
first-of (u ∷ line) end rest bare at =
    take_while-cons (λ x. not (ends_line x)) u (line ++ (end ++ rest))
    ∙ cond-true (not (ends_line u)) _ _ (ap not bare.0)
    ∙ ap (λ l. u ∷ l) (first-of line end rest bare.1 at)

size-of : (end rest : List ℕ) → IsEnd end rest → end_size (end ++ rest) ≡ length end
size-of end rest (last e r) = ap₂ (λ a b. end_size (a ++ b)) e r ∙ sym (ap length e)
size-of end rest (feed e) = ap (λ a. end_size (a ++ rest)) e ∙ sym (ap length e)
size-of end rest (both e) = ap (λ a. end_size (a ++ rest)) e ∙ sym (ap length e)

module _ (text line end rest : List ℕ) (is : Lined text line end rest) where
  shown : first_line text ≡ line
  shown = ap first_line is.is ∙ first-of line end rest is.no_end is.at_end

  second : second_line text ≡ length (line ++ end)
  second =
      ap (λ l. length l + end_size (drop (length l) text)) shown
      ∙ ap (λ t. length line + end_size (drop (length line) t)) is.is
      ∙ ap (λ t. length line + end_size t) (drop_at line (end ++ rest) (length line) refl)
      ∙ ap (λ n. length line + n) (size-of end rest is.at_end) ∙ sym (length-append line end)

  pub left : drop (length (line ++ end)) text ≡ rest
  left =
      ap (drop (length (line ++ end))) (is.is ∙ sym (append_assoc line end rest))
      ∙ drop_at (line ++ end) rest (length (line ++ end)) refl

  pub offset-zero : (col : ℕ)
      → offset text (record { line = 0; character = col }) ≡ column_offset line col
  unfolding line_offset
  offset-zero col =
      zero-add (column_offset (first_line text) col) ∙ ap (λ l. column_offset l col) shown

  pub offset-suc : (n col : ℕ) → offset text (record { line = suc n; character = col })
      ≡ length (line ++ end) + offset rest (record { line = n; character = col })
  unfolding line_offset
  offset-suc n col =
      let size = length (line ++ end) in
      let start = line_offset rest n in
      let begins : line_offset text (suc n) ≡ size + start =
      ap (λ k. k + line_offset (drop k text) n) second
      ∙ ap (λ l. size + line_offset l n) left in
      let more = column_offset (first_line (drop start rest)) col in
      let assoc : size + start + more ≡ size + (start + more) = omega arith in
      ap (λ s. s + column_offset (first_line (drop s text)) col) begins
      ∙ ap (λ l. size + start + column_offset (first_line l) col)
      (sym (drop-drop start size text) ∙ ap (drop start) left)
      ∙ assoc

-- ---- in bytes

no_feed : (u : ℕ) → ends_line u ≡ false → (u == 10) ≡ false
no_feed u h = (or_parts _ _ h).0

no_return : (u : ℕ) → ends_line u ≡ false → (u == 13) ≡ false
no_return u h = (or_parts _ _ h).1

len-of : (line end rest : List ℕ) → HasNoEnd line → IsEnd end rest
    → line_len (line ++ (end ++ rest)) ≡ length (line ++ end)
unfolding line_len
len-of [] end rest bare (last e r) = ap₂ (λ a b. line_len (a ++ b)) e r ∙ sym (ap length e)
len-of [] end rest bare (feed e) = ap (λ a. line_len (a ++ rest)) e ∙ sym (ap length e)
len-of [] end rest bare (both e) = ap (λ a. line_len (a ++ rest)) e ∙ sym (ap length e)
len-of (u ∷ line) end rest bare at =
    cond-false (u == 10) 1 (suc (line_len (line ++ (end ++ rest)))) (no_feed u bare.0)
    ∙ ap suc (len-of line end rest bare.1 at)

pub none-at : (us : List ℕ) → HasNoEnd us → (k : ℕ) → ends_line (slice_index us k) ≡ false
none-at [] bare k = refl
none-at (u ∷ us) bare zero = bare.0
none-at (u ∷ us) bare (suc k) = none-at us bare.1 k

cut-feed : (line : List ℕ) → without_terminator (line ++ 10 ∷ []) ≡ no_cr line
cut-feed line =
    let more = line ++ 10 ∷ [] in
    let long = length_push line 10 in
    let at : length more - 1 ≡ length line = omega arith in
    cond-true _ _ _ (and_from (nat_lt 0 (length more)) (slice_index more (length more - 1) == 10)
    (lt-ltb 0 (length more) (omega arith))
    (eq-eqb (slice_index more (length more - 1)) 10
    (ap (slice_index more) at ∙ get_or_push line 10 0 (length line) refl)))
    ∙ ap no_cr (take_at line (10 ∷ []) (length more - 1) (sym at))

module _ (line : List ℕ) where
  cut-return : no_cr (line ++ 13 ∷ []) ≡ line
  cut-return =
      let more = line ++ 13 ∷ [] in
      let long = length_push line 13 in
      let at : length more - 1 ≡ length line = omega arith in
      cond-true _ _ _ (and_from (nat_lt 0 (length more)) (slice_index more (length more - 1) == 13)
      (lt-ltb 0 (length more) (omega arith))
      (eq-eqb (slice_index more (length more - 1)) 13
      (ap (slice_index more) at ∙ get_or_push line 13 0 (length line) refl)))
      ∙ take_at line (13 ∷ []) (length more - 1) (sym at)

  module _ (bare : HasNoEnd line) where
    keep-return : no_cr line ≡ line
    keep-return =
        cond-false _ _ _ (and_right (nat_lt 0 (length line))
        (slice_index line (length line - 1) == 13)
        (no_return (slice_index line (length line - 1)) (none-at line bare (length line - 1))))

    keep-feed : without_terminator line ≡ line
    keep-feed =
        cond-false _ _ _ (and_right (nat_lt 0 (length line))
        (slice_index line (length line - 1) == 10)
        (no_feed (slice_index line (length line - 1)) (none-at line bare (length line - 1))))

    shows : (end rest : List ℕ) → IsEnd end rest → without_terminator (line ++ end) ≡ line
    shows end rest (last e r) =
        ap without_terminator (ap (λ l. line ++ l) e ∙ append-nil line) ∙ keep-feed
    shows end rest (feed e) =
        ap (λ l. without_terminator (line ++ l)) e ∙ cut-feed line ∙ keep-return
    shows end rest (both e) =
        ap (λ l. without_terminator (line ++ l)) e
        ∙ ap without_terminator (sym (append_assoc line (13 ∷ []) (10 ∷ [])))
        ∙ cut-feed (line ++ 13 ∷ []) ∙ cut-return

-- the first line of a text is shown, and its other lines are those of the rest
pub record Begins (text line end rest : List ℕ) : Type 0 where
  pub shown : shown_line text 0 ≡ line
  pub shown_later : (n : ℕ) → shown_line text (suc n) ≡ shown_line rest n
  pub start_later : (n : ℕ) → line_start text (suc n) ≡ length (line ++ end) + line_start rest n

nothing-starts : (n : ℕ) → line_start [] n ≡ 0
nothing-starts zero = refl
nothing-starts (suc n) = ap (λ ls. sum_by length (take (suc n) ls)) lines-nil

nothing-shown : (n : ℕ) → shown_line [] n ≡ []
nothing-shown n = ap (λ ls. slice_index_or (map without_terminator ls) n []) lines-nil

pub begins : (text line end rest : List ℕ) → Lined text line end rest → Begins text line end rest
begins [] line end rest is =
    let none = ap length is.is in
    let all = length-append line (end ++ rest) in
    let more = length-append end rest in
    let no_line : line ≡ [] = nil_from_length line (omega arith) in
    let no_rest : rest ≡ [] = nil_from_length rest (omega arith) in
    let size = length-append line end in
    record {
      shown = nothing-shown 0 ∙ sym no_line;
      shown_later = λ n.
          nothing-shown (suc n) ∙ sym (nothing-shown n) ∙ ap (λ l. shown_line l n) (sym no_rest);
      start_later = λ n.
          let here = nothing-starts (suc n) in
          let later = ap (λ l. line_start l n) no_rest ∙ nothing-starts n in
          omega arith;
    }
begins (b ∷ bs) line end rest is =
    let text = b ∷ bs in
    let some : 0 < length text = omega arith in
    let size = ap line_len is.is ∙ len-of line end rest is.no_end is.at_end in
    let front : take (line_len text) text ≡ line ++ end =
    ap (λ n. take n text) size ∙ ap (take (length (line ++ end)))
    (is.is ∙ sym (append_assoc line end rest))
    ∙ take_at (line ++ end) rest (length (line ++ end)) refl in
    let back : drop (line_len text) text ≡ rest =
    ap (λ n. drop n text) size ∙ left text line end rest is in
    record {
      shown = shown-zero text some ∙ ap without_terminator front
          ∙ shows line is.no_end end rest is.at_end;
      shown_later = λ n. shown-suc text some n ∙ ap (λ l. shown_line l n) back;
      start_later = λ n. start-suc text some n
          ∙ ap₂ (λ (k : ℕ) (l : List ℕ). k + line_start l n) size back;
    }
