-- Lines behind a mark, and other marks.
use Rattle.std.proofs.Common.{◌≡◌, ◌∙◌, ◌+◌, ◌-◌, ◌≤◌, ◌++◌, ℕ, zero, suc, List, [], ◌∷◌}
use Rattle.std.proofs.Common.{length, length-append, length-drop, length-take-le, take, drop}
use Rattle.std.proofs.Common.{cond, map, take-append-drop, refl, sym, ap, subst, arith, inl, inr, true}
use Rattle.std.proofs.Common.{false, ⊎_elim, zero-add}
use Rattle.std.specs.Prelude.{Err, Ok, OnErr, OnOk, Result, ◌==◌}
use Rattle.std.specs.List.{slice_index_or, sum_by}
use Rattle.std.proofs.Math.Seq.{take-add}
use Rattle.std.proofs.lemmas.Bool.{cond-true, cond-false, cases_Bool}
use Rattle.std.proofs.lemmas.List.{take-append-le}
use Rattle.std.proofs.lemmas.List.Sums.{sum_by-append}
use Rattle.bstr.specs.Text.{line_len, without_terminator}
use Rattle.bstr.proofs.lemmas.LineLemmas.{lines-nil}
use Rattle.cb_wire.specs.Positions.{line_feeds, line_start, shown_line}
use Rattle.cb_wire.proofs.Positions.{feeds-no, feeds-yes, shown-suc, start-suc}
use Rattle.cb_lsp.specs.Changes.{replaced}
use Rattle.cb_lsp.specs.steps.LineMarks.{IsBefore, IsLineMark}

-- the start of a text
pub first-mark : (text : List ℕ) → IsLineMark text 0 0
first-mark text = record { within = omega arith; counted = refl }

-- ---- lines with a byte more before them

start-nil : (n : ℕ) → line_start [] n ≡ 0
start-nil zero = refl
start-nil (suc n) = ap (λ ls. sum_by length (take (suc n) ls)) lines-nil

shown-nil : (n : ℕ) → shown_line [] n ≡ []
shown-nil n = ap (λ ls. slice_index_or (map without_terminator ls) n []) lines-nil

-- a line feed begins the next line
module _ (b : ℕ) (t : List ℕ) (n : ℕ) (is : (b == 10) ≡ true) where
  one : line_len (b ∷ t) ≡ 1
  unfolding line_len
  one = cond-true (b == 10) 1 (suc (line_len t)) is

  start-feed : line_start (b ∷ t) (suc n) ≡ suc (line_start t n)
  start-feed = start-suc (b ∷ t) (omega arith) n ∙ ap (λ k. k + line_start (drop k (b ∷ t)) n) one
      ∙ omega arith

  shown-feed : shown_line (b ∷ t) (suc n) ≡ shown_line t n
  shown-feed = shown-suc (b ∷ t) (omega arith) n ∙ ap (λ k. shown_line (drop k (b ∷ t)) n) one

-- another byte begins none
module _ (b : ℕ) (no : (b == 10) ≡ false) where
  longer : (t : List ℕ) → line_len (b ∷ t) ≡ suc (line_len t)
  unfolding line_len
  longer t = cond-false (b == 10) 1 (suc (line_len t)) no

  start-more : (t : List ℕ) (n : ℕ) → line_start (b ∷ t) (suc n) ≡ suc (line_start t (suc n))
  unfolding line_len
  start-more [] n =
      let all : line_start (b ∷ []) (suc n) ≡ 1 + line_start [] n =
      start-suc (b ∷ []) (omega arith) n
      ∙ ap (λ k. k + line_start (drop k (b ∷ [])) n) (longer []) in
      omega (arith, all, start-nil n, start-nil (suc n))
  start-more (d ∷ ds) n =
      let t = d ∷ ds in
      let all : line_start (b ∷ t) (suc n) ≡ suc (line_len t) + line_start (drop (line_len t) t) n =
      start-suc (b ∷ t) (omega arith) n ∙ ap (λ k. k + line_start (drop k (b ∷ t)) n) (longer t) in
      omega (arith, all, start-suc t (omega arith) n)

  shown-more : (t : List ℕ) (n : ℕ) → shown_line (b ∷ t) (suc n) ≡ shown_line t (suc n)
  unfolding line_len
  shown-more [] n =
      shown-suc (b ∷ []) (omega arith) n ∙ ap (λ k. shown_line (drop k (b ∷ [])) n) (longer [])
      ∙ shown-nil n ∙ sym (shown-nil (suc n))
  shown-more (d ∷ ds) n =
      shown-suc (b ∷ d ∷ ds) (omega arith) n
      ∙ ap (λ k. shown_line (drop k (b ∷ d ∷ ds)) n) (longer (d ∷ ds))
      ∙ sym (shown-suc (d ∷ ds) (omega arith) n)

-- ---- lines behind some bytes

start-behind : (xs ys : List ℕ) (n : ℕ)
    → line_start (xs ++ ys) (line_feeds xs + suc n) ≡ length xs + line_start ys (suc n)
start-behind [] ys n =
    ap (line_start ys) (zero-add (suc n)) ∙ sym (zero-add (line_start ys (suc n)))
start-behind (b ∷ bs) ys n =
    let rest = start-behind bs ys n in
    ⊎_elim
    (λ is.
    let feeds : line_feeds (b ∷ bs) + suc n ≡ suc (line_feeds bs + suc n) =
    omega (arith, feeds-yes b bs is) in
    omega (
      arith,
      ap (line_start (b ∷ bs ++ ys)) feeds
          ∙ start-feed b (bs ++ ys) (line_feeds bs + suc n) is,
      rest,
    ))
    (λ no.
    let feeds : line_feeds (b ∷ bs) + suc n ≡ suc (line_feeds bs + n) =
    omega (arith, feeds-no b bs no) in
    let on : suc (line_feeds bs + n) ≡ line_feeds bs + suc n = omega arith in
    omega (
      arith,
      ap (line_start (b ∷ bs ++ ys)) feeds
          ∙ start-more b no (bs ++ ys) (line_feeds bs + n)
          ∙ ap (λ m. suc (line_start (bs ++ ys) m)) on,
      rest,
    ))
    (cases_Bool (b == 10))

shown-behind : (xs ys : List ℕ) (n : ℕ)
    → shown_line (xs ++ ys) (line_feeds xs + suc n) ≡ shown_line ys (suc n)
shown-behind [] ys n = ap (shown_line ys) (zero-add (suc n))
shown-behind (b ∷ bs) ys n =
    ⊎_elim
    (λ is.
    let feeds : line_feeds (b ∷ bs) + suc n ≡ suc (line_feeds bs + suc n) =
    omega (arith, feeds-yes b bs is) in
    ap (shown_line (b ∷ bs ++ ys)) feeds ∙ shown-feed b (bs ++ ys) (line_feeds bs + suc n) is
    ∙ shown-behind bs ys n)
    (λ no.
    let feeds : line_feeds (b ∷ bs) + suc n ≡ suc (line_feeds bs + n) =
    omega (arith, feeds-no b bs no) in
    let on : suc (line_feeds bs + n) ≡ line_feeds bs + suc n = omega arith in
    ap (shown_line (b ∷ bs ++ ys)) feeds ∙ shown-more b no (bs ++ ys) (line_feeds bs + n)
    ∙ ap (shown_line (bs ++ ys)) on ∙ shown-behind bs ys n)
    (cases_Bool (b == 10))

-- ---- marks

-- a front of a front
take-take : (n m : ℕ) (xs : List ℕ) → n ≤ m → m ≤ length xs → take n (take m xs) ≡ take n xs
take-take n m xs few within =
    sym (take-append-le n (take m xs) (drop m xs) (omega (arith, few, length-take-le m xs within)))
    ∙ ap (take n) (take-append-drop m xs)

module _ (text : List ℕ) (place feeds : ℕ) (mark : IsLineMark text place feeds) where
  abbrev front : List ℕ
  front = take place text

  abbrev rest : List ℕ
  rest = drop place text

  -- a line that begins behind a mark, or any from the start on
  pub starts-from : (line : ℕ) → IsBefore place feeds line
      → line_start text line ≡ place + line_start rest (line - feeds)
  starts-from line (inl start) =
      let none : feeds ≡ 0 = mark.counted ∙ ap (λ p. line_feeds (take p text)) start in
      let same : line - feeds ≡ line = omega (arith, none) in
      sym (ap (λ p. p + line_start (drop p text) (line - feeds)) start
      ∙ zero-add (line_start text (line - feeds)) ∙ ap (line_start text) same)
  starts-from line (inr before) =
      let n = line - feeds - 1 in
      let is : line ≡ line_feeds front + suc n = omega (arith, before, mark.counted) in
      let left : line - feeds ≡ suc n = omega (arith, before) in
      ap (line_start text) is ∙ ap (λ t. line_start t (line_feeds front + suc n))
      (sym (take-append-drop place text)) ∙ start-behind front rest n
      ∙ ap (λ k. k + line_start rest (suc n)) (length-take-le place text mark.within)
      ∙ ap (λ k. place + line_start rest k) (sym left)

  pub shows-from : (line : ℕ) → IsBefore place feeds line
      → shown_line text line ≡ shown_line rest (line - feeds)
  shows-from line (inl start) =
      let none : feeds ≡ 0 = mark.counted ∙ ap (λ p. line_feeds (take p text)) start in
      let same : line - feeds ≡ line = omega (arith, none) in
      sym (ap (λ p. shown_line (drop p text) (line - feeds)) start ∙ ap (shown_line text) same)
  shows-from line (inr before) =
      let n = line - feeds - 1 in
      let is : line ≡ line_feeds front + suc n = omega (arith, before, mark.counted) in
      let left : line - feeds ≡ suc n = omega (arith, before) in
      ap (shown_line text) is ∙ ap (λ t. shown_line t (line_feeds front + suc n))
      (sym (take-append-drop place text)) ∙ shown-behind front rest n
      ∙ ap (shown_line rest) (sym left)

  -- so many bytes on
  pub mark-on : (n : ℕ) → n ≤ length rest
      → IsLineMark text (place + n) (feeds + line_feeds (take n rest))
  mark-on n few = record {
    within = omega (arith, few, length-drop place text, mark.within);
    counted = ap (λ f. f + line_feeds (take n rest)) mark.counted
        ∙ sym (ap line_feeds (take-add place n text)
        ∙ sum_by-append (λ c. cond (c == 10) 1 0) front (take n rest));
  }

  -- what stands behind it may change
  pub mark-kept : (a b : ℕ) (new : List ℕ) → place ≤ a → a ≤ length text
      → IsLineMark (replaced a b new text) place feeds
  mark-kept a b new before within =
      let tail = new ++ drop b text in
      let size : length (take a text) ≡ a = length-take-le a text within in
      let same : take place text ≡ take place (take a text ++ tail) =
      sym (take-append-le place (take a text) tail (omega (arith, before, size))
      ∙ take-take place a text before within) in
      record {
        within = omega (arith, before, size, length-append (take a text) tail);
        counted = mark.counted ∙ ap line_feeds same;
      }

  -- so it does where memory is refused
  pub mark-put : (a b : ℕ) (new : List ℕ) → place ≤ a → a ≤ length text → {T E : Type 0}
      → (r : Result T E) (made : List ℕ) → OnOk r (made ≡ replaced a b new text)
      → OnErr r (made ≡ text) → IsLineMark made place feeds
  mark-put a b new before within (Ok v) made ok err =
      subst (λ t. IsLineMark t place feeds) (sym ok) (mark-kept a b new before within)
  mark-put a b new before within (Err e) made ok err =
      subst (λ t. IsLineMark t place feeds) (sym err) mark
