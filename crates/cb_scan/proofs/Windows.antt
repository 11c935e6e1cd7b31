-- What a window holds after one token more or less.
use Rattle.std.proofs.Common.{◌≡◌, ◌∙◌, ℕ, zero, suc, ◌+◌, ◌-◌, ◌<◌, ◌≤◌, List, [], ◌∷◌, ◌++◌, drop, length}
use Rattle.std.proofs.Common.{take, refl, sym, ap, arith}
use Rattle.std.proofs.Math.ListN.{set}
use Rattle.std.proofs.lemmas.List.{drop-drop, drop-take, drop_at, length-drop, length-take}
use Rattle.std.proofs.lemmas.List.{take-set-le, take-take, take_at}
use Rattle.std.proofs.lemmas.List.Edits.{take-paste}
use Rattle.std.proofs.Math.Seq.{paste, take-add, take-suc-set}

module _ {X : Type 0} where
  -- what is held in some places
  abbrev pub held : ℕ → ℕ → List X → List X
  held start end xs = take (end - start) (drop start xs)

  -- without the first
  pub popped : (start end : ℕ) (xs : List X) → start < end
      → held (start + 1) end xs ≡ drop 1 (held start end xs)
  popped start end xs less =
      let rest = end - (start + 1) in
      let one : end - start ≡ 1 + rest = omega arith in
      sym (ap (λ n. drop 1 (take n (drop start xs))) one
      ∙ drop-take 1 rest (drop start xs)
      ∙ ap (take rest) (drop-drop 1 start xs))

  drop_set : (start n end : ℕ) (xs : List X) (x : X) → end ≡ start + n
      → drop start (set xs end x) ≡ set (drop start xs) n x
  drop_set zero n end xs x at = let same : end ≡ n = omega arith in ap (λ e. set xs e x) same
  drop_set (suc start) n end [] x at = refl
  drop_set (suc start) n zero (y ∷ xs) x at = absurd (omega arith)
  drop_set (suc start) n (suc end) (y ∷ xs) x at = drop_set start n end xs x (omega arith)

  -- with one more
  pub pushed : (start end : ℕ) (xs : List X) (x : X) → start ≤ end → end < length xs
      → held start (end + 1) (set xs end x) ≡ held start end xs ++ (x ∷ [])
  pushed start end xs x le less =
      let n = end - start in
      let more : (end + 1) - start ≡ suc n = omega arith in
      let at : end ≡ start + n = omega arith in
      let short : n < length (drop start xs) = omega (arith, length-drop start xs) in
      ap (λ m. take m (drop start (set xs end x))) more
      ∙ ap (take (suc n)) (drop_set start n end xs x at)
      ∙ take-suc-set (drop start xs) n x short

  -- ---- places up to which two lists agree hold the same in both

  cut : (start end : ℕ) (xs : List X) → start ≤ end → held start end xs ≡ drop start (take end xs)
  cut start end xs le =
      let at : start + (end - start) ≡ end = omega arith in
      sym (drop-take start (end - start) xs) ∙ ap (λ n. drop start (take n xs)) at

  pub same_part : (n start end : ℕ) (xs ys : List X) → take n xs ≡ take n ys → start ≤ end
      → end ≤ n → held start end xs ≡ held start end ys
  same_part n start end xs ys same le less =
      cut start end xs le
      ∙ ap (drop start)
      (sym (take-take end n xs less) ∙ ap (take end) same ∙ take-take end n ys less)
      ∙ sym (cut start end ys le)

  pub set_beyond : (n start end : ℕ) (xs : List X) (x : X) → start ≤ end → end ≤ n
      → held start end (set xs n x) ≡ held start end xs
  set_beyond n start end xs x le less =
      same_part n start end (set xs n x) xs (take-set-le n xs n x (omega arith)) le less

  -- ---- at the front

  pub moved : (first start end last : ℕ) (xs : List X) → first ≤ start → start ≤ end → end ≤ last
      → last ≤ length xs
      → held (start - first) (end - first) (paste xs 0 (drop first xs) (last - first))
      ≡ held start end xs
  moved first start end last xs before le after less =
      let n = last - first in
      let short : n ≤ length (drop first xs) = omega (arith, length-drop first xs) in
      let all : n ≡ 0 + n = omega arith in
      let front : take n (paste xs 0 (drop first xs) n) ≡ take n (drop first xs) =
      ap (λ m. take m (paste xs 0 (drop first xs) n)) all
      ∙ take-paste xs 0 (drop first xs) n (omega arith) short in
      let same : (end - first) - (start - first) ≡ end - start = omega arith in
      let at : first + (start - first) ≡ start = omega arith in
      same_part n (start - first) (end - first) (paste xs 0 (drop first xs) n) (drop first xs) front
      (omega arith) (omega arith)
      ∙ ap (take ((end - first) - (start - first))) (drop-drop (start - first) first xs)
      ∙ (λ k. take (same k) (drop (at k) xs))

  pub front : (start end last : ℕ) (xs : List X) → start ≤ end → end ≤ last → last ≤ length xs
      → held 0 (end - start) (paste xs 0 (drop start xs) (last - start)) ≡ held start end xs
  front start end last xs le after less =
      let none : 0 ≡ start - start = omega arith in
      (λ k. held (none k) (end - start) (paste xs 0 (drop start xs) (last - start)))
      ∙ moved start start end last xs (omega arith) le after less

  -- ---- one of them is left out, or joins the tokens before it

  -- the tokens in places from `first` to `end`, without the first of them
  module _ (first end : ℕ) (xs : List X) (less : first < end) (within : end ≤ length xs) where
    abbrev many : ℕ
    many = end - (first + 1)

    abbrev without : List X
    without = paste xs first (drop (first + 1) xs) many

    both : take (first + many) without ≡ take first xs ++ take many (drop (first + 1) xs)
    both =
        let short : many ≤ length (drop (first + 1) xs) = omega (arith, length-drop (first + 1) xs) in
        take-paste xs first (drop (first + 1) xs) many (omega arith) short

    len : length (take first xs) ≡ first
    len = omega (arith, length-take first xs)

    pub left_out : held first (end - 1) without ≡ drop 1 (held first end xs)
    left_out =
        let same : (end - 1) - first ≡ many = omega arith in
        ap (λ n. take n (drop first without)) same
        ∙ sym (drop-take first many without)
        ∙ ap (drop first) both
        ∙ drop_at (take first xs) (take many (drop (first + 1) xs)) first len
        ∙ popped first end xs less

    pub before_left_out : (start : ℕ) → start ≤ first
        → held start first without ≡ held start first xs
    before_left_out start le =
        same_part first start first without xs
        (sym (take-take first (first + many) without (omega arith))
        ∙ ap (take first) both
        ∙ take_at (take first xs) (take many (drop (first + 1) xs)) first len)
        le (omega arith)

  pub kept : (start first end : ℕ) (xs : List X) → start ≤ first → first < end
      → held start (first + 1) xs ≡ held start first xs ++ take 1 (held first end xs)
  kept start first end xs le less =
      let more : (first + 1) - start ≡ (first - start) + 1 = omega arith in
      let at : start + (first - start) ≡ first = omega arith in
      ap (λ n. take n (drop start xs)) more
      ∙ take-add (first - start) 1 (drop start xs)
      ∙ ap (λ l. held start first xs ++ take 1 l)
      (drop-drop (first - start) start xs ∙ ap (λ n. drop n xs) at)
      ∙ ap (λ l. held start first xs ++ l)
      (sym (take-take 1 (end - first) (drop first xs) (omega arith)))
