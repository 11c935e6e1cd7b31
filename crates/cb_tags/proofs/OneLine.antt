-- A shown line has no line feed.
use Rattle.std.proofs.Common.{◌≡◌, ◌≢◌, ◌∙◌, ℕ, zero, suc, ◌-◌, ◌<◌, ◌==◌, ◌&&◌, List, [], ◌∷◌}
use Rattle.std.proofs.Common.{length, take, map, sym, ap, subst, ⊎_elim, arith}
use Rattle.std.specs.Prelude.{nat_lt, slice_index}
use Rattle.std.specs.List.{AllByRecursion, slice_index_or}
use Rattle.std.proofs.lemmas.Bool.{cases_Bool, false≢true, cond-true, cond-false, eq-eqb, and_from}
use Rattle.std.proofs.lemmas.Bool.Decides.{nat_tests}
use Rattle.bstr.specs.Text.{line_len, lines_from, lines_of, no_cr, without_terminator}
use Rattle.cb_scan.specs.Lines.{line_text}
use Rattle.cb_tags.specs.Addresses.{IsOneLine}

-- no byte but the last is a line feed
abbrev FeedsLast : List ℕ → Type 0
FeedsLast [] = Unit {0}
FeedsLast (b ∷ []) = Unit {0}
FeedsLast (b ∷ c ∷ bs) = (b ≢ 10) × FeedsLast (c ∷ bs)

feeds_more : (b : ℕ) (bs : List ℕ) → b ≢ 10 → FeedsLast bs → FeedsLast (b ∷ bs)
feeds_more b [] other f = tt
feeds_more b (c ∷ bs) other f = (other, f)

-- the first line of a text, with its line feed
first_line : (text : List ℕ) → FeedsLast (take (line_len text) text)
unfolding line_len
first_line [] = tt
first_line (b ∷ bs) = ⊎_elim
    (λ t. subst (λ n. FeedsLast (take n (b ∷ bs))) (sym (cond-true _ _ _ t)) tt)
    (λ f. subst (λ n. FeedsLast (take n (b ∷ bs))) (sym (cond-false _ _ _ f))
    (feeds_more b (take (line_len bs) bs) (λ e. false≢true (sym f ∙ eq-eqb b 10 e))
    (first_line bs)))
    (cases_Bool (b == 10))

each_line : (fuel : ℕ) (text : List ℕ) → AllByRecursion FeedsLast (lines_from fuel text)
unfolding lines_from
each_line zero text = tt
each_line (suc fuel) [] = tt
each_line (suc fuel) (b ∷ bs) = (first_line (b ∷ bs), each_line fuel _)

-- a front of it that leaves out the last byte, and a front of that
front-one : (bs : List ℕ) (n : ℕ) → FeedsLast bs → n < length bs → IsOneLine (take n bs)
front-one [] n f h = absurd (omega arith)
front-one (b ∷ bs) zero f h = tt
front-one (b ∷ []) (suc n) f h = absurd (omega arith)
front-one (b ∷ c ∷ bs) (suc n) f h = (f.0, front-one (c ∷ bs) n f.1 (omega arith))

part-one : (n : ℕ) (bs : List ℕ) → IsOneLine bs → IsOneLine (take n bs)
part-one zero bs one = tt
part-one (suc n) [] one = tt
part-one (suc n) (b ∷ bs) one = (one.0, part-one n bs one.1)

-- all of it, where the last byte is no line feed either
whole-one : (bs : List ℕ) → FeedsLast bs → (0 < length bs → slice_index bs (length bs - 1) ≢ 10)
    → IsOneLine bs
whole-one [] f other = tt
whole-one (b ∷ []) f other = (other (omega arith), tt)
whole-one (b ∷ c ∷ bs) f other =
    let next : length (b ∷ c ∷ bs) - 1 ≡ suc (length (c ∷ bs) - 1) = omega arith in (
      f.0,
      whole-one (c ∷ bs) f.1
          (λ some e. other (omega arith) (ap (slice_index (b ∷ c ∷ bs)) next ∙ e)),
    )

no_cr-one : (bs : List ℕ) → IsOneLine bs → IsOneLine (no_cr bs)
no_cr-one bs one = ⊎_elim
    (λ t. subst IsOneLine (sym (cond-true _ _ _ t)) (part-one (length bs - 1) bs one))
    (λ f. subst IsOneLine (sym (cond-false _ _ _ f)) one)
    (cases_Bool (nat_lt 0 (length bs) && slice_index bs (length bs - 1) == 13))

shown-one : (line : List ℕ) → FeedsLast line → IsOneLine (without_terminator line)
shown-one [] f = tt
shown-one (b ∷ bs) f =
    let line = b ∷ bs in
    let last = length line - 1 in
    ⊎_elim
    (λ t. subst IsOneLine (sym (cond-true _ _ _ t))
    (no_cr-one (take last line) (front-one line last f (omega arith))))
    (λ n. subst IsOneLine (sym (cond-false _ _ _ n))
    (whole-one line f (λ some e. false≢true (sym n ∙ and_from _ _ (grind (arith, nat_tests))
    (eq-eqb (slice_index line last) 10 e)))))
    (cases_Bool (nat_lt 0 (length line) && slice_index line last == 10))

at-one : (ls : List (List ℕ)) (k : ℕ) → AllByRecursion FeedsLast ls
    → IsOneLine (slice_index_or (map without_terminator ls) k [])
at-one [] k f = tt
at-one (l ∷ ls) zero f = shown-one l f.0
at-one (l ∷ ls) (suc k) f = at-one ls k f.1

-- each shown line of a text
pub line_text-one : (text : List ℕ) (n : ℕ) → IsOneLine (line_text text n)
line_text-one text zero = tt
line_text-one text (suc n) = at-one (lines_of text) n (each_line (length text) text)
