-- How long a text is after a replacement, and what makes it.
use Rattle.std.proofs.Common.{◌≡◌, ◌≢◌, ◌∙◌, sym, ap, refl, subst, ℕ, suc, ◌+◌, ◌*◌, ◌≤◌, List, []}
use Rattle.std.proofs.Common.{◌∷◌, ◌++◌, length, drop, arith, append_assoc, length-append}
use Rattle.std.proofs.Common.{length-drop, suc-mul, zero-mul}
use Rattle.std.proofs.Math.Nat.{le-mul_of_pos_right, mul-le-mul_left}
use Rattle.bstr.specs.Owned.{joined}
use Rattle.bstr.specs.Text.{split_at, part, replaced_at, without_terminator}
use Rattle.memchr.specs.Find.{matches}
use Rattle.cb_desk.specs.declared.bounds.TheConstants.{MOST_BYTES}
use Rattle.cb_desk.specs.Replacement.{gaps_of, replaced, replaced_line, line_end}
use Rattle.cb_desk.proofs.Gaps.{joined-next, joined-one, first-gap, has-cut, some-length}

-- joining the gaps is what replacing at the matches makes
pub joined-replaced : (hay : List ℕ) (m : ℕ) (rep : List ℕ) (last : ℕ) (ks : List ℕ)
    → joined rep (split_at hay m last ks) ≡ replaced_at hay m rep last ks
unfolding split_at replaced_at
joined-replaced hay m rep last [] = joined-one rep (drop last hay)
joined-replaced hay m rep last (k ∷ []) =
    joined-next rep (part last k hay) (drop (k + m) hay) []
    ∙ ap (λ xs. part last k hay ++ (rep ++ xs)) (joined-replaced hay m rep (k + m) [])
joined-replaced hay m rep last (k ∷ j ∷ js) =
    joined-next rep (part last k hay) (part (k + m) j hay) (split_at hay m (j + m) js)
    ∙ ap (λ xs. part last k hay ++ (rep ++ xs)) (joined-replaced hay m rep (k + m) (j ∷ js))

-- the bytes of all gaps
total : List (List ℕ) → ℕ
total [] = 0
total (g ∷ gs) = length g + total gs

joined-length : (b g : List ℕ) (gs : List (List ℕ))
    → length (joined b (g ∷ gs)) ≡ total (g ∷ gs) + length gs * length b
unfolding total
joined-length b g [] = ap length (joined-one b g) ∙ omega (arith, zero-mul (length b))
joined-length b g (h ∷ gs) =
    ap length (joined-next b g h gs)
    ∙ omega (
      arith,
      length-append g (b ++ joined b (h ∷ gs)),
      length-append b (joined b (h ∷ gs)),
      joined-length b h gs,
      suc-mul (length gs) (length b),
    )

split-length : (hay : List ℕ) (m last : ℕ) (ks : List ℕ)
    → length (split_at hay m last ks) ≡ suc (length ks)
unfolding split_at
split-length hay m last [] = refl
split-length hay m last (k ∷ ks) = ap suc (split-length hay m (k + m) ks)

-- the bytes of a text before and after, where its gaps have n bytes
abbrev AreSized : List ℕ → List ℕ → List ℕ → List (List ℕ) → ℕ → Type 0
AreSized old new text gs count =
    (n : ℕ) × (length text ≡ n + count * length old)
    × (length (joined new gs) ≡ n + count * length new)

sized-from : (old new text : List ℕ) (count : ℕ) (g : List ℕ) (gs : List (List ℕ))
    → suc (length gs) ≡ suc count → text ≡ joined old (g ∷ gs)
    → AreSized old new text (g ∷ gs) count
sized-from old new text count g gs many whole =
    let same : length gs ≡ count = omega arith in (
      total (g ∷ gs),
      ap length whole ∙ joined-length old g gs ∙ ap (λ n. total (g ∷ gs) + n * length old) same,
      joined-length new g gs ∙ ap (λ n. total (g ∷ gs) + n * length new) same,
    )

sized : (old new text : List ℕ) → old ≢ []
    → AreSized old new text (gaps_of old text) (length (matches text old 0))
sized old new text other =
    let ks = matches text old 0 in
    first-gap text old (some-length old other) 0 ks
    (λ gs. length gs ≡ suc (length ks) → text ≡ joined old gs
    → AreSized old new text gs (length ks))
    (λ h gs is. sized-from old new text (length ks) h gs)
    (split-length text (length old) 0 ks) (has-cut old text other).whole

-- the bytes of a line before and after
pub record LineSized (old new line : List ℕ) (count : ℕ) : Type 0 where
  pub few : count ≤ length line
  pub taken : count * length old ≤ length line
  pub put : length line + count * length new
      ≡ length (replaced_line old new line) + count * length old

pub line-sized : (old new line text : List ℕ) (count : ℕ) → old ≢ []
    → text ≡ without_terminator line → length text ≤ length line
    → count ≡ length (matches text old 0) → LineSized old new line count
line-sized old new line text count other is within counted =
    let shown = without_terminator line in
    let long : length text ≡ length shown = ap length is in
    let end = length-drop (length shown) line in
    let whole = length-append (replaced old new shown) (line_end line) in
    let same : count ≡ length (matches shown old 0) =
    counted ∙ ap (λ xs. length (matches xs old 0)) is in
    let s : AreSized old new shown (gaps_of old shown) count =
    subst (AreSized old new shown (gaps_of old shown)) (sym same) (sized old new shown other) in
    let before = s.1 in
    let after = s.2 in
    let many : count ≤ count * length old = le-mul_of_pos_right count (some-length old other) in
    record { few = omega arith; taken = omega arith; put = omega arith }

-- the new texts of one line take no more than so many bytes
pub new-bound : (count : ℕ) (new : List ℕ) → length new ≤ MOST_BYTES
    → count * length new ≤ count * MOST_BYTES
new-bound count new small = mul-le-mul_left count small

-- a line after its replacement, and then its end
pub line-made : (old new line text made : List ℕ) → text ≡ without_terminator line
    → (made ++ replaced_at text (length old) new 0 (matches text old 0)) ++ drop (length text) line
    ≡ made ++ replaced_line old new line
line-made old new line text made is =
    append_assoc made (replaced_at text (length old) new 0 (matches text old 0))
    (drop (length text) line)
    ∙ ap (λ xs.
    made ++ (replaced_at xs (length old) new 0 (matches xs old 0) ++ drop (length xs) line)) is
    ∙ ap (λ xs. made ++ (xs ++ line_end line)) (sym (joined-replaced (without_terminator line)
    (length old) new 0 (matches (without_terminator line) old 0)))
