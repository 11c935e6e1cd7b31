-- The lines of a text, walked one by one.
use Rattle.std.proofs.Common.{◌≡◌, ℕ, zero, suc, ◌+◌, ◌-◌, ◌<◌, ◌≤◌, List, [], ◌∷◌, length, take}
use Rattle.std.proofs.Common.{map, refl, sym, ap, ◌∙◌, arith, length-append, zero-add, subst}
use Rattle.std.specs.List.{slice_index_or, sum_by}
use Rattle.std.proofs.lemmas.List.Sums.{sum_by-cons}
use Rattle.bstr.specs.Text.{lines_of, without_terminator}
use Rattle.cb_scan.proofs.LineTable.{joined, lines-whole}
use Rattle.cb_wire.specs.Positions.{line_start, shown_line}

-- from a place, with lines to come of which `left` are passed over, to where a line begins
pub record WalksTo (text : List ℕ) (line start left : ℕ) (ls : List (List ℕ)) : Type 0 where
  pub begins : start + sum_by length (take left ls) ≡ line_start text line
  pub shows : slice_index_or (map without_terminator ls) left [] ≡ shown_line text line
  pub whole : start + sum_by length ls ≡ length text

joined-length : (ls : List (List ℕ)) → length (joined ls) ≡ sum_by length ls
joined-length [] = refl
joined-length (l ∷ ls) =
    length-append l (joined ls) ∙ ap (λ n. length l + n) (joined-length ls) ∙ sym (sum_by-cons length l ls)

pub text-length : (text : List ℕ) → sum_by length (lines_of text) ≡ length text
text-length text = sym (joined-length (lines_of text)) ∙ ap length (lines-whole text)

pub walk-begins : (text : List ℕ) (line : ℕ) (ls : List (List ℕ)) → ls ≡ lines_of text
    → WalksTo text line 0 line ls
walk-begins text line ls is = record {
  begins = zero-add (sum_by length (take line ls)) ∙ ap (λ l. sum_by length (take line l)) is;
  shows = ap (λ l. slice_index_or (map without_terminator l) line []) is;
  whole = zero-add (sum_by length ls) ∙ ap (λ l. sum_by length l) is ∙ text-length text;
}

-- one line on
pub walk-on : (text : List ℕ) (line start left : ℕ) (l : List ℕ) (ls all : List (List ℕ))
    → all ≡ l ∷ ls → 0 < left → WalksTo text line start left all
    → WalksTo text line (start + length l) (left - 1) ls
walk-on text line start zero l ls all is some w = absurd (omega arith)
walk-on text line start (suc left) l ls all is some w =
    let one : suc left - 1 ≡ left = omega arith in
    let w' = subst (WalksTo text line start (suc left)) is w in
    subst (λ n. WalksTo text line (start + length l) n ls) (sym one) (record {
      begins = omega (arith, w'.begins, sum_by-cons length l (take left ls));
      shows = w'.shows;
      whole = omega (arith, w'.whole, sum_by-cons length l ls);
    })

-- there
pub record IsThere (text : List ℕ) (line start : ℕ) (l : List ℕ) : Type 0 where
  pub begins : start ≡ line_start text line
  pub shows : without_terminator l ≡ shown_line text line
  pub within : start + length l ≤ length text

pub walk-there : (text : List ℕ) (line start left : ℕ) (l : List ℕ) (ls all : List (List ℕ))
    → all ≡ l ∷ ls → left ≡ 0 → WalksTo text line start left all → IsThere text line start l
walk-there text line start left l ls all is none w =
    let w' =
    subst (λ n. WalksTo text line start n (l ∷ ls)) none (subst (WalksTo text line start left) is w) in
    record {
      begins = omega (arith, w'.begins);
      shows = w'.shows;
      within = omega (arith, w'.whole, sum_by-cons length l ls);
    }

-- all lines were passed over
pub walk-past : (text : List ℕ) (line start left : ℕ) (ls : List (List ℕ)) → ls ≡ []
    → WalksTo text line start left ls
    → (start ≡ line_start text line) × ([] ≡ shown_line text line) × (start ≤ length text)
walk-past text line start zero ls is w =
    let w' = subst (WalksTo text line start 0) is w in
    (omega (arith, w'.begins), w'.shows, omega (arith, w'.whole))
walk-past text line start (suc left) ls is w =
    let w' = subst (WalksTo text line start (suc left)) is w in
    (omega (arith, w'.begins), w'.shows, omega (arith, w'.whole))
