-- Words are names of their text.
use Rattle.std.proofs.Common.{◌≡◌, ◌≤◌, ◌+◌, ◌-◌, ◌&&◌, ℕ, zero, suc, cond, sym, subst, refl, arith}
use Rattle.std.proofs.Common.{true, false, List, [], ◌∷◌, length, take, drop, map, Some, None}
use Rattle.std.proofs.Common.{length-drop, ⊎_elim}
use Rattle.std.specs.Prelude.{◌==◌, nat_lt, slice_index}
use Rattle.std.specs.List.{slice_index_or, sum_by}
use Rattle.std.proofs.lemmas.Bool.{cases_Bool, cond-false, cond-true}
use Rattle.std.proofs.lemmas.List.{length-take}
use Rattle.std.proofs.lemmas.List.Sums.{prefix_len-le-length, sum_by-cons}
use Rattle.bstr.specs.Text.{lines_of, no_cr, without_terminator}
use Rattle.cb_scan.specs.Definitions.{IsNameOf}
use Rattle.cb_scan.specs.declared.lex.piece.Span.{Span}
use Rattle.cb_scan.specs.lex.Lexeme.{is_word}
use Rattle.cb_scan.specs.lex.Reserved.{is_name}
use Rattle.cb_scan.specs.lex.Tokens.{bytes_of}
use Rattle.cb_wire.specs.declared.position.Position.{Position}
use Rattle.cb_wire.specs.declared.units.Encoding.{Encoding}
use Rattle.cb_wire.specs.Positions.{place, shown_line}
use Rattle.cb_wire.proofs.Fitting.{boundary-within, names_a_place}
use Rattle.cb_wire.proofs.Lines.{text-length}
use Rattle.cb_lsp.specs.Words.{run_at, word_at}

-- ---- places of positions lie in the text

cr-shorter : (bs : List ℕ) → length (no_cr bs) ≤ length bs
cr-shorter bs = ⊎_elim
    (λ t. subst (λ l. length l ≤ length bs) (sym (cond-true _ _ _ t))
    (omega (arith, length-take (length bs - 1) bs)))
    (λ f. subst (λ l. length l ≤ length bs) (sym (cond-false _ _ _ f)) (omega arith))
    (cases_Bool (nat_lt 0 (length bs) && slice_index bs (length bs - 1) == 13))

shown-shorter : (line : List ℕ) → length (without_terminator line) ≤ length line
shown-shorter line = ⊎_elim
    (λ t. subst (λ l. length l ≤ length line) (sym (cond-true _ _ _ t))
    (omega (
      arith,
      cr-shorter (take (length line - 1) line),
      length-take (length line - 1) line,
    )))
    (λ f. subst (λ l. length l ≤ length line) (sym (cond-false _ _ _ f)) (omega arith))
    (cases_Bool (nat_lt 0 (length line) && slice_index line (length line - 1) == 10))

-- where a line begins, and what is shown of it, are no more than all lines
line-within : (ls : List (List ℕ)) (n : ℕ) → sum_by length (take n ls)
    + length (slice_index_or (map without_terminator ls) n []) ≤ sum_by length ls
line-within [] zero = omega arith
line-within [] (suc n) = omega arith
line-within (l ∷ ls) zero = omega (arith, shown-shorter l, sum_by-cons length l ls)
line-within (l ∷ ls) (suc n) =
    omega (
      arith,
      line-within ls n,
      sum_by-cons length l ls,
      sum_by-cons length l (take n ls),
    )

place-within : (e : Encoding) (text : List ℕ) (p : Position) → place e text p ≤ length text
place-within e text p =
    let shown = shown_line text p.line in
    omega (
      arith,
      boundary-within e shown _ (names_a_place e shown p.character),
      line-within (lines_of text) p.line,
      text-length text,
    )

-- ---- words

run-named : (text : List ℕ) (at : ℕ) (word : Span) → at ≤ length text → word_at text at ≡ Some word
    → IsNameOf text word
run-named text at word within is =
    let run = run_at text at in
    let front = prefix_len-le-length is_word (drop at text) in
    (elim (is_name (bytes_of text run)) as (λ t. is_name (bytes_of text run) ≡ t
    → cond t (Some run) None ≡ Some word → IsNameOf text word) [
      | true ↦ λ h k.
          let same : run ≡ word = cc in
          subst (IsNameOf text) same ((omega arith, omega (arith, front, length-drop at text)), h)
      | false ↦ λ h k. cc
    ]) refl is

pub word-named : (e : Encoding) (text : List ℕ) (p : Position) (word : Span)
    → word_at text (place e text p) ≡ Some word → IsNameOf text word
word-named e text p word = run-named text (place e text p) word (place-within e text p)
