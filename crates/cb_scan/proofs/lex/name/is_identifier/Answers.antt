use Rattle.std.proofs.Common.{◌∙◌, drop, sym, ap, arith}
use Rattle.std.proofs.lemmas.List.{take_rest}
use Rattle.std.specs.Prelude.{◌&&◌}
use Rattle.std.specs.List.{list_all}
use Rattle.cb_scan.specs.lex.Lexeme.{is_word}
use Rattle.cb_scan.proofs.WordLemmas.{identifier-none, identifier-parts}
use Rattle.cb_scan.proofs.lex.name.is_identifier.Goals as goal

pub returns-in-empty : goal.returns-in-empty
returns-in-empty c = identifier-none c.args.bytes.now (omega arith)

pub returns-then-is_letter : goal.returns-then-is_letter
returns-then-is_letter c =
    c.all_word_bytes.ensures
    ∙ ap (list_all is_word) (take_rest c.args.bytes.now 1)
    ∙ ap (λ b. b && list_all is_word (drop 1 c.args.bytes.now)) (sym c.if-is_letter.true ∙ c.is_letter.ensures)
    ∙ identifier-parts c.args.bytes.now c.in-len1-up.len_at_least

pub returns-else-is_letter : goal.returns-else-is_letter
returns-else-is_letter c =
    c.if-is_letter.false
    ∙ ap (λ b. b && list_all is_word (drop 1 c.args.bytes.now)) (sym c.if-is_letter.false ∙ c.is_letter.ensures)
    ∙ identifier-parts c.args.bytes.now c.in-len1-up.len_at_least
