-- The first bytes decide, or all of them pass and the others go on.
use Rattle.std.proofs.Common.{◌∙◌, ◌+◌, ap, arith, take}
use Rattle.std.specs.List.{prefix_len}
use Rattle.std.proofs.lemmas.List.{take_rest}
use Rattle.std.proofs.lemmas.List.Sums.{prefix_len-le-length}
use Rattle.std.proofs.lemmas.Simd.{length-chunk}
use Rattle.cb_scan.specs.lex.Lexeme.{is_word}
use Rattle.cb_scan.proofs.WordRun.{long_run, short_run}
use Rattle.cb_scan.proofs.lex.lexeme.name_len.Goals as goal

pub returns-then-run-lt-LANES-clause-value : goal.returns-then-run-lt-LANES-clause-value
returns-then-run-lt-LANES-clause-value c =
    let text = c.args.text.now in
    c.word_run-run.ensures
    ∙ short_run is_word 16 text (length-chunk 0 16 text (omega arith)) (omega (arith, c.word_run-run.ensures))

pub returns-else-run-lt-LANES-clause-value : goal.returns-else-run-lt-LANES-clause-value
returns-else-run-lt-LANES-clause-value c =
    let text = c.args.text.now in
    let long = length-chunk 0 16 text (omega arith) in
    ap (λ k. 16 + k)
    (c.words_len-else-run-lt-LANES.ensures.value ∙ ap (prefix_len is_word) (take_rest text 16))
    ∙ long_run is_word 16 text long
    (omega (arith, c.word_run-run.ensures, long, prefix_len-le-length is_word (take 16 text)))
