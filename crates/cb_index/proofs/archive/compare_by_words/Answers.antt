-- Eight bytes settle the order, or what follows them does.
use Rattle.std.proofs.Common.{◌∙◌, ◌<◌, arith, sym}
use Rattle.std.proofs.lemmas.List.{take_rest}
use Rattle.std.specs.Cmp.Lexicographic.{slice_cmp}
use Rattle.std.specs.Ordering.{nat_cmp}
use Rattle.cb_scan.proofs.KeyOrder.{by_recursion}
use Rattle.cb_index.proofs.WordOrder.{other_prefix, same_front}
use Rattle.cb_index.proofs.archive.compare_by_words.Goals as goal

pub returns-then-one-other : goal.returns-then-one-other
returns-then-one-other c =
    let left = c.words.left.now in
    let right = c.words.right.now in
    c.cmp.ensures ∙ (λ k. nat_cmp (c.key_prefix-one.ensures k) (c.key_prefix-other.ensures k))
    ∙ other_prefix left right (by_recursion (λ b. b < 256) left c.read_bytes.ensures)
    (by_recursion (λ b. b < 256) right c.read_bytes-in-words.ensures)
    (λ same. c.if-one-other.true
    (c.key_prefix-one.ensures ∙ same ∙ sym c.key_prefix-other.ensures))
    ∙ c.words.invariant

pub words-preserved : goal.words-preserved
words-preserved c =
    let left = c.words.left.now in
    let right = c.words.right.now in
    let long_left = c.words-test.true in
    let long_right = c.if-right-ge8.true in
    (λ k. slice_cmp nat_cmp (take_rest left 8 k) (take_rest right 8 k))
    ∙ sym (same_front 8 left right (by_recursion (λ b. b < 256) left c.read_bytes.ensures)
    (by_recursion (λ b. b < 256) right c.read_bytes-in-words.ensures)
    (omega (arith, long_left)) (omega (arith, long_right))
    (sym c.key_prefix-one.ensures ∙ c.if-one-other.false ∙ c.key_prefix-other.ensures))
    ∙ c.words.invariant
