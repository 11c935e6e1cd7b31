use Rattle.std.proofs.Common.{◌≡◌, ◌∙◌, ◌-◌, sym, ap, arith}
use Rattle.cb_index.specs.Items.{item_line}
use Rattle.cb_index.specs.Repeats.{have_one_row}
use Rattle.cb_index.specs.Scanned.{facts_of}
use Rattle.cb_index.proofs.ItemLines.{any_stopped}
use Rattle.cb_index.proofs.RepeatLemmas.{any_found, any_none, any_passed}
use Rattle.cb_index.proofs.repeats.search_repeat.Goals as goal

pub returns-then-item_line-line : goal.returns-then-item_line-line
returns-then-item_line-line c =
    let sort = c.args.sort in
    let text = c.args.text.now in
    let k = c.loop-before.before in
    let own : c.item_line-line.result ≡ item_line sort (facts_of text) c.args.item =
    c.item_line-line.ensures ∙ ap (λ f. item_line sort f c.args.item) c.facts.ensures in
    let other : c.item_line.result ≡ item_line sort (facts_of text) (k - 1) =
    c.item_line.ensures ∙ ap (λ f. item_line sort f (k - 1)) c.facts-in-loop-before.ensures in
    any_stopped sort text c.args.item k (k - 1) (omega (arith, c.loop-before-test.true))
    c.loop-before.invariant.0 (omega (arith, own, other, c.if-item_line-line.true))
    ∙ c.loop-before.invariant.1

pub returns-then-has_row_of : goal.returns-then-has_row_of
returns-then-has_row_of c =
    let k = c.loop-before.before in
    any_found (have_one_row c.args.sort c.args.text.now c.args.item) k (k - 1)
    (omega (arith, c.loop-before-test.true))
    (sym c.has_row_of.ensures ∙ c.if-has_row_of.true)
    ∙ c.loop-before.invariant.1

pub loop-before-preserved : goal.loop-before-preserved
loop-before-preserved c =
    let k = c.loop-before.before in (
      omega (arith, c.loop-before.invariant.0),
      any_passed (have_one_row c.args.sort c.args.text.now c.args.item) k (k - 1)
          (omega (arith, c.loop-before-test.true))
          (sym c.has_row_of.ensures ∙ c.if-has_row_of.false)
          ∙ c.loop-before.invariant.1,
    )

pub returns : goal.returns
returns c =
    any_none (have_one_row c.args.sort c.args.text.now c.args.item) c.loop-before.before
    (omega (arith, c.loop-before-test.false))
    ∙ c.loop-before.invariant.1
