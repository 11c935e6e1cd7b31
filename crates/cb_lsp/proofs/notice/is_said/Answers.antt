use Rattle.std.proofs.Common.{◌∙◌, arith, drop, sym}
use Rattle.json.specs.Value.{items_view}
use Rattle.cb_lsp.proofs.Events.{said-end, said-found, said-more, said-no-more}
use Rattle.cb_lsp.proofs.notice.is_said.Goals as goal

pub returns-then-i-eq-MOST_AHEAD : goal.returns-then-i-eq-MOST_AHEAD
returns-then-i-eq-MOST_AHEAD c =
    sym (said-no-more c.loop-i.i c.args.kind c.args.uri.now
    (items_view (drop c.loop-i.i c.args.events.now)) c.if-i-eq-MOST_AHEAD.true)
    ∙ c.loop-i.invariant.1

pub returns-then-says : goal.returns-then-says
returns-then-says c =
    sym (said-found c.args.kind c.args.uri.now c.args.events.now c.loop-i.i c.index-events-i.result
    c.loop-i-test.true c.index-events-i.is
    (omega (arith, c.loop-i.invariant.0, c.if-i-eq-MOST_AHEAD.false))
    (sym c.says.ensures ∙ c.if-says.true))
    ∙ c.loop-i.invariant.1

pub loop-i-preserved : goal.loop-i-preserved
loop-i-preserved c = (
  omega (arith, c.loop-i.invariant.0, c.if-i-eq-MOST_AHEAD.false),
  sym (said-more c.args.kind c.args.uri.now c.args.events.now c.loop-i.i c.index-events-i.result
      c.loop-i-test.true c.index-events-i.is
      (omega (arith, c.loop-i.invariant.0, c.if-i-eq-MOST_AHEAD.false))
      (sym c.says.ensures ∙ c.if-says.false))
      ∙ c.loop-i.invariant.1,
)

pub returns : goal.returns
returns c =
    sym (said-end c.args.kind c.args.uri.now c.args.events.now c.loop-i.i c.loop-i-test.false)
    ∙ c.loop-i.invariant.1
