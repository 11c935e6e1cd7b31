-- No more line feeds are counted than there are bytes.
use Rattle.std.proofs.Common.{◌∙◌, ◌+◌, ap, arith, rules}
use Rattle.cb_scan.proofs.FeedLanes.{few_in_all, few_so_far, one_turn}
use Rattle.cb_scan.proofs.lex.lined.feeds_among.Goals as goal

pub overflow_add-count : goal.overflow_add-count
overflow_add-count c =
    omega (
      arith,
      c.requires,
      few_so_far c.loop-rest.count c.feed_lanes-count.result c.loop-rest.rest.now c.args.bytes.now
          c.loop-rest.invariant.counted c.feed_lanes-count.ensures,
    )

pub loop-rest-preserved : goal.loop-rest-preserved
loop-rest-preserved c = record {
  counted = one_turn c.loop-rest.count c.feed_lanes-count.result _ c.loop-rest.rest.now c.loop-rest.invariant.counted
      c.feed_lanes-count.ensures;
  few = search rules;
}

pub overflow_add-result : goal.overflow_add-result
overflow_add-result c =
    omega (
      arith,
      c.requires,
      few_in_all c.loop-rest.count c.feeds_of.result c.loop-rest.rest.now c.args.bytes.now
          c.loop-rest.invariant.counted c.feeds_of.ensures,
    )

pub returns : goal.returns
returns c = ap (λ n. c.loop-rest.count + n) c.feeds_of.ensures ∙ c.loop-rest.invariant.counted
