-- What is sorted and has the same elements is the list in order.
use Rattle.std.proofs.Common.{rules, sym}
use Rattle.std.proofs.lemmas.List.Sorted.{IsPermutation-refl, answers_always}
use Rattle.cb_scan.specs.declared.facts.Call.{Call}
use Rattle.cb_scan.specs.Order.{call_key}
use Rattle.cb_scan.proofs.Merging.{call_earlier, sorted_from_ascending}
use Rattle.cb_scan.proofs.OrderLemmas.{call_exact, neighbours, sorted_is}
use Rattle.cb_scan.proofs.rules.order.order_calls.Goals as goal

pub returns : goal.returns
returns c =
    let moved = c.sort_unstable_by_key.ensures in
    sym (sorted_is call_key call_exact c.args.calls.now c.sort_unstable_by_key.new.self moved.permutation
    (neighbours call_key c.sort_unstable_by_key.new.self
    (moved.sorted call_key (answers_always _ _ _ (λ f a r q k. search (rules, k))))))

pub returns-then-ascend : goal.returns-then-ascend
returns-then-ascend c =
    sym (sorted_is call_key call_exact c.args.calls.now c.args.calls.now (IsPermutation-refl c.args.calls.now)
    (sorted_from_ascending call_key (λ (k : Call). k.callee.start) call_earlier 0 c.args.calls.now
    (sym c.if-ascend.ensures)))
