-- The same elements in order are the same list.
use Rattle.std.proofs.Common.{◌++◌, subst, sym}
use Rattle.std.specs.List.Sorted.{IsPermutation}
use Rattle.std.proofs.lemmas.Result.{IfOk-weaker}
use Rattle.cb_scan.specs.Order.{def_key}
use Rattle.cb_scan.proofs.Merging.{all_four}
use Rattle.cb_scan.proofs.OrderLemmas.{def_exact, in_order_same}
use Rattle.cb_scan.proofs.rules.order.all_defs.Goals as goal

pub returns : goal.returns
returns c =
    IfOk-weaker c.merged-3.result _ _
    (λ all moved. sym (in_order_same def_key def_exact _ all.items
    (all_four c.args.functions.now c.args.macros.now c.args.typedefs.now c.args.structures.now
    c.in_ok-named.named.items c.in_ok-declared.declared.items all.items
    c.in_ok-named.ensures c.in_ok-declared.ensures
    (subst (λ l. IsPermutation l all.items)
    (λ i. c.as_slice.ensures.value i ++ c.as_slice-2.ensures.value i) moved))))
    c.merged-3.ensures
