use Rattle.std.proofs.Common.{◌≡◌, ◌∙◌, rules, filter, subst, sym}
use Rattle.std.specs.declared.cmp.Ordering.TheVariants.{Less}
use Rattle.cb_scan.specs.Order.{AreOrdered}
use Rattle.cb_index.specs.Entries.{has_key}
use Rattle.cb_index.specs.Kinds.{fact_kind, keyer_of, prefix_of}
use Rattle.cb_index.specs.RowOrders.{row_order}
use Rattle.cb_index.specs.steps.RowsLeft.{rows_left}
use Rattle.cb_index.specs.steps.Spread.{rows_in}
use Rattle.cb_index.proofs.RowsAscendLemmas.{ascend}
use Rattle.cb_index.proofs.SpreadLemmas.{spread}
use Rattle.cb_index.proofs.sorted.Sorted.range.Goals as goal
use Rattle.cb_index.proofs.sorted.Sorted.range.Goals.{After-new}

-- the rows of the entries that have the key
are : (t : _) (c : After-new t) → rows_left c.new.result
    ≡ rows_in (fact_kind t.O.RowOrder.kind) c.args.archive.now (filter (has_key
    (keyer_of t.O.RowOrder.kind) c.args.archive.now (prefix_of t.O.RowOrder.kind c.args.key.now)
    c.args.key.now) c.args.self.now.entries)
are t c = search rules

pub returns-clause-entries : goal.returns-clause-entries
returns-clause-entries t c = are t c

pub returns-clause-rows : goal.returns-clause-rows
returns-clause-rows t c = λ files held.
    are t c
    ∙ spread t.O.RowOrder.kind c.args.archive.now files c.args.key.now c.args.self.now.entries
    held.there held.ascending held.entries

pub returns-clause-ascending : goal.returns-clause-ascending
returns-clause-ascending t c = λ files held.
    let kind = t.O.RowOrder.kind in
    let a = c.args.archive.now in
    let key = c.args.key.now in
    subst (AreOrdered (λ r s. row_order kind a r s ≡ Less))
    (sym (are t c
    ∙ spread kind a files key c.args.self.now.entries held.there held.ascending held.entries))
    (ascend kind a files key held.ascending)
