use Rattle.std.proofs.Common.{rules, ◌≡◌, ◌∙◌, ◌+◌, ◌<◌, ◌≤◌, ap, false, true, subst, arith, ⊎_elim}
use Rattle.std.proofs.lemmas.Bool.{cases_lt}
use Rattle.cb_index.specs.Items.{item_count}
use Rattle.cb_index.specs.Columns.{HasNone, column_of}
use Rattle.cb_index.proofs.ColumnLemmas.{far_keys}
use Rattle.cb_index.proofs.FirstLemmas.{has, is_first_of_key}
use Rattle.cb_index.proofs.SearchLemmas.{none_with, with_behind, with_found, with_past}
use Rattle.cb_index.proofs.facts.first_with_key.Goals as goal

pub loop-item-init : goal.loop-item-init
loop-item-init c = λ before low.
    far_keys c.args.sort c.args.version.now c.column-cells.result.now c.args.key.now 0
    c.next_near-item.result c.hash-hash.result c.column-cells.ensures c.hash-hash.ensures.value
    c.next_near-item.ensures.far before (omega arith) low

pub returns-then-eq-clause-first : goal.returns-then-eq-clause-first
returns-then-eq-clause-first c =
    let is : has c.args.sort c.args.version.now c.args.key.now c.loop-item.item ≡ true =
    search rules in
    is_first_of_key c.args.sort c.args.version.now c.args.key.now c.loop-item.item is
    c.loop-item.invariant

pub returns-then-eq-clause-items : goal.returns-then-eq-clause-items
returns-then-eq-clause-items c =
    let is : has c.args.sort c.args.version.now c.args.key.now c.loop-item.item ≡ true =
    search rules in
    let below : c.loop-item.item < item_count c.args.sort c.args.version.now =
    omega (arith, c.loop-item-test.true, c.item_count.ensures.value) in
    with_behind c.args.sort c.args.version.now c.args.key.now c.loop-item.item c.loop-item.invariant
    ∙ with_found c.args.sort c.args.version.now c.args.key.now c.loop-item.item below is

-- an item without the key is passed, and those behind it that are far
pub loop-item-preserved : goal.loop-item-preserved
loop-item-preserved c = λ before low.
    let sort = c.args.sort in
    let text = c.args.version.now in
    let key = c.args.key.now in
    let item = c.loop-item.item in
    let isnt : has sort text key item ≡ false = search rules in
    ⊎_elim
    (λ (early : before < item). c.loop-item.invariant before early)
    (λ late. ⊎_elim
    (λ (one : before < item + 1).
    let same : before ≡ item = omega (arith, late, one) in
    ap (has sort text key) same ∙ isnt)
    (λ (behind : item + 1 ≤ before).
    far_keys sort text c.column-cells.result.now key (item + 1)
    c.next_near-item-in-loop-item.result c.hash-hash.result c.column-cells.ensures
    c.hash-hash.ensures.value c.next_near-item-in-loop-item.ensures.far before behind low)
    (cases_lt before (item + 1)))
    (cases_lt before item)

pub returns-clause-items : goal.returns-clause-items
returns-clause-items c =
    let past : item_count c.args.sort c.args.version.now ≤ c.loop-item.item =
    omega (arith, c.loop-item-test.false, c.item_count.ensures.value) in
    with_behind c.args.sort c.args.version.now c.args.key.now c.loop-item.item c.loop-item.invariant
    ∙ with_past c.args.sort c.args.version.now c.args.key.now c.loop-item.item past

-- the signature has no flag for it
pub returns-then-not-may_have-clause-items : goal.returns-then-not-may_have-clause-items
returns-then-not-may_have-clause-items c =
    let sort = c.args.sort in
    let text = c.args.version.now in
    none_with sort text c.args.key.now
    (subst (λ h. HasNone h (column_of sort text)) c.hash-hash.ensures.value
    (c.may_have.ensures sort c.if-not-may_have.true))
