use Rattle.std.proofs.Common.{◌≡◌, ◌∙◌, ◌+◌, ◌<◌, false, sym, ap, arith}
use Rattle.cb_index.specs.Hash.{hash}
use Rattle.cb_index.specs.Items.{have_one_key, item_count, item_key}
use Rattle.cb_index.proofs.ColumnLemmas.{far_keys, skipped}
use Rattle.cb_index.proofs.ItemLemmas.{later_begun, later_found, later_passed}
use Rattle.cb_index.proofs.items.next_of_key.Goals as goal

pub loop-next-init : goal.loop-next-init
loop-next-init c =
    let sort = c.args.sort in
    let text = c.args.version.now in
    let item = c.args.item in
    let next = c.next_near-next.result in
    skipped (have_one_key sort text item) (item_count sort text) (item + 1) next
    c.next_near-next.ensures.from
    (far_keys sort text c.column-cells.result.now (item_key sort text item) (item + 1) next
    c.hash-hash.result c.column-cells.ensures (c.hash-hash.ensures.value ∙ ap hash c.item_key.ensures)
    c.next_near-next.ensures.far)
    ∙ later_begun sort text item

pub loop-next-preserved : goal.loop-next-preserved
loop-next-preserved c =
    let sort = c.args.sort in
    let text = c.args.version.now in
    let item = c.args.item in
    let at = c.loop-next.next in
    let next = c.next_near-next-in-loop-next.result in
    let below : at < item_count sort text =
    omega (arith, c.loop-next-test.true, c.item_count.ensures.value) in
    let isnt : have_one_key sort text item at ≡ false =
    sym (c.share_key.ensures ∙ ap (λ t. have_one_key sort t item at) c.text.ensures)
    ∙ c.if-share_key.false in
    skipped (have_one_key sort text item) (item_count sort text) (at + 1) next
    c.next_near-next-in-loop-next.ensures.from
    (far_keys sort text c.column-cells.result.now (item_key sort text item) (at + 1) next
    c.hash-hash.result c.column-cells.ensures (c.hash-hash.ensures.value ∙ ap hash c.item_key.ensures)
    c.next_near-next-in-loop-next.ensures.far)
    ∙ later_passed sort text item at below isnt ∙ c.loop-next.invariant

pub returns-then-share_key : goal.returns-then-share_key
returns-then-share_key c =
    let sort = c.args.sort in
    let text = c.args.version.now in
    let item = c.args.item in
    let at = c.loop-next.next in
    let below : at < item_count sort text =
    omega (arith, c.loop-next-test.true, c.item_count.ensures.value) in
    sym c.loop-next.invariant
    ∙ later_found sort text item at below
    (sym (c.share_key.ensures ∙ ap (λ t. have_one_key sort t item at) c.text.ensures)
    ∙ c.if-share_key.true)
