use Rattle.std.proofs.Common.{◌≡◌, ◌∙◌, ◌<◌, false, get_or, length, map, ap, arith}
use Rattle.std.proofs.lemmas.Grind.{common_steps}
use Rattle.std.proofs.lemmas.List.FromFn.{get_or-map-range_with_len, length-map-range_with_len}
use Rattle.std.proofs.lemmas.List.FromFn.{map-range_with_len_more}
use Rattle.std.specs.List.{range_with_len}
use Rattle.cb_index.specs.Columns.{cell_of}
use Rattle.cb_index.specs.Hash.{hash}
use Rattle.cb_index.specs.Items.{item_count}
use Rattle.cb_index.specs.Repeats.{is_repeat}
use Rattle.cb_index.specs.Cells.{Cell}
use Rattle.cb_index.specs.declared.entry.FactKind.TheVariants.{Callees, Callers}
use Rattle.cb_index.proofs.NumberLemmas.{one_repeat}
use Rattle.cb_index.proofs.columns.callers_of.Goals as goal

pub overflow_cast-item : goal.overflow_cast-item
overflow_cast-item c =
    let size = length-map-range_with_len (cell_of Callees c.args.text.now) 0
    (item_count Callees c.args.text.now) in
    omega (
      arith,
      c.loop-item-test.true,
      ap length c.requires,
      size,
      c.count_in-count.ensures.few,
      c.count_in-count.ensures.value,
    )

pub loop-item-preserved : goal.loop-item-preserved
loop-item-preserved c =
    let text = c.args.text.now in
    let n = c.loop-item.item in
    let none : Cell = record { hash = 0; repeat = false } in
    let count = item_count Callees text in
    let below : n < count =
    omega (
      arith,
      c.loop-item-test.true,
      ap length c.requires,
      length-map-range_with_len (cell_of Callees text) 0 count,
    ) in
    let repeat : (get_or c.args.callees.now n none).repeat ≡ is_repeat Callers text n =
    ap (λ cs. (get_or cs n none).repeat) c.requires
    ∙ ap (λ (k : Cell). k.repeat)
    (get_or-map-range_with_len (cell_of Callees text) 0 count n n none below (omega arith))
    ∙ one_repeat text n below in
    let cell : record { hash = c.hash.result; repeat = (get_or c.args.callees.now n none).repeat }
    ≡ cell_of Callers text n =
    λ i. record { hash = (c.hash.ensures.value ∙ ap hash c.key_in.ensures) i; repeat = repeat i } in
    let more = map-range_with_len_more (cell_of Callers text) 0 n n (omega arith) in
    record {
      cells = grind (arith, common_steps, more, cell);
      room = grind (arith, common_steps);
    }

pub returns : goal.returns
returns c =
    let size = length-map-range_with_len (cell_of Callees c.args.text.now) 0
    (item_count Callees c.args.text.now) in
    let same : c.loop-item.item ≡ item_count Callees c.args.text.now =
    omega (arith, c.loop-item-test.false, c.loop-item.auto.item-end, ap length c.requires, size) in
    c.loop-item.invariant.cells
    ∙ ap (λ n. map (cell_of Callers c.args.text.now) (range_with_len 0 n)) same
