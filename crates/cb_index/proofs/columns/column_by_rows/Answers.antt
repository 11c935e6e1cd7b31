use Rattle.std.proofs.Common.{◌≡◌, ◌∙◌, get_or, length, not, sym, ap, arith}
use Rattle.std.proofs.lemmas.Grind.{common_steps}
use Rattle.std.proofs.lemmas.List.FromFn.{get_or-map-range_with_len, length-map-range_with_len}
use Rattle.std.proofs.lemmas.List.FromFn.{map-range_with_len_more}
use Rattle.cb_index.specs.Columns.{cell_of}
use Rattle.cb_index.specs.Hash.{hash}
use Rattle.cb_index.specs.Items.{item_count, item_line}
use Rattle.cb_index.specs.Repeats.{is_repeat}
use Rattle.cb_index.specs.Scanned.{facts_of}
use Rattle.cb_index.specs.Cells.{Cell}
use Rattle.cb_index.specs.steps.Numbering.{Row, number_of}
use Rattle.cb_index.proofs.NumberLemmas.{IsRowOf, is_again, rows_more, rows_none}
use Rattle.cb_index.proofs.columns.column_by_rows.Goals as goal

pub loop-item-init : goal.loop-item-init
loop-item-init c = record {
  cells = c.in_ok-cells.ensures.items;
  room = grind (arith, common_steps);
  rows = rows_none c.args.sort c.args.text.now c.new-rows.result c.new-rows.ensures.empty;
}

pub index-requires : goal.index-requires
index-requires c =
    omega (
      arith,
      c.loop-item-test.true,
      ap length c.in_ok-numbers.ensures,
      length-map-range_with_len (number_of c.args.sort c.args.text.now) 0
          (item_count c.args.sort c.args.text.now),
    )

pub loop-item-preserved : goal.loop-item-preserved
loop-item-preserved c =
    let sort = c.args.sort in
    let text = c.args.text.now in
    let n = c.loop-item.item in
    let r : Row = (c.item_line-line.result, c.index.result.now, c.key_in-key.result) in
    let on : c.item_line-line.result ≡ item_line sort (facts_of text) n =
    c.item_line-line.ensures ∙ ap (λ f. item_line sort f n) c.facts.ensures in
    let numbered : c.index.result.now ≡ number_of sort text n =
    c.index.ensures ∙ ap (λ ns. get_or ns n c.index.result.now) c.in_ok-numbers.ensures
    ∙ get_or-map-range_with_len (number_of sort text) 0 (item_count sort text) n n
    c.index.result.now (omega (arith, c.loop-item-test.true, c.count_in-item-end.ensures.value))
    (omega arith) in
    let of : IsRowOf sort text r n = (on, numbered, c.key_in-key.ensures) in
    let again : not c.in-Ok.new ≡ is_repeat sort text n =
    is_again sort text n r c.loop-item.rows c.in-Ok.new of c.loop-item.invariant.rows
    c.in-Ok.ensures.added in
    let cell : record { hash = c.hash.result; repeat = not c.in-Ok.new } ≡ cell_of sort text n =
    λ i. record {
      hash = (c.hash.ensures.value ∙ ap hash c.key_in-key.ensures) i;
      repeat = again i;
    } in
    let more = map-range_with_len_more (cell_of sort text) 0 n n (omega arith) in
    record {
      cells = grind (arith, common_steps, more, cell);
      room = grind (arith, common_steps);
      rows =
          rows_more sort text n r c.loop-item.rows c.insert.new.self of c.loop-item.invariant.rows
          c.in-Ok.ensures.updates.0;
    }
