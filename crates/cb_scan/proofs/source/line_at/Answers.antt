use Rattle.cb_scan.proofs.LineTable.{table_none, table_order, table_reads, table_within}
use Rattle.cb_scan.proofs.source.line_at.Goals as goal

pub returns-then-index-starts : goal.returns-then-index-starts
returns-then-index-starts c = table_none _ _ _ c.requires.table c.if-index-starts.true

pub slice_bounds-result-count : goal.slice_bounds-result-count
slice_bounds-result-count c = table_order c.args.text.now _ _ c.requires.table c.if-index-starts.false

pub slice_bounds-result-start : goal.slice_bounds-result-start
slice_bounds-result-start c = table_order c.args.text.now _ _ c.requires.table c.if-index-starts.false

pub slice_bounds-result-end : goal.slice_bounds-result-end
slice_bounds-result-end c = table_within c.args.text.now _ _ c.requires.table c.if-index-starts.false

pub returns : goal.returns
returns c = table_reads _ _ _ c.requires.table c.if-index-starts.false
