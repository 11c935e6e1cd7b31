use Rattle.cb_wire.proofs.Ascii.{ascii-run, run-of}
use Rattle.cb_wire.proofs.units.first_run.Goals as goal

pub returns-clause-run : goal.returns-clause-run
returns-clause-run c =
    run-of c.args.encoding c.args.line.now c.args.room c.first.result c.first.ensures.some
    c.first.ensures.value

pub returns-then-begins_with_block-clause-run : goal.returns-then-begins_with_block-clause-run
returns-then-begins_with_block-clause-run c =
    let is = c.begins_with_block.ensures c.if-begins_with_block.true in
    ascii-run c.args.encoding c.args.line.now 64 c.args.room is.0 is.1 is.2
