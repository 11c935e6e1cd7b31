use Rattle.cbrowse.specs.Program.{most_read}
use Rattle.cbrowse.proofs.Working.{stops_at}
use Rattle.cbrowse.proofs.execute.files.read_operands.Goals as goal

pub returns-in-Err : goal.returns-in-Err
returns-in-Err g c =
    stops_at (g.D.Disk.finds c.args.disk.now) (most_read c.args.bounds) c.args.files.now
    c.loop-name.operands.items c.name-item.result c.as_str.result.now c.loop-name.name-index
    c.loop-name.place c.in-Err.end c.loop-name.invariant.at c.loop-name-test.true c.name-item.is
    c.as_str.ensures.value c.loop-name.invariant.read c.loop-name.invariant.found c.in-Err.ensures
