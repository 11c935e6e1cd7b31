use Rattle.std.proofs.Common.{refl}
use Rattle.cbrowse.specs.Files.{disk_over}
use Rattle.cbrowse.proofs.Process.{process_ran, process_refused}
use Rattle.cbrowse.proofs.execute.execute_process.Goals as goal

pub returns-in-Ok : goal.returns-in-Ok
returns-in-Ok g c =
    process_ran (disk_over g.D.Disk.finds g.D.Storage.shows g.D.Storage.does c.args.disk.now
    c.execute.new.disk) c.args.words c.in-Ok.words c.as_slice.result.now c.execute.result c.args.feed.now
    c.execute.new.feed c.args.out.now c.execute.new.out c.args.errors.now c.execute.new.errors
    c.in-Ok.ensures c.as_slice.ensures.value c.execute.ensures

pub returns-in-Err : goal.returns-in-Err
returns-in-Err g c =
    process_refused (disk_over g.D.Disk.finds g.D.Storage.shows g.D.Storage.does c.args.disk.now
    c.args.disk.now) c.args.words c.in-Err.missing c.refuse.result c.args.feed.now c.args.out.now
    c.args.errors.now c.refuse.new.errors
    c.in-Err.ensures refl c.refuse.ensures.status c.refuse.ensures.said
