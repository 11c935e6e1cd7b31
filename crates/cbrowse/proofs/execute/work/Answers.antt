use Rattle.std.proofs.Common.{◌∙◌, inr, refl}
use Rattle.cbrowse.specs.Files.{disk_over}
use Rattle.cbrowse.proofs.Working.{from_loads, stopped, stops, within_bounds}
use Rattle.cbrowse.proofs.execute.work.Goals as goal

pub returns-in-Err : goal.returns-in-Err
returns-in-Err g c =
    stops (disk_over g.D.Disk.finds g.D.Storage.shows g.D.Storage.does c.args.disk.now
    c.args.disk.now) _ _ _ _ _ _ c.bounds_of-bounds.ensures c.files_of.ensures c.in-Err.ensures refl

pub returns-in-Err-prepare : goal.returns-in-Err-prepare
returns-in-Err-prepare g c =
    inr (stopped (disk_over g.D.Disk.finds g.D.Storage.shows g.D.Storage.does c.args.disk.now
    c.args.disk.now) _ _ _ _ _ _ _ _ c.bounds_of-bounds.ensures c.needed_of.ensures
    (c.in-Ok.ensures.0 ∙ c.files_of.ensures) c.in-Ok.ensures.1 c.in-Ok-operands_of.ensures
    c.in-Err-prepare.ensures refl)

pub returns : goal.returns
returns g c =
    from_loads (disk_over g.D.Disk.finds g.D.Storage.shows g.D.Storage.does c.args.disk.now
    c.do_job.new.disk) _ _ _ _ _ _ _ _ _ _ _ c.bounds_of-bounds.ensures c.needed_of.ensures
    (c.in-Ok.ensures.0 ∙ c.files_of.ensures) c.in-Ok.ensures.1 c.in-Ok-operands_of.ensures
    c.in-Ok-prepare.ensures
    c.do_job.ensures

pub do_job-requires-clause-bounds : goal.do_job-requires-clause-bounds
do_job-requires-clause-bounds g c =
    within_bounds c.args.job.now _ _ _ _ c.bounds_of-bounds.ensures c.in-Ok-prepare.ensures
