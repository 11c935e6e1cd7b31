use Rattle.std.proofs.Common.{refl}
use Rattle.cbrowse.proofs.Tagsfiles.{from_fresh}
use Rattle.cbrowse.proofs.execute.run_job_into.Goals as goal

pub returns-clause-written : goal.returns-clause-written
returns-clause-written g c = (
  c.run_job_over-end.new.out,
  from_fresh _ _ c.new-out.result c.run_job_over-end.new.out c.run_job_over-end.result
      c.new-out.ensures.bytes c.run_job_over-end.ensures.written,
  (c.close.new.self, c.close.ensures, refl),
)
