use Rattle.std.proofs.Common.{inl, inr, refl}
use Rattle.cbrowse.proofs.execute.work_listed.Goals as goal

pub returns-in-Ok : goal.returns-in-Ok
returns-in-Ok g c = inl (c.take_list.new.feed, c.in-Ok.ensures.taken, c.work.ensures)

pub returns-in-Err : goal.returns-in-Err
returns-in-Err g c = inr (c.take_list.ensures.list, c.in-Err.ensures.taken, refl, refl)
