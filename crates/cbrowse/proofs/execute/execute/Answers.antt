use Rattle.std.proofs.Common.{inl, inr, refl}
use Rattle.cbrowse.proofs.Editors.{ready}
use Rattle.cbrowse.proofs.execute.execute.Goals as goal

pub returns-in-Ok : goal.returns-in-Ok
returns-in-Ok g c =
    inl (
      c.in-Ok.job,
      c.work_listed-end.new.job,
      c.work_listed-end.result,
      c.in-Ok.ensures,
      c.work_listed-end.ensures,
      c.conclude.ensures.status,
      c.conclude.ensures.said,
    )

pub returns-in-Err : goal.returns-in-Err
returns-in-Err g c =
    inr (
      c.in-Err.usage,
      c.in-Err.ensures,
      ((refl, refl), refl, c.refuse.ensures.status, c.refuse.ensures.said),
    )

pub work_listed-end-requires : goal.work_listed-end-requires
work_listed-end-requires g c = ready _ c.in-Ok.job c.in-Ok.ensures
