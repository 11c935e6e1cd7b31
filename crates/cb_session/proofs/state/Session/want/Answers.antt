use Rattle.std.proofs.Common.{refl}
use Rattle.cb_session.proofs.Outcomes.{Does-want, wanted-some}
use Rattle.cb_session.proofs.state.Session.want.Goals as goal

pub put_query-requires : goal.put_query-requires
put_query-requires g c =
    let done = rw c.in-Ok.is at c.change.ensures.timeline in wanted-some _ done.0 _ _ done.1

pub returns-in-Err : goal.returns-in-Err
returns-in-Err g c =
    Does-want _ _ _ _ _ _ _ _ _ c.change.result _ _ _ c.self.view_is c.change.ensures.timeline
    c.change.ensures.meter c.change.ensures.turns
    refl refl refl (rw c.in-Err.is c.put_refusal.ensures)

pub returns : goal.returns
returns g c =
    Does-want _ _ _ _ _ _ _ _ _ c.change.result _ _ _ c.self.view_is c.change.ensures.timeline
    c.change.ensures.meter c.change.ensures.turns
    c.put_query.ensures.timeline c.put_query.ensures.meter c.put_query.ensures.turns
    (rw c.in-Ok.is c.put_query.ensures.written)
