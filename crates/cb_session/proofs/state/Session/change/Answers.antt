use Rattle.cb_session.proofs.Outcomes.{Does-other}
use Rattle.cb_session.proofs.state.Session.change.Goals as goal

pub returns-in_default : goal.returns-in_default
returns-in_default g c =
    Does-other _ _ _ _ _ _ _ _ c.self.view_is c.in_default.not-Want c.change.ensures.timeline
    c.change.ensures.meter c.change.ensures.turns c.put_move.ensures
