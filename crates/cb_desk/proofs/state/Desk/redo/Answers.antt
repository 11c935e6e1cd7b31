use Rattle.cb_desk.proofs.Moves.{moves-keep-valid, redo_keeps_valid}
use Rattle.cb_desk.proofs.state.Desk.redo.Goals as goal

pub invariant_of-self : goal.invariant_of-self
invariant_of-self c =
    moves-keep-valid _ _ _ _ c.self.invariant (λ v is. redo_keeps_valid _ v c.self.invariant is)
    c.redo.ensures.timeline
