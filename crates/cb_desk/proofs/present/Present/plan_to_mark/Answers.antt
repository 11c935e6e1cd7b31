use Rattle.cb_desk.proofs.present.Present.plan_to_mark.Goals as goal

pub returns : goal.returns
returns c = rw c.in-Some.is c.plan_mark.ensures
