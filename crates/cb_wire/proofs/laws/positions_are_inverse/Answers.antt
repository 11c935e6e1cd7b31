use Rattle.cb_wire.proofs.Positions.{has_a_position, names_a_place-on, place-again, position-again}
use Rattle.cb_wire.proofs.laws.positions_are_inverse.Goals as goal

pub returns-clause-place : goal.returns-clause-place
returns-clause-place c = place-again

pub returns-clause-position : goal.returns-clause-position
returns-clause-position c = position-again

pub returns-clause-names_a_place : goal.returns-clause-names_a_place
returns-clause-names_a_place c = names_a_place-on

pub returns-clause-has_a_position : goal.returns-clause-has_a_position
returns-clause-has_a_position c = has_a_position
