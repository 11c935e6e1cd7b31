use Rattle.cb_wire.proofs.Fitting.{column-back, has_a_column, names_a_place, place-back}
use Rattle.cb_wire.proofs.laws.columns_are_inverse.Goals as goal

pub returns-clause-place : goal.returns-clause-place
returns-clause-place c = place-back

pub returns-clause-column : goal.returns-clause-column
returns-clause-column c = column-back

pub returns-clause-names_a_place : goal.returns-clause-names_a_place
returns-clause-names_a_place c = names_a_place

pub returns-clause-has_a_column : goal.returns-clause-has_a_column
returns-clause-has_a_column c = has_a_column
