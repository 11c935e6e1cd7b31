use Rattle.cb_lsp.proofs.Ranged.{file-in_order, line-in_order, name-inside, places-in_order}
use Rattle.cb_lsp.proofs.laws.ranges_are_in_order.Goals as goal

pub returns-clause-places : goal.returns-clause-places
returns-clause-places c = places-in_order

pub returns-clause-line : goal.returns-clause-line
returns-clause-line c = line-in_order

pub returns-clause-file : goal.returns-clause-file
returns-clause-file c = file-in_order

pub returns-clause-name : goal.returns-clause-name
returns-clause-name c = name-inside
