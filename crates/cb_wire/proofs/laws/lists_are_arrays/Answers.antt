use Rattle.std.proofs.Common.{arith}
use Rattle.cb_wire.proofs.Arrays.{items-depth, items-numbers, list-reads, list-text}
use Rattle.cb_wire.proofs.Printed.{array-text}
use Rattle.cb_wire.proofs.laws.lists_are_arrays.Goals as goal

pub returns-clause-text : goal.returns-clause-text
returns-clause-text c = array-text

pub returns-clause-reply : goal.returns-clause-reply
returns-clause-reply c = list-text

pub returns-clause-numbers : goal.returns-clause-numbers
returns-clause-numbers c = items-numbers

pub returns-clause-depth : goal.returns-clause-depth
returns-clause-depth c = λ js most p. omega (arith, items-depth js most p)

pub returns-clause-read_back : goal.returns-clause-read_back
returns-clause-read_back c = list-reads
