use Rattle.std.proofs.Common.{arith, []}
use Rattle.cb_desk.specs.steps.Lent.{found_left}
use Rattle.cb_desk.proofs.Fresh.{fresh-distinct, fresh-few}
use Rattle.cb_desk.proofs.answers.rows.LookBack.new.Goals as goal

pub returns-clause-rows : goal.returns-clause-rows
returns-clause-rows c = fresh-distinct (found_left c.args.rows)

pub returns-clause-few : goal.returns-clause-few
returns-clause-few c =
    let few = fresh-few [] (found_left c.args.rows) in
    let all = c.requires.few in
    omega (arith, few, all)
