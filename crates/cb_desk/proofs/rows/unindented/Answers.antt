use Rattle.std.proofs.lemmas.List.{take_rest}
use Rattle.cb_desk.proofs.Indents.{drop-blanks}
use Rattle.cb_desk.proofs.rows.unindented.Goals as goal

pub returns : goal.returns
returns c =
    rw (take_rest c.args.line.now c.blanks.result, c.blanks.ensures.value)
    (drop-blanks c.args.line.now)
