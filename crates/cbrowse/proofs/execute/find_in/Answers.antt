use Rattle.std.specs.List.{flat_map}
use Rattle.std.proofs.Common.{subst}
use Rattle.cb_desk.specs.Answer.{answer}
use Rattle.cb_session.specs.Output.{row_line}
use Rattle.cb_session.specs.States.{State}
use Rattle.cbrowse.specs.Writes.{WritesText}
use Rattle.cbrowse.proofs.execute.find_in.Goals as goal

pub returns : goal.returns
returns g c =
    subst (λ (t : State).
    WritesText (flat_map row_line (answer t.timeline.present c.args.field c.args.pattern.now))
    c.args.out.now c.write_rows-ended.new.out c.write_rows-ended.result)
    c.into_desk-desk.ensures c.write_rows-ended.ensures
