use Rattle.std.proofs.Common.{subst}
use Rattle.cb_session.specs.States.{State}
use Rattle.cbrowse.specs.Program.{tags_output}
use Rattle.cbrowse.specs.Writes.{WritesText}
use Rattle.cbrowse.proofs.execute.tags_of.Goals as goal

pub returns : goal.returns
returns g c =
    subst (λ (t : State). WritesText (tags_output c.args.listing c.args.format t.timeline.present)
    c.args.out.now c.write_tags-ended.new.out c.write_tags-ended.result)
    c.into_desk-desk.ensures c.write_tags-ended.ensures
