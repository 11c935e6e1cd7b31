use Rattle.cb_desk.specs.Tags.{tag_line}
use Rattle.cb_tags.specs.TagLines.{tag_of}
use Rattle.cb_session.proofs.Puts.{Written-all, Written-fault, Written-more}
use Rattle.cb_session.proofs.tags.put_tags.Goals as goal

pub returns-in_err-put_tag : goal.returns-in_err-put_tag
returns-in_err-put_tag g c =
    let k = c.in_err-put_tag.ensures in
    Written-fault (tag_line c.args.format) _ _ _ _ _ _ (tag_of c.in-Some.row) _ _
    c.loop-row.invariant c.in-Some.ensures.steps c.from_residual.ensures.1 k.1 k.0

pub loop-row-preserved : goal.loop-row-preserved
loop-row-preserved g c =
    Written-more (tag_line c.args.format) _ _ _ _ _ _ (tag_of c.in-Some.row) c.loop-row.invariant
    c.in-Some.ensures.steps c.in_ok-put_tag.ensures.0

pub returns : goal.returns
returns g c = (
  Written-all (tag_line c.args.format) _ _ _ _ c.loop-row.invariant c.in-None.ensures.steps.0,
  tt,
)
