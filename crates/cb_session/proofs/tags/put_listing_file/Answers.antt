use Rattle.cb_tags.specs.TagLines.{listing_line, tag_of}
use Rattle.cb_session.proofs.Puts.{Written-all, Written-fault, Written-more}
use Rattle.cb_session.proofs.tags.put_listing_file.Goals as goal

pub returns-in_err-put_listed : goal.returns-in_err-put_listed
returns-in_err-put_listed g c =
    let k = c.in_err-put_listed.ensures in
    Written-fault listing_line _ _ _ _ _ _ (tag_of c.in-Some.row) _ _ c.loop-row.invariant
    c.in-Some.ensures.steps c.from_residual.ensures.1 k.1 k.0

pub loop-row-preserved : goal.loop-row-preserved
loop-row-preserved g c =
    Written-more listing_line _ _ _ _ _ _ (tag_of c.in-Some.row) c.loop-row.invariant
    c.in-Some.ensures.steps c.in_ok-put_listed.ensures.0

pub returns : goal.returns
returns g c = (Written-all listing_line _ _ _ _ c.loop-row.invariant c.in-None.ensures.steps.0, tt)
