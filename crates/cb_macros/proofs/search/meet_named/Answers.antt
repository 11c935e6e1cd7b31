use Rattle.std.proofs.Common.{◌∙◌, ap, sym}
use Rattle.std.specs.List.{flat_map}
use Rattle.cb_tags.specs.TagLines.{tag_of}
use Rattle.cb_macros.specs.Meeting.{meet_all, met_by, rest_if}
use Rattle.cb_macros.specs.steps.Meetings.{seen_of}
use Rattle.cb_macros.proofs.MeetingLemmas.{rows_step}
use Rattle.cb_macros.proofs.search.meet_named.Goals as goal

pub rows-preserved : goal.rows-preserved
rows-preserved c =
    rows_step c.args.desk.now.timeline.present c.args.met.through.now (seen_of c.rows.seen)
    (seen_of c.meet_row.new.seen) (tag_of c.in-Some.row) _ _ c.in-Some.ensures.steps c.in_ok-meet_row.ensures
    ∙ c.rows.invariant

pub returns : goal.returns
unfolding meet_all
returns c =
    let w = c.args.desk.now.timeline.present in
    sym (ap (λ l. meet_all w (seen_of c.rows.seen) (met_by c.args.met.through.now (flat_map (rest_if w) l)))
    c.in_default.ensures.steps.0)
    ∙ c.rows.invariant
