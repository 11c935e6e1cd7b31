use Rattle.std.proofs.Common.{◌∙◌, ap, sym}
use Rattle.cb_tags.specs.TagLines.{tag_of}
use Rattle.cb_macros.specs.Meeting.{meet_all, met_by}
use Rattle.cb_macros.specs.steps.Meetings.{seen_of}
use Rattle.cb_macros.proofs.MeetingLemmas.{none_missing, none_other}
use Rattle.cb_macros.proofs.search.meet_row.Goals as goal

pub returns-then-not-is_macro_kind : goal.returns-then-not-is_macro_kind
unfolding meet_all
returns-then-not-is_macro_kind c =
    let w = c.args.desk.now.timeline.present in
    sym (ap (λ l. meet_all w (seen_of c.args.seen.now) (met_by c.args.through.now l))
    (none_other w (tag_of c.args.row.now) (sym c.is_macro_kind.ensures ∙ c.if-not-is_macro_kind.true)))

pub returns-in-None : goal.returns-in-None
unfolding meet_all
returns-in-None c =
    let w = c.args.desk.now.timeline.present in
    sym (ap (λ l. meet_all w (seen_of c.args.seen.now) (met_by c.args.through.now l))
    (none_missing w (tag_of c.args.row.now) c.in-None.ensures))
