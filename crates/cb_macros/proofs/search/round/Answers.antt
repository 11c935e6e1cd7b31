use Rattle.std.proofs.Common.{◌∙◌, ap, map, sym, arith}
use Rattle.std.specs.List.{flat_map}
use Rattle.cb_macros.specs.Meeting.{meet_all, named_by}
use Rattle.cb_macros.specs.steps.Meetings.{met_of, seen_of}
use Rattle.cb_macros.proofs.MeetingLemmas.{past, round_step}
use Rattle.cb_macros.proofs.search.round.Goals as goal

pub loop-i-preserved : goal.loop-i-preserved
loop-i-preserved c =
    let w = c.args.desk.now.timeline.present in
    let here = c.index.result.now in
    round_step w met_of c.args.seen.fresh.items c.loop-i.i here
    (omega (arith, c.loop-i-test.true, c.len-i-end.ensures)) (seen_of c.loop-i.next) (seen_of c.meet_named.new.seen)
    (c.in_ok-meet_named.ensures
    ∙ ap (λ m. meet_all w (seen_of c.loop-i.next) (named_by w (met_of m))) c.index.ensures)
    ∙ c.loop-i.invariant

pub returns : goal.returns
unfolding meet_all
returns c =
    let w = c.args.desk.now.timeline.present in
    sym (ap (λ l. meet_all w (seen_of c.loop-i.next) (flat_map (named_by w) (map met_of l)))
    (past c.args.seen.fresh.items c.loop-i.i (omega (arith, c.loop-i-test.false, c.len-i-end.ensures))))
    ∙ c.loop-i.invariant
