use Rattle.std.proofs.Common.{◌∙◌, List, ℕ, ap, map, sym}
use Rattle.cb_scan.specs.lex.Tokens.{bytes_of}
use Rattle.cb_macros.specs.Meeting.{Met, meet, meet_all, met_first}
use Rattle.cb_macros.specs.steps.Meetings.{seen_of}
use Rattle.cb_macros.proofs.MeetingLemmas.{meet_step, past}
use Rattle.cb_macros.proofs.search.met_first.Goals as goal

pub loop-i-preserved : goal.loop-i-preserved
loop-i-preserved c =
    let w = c.args.desk.now.timeline.present in
    let met : List ℕ → Met = λ name. record { name = name; through = name } in
    meet_step w met (bytes_of c.args.source.now) c.args.names.now c.loop-i.i _ c.loop-i-test.true
    (seen_of c.loop-i.seen) (seen_of c.meet.new.seen)
    (c.in_ok-meet.ensures ∙ ap (λ name. meet w (seen_of c.loop-i.seen) (met name)) c.name_of-name.ensures)
    ∙ c.loop-i.invariant

pub returns : goal.returns
unfolding meet_all
returns c =
    let w = c.args.desk.now.timeline.present in
    sym (ap (λ l. meet_all w (seen_of c.loop-i.seen) (met_first (map (bytes_of c.args.source.now) l)))
    (past c.args.names.now c.loop-i.i c.loop-i-test.false))
    ∙ c.loop-i.invariant
