use Rattle.std.proofs.Common.{◌≡◌, ◌∙◌, ◌-◌, ap, sym, arith}
use Rattle.cb_macros.specs.Meeting.{rounds}
use Rattle.cb_macros.specs.steps.Meetings.{seen_of}
use Rattle.cb_macros.proofs.MeetingLemmas.{rounds_step}
use Rattle.cb_macros.proofs.search.rounds.Goals as goal

pub loop-i-preserved : goal.loop-i-preserved
loop-i-preserved c =
    rounds_step c.args.desk.now.timeline.present 16 c.loop-i.i (seen_of c.loop-i.seen) (seen_of c.in_ok-seen.seen)
    c.loop-i-test.true c.in_ok-seen.ensures
    ∙ c.loop-i.invariant

pub returns : goal.returns
unfolding rounds
returns c =
    let none : 16 - c.loop-i.i ≡ 0 = omega (arith, c.loop-i-test.false) in
    sym (ap (λ k. rounds c.args.desk.now.timeline.present k (seen_of c.loop-i.seen)) none)
    ∙ c.loop-i.invariant
