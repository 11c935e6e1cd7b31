use Rattle.std.proofs.Common.{◌∙◌, List, ℕ, ap, map, sym}
use Rattle.cb_names.specs.declared.macros.MacroName.{MacroName}
use Rattle.cb_scan.specs.lex.Tokens.{bytes_of}
use Rattle.cb_macros.specs.Meeting.{Met, meet, meet_all, met_through}
use Rattle.cb_macros.specs.steps.Meetings.{seen_of}
use Rattle.cb_macros.proofs.MeetingLemmas.{meet_step, past}
use Rattle.cb_macros.proofs.search.meet_names.Goals as goal

pub loop-i-preserved : goal.loop-i-preserved
loop-i-preserved c =
    let w = c.args.desk.now.timeline.present in
    let text = c.args.rest.now in
    let met : List ℕ → Met = λ name. record { name = name; through = c.args.through.now } in
    meet_step w met (λ (n : MacroName). bytes_of text n.name) c.names-names.result.now c.loop-i.i _ c.loop-i-test.true
    (seen_of c.loop-i.seen) (seen_of c.meet.new.seen)
    (c.in_ok-meet.ensures ∙ ap (λ name. meet w (seen_of c.loop-i.seen) (met name)) c.bytes_of-name.ensures)
    ∙ c.loop-i.invariant

pub returns : goal.returns
unfolding meet_all
returns c =
    let w = c.args.desk.now.timeline.present in
    sym (ap (λ l. meet_all w (seen_of c.loop-i.seen) (met_through c.args.through.now
    (map (λ (n : MacroName). bytes_of c.args.rest.now n.name) l))) (past c.names-names.result.now c.loop-i.i c.loop-i-test.false))
    ∙ c.loop-i.invariant
