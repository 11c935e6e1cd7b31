use Rattle.cb_session.specs.Inputs.{first}
use Rattle.cb_session.specs.Models.{request_of}
use Rattle.cb_session.proofs.Round.{Round-unprompted, Round-unread, Round-unanswered}
use Rattle.cb_session.proofs.Round.{Round-answered, Follows-unprompted, Follows-unread}
use Rattle.cb_session.proofs.Round.{Follows-unanswered, Follows-answered, Reading-unprompted}
use Rattle.cb_session.proofs.Round.{Reading-unread, Reading-unanswered, Reading-answered}
use Rattle.cb_session.proofs.state.Session.round.Goals as goal

pub returns-in_err-put_prompt-clause-round : goal.returns-in_err-put_prompt-clause-round
returns-in_err-put_prompt-clause-round g c = λ bytes e.
    let k = c.in_err-put_prompt.ensures.put in
    Round-unprompted (first c.args.limits.now.line bytes) c.args.self.now c.args.feed.now
    c.args.out.now c.put_prompt.new.out _ _ c.from_residual.ensures.1 k.1 k.0.2

pub returns-in_err-input-clause-round : goal.returns-in_err-input-clause-round
returns-in_err-input-clause-round g c = λ bytes e.
    Round-unread (first c.args.limits.now.line bytes) c.args.self.now c.read.new.feed c.args.out.now
    c.put_prompt.new.out _ _ c.from_residual-in_err-input.ensures.1
    (c.in_err-input.ensures.first bytes e) c.in_ok-put_prompt.ensures.put.0.2

pub returns-in_err-answer-clause-round : goal.returns-in_err-answer-clause-round
returns-in_err-answer-clause-round g c = λ bytes e.
    let r = c.in_ok-input.ensures.first bytes e in
    Round-unanswered (Unit {0}) (first c.args.limits.now.line bytes) c.args.self.now
    c.answer.new.self c.read.new.feed c.args.out.now c.put_prompt.new.out c.answer.new.out _ _
    (request_of c.in_ok-input.input) c.from_residual-in_err-answer.ensures.1 r.0
    c.in_ok-put_prompt.ensures.put.0.2 c.in_err-answer.ensures

pub returns-clause-round : goal.returns-clause-round
returns-clause-round g c = λ bytes e.
    let r = c.in_ok-input.ensures.first bytes e in
    Round-answered (Unit {0}) (first c.args.limits.now.line bytes) c.args.self.now c.answer.new.self
    c.read.new.feed c.args.out.now c.put_prompt.new.out c.answer.new.out c.ending-ending.result
    c.in_ok-answer.field-0
    (request_of c.in_ok-input.input) r.0 r.1 c.ending-ending.ensures
    c.in_ok-put_prompt.ensures.put.0.2 c.in_ok-answer.ensures

pub returns-in_err-put_prompt-clause-every_input : goal.returns-in_err-put_prompt-clause-every_input
returns-in_err-put_prompt-clause-every_input g c =
    let k = c.in_err-put_prompt.ensures.put in
    Follows-unprompted c.args.limits.now.line c.args.self.now c.args.feed.now c.args.out.now
    c.put_prompt.new.out _ _ c.from_residual.ensures.1 k.1 k.0.2

pub returns-in_err-input-clause-every_input : goal.returns-in_err-input-clause-every_input
returns-in_err-input-clause-every_input g c =
    Follows-unread c.args.limits.now.line c.args.self.now c.args.feed.now c.read.new.feed
    c.args.out.now c.put_prompt.new.out _ _ c.from_residual-in_err-input.ensures.1
    c.in_err-input.ensures.every_input c.in_ok-put_prompt.ensures.put.0.2

pub returns-in_err-answer-clause-every_input : goal.returns-in_err-answer-clause-every_input
returns-in_err-answer-clause-every_input g c =
    Follows-unanswered (Unit {0}) c.args.limits.now.line c.args.self.now c.answer.new.self
    c.args.feed.now c.read.new.feed c.args.out.now c.put_prompt.new.out c.answer.new.out _ _
    (request_of c.in_ok-input.input) c.from_residual-in_err-answer.ensures.1
    c.in_ok-input.ensures.every_input c.in_ok-put_prompt.ensures.put.0.2 c.in_err-answer.ensures

pub returns-clause-every_input : goal.returns-clause-every_input
returns-clause-every_input g c =
    Follows-answered (Unit {0}) c.args.limits.now.line c.args.self.now c.answer.new.self
    c.args.feed.now c.read.new.feed c.args.out.now c.put_prompt.new.out c.answer.new.out
    c.ending-ending.result c.in_ok-answer.field-0
    (request_of c.in_ok-input.input) c.in_ok-input.ensures.every_input c.ending-ending.ensures
    c.in_ok-put_prompt.ensures.put.0.2 c.in_ok-answer.ensures

pub returns-in_err-put_prompt-clause-read : goal.returns-in_err-put_prompt-clause-read
returns-in_err-put_prompt-clause-read g c =
    Reading-unprompted c.args.limits.now.line c.args.self.now c.args.feed.now c.args.out.now
    c.put_prompt.new.out _ _ c.from_residual.ensures.1 c.in_err-put_prompt.ensures.put.1

pub returns-in_err-input-clause-read : goal.returns-in_err-input-clause-read
returns-in_err-input-clause-read g c =
    Reading-unread c.args.limits.now.line c.args.self.now c.args.feed.now c.read.new.feed
    c.args.out.now c.put_prompt.new.out _ _ c.from_residual-in_err-input.ensures.1
    c.in_err-input.ensures.unread c.in_err-input.ensures.failed c.in_ok-put_prompt.ensures.put.0.2
    c.in_ok-put_prompt.ensures.handed_on

pub returns-in_err-answer-clause-read : goal.returns-in_err-answer-clause-read
returns-in_err-answer-clause-read g c =
    Reading-unanswered (Unit {0}) c.args.limits.now.line c.args.self.now c.answer.new.self
    c.args.feed.now c.read.new.feed c.args.out.now c.put_prompt.new.out c.answer.new.out _ _
    (request_of c.in_ok-input.input) c.from_residual-in_err-answer.ensures.1 c.in_err-answer.ensures

pub returns-clause-read : goal.returns-clause-read
returns-clause-read g c =
    Reading-answered (Unit {0}) c.args.limits.now.line c.args.self.now c.answer.new.self
    c.args.feed.now c.read.new.feed c.args.out.now c.put_prompt.new.out c.answer.new.out
    c.ending-ending.result c.in_ok-answer.field-0
    (request_of c.in_ok-input.input) c.in_ok-input.ensures.every_input c.ending-ending.ensures
    c.in_ok-put_prompt.ensures.put.0.2 c.in_ok-answer.ensures
