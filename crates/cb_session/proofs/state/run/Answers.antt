use Rattle.std.proofs.Common.{Ok}
use Rattle.cb_session.specs.Inputs.{inputs}
use Rattle.cb_session.proofs.Rounds.{session_run}
use Rattle.cb_session.proofs.Running.{Follows-loaded, Follows-refused, Runs-refused}
use Rattle.cb_session.proofs.state.run.Goals as goal

-- what is left beside the session
pub returns-in-Ok-clause-output : goal.returns-in-Ok-clause-output
returns-in-Ok-clause-output g c = λ bytes e. (
  Ok c.in-Ok.session,
  c.in-Ok.ensures,
  session_run (inputs c.args.limits.now.lines c.args.limits.now.line bytes)
      c.in-Ok.session c.serve.new.self
      c.serve.new.feed c.args.out.now c.serve.new.out c.serve.result
      (c.serve.ensures.0.output bytes e),
)

pub returns-in-Ok-clause-every_input : goal.returns-in-Ok-clause-every_input
returns-in-Ok-clause-every_input g c =
    Follows-loaded _ _ _ c.args.limits.now.lines c.args.limits.now.line c.in-Ok.session
    c.args.feed.now
    c.serve.new.feed c.args.out.now c.serve.new.out c.serve.result
    c.serve.new.self c.in-Ok.ensures c.serve.ensures.0.every_input

pub returns-in-Err-clause-every_input : goal.returns-in-Err-clause-every_input
returns-in-Err-clause-every_input g c =
    Follows-refused _ _ _ c.args.limits.now.lines c.args.limits.now.line c.args.feed.now
    c.args.out.now
    c.in-Err.ended c.in-Err.ensures

pub returns-in-Err-clause-output : goal.returns-in-Err-clause-output
returns-in-Err-clause-output g c = λ bytes e.
    Runs-refused _ _ _ c.args.limits.now.lines c.args.limits.now.line bytes c.args.feed.now
    c.args.out.now c.in-Err.ended c.in-Err.ensures e
