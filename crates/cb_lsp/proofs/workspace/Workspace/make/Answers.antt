use Rattle.std.proofs.Common.{rules, ◌≡◌, Err}
use Rattle.cb_desk.specs.Models.{step_of}
use Rattle.cb_lsp.proofs.WorkSteps.{made-change, made-forgotten, refused-change}
use Rattle.cb_lsp.proofs.workspace.Workspace.make.Goals as goal

pub returns-in_err-change : goal.returns-in_err-change
returns-in_err-change c =
    let err : c.from_residual.result ≡ Err c.in_err-change.field-0.0 = search rules in
    let meant = c.in_err-change.ensures.timeline in
    refused-change meant.0 (step_of c.args.change) c.self.inside.desk.timeline
    c.change.new.self.timeline c.self.inside.documents c.args.self.now c.in_err-change.field-0.0
    c.from_residual.result c.self.invariant c.self.view_is meant.1.0 meant.1.1 err

pub invariant_of-self-2 : goal.invariant_of-self-2
invariant_of-self-2 c =
    let meant = c.in_ok-change.ensures.timeline in
    made-forgotten meant.0 (step_of c.args.change) c.self.inside.desk.timeline
    c.change.new.self.timeline c.forget.new.self.timeline c.self.invariant meant.1
    c.forget.ensures.timeline

pub returns : goal.returns
returns c =
    let meant = c.in_ok-change.ensures.timeline in
    made-change meant.0 (step_of c.args.change) c.self.inside.desk.timeline
    c.change.new.self.timeline c.forget.new.self.timeline c.self.inside.documents c.args.self.now
    c.self.view_is meant.1 c.forget.ensures.timeline
