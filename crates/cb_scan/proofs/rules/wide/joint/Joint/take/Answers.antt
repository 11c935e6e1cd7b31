-- Head and declaration go on together.
use Rattle.std.proofs.Common.{◌∙◌, ap, sym, true}
use Rattle.std.proofs.lemmas.Result.{IfOk-weaker}
use Rattle.cb_scan.specs.steps.wide.Joint.{pass_with}
use Rattle.cb_scan.specs.steps.wide.Pass.{next_pass}
use Rattle.cb_scan.proofs.WideJoint.{pass_joined}
use Rattle.cb_scan.proofs.rules.wide.joint.Joint.take.Goals as goal

pub returns-then-stays_together-clause-pass : goal.returns-then-stays_together-clause-pass
returns-then-stays_together-clause-pass c =
    let p = c.self.inside.pass in
    let xs = c.args.ahead.now in
    let x = c.args.item.now in
    IfOk-weaker c.take_together.result _ _
    (λ _ e. (λ i. pass_with (c.if-self.true i) c.take_together.new.self)
    ∙ ap (pass_with true) e
    ∙ pass_joined p xs x (sym c.stays_together.ensures ∙ c.if-stays_together.true)
    ∙ (λ i. next_pass (pass_with (sym c.if-self.true i) p) xs x)
    ∙ ap (λ q. next_pass q xs x) c.self.view_is)
    c.take_together.ensures.pass
