-- A token that ends no part is of the head and of the part that is open.
use Rattle.std.proofs.Common.{◌∙◌, sym}
use Rattle.cb_scan.proofs.WideJoint.{going_on}
use Rattle.cb_scan.proofs.rules.wide.pass.Pass.go_on_together.Goals as goal

pub returns-else-ends_part-clause-pass : goal.returns-else-ends_part-clause-pass
returns-else-ends_part-clause-pass c =
    let p = c.args.self.now in
    (λ i. record p { machine = c.go_on.ensures i; file = c.add.ensures.value i })
    ∙ going_on p c.args.ahead.now c.args.item.now c.requires.stays
    (sym c.ends_part.ensures ∙ c.if-ends_part.false)
