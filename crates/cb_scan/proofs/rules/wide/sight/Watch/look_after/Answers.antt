-- A token in an attribute, which is neither a `(` nor a `)`, says nothing.
use Rattle.std.proofs.Common.{◌∙◌, sym}
use Rattle.cb_scan.proofs.WideGlance.{passed_is}
use Rattle.cb_scan.proofs.rules.wide.sight.Watch.look_after.Goals as goal

pub returns-then-passes-clause-value : goal.returns-then-passes-clause-value
returns-then-passes-clause-value c =
    passed_is c.args.text.now c.args.before c.args.self.now c.args.token.now
    (sym c.passes.ensures ∙ c.if-passes.true)
