use Rattle.std.proofs.Common.{◌∙◌, sym}
use Rattle.cb_names.specs.Parameters.{declares_same}
use Rattle.cb_names.proofs.LabelLemmas.{found_later}
use Rattle.cb_names.proofs.parameter.declared_at.Goals as goal

pub loop-j-preserved : goal.loop-j-preserved
loop-j-preserved c =
    found_later (declares_same c.args.text.now c.args.items.now c.args.k) c.loop-j.j _ c.loop-j-test.true
    (sym c.declares_same.ensures ∙ c.if-declares_same.false) ∙ c.loop-j.invariant
