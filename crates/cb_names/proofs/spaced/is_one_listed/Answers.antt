use Rattle.std.proofs.Common.{◌∙◌, sym}
use Rattle.std.specs.Prelude.{◌&&◌, nat_lt}
use Rattle.cb_names.specs.Parameters.{list_end}
use Rattle.cb_names.specs.SpacedNames.{is_behind_name}
use Rattle.cb_names.proofs.LabelLemmas.{any_later}
use Rattle.cb_names.proofs.spaced.is_one_listed.Goals as goal

pub loop-at-preserved : goal.loop-at-preserved
loop-at-preserved c =
    let xs = c.args.items.now in
    any_later (λ j. is_behind_name c.args.text.now xs c.args.name.now j && nat_lt j (list_end xs)) c.loop-at.at _
    c.loop-at-test.true (sym c.is_listed.ensures ∙ c.if-is_listed.false)
    ∙ c.loop-at.invariant
