use Rattle.std.proofs.Common.{◌∙◌, ◌+◌, ap, sym}
use Rattle.std.specs.Prelude.{◌-◌, ◌||◌}
use Rattle.std.specs.List.{list_any, range_with_len}
use Rattle.cb_names.specs.FunctionNames.{is_lone_end}
use Rattle.cb_names.proofs.LabelLemmas.{range_first}
use Rattle.cb_names.proofs.names.has_lone_end.Goals as goal

pub loop-at-preserved : goal.loop-at-preserved
loop-at-preserved c =
    let p = is_lone_end c.args.items.now in
    let at = c.loop-at.at in
    let rest = list_any p (range_with_len (at + 1) (c.args.to - (at + 1))) in
    sym (ap (list_any p) (range_first at c.args.to c.loop-at-test.true)
    ∙ ap (λ b. b || rest) (sym c.is_lone_end.ensures ∙ c.if-is_lone_end.false))
    ∙ c.loop-at.invariant
