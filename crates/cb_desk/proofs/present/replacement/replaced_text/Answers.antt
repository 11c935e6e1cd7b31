use Rattle.std.proofs.Common.{◌∙◌, ◌++◌, ap}
use Rattle.std.specs.List.{flat_map}
use Rattle.cb_desk.specs.Replacement.{replaced_text, replaced_if_marked}
use Rattle.cb_desk.proofs.present.replacement.replaced_text.Goals as goal

pub loop-line-init : goal.loop-line-init
unfolding replaced_text
loop-line-init c =
    let lines =
    c.into_iter-line-iterator.ensures.into_iter_gives ∙ c.new-line-items.ensures.value in
    ap (λ made. made ++ flat_map (replaced_if_marked c.args.old.now c.args.new.now)
    c.into_iter-line-iterator.result) c.in_ok-made.ensures.items
    ∙ ap (flat_map (replaced_if_marked c.args.old.now c.args.new.now)) lines
