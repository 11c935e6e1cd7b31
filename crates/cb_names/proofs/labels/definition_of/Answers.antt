use Rattle.std.proofs.Common.{◌∙◌, Some, sym, ap}
use Rattle.std.specs.Option.{option_map}
use Rattle.cb_names.specs.Labels.{span}
use Rattle.cb_names.specs.Pairs.{at}
use Rattle.cb_names.specs.steps.Labelling.{defines}
use Rattle.cb_names.proofs.LabelLemmas.{found_here, found_later}
use Rattle.cb_names.proofs.labels.definition_of.Goals as goal

pub returns-then-defines : goal.returns-then-defines
returns-then-defines c =
    let p = defines c.args.text.now c.args.items.now c.args.starts.now c.args.k in
    ap (λ s. Some s) c.span_at.ensures
    ∙ ap (option_map (λ j. span (at c.args.items.now j)))
    (sym (found_here p c.loop-j.j _ c.loop-j-test.true (sym c.defines.ensures ∙ c.if-defines.true)) ∙ c.loop-j.invariant)

pub loop-j-preserved : goal.loop-j-preserved
loop-j-preserved c =
    let p = defines c.args.text.now c.args.items.now c.args.starts.now c.args.k in
    found_later p c.loop-j.j _ c.loop-j-test.true (sym c.defines.ensures ∙ c.if-defines.false) ∙ c.loop-j.invariant
