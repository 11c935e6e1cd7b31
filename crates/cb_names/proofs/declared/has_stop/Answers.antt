use Rattle.std.proofs.Common.{◌∙◌, sym}
use Rattle.std.specs.Prelude.{◌&&◌}
use Rattle.cb_scan.specs.Bytes.{semicolon}
use Rattle.cb_names.specs.Pairs.{is_at}
use Rattle.cb_names.specs.Scoped.{is_behind}
use Rattle.cb_names.proofs.DeclaredLemmas.{any_here, any_later}
use Rattle.cb_names.proofs.declared.has_stop.Goals as goal

pub returns-then-is_stop : goal.returns-then-is_stop
returns-then-is_stop c =
    let xs = c.args.shape.now.items.items in
    sym (any_here (λ k. is_at semicolon xs k && is_behind xs c.args.bracket k) c.loop-at.at c.args.body c.loop-at-test.true
    (sym c.is_stop.ensures ∙ c.if-is_stop.true))
    ∙ c.loop-at.invariant

pub loop-at-preserved : goal.loop-at-preserved
loop-at-preserved c =
    let xs = c.args.shape.now.items.items in
    any_later (λ k. is_at semicolon xs k && is_behind xs c.args.bracket k) c.loop-at.at c.args.body c.loop-at-test.true
    (sym c.is_stop.ensures ∙ c.if-is_stop.false)
    ∙ c.loop-at.invariant
