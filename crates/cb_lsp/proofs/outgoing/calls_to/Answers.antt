use Rattle.cb_wire.specs.Calls.{calls_of, side_name}
use Rattle.cb_wire.specs.Values.{value_text}
use Rattle.cb_wire.specs.declared.calls.Side.TheVariants.{To}
use Rattle.cb_lsp.specs.Outgoing.{Callee}
use Rattle.cb_lsp.specs.steps.Outgoing.{callee_in}
use Rattle.cb_lsp.proofs.Listed.{map-map}
use Rattle.cb_lsp.proofs.outgoing.calls_to.Goals as goal

pub returns-clause-calls : goal.returns-clause-calls
returns-clause-calls c =
    λ k. value_text (calls_of (side_name To) (c.item.ensures.item k)
    (map-map (λ (d : Callee). d.range) callee_in c.args.called.now.calls.now k))
