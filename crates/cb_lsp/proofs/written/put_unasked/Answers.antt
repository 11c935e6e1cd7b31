use Rattle.std.proofs.Common.{subst, sym}
use Rattle.cb_tags.specs.Writing.{Puts}
use Rattle.cb_wire.specs.Messages.{id_json}
use Rattle.cb_wire.specs.Texts.{frame}
use Rattle.cb_wire.specs.Values.{value_text}
use Rattle.cb_lsp.specs.Messages.{unasked_reply}
use Rattle.cb_lsp.proofs.written.put_unasked.Goals as goal

pub returns-in-UnknownMethod : goal.returns-in-UnknownMethod
returns-in-UnknownMethod g c =
    subst (λ w. Puts c.args.out.now c.put_failure.new.out c.put_failure.result
    (frame (value_text (unasked_reply (id_json c.args.id) w)))) (sym c.in-UnknownMethod.is)
    c.put_failure.ensures

pub returns-in-BadParameters : goal.returns-in-BadParameters
returns-in-BadParameters g c =
    subst (λ w. Puts c.args.out.now c.put_failure-in-BadParameters.new.out
    c.put_failure-in-BadParameters.result
    (frame (value_text (unasked_reply (id_json c.args.id) w)))) (sym c.in-BadParameters.is)
    c.put_failure-in-BadParameters.ensures
