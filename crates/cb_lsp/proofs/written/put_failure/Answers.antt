use Rattle.std.proofs.Common.{subst, ap, ◌∙◌, [], append-nil}
use Rattle.cb_tags.specs.Writing.{Puts}
use Rattle.cb_wire.specs.Messages.{id_json}
use Rattle.cb_wire.specs.Texts.{frame}
use Rattle.cb_wire.specs.Trees.{error_reply}
use Rattle.cb_wire.specs.Values.{value_text}
use Rattle.cb_wire.proofs.Trees.{error-text}
use Rattle.cb_lsp.proofs.written.put_failure.Goals as goal

pub returns : goal.returns
returns g c =
    let id = c.args.id in
    let code = c.args.code in
    subst (λ t. Puts c.args.out.now c.put_error.new.out c.put_error.result (frame t))
    (error-text id code c.args.text.now []
    ∙ ap (λ t. value_text (error_reply (id_json id) code t)) (append-nil c.args.text.now))
    c.put_error.ensures
