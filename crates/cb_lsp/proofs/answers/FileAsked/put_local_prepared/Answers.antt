use Rattle.std.proofs.Common.{subst, sym}
use Rattle.cb_tags.specs.Writing.{Puts}
use Rattle.cb_wire.specs.Messages.{id_json}
use Rattle.cb_wire.specs.Texts.{frame}
use Rattle.cb_wire.specs.Trees.{result_reply}
use Rattle.cb_wire.specs.Values.{value_text}
use Rattle.cb_lsp.specs.Answers.{prepared_local}
use Rattle.cb_lsp.specs.steps.Located.{client_in}
use Rattle.cb_lsp.proofs.answers.FileAsked.put_local_prepared.Goals as goal

pub returns-in-Some : goal.returns-in-Some
returns-in-Some g c =
    let f = c.args.self.now in
    let call = c.put_prepared in
    subst (λ d. Puts c.args.out.now call.new.out call.result
    (frame (value_text (result_reply (id_json c.args.id)
    (prepared_local (client_in f.forms) f.source.now c.args.word d)))))
    (sym c.in-Some.is) call.ensures

pub returns-in-None : goal.returns-in-None
returns-in-None g c =
    let f = c.args.self.now in
    let call = c.put_null in
    subst (λ d. Puts c.args.out.now call.new.out call.result
    (frame (value_text (result_reply (id_json c.args.id)
    (prepared_local (client_in f.forms) f.source.now c.args.word d)))))
    (sym c.in-None.is) call.ensures
