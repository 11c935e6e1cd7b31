use Rattle.std.proofs.Common.{◌∙◌, ap, subst, sym}
use Rattle.cb_tags.specs.Writing.{Puts}
use Rattle.cb_wire.specs.Messages.{id_json}
use Rattle.cb_wire.specs.Texts.{frame}
use Rattle.cb_wire.specs.Trees.{result_reply}
use Rattle.cb_wire.specs.Values.{range_tree, value_text}
use Rattle.cb_wire.proofs.Trees.{result-text}
use Rattle.cb_lsp.specs.Renames.{prepared}
use Rattle.cb_lsp.specs.steps.Located.{client_in}
use Rattle.cb_lsp.proofs.answers.FileAsked.put_prepared.Goals as goal

pub returns-in-Some : goal.returns-in-Some
returns-in-Some g c =
    let f = c.args.self.now in
    let call = c.put_range_result in
    subst (λ o. Puts c.args.out.now call.new.out call.result (frame (value_text
    (result_reply (id_json c.args.id) (prepared (client_in f.forms) f.source.now o)))))
    (sym c.in-Some.is)
    (subst (λ t. Puts c.args.out.now call.new.out call.result (frame t))
    (result-text c.args.id (range_tree c.range_of.result)
    ∙ ap (λ r. value_text (result_reply (id_json c.args.id) (range_tree r))) c.range_of.ensures)
    call.ensures)

pub returns-in-None : goal.returns-in-None
returns-in-None g c =
    let f = c.args.self.now in
    subst (λ o. Puts c.args.out.now c.put_null.new.out c.put_null.result (frame (value_text
    (result_reply (id_json c.args.id) (prepared (client_in f.forms) f.source.now o)))))
    (sym c.in-None.is) c.put_null.ensures
