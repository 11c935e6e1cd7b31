use Rattle.std.proofs.Common.{◌∙◌, subst, sym, map, true, false}
use Rattle.cb_tags.specs.Writing.{Puts}
use Rattle.cb_wire.specs.Messages.{id_json}
use Rattle.cb_wire.specs.Texts.{frame}
use Rattle.cb_wire.specs.Trees.{result_reply}
use Rattle.cb_wire.specs.Values.{value_text}
use Rattle.cb_lsp.specs.Answers.{list_of}
use Rattle.cb_lsp.specs.Symbols.{file_symbol_as}
use Rattle.cb_lsp.specs.steps.Located.{client_in}
use Rattle.cb_lsp.proofs.FileSymbols.{same-left}
use Rattle.cb_lsp.proofs.Listed.{map-map}
use Rattle.cb_lsp.proofs.answers.FileAsked.put_symbols.Goals as goal

pub returns-then-self : goal.returns-then-self
returns-then-self g c =
    let f = c.args.self.now in
    let found = map (file_symbol_as true (client_in f.forms) f.name.now f.source.now) in
    subst (λ b. Puts c.args.out.now c.put_list.new.out c.put_list.result
    (frame (value_text (result_reply (id_json c.args.id) (list_of (map (file_symbol_as b
    (client_in f.forms) f.name.now f.source.now) f.facts.now.defs))))))
    (sym c.if-self.true)
    (subst (λ ds. Puts c.args.out.now c.put_list.new.out c.put_list.result
    (frame (value_text (result_reply (id_json c.args.id) (list_of (found ds))))))
    c.defs.ensures.value
    (c.put_list.ensures (found c.defs.result.now)
    (same-left true f.forms.root f.name c.defs.result
    (record { encoding = f.forms.encoding; text = f.source.now; line = 0 }) c.new.result
    c.new.ensures.encoding c.new.ensures.text
    ∙ map-map value_text (file_symbol_as true (client_in f.forms) f.name.now f.source.now)
    c.defs.result.now)))

pub returns-else-self : goal.returns-else-self
returns-else-self g c =
    let f = c.args.self.now in
    let found = map (file_symbol_as false (client_in f.forms) f.name.now f.source.now) in
    subst (λ b. Puts c.args.out.now c.put_list-else-self.new.out c.put_list-else-self.result
    (frame (value_text (result_reply (id_json c.args.id) (list_of (map (file_symbol_as b
    (client_in f.forms) f.name.now f.source.now) f.facts.now.defs))))))
    (sym c.if-self.false)
    (subst (λ ds. Puts c.args.out.now c.put_list-else-self.new.out c.put_list-else-self.result
    (frame (value_text (result_reply (id_json c.args.id) (list_of (found ds))))))
    c.defs.ensures.value
    (c.put_list-else-self.ensures (found c.defs.result.now)
    (same-left false f.forms.root f.name c.defs.result
    (record { encoding = f.forms.encoding; text = f.source.now; line = 0 }) c.new.result
    c.new.ensures.encoding c.new.ensures.text
    ∙ map-map value_text (file_symbol_as false (client_in f.forms) f.name.now f.source.now)
    c.defs.result.now)))
