use Rattle.std.proofs.Common.{◌∙◌, map, subst, sym}
use Rattle.json.specs.Print.{escape}
use Rattle.cb_tags.specs.TagLines.{tag_of}
use Rattle.cb_tags.specs.Writing.{Puts}
use Rattle.cb_wire.specs.Messages.{id_json}
use Rattle.cb_wire.specs.Texts.{frame}
use Rattle.cb_wire.specs.Trees.{result_reply}
use Rattle.cb_wire.specs.Values.{value_text}
use Rattle.cb_lsp.specs.Answers.{hover_over}
use Rattle.cb_lsp.specs.Hovers.{hover_text, hover_texts, hover_of}
use Rattle.cb_lsp.specs.steps.Located.{client_in}
use Rattle.cb_lsp.proofs.Listed.{map-map}
use Rattle.cb_lsp.proofs.TagRows.{none-there, some-shown}
use Rattle.cb_lsp.proofs.answers.FileAsked.put_hover_rows.Goals as goal

pub returns-then-is_empty : goal.returns-then-is_empty
returns-then-is_empty g c =
    let f = c.args.self.now in
    let none = none-there c.args.rows.now (sym c.is_empty.ensures ∙ c.if-is_empty.true) in
    subst (λ ts. Puts c.args.out.now c.put_null.new.out c.put_null.result
    (frame (value_text (result_reply (id_json c.args.id)
    (hover_over (client_in f.forms) f.source.now c.args.word ts)))))
    none c.put_null.ensures

pub returns : goal.returns
returns g c =
    let f = c.args.self.now in
    let ts = map tag_of c.args.rows.now in
    let shown = some-shown (client_in f.forms) f.source.now c.args.word c.args.rows.now
    (sym c.is_empty.ensures ∙ c.if-is_empty.false) in
    subst (λ j. Puts c.args.out.now c.put_hovers.new.out c.put_hovers.result
    (frame (value_text (result_reply (id_json c.args.id) j))))
    shown
    (subst (λ r. Puts c.args.out.now c.put_hovers.new.out c.put_hovers.result
    (frame (value_text (result_reply (id_json c.args.id) (hover_of (hover_texts ts) r)))))
    c.range_of-range.ensures (c.put_hovers.ensures (map hover_text ts) (map-map escape hover_text ts)))
