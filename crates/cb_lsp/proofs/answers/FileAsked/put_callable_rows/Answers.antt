use Rattle.std.proofs.Common.{◌∙◌, ap, map, subst, sym}
use Rattle.cb_tags.specs.TagLines.{tag_of}
use Rattle.cb_tags.specs.Writing.{Puts}
use Rattle.cb_wire.specs.Messages.{id_json}
use Rattle.cb_wire.specs.Texts.{frame}
use Rattle.cb_wire.specs.Trees.{result_reply}
use Rattle.cb_wire.specs.Values.{value_text}
use Rattle.cb_lsp.specs.Answers.{some_of}
use Rattle.cb_lsp.specs.Calls.{item_of}
use Rattle.cb_lsp.specs.steps.Located.{Locating, client_in}
use Rattle.cb_lsp.proofs.Listed.{map-map}
use Rattle.cb_lsp.proofs.TagRows.{none-there, some-listed}
use Rattle.cb_lsp.proofs.answers.FileAsked.put_callable_rows.Goals as goal

pub returns-then-is_empty : goal.returns-then-is_empty
returns-then-is_empty g c =
    let f = c.args.self.now in
    let item = item_of (client_in f.forms) f.desk.now.timeline.present.files in
    let none = none-there c.args.rows.now (sym c.is_empty.ensures ∙ c.if-is_empty.true) in
    subst (λ ts. Puts c.args.out.now c.put_null.new.out c.put_null.result
    (frame (value_text (result_reply (id_json c.args.id) (some_of (map item ts))))))
    none c.put_null.ensures

pub returns : goal.returns
returns g c =
    let f = c.args.self.now in
    let item = item_of (client_in f.forms) f.desk.now.timeline.present.files in
    let found = map tag_of c.args.rows.now in
    let listed = some-listed item c.args.rows.now (sym c.is_empty.ensures ∙ c.if-is_empty.false) in
    subst (λ j. Puts c.args.out.now c.put_list.new.out c.put_list.result
    (frame (value_text (result_reply (id_json c.args.id) j))))
    listed
    (c.put_list.ensures (map item found)
    (ap (λ (l : Locating). map (λ t. value_text (item_of l.client l.files t)) found) c.new.ensures
    ∙ map-map value_text item found))
