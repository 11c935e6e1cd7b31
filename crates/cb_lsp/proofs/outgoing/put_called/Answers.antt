use Rattle.std.proofs.Common.{◌∙◌, false, ap, subst, map}
use Rattle.cb_tags.specs.Writing.{Puts}
use Rattle.cb_wire.specs.Messages.{id_json}
use Rattle.cb_wire.specs.Texts.{frame}
use Rattle.cb_wire.specs.Values.{value_text}
use Rattle.cb_lsp.specs.Answers.{list_of}
use Rattle.cb_lsp.specs.Messages.{result_unless}
use Rattle.cb_lsp.specs.Outgoing.{called_calls, cut_calls}
use Rattle.cb_lsp.specs.steps.Located.{Locating, client_in}
use Rattle.cb_lsp.specs.steps.Outgoing.{called_rows}
use Rattle.cb_lsp.proofs.Listed.{map-map}
use Rattle.cb_lsp.proofs.outgoing.put_called.Goals as goal

pub returns-in-Ok : goal.returns-in-Ok
returns-in-Ok g c =
    let told = called_calls (client_in c.args.forms) c.args.desk.now.timeline.present.files in
    let found = cut_calls 100000 (called_rows c.as_slice.result.now) in (
      false,
      subst (λ cs. Puts c.args.out.now c.put_list.new.out c.put_list.result
          (frame (value_text (result_unless false (id_json c.args.id)
          (list_of (map told (cut_calls 100000 cs)))))))
          (ap called_rows c.as_slice.ensures.value ∙ c.in-Ok.ensures)
          (c.put_list.ensures (map told found)
          (ap (λ (l : Locating). map (λ d. value_text (called_calls l.client l.files d)) found)
          c.new.ensures ∙ map-map value_text told found)),
    )
