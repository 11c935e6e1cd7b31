use Rattle.std.proofs.Common.{◌∙◌, false, ap, subst, sym, map}
use Rattle.std.specs.Option.{option_copied}
use Rattle.cb_tags.specs.Writing.{Puts}
use Rattle.cb_wire.specs.Messages.{id_json}
use Rattle.cb_wire.specs.Texts.{frame}
use Rattle.cb_wire.specs.Values.{value_text}
use Rattle.cb_lsp.specs.Answers.{list_of}
use Rattle.cb_lsp.specs.Calls.{caller_calls, cut_by_caller}
use Rattle.cb_lsp.specs.Messages.{result_unless}
use Rattle.cb_lsp.specs.steps.Callers.{called_rows}
use Rattle.cb_lsp.specs.steps.Located.{client_in}
use Rattle.cb_lsp.proofs.Incomings.{incoming-missing, incoming-there}
use Rattle.cb_lsp.proofs.Listed.{map-map}
use Rattle.cb_lsp.proofs.callers.put_incoming.Goals as goal

pub returns-in_default : goal.returns-in_default
returns-in_default g c =
    let client = client_in c.args.forms in
    let w = c.args.desk.now.timeline.present in (
      false,
      subst (λ j. Puts c.args.out.now c.put_null.new.out c.put_null.result
          (frame (value_text (result_unless false (id_json c.args.id) j))))
          (incoming-missing client w c.args.name.now c.args.file.now
          (ap option_copied (sym c.in_default.is) ∙ c.source.ensures))
          c.put_null.ensures,
    )

pub returns-in-Ok : goal.returns-in-Ok
returns-in-Ok g c =
    let client = client_in c.args.forms in
    let w = c.args.desk.now.timeline.present in
    let told = caller_calls client w in
    let groups = cut_by_caller (called_rows c.as_slice.result.now) in
    let same = c.new.ensures in (
      false,
      subst (λ j. Puts c.args.out.now c.put_list.new.out c.put_list.result
          (frame (value_text (result_unless false (id_json c.args.id) j))))
          (incoming-there client w c.args.name.now c.args.file.now _
          (ap option_copied (sym c.in-Some.is) ∙ c.source.ensures))
          (subst (λ cs. Puts c.args.out.now c.put_list.new.out c.put_list.result
          (frame (value_text (result_unless false (id_json c.args.id)
          (list_of (map told (cut_by_caller cs)))))))
          (ap called_rows c.as_slice.ensures.value ∙ c.in-Ok.ensures)
          (c.put_list.ensures (map told groups)
          ((λ k. map (λ g. value_text (caller_calls (client_in (same.forms k))
          (same.desk k).timeline.present g)) groups) ∙ map-map value_text told groups))),
    )
