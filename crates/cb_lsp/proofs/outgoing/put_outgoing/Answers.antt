use Rattle.std.proofs.Common.{◌∙◌, false, ap, subst, sym}
use Rattle.std.specs.Option.{option_map}
use Rattle.cb_tags.specs.Writing.{Puts}
use Rattle.cb_wire.specs.Messages.{id_json}
use Rattle.cb_wire.specs.Texts.{frame}
use Rattle.cb_wire.specs.Values.{value_text}
use Rattle.cb_desk.specs.Models.{scanned_of}
use Rattle.cb_lsp.specs.Messages.{result_unless}
use Rattle.cb_lsp.specs.steps.Located.{client_in}
use Rattle.cb_lsp.specs.steps.Outgoing.{callee_rows}
use Rattle.cb_lsp.proofs.Outgoings.{outgoing-missing, outgoing-told}
use Rattle.cb_lsp.proofs.outgoing.put_outgoing.Goals as goal

pub returns-in_default : goal.returns-in_default
returns-in_default g c =
    let w = c.args.desk.now.timeline.present in (
      false,
      subst (λ j. Puts c.args.out.now c.put_null.new.out c.put_null.result
          (frame (value_text (result_unless false (id_json c.args.id) j))))
          (outgoing-missing (client_in c.args.forms) w c.args.name.now c.args.file.now
          c.args.position (ap (option_map scanned_of) (sym c.in_default.is) ∙ c.scanned.ensures))
          c.put_null.ensures,
    )

pub returns-in-Ok : goal.returns-in-Ok
returns-in-Ok g c =
    let w = c.args.desk.now.timeline.present in (
      c.put_called.ensures.0,
      subst (λ j. Puts c.args.out.now c.put_called.new.out c.put_called.result
          (frame (value_text (result_unless c.put_called.ensures.0 (id_json c.args.id) j))))
          (outgoing-told (client_in c.args.forms) w c.args.name.now c.args.file.now
          c.args.position
          (record { bytes = c.in-Some.source.now; facts = c.in-Some.facts.now })
          c.bytes.result.now c.place_of_position-place.result c.calls.result.now
          (callee_rows c.as_slice.result.now) c.in-Some.ensures c.bytes.ensures.value
          c.place_of_position-place.ensures.value c.calls.ensures.value
          (ap callee_rows c.as_slice.ensures.value ∙ c.in-Ok.ensures))
          c.put_called.ensures.1,
    )
