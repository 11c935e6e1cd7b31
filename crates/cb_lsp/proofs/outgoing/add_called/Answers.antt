use Rattle.std.proofs.Common.{◌∙◌, ap, fold}
use Rattle.cb_lsp.specs.Refresh.{with_file}
use Rattle.cb_lsp.specs.steps.Located.{client_in}
use Rattle.cb_lsp.specs.steps.Outgoing.{callee_rows, called_rows}
use Rattle.cb_lsp.specs.Outgoing.{Called}
use Rattle.std.specs.Prelude.{map}
use Rattle.cb_lsp.proofs.Outgoings.{called-told}
use Rattle.cb_lsp.proofs.outgoing.add_called.Goals as goal

pub returns-in-Ok : goal.returns-in-Ok
returns-in-Ok c =
    let w = c.args.desk.now.timeline.present in
    c.in-Ok.ensures
    ∙ ap (λ rows. fold with_file c.args.files.now (map (λ (called : Called). called.0.file) rows))
    (ap called_rows c.as_slice-2.ensures.value ∙ c.in_ok-called.ensures)
    ∙ ap (fold with_file c.args.files.now)
    (called-told (client_in c.args.forms) w c.args.name.now c.args.file.now c.args.position
    (record { bytes = c.in-Some.source.now; facts = c.in-Some.facts.now }) c.bytes.result.now
    c.place_of_position-place.result c.calls.result.now (callee_rows c.as_slice.result.now)
    c.in-Some.ensures c.bytes.ensures.value c.place_of_position-place.ensures.value
    c.calls.ensures.value (ap callee_rows c.as_slice.ensures.value ∙ c.in_ok-rows.ensures))
