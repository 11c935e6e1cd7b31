use Rattle.std.proofs.Common.{◌∙◌, ap, sym}
use Rattle.cb_wire.specs.Uris.{one_form}
use Rattle.cb_wire.proofs.Forms.{form-seen}
use Rattle.cb_wire.proofs.uri.in_one_form.Goals as goal

pub returns-then-has_one_form : goal.returns-then-has_one_form
returns-then-has_one_form c =
    let path = c.as_slice.result.now in
    let same = c.as_slice.ensures.value in
    sym same ∙ sym (form-seen path (sym c.has_one_form.ensures ∙ c.if-has_one_form.true))
    ∙ ap one_form same
