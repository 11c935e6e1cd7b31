use Rattle.std.proofs.Common.{length, sym, ap, ◌∙◌}
use Rattle.cb_wire.specs.Texts.{part_text}
use Rattle.cb_wire.proofs.Plain.{escape-escaped}
use Rattle.cb_wire.proofs.part.part_length.Goals as goal

pub returns-in-Path-clause-value : goal.returns-in-Path-clause-value
returns-in-Path-clause-value c =
    c.escaped_length.ensures.value
    ∙ ap length (sym (escape-escaped c.in-Path.path.now) ∙ ap part_text (sym c.in-Path.is))
