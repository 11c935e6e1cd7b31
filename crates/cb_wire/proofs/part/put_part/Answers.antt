use Rattle.std.proofs.Common.{subst, sym, ap, ◌∙◌}
use Rattle.cb_tags.specs.Writing.{Puts}
use Rattle.cb_wire.specs.Texts.{part_text}
use Rattle.cb_wire.proofs.Plain.{escape-escaped}
use Rattle.cb_wire.proofs.part.put_part.Goals as goal

pub returns-in-Path : goal.returns-in-Path
returns-in-Path g c =
    subst (Puts c.args.out.now c.put_escaped.new.out c.put_escaped.result)
    (sym (escape-escaped c.in-Path.path.now) ∙ ap part_text (sym c.in-Path.is))
    c.put_escaped.ensures
