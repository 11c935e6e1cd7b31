use Rattle.std.proofs.Common.{◌∙◌, ap, sym}
use Rattle.cb_wire.specs.Values.{value_text}
use Rattle.cb_wire.specs.Welcome.{renaming}
use Rattle.cb_wire.proofs.Welcomes.{asked-first, not-asked}
use Rattle.cb_wire.proofs.welcome.renaming.Goals as goal

pub returns-then-prepares : goal.returns-then-prepares
returns-then-prepares c =
    asked-first ∙ ap (λ b. value_text (renaming b)) (sym c.if-prepares.true)

pub returns-else-prepares : goal.returns-else-prepares
returns-else-prepares c =
    not-asked ∙ ap (λ b. value_text (renaming b)) (sym c.if-prepares.false)
