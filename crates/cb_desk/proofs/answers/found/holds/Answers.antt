use Rattle.std.proofs.Common.{◌∙◌}
use Rattle.cb_desk.proofs.TextLines.{holds-found}
use Rattle.cb_desk.proofs.answers.found.holds.Goals as goal

pub returns : goal.returns
returns c =
    c.is_some.ensures ∙ holds-found c.args.pattern.now c.args.name.now c.find.result c.find.ensures
