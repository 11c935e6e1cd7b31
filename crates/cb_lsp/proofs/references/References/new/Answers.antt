use Rattle.std.proofs.Common.{◌∙◌, ap, if◌then◌else◌}
use Rattle.cb_lsp.specs.References.{uses_reached}
use Rattle.cb_lsp.specs.steps.References.{undeclared}
use Rattle.cb_lsp.proofs.Undeclared.{wanted-is}
use Rattle.cb_lsp.proofs.references.References.new.Goals as goal

pub returns : goal.returns
returns c =
    let reached = c.new.ensures
    ∙ ap (λ ts. uses_reached ts c.args.from.now c.args.uses) c.again.ensures in
    ap (λ us. if c.args.declarations then us else undeclared c.args.rows us) reached
    ∙ wanted-is c.args.rows c.args.from.now c.args.uses c.args.declarations c.requires.rows
    c.requires.uses
