use Rattle.std.proofs.Common.{◌∙◌, ap, sym}
use Rattle.cb_session.specs.Commands.{command}
use Rattle.cb_session.proofs.line.command_line.Goals as goal

pub returns : goal.returns
returns c = c.command.ensures
    ∙ sym (ap (λ parts. command c.args.limit parts.0 parts.1) c.cut_word.ensures.cut)
