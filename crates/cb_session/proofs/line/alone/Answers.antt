use Rattle.std.proofs.Common.{sym, refl}
use Rattle.cb_session.specs.Commands.{alone}
use Rattle.cb_session.specs.Models.{command_of}
use Rattle.cb_session.proofs.Words.{too_many-0}
use Rattle.cb_session.proofs.line.alone.Goals as goal

pub returns : goal.returns
returns c =
    sym (too_many-0 (alone (command_of c.args.command)) _ (λ a words. refl) _ _ c.in-Some.is)
