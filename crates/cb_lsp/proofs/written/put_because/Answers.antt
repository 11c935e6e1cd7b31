use Rattle.std.proofs.Common.{subst}
use Rattle.cb_tags.specs.Writing.{Puts}
use Rattle.cb_wire.specs.Texts.{frame}
use Rattle.cb_wire.specs.declared.reply.ErrorCode.TheVariants.{RequestFailed}
use Rattle.cb_wire.proofs.Trees.{error-text}
use Rattle.cb_lsp.proofs.written.put_because.Goals as goal

pub returns : goal.returns
returns g c =
    subst (λ t. Puts c.args.out.now c.put_error.new.out c.put_error.result (frame t))
    (error-text c.args.id RequestFailed c.args.text.now c.args.cause.now) c.put_error.ensures
