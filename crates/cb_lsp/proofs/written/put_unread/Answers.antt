use Rattle.std.proofs.Common.{subst}
use Rattle.cb_tags.specs.Writing.{Puts}
use Rattle.cb_wire.specs.Texts.{frame}
use Rattle.cb_wire.proofs.Trees.{show-text}
use Rattle.cb_lsp.specs.Messages.{out_of_memory}
use Rattle.cb_lsp.proofs.written.put_unread.Goals as goal

pub returns : goal.returns
returns g c =
    subst (λ t. Puts c.args.out.now c.put_show.new.out c.put_show.result (frame t))
    (show-text c.args.uri.now out_of_memory) c.put_show.ensures
