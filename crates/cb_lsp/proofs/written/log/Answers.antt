use Rattle.std.proofs.Common.{subst, ap, sym, ◌∙◌, append-nil}
use Rattle.cb_tags.specs.Writing.{Puts}
use Rattle.cb_wire.specs.Texts.{frame}
use Rattle.cb_wire.proofs.Trees.{log-text}
use Rattle.cb_lsp.proofs.written.log.Goals as goal

pub returns : goal.returns
returns g c =
    subst (λ t. Puts c.args.out.now c.put_log.new.out c.put_log.result t)
    (ap frame (log-text c.args.text.now) ∙ sym (append-nil _)) c.put_log.ensures
