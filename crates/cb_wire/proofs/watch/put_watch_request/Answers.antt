use Rattle.std.proofs.Common.{subst}
use Rattle.cb_tags.specs.Writing.{Puts}
use Rattle.cb_wire.specs.Texts.{frame}
use Rattle.cb_wire.proofs.Watchers.{watch-text}
use Rattle.cb_wire.proofs.watch.put_watch_request.Goals as goal

pub returns : goal.returns
returns g c =
    subst (λ t. Puts c.args.out.now c.put_message.new.out c.put_message.result (frame t)) watch-text
    c.put_message.ensures
