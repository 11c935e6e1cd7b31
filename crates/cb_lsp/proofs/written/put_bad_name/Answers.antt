use Rattle.std.proofs.Common.{subst}
use Rattle.std.specs.Prelude.{codes}
use Rattle.cb_tags.specs.Writing.{Puts}
use Rattle.cb_wire.specs.Texts.{frame}
use Rattle.cb_wire.specs.Uris.{escaped}
use Rattle.cb_wire.proofs.Trees.{show-text}
use Rattle.cb_lsp.proofs.written.put_bad_name.Goals as goal

pub returns : goal.returns
returns g c =
    subst (λ t. Puts c.args.out.now c.put_show.new.out c.put_show.result (frame t))
    (show-text (escaped c.args.path.now) (codes "bad name")) c.put_show.ensures
