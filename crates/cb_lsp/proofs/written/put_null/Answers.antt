use Rattle.std.proofs.Common.{subst}
use Rattle.json.specs.Json.{null}
use Rattle.json.specs.Print.{print_from}
use Rattle.cb_tags.specs.Writing.{Puts}
use Rattle.cb_wire.specs.Texts.{frame}
use Rattle.cb_wire.proofs.Trees.{result-text}
use Rattle.cb_lsp.proofs.written.put_null.Goals as goal

pub returns : goal.returns
unfolding print_from
returns g c =
    subst (λ t. Puts c.args.out.now c.put_result.new.out c.put_result.result (frame t))
    (result-text c.args.id null) c.put_result.ensures
