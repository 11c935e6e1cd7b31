use Rattle.std.proofs.Common.{[], true, subst}
use Rattle.cb_tags.specs.Writing.{Puts}
use Rattle.cb_wire.specs.Texts.{frame}
use Rattle.cb_wire.proofs.Completions.{completions-reply}
use Rattle.cb_lsp.proofs.answers.put_no_names.Goals as goal

pub returns : goal.returns
returns g c =
    subst (λ t. Puts c.args.out.now c.put_result.new.out c.put_result.result (frame t))
    (completions-reply c.args.id true []) c.put_result.ensures
