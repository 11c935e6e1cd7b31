use Rattle.std.proofs.Common.{subst, ap, ◌∙◌}
use Rattle.cb_tags.specs.Writing.{Puts}
use Rattle.cb_wire.specs.Replies.{result_body}
use Rattle.cb_wire.specs.Texts.{frame}
use Rattle.cb_wire.proofs.Trees.{result-text}
use Rattle.cb_lsp.specs.Hovers.{hover_of, hover_shown}
use Rattle.cb_lsp.proofs.Listed.{hover-written}
use Rattle.cb_lsp.proofs.answers.put_hovers.Goals as goal

pub returns : goal.returns
returns g c =
    λ ts e.
    let id = c.args.id in
    subst (λ t. Puts c.args.out.now c.put_list_result.new.out c.put_list_result.result (frame t))
    (ap (result_body id) (hover-written (g.I.Elements.texts c.args.hovers) ts c.args.range e)
    ∙ result-text id (hover_of (hover_shown ts) c.args.range)) c.put_list_result.ensures
