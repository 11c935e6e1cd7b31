use Rattle.std.proofs.Common.{subst, ap, ◌∙◌, take}
use Rattle.std.specs.Prelude.{codes}
use Rattle.cb_tags.specs.Writing.{Puts}
use Rattle.cb_wire.specs.Lists.{list_text}
use Rattle.cb_wire.specs.Replies.{result_body}
use Rattle.cb_wire.specs.Texts.{frame}
use Rattle.cb_wire.specs.Values.{value_text}
use Rattle.cb_wire.specs.declared.list.TheConstants.{MOST_ELEMENTS}
use Rattle.cb_wire.proofs.Arrays.{list-text}
use Rattle.cb_lsp.proofs.Listed.{take-map}
use Rattle.cb_lsp.proofs.answers.put_gathered.Goals as goal

pub returns-in-Ok : goal.returns-in-Ok
returns-in-Ok g c =
    λ js e.
    subst (λ t. Puts c.args.out.now c.put_result.new.out c.put_result.result (frame t))
    (ap (result_body c.args.id)
    (c.as_slice.ensures.value ∙ c.in-Ok.ensures
    ∙ ap (λ ts. list_text (codes "[") (codes ",") (codes "]") (take MOST_ELEMENTS ts))
    (c.again.ensures ∙ e)
    ∙ ap (list_text (codes "[") (codes ",") (codes "]")) (take-map value_text MOST_ELEMENTS js))
    ∙ list-text c.args.id (take MOST_ELEMENTS js)) c.put_result.ensures
