use Rattle.std.proofs.Common.{subst, ap, ◌∙◌, take}
use Rattle.std.specs.Prelude.{codes}
use Rattle.cb_tags.specs.Writing.{Puts}
use Rattle.cb_wire.specs.Lists.{list_text}
use Rattle.cb_wire.specs.Replies.{result_body}
use Rattle.cb_wire.specs.Texts.{frame}
use Rattle.cb_wire.specs.Values.{value_text}
use Rattle.cb_wire.proofs.Arrays.{list-text}
use Rattle.cb_lsp.proofs.Listed.{take-map}
use Rattle.cb_lsp.proofs.answers.put_first.Goals as goal

pub returns : goal.returns
returns g c =
    λ js e.
    let most = c.args.most in
    subst (λ t. Puts c.args.out.now c.put_list_result.new.out c.put_list_result.result (frame t))
    (ap (λ ts. result_body c.args.id
    (list_text (codes "[") (codes ",") (codes "]") (take most ts))) e
    ∙ ap (λ ts. result_body c.args.id (list_text (codes "[") (codes ",") (codes "]") ts))
    (take-map value_text most js)
    ∙ list-text c.args.id (take most js)) c.put_list_result.ensures
