use Rattle.std.proofs.Common.{subst, ap, ◌∙◌, take}
use Rattle.std.specs.Prelude.{codes, length, nat_lt}
use Rattle.cb_tags.specs.Writing.{Puts}
use Rattle.cb_wire.specs.Completions.{completions_front}
use Rattle.cb_wire.specs.Lists.{list_text}
use Rattle.cb_wire.specs.Replies.{result_body}
use Rattle.cb_wire.specs.Texts.{frame}
use Rattle.cb_wire.specs.Values.{value_text}
use Rattle.cb_wire.proofs.Completions.{completions-reply}
use Rattle.cb_lsp.specs.declared.completion.TheConstants.{MOST_COMPLETIONS}
use Rattle.cb_lsp.specs.steps.Completions.{completions_left}
use Rattle.cb_lsp.proofs.Listed.{take-map}
use Rattle.cb_lsp.proofs.answers.put_names.Goals as goal

pub returns : goal.returns
returns g c =
    let names = completions_left c.args.names in
    let more = nat_lt MOST_COMPLETIONS (length names) in
    let front = c.names_head-head.ensures ∙ ap completions_front c.are_more.ensures in
    subst (λ t. Puts c.args.out.now c.put_list_result.new.out c.put_list_result.result (frame t))
    ((λ i. result_body c.args.id (list_text (front i) (codes ",") (codes "]}")
    (take-map value_text MOST_COMPLETIONS names i)))
    ∙ completions-reply c.args.id more (take MOST_COMPLETIONS names))
    c.put_list_result.ensures
