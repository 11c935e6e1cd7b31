use Rattle.std.proofs.Common.{subst, ap, sym, ◌∙◌, append-nil}
use Rattle.std.specs.Option.{option_copied}
use Rattle.cb_tags.specs.Writing.{Puts}
use Rattle.cb_wire.specs.Replies.{show_body}
use Rattle.cb_wire.specs.Texts.{frame}
use Rattle.cb_wire.proofs.Trees.{show-text}
use Rattle.json.specs.Print.{escape}
use Rattle.cb_lsp.specs.Messages.{show_if}
use Rattle.cb_lsp.specs.Bodies.{written_text}
use Rattle.cb_lsp.proofs.written.put_told.Goals as goal

pub returns-in-Some : goal.returns-in-Some
returns-in-Some g c =
    let name = c.args.name.now in
    subst (λ o. Puts c.args.out.now c.put_show.new.out c.put_show.result
    (written_text (show_if name (option_copied o)))) (sym c.in-Some.is)
    (subst (Puts c.args.out.now c.put_show.new.out c.put_show.result)
    (ap (λ t. frame (show_body (escape name) t)) c.as_bytes.ensures.value
    ∙ ap frame (show-text name c.in-Some.why.now) ∙ sym (append-nil _)) c.put_show.ensures)
