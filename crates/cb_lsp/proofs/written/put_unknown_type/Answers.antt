use Rattle.std.proofs.Common.{◌∙◌, ap, arith, subst}
use Rattle.std.specs.Prelude.{◌++◌, codes, decimal}
use Rattle.json.specs.Print.{escape_byte, print_from}
use Rattle.cb_tags.specs.Writing.{Puts}
use Rattle.cb_wire.specs.Texts.{frame, id_text}
use Rattle.cb_wire.specs.declared.reply.ErrorCode.TheVariants.{RequestFailed}
use Rattle.cb_wire.proofs.Trees.{error-text}
use Rattle.cb_lsp.proofs.HoverTexts.{place-parts}
use Rattle.cb_lsp.proofs.written.put_unknown_type.Goals as goal

pub returns : goal.returns
unfolding print_from escape_byte
returns g c =
    let file = c.args.file.now in
    let line = c.args.line in
    subst (λ t. Puts c.args.out.now c.put_message.new.out c.put_message.result (frame t))
    (ap (λ l. codes "{\"jsonrpc\":\"2.0\",\"id\":" ++ (id_text c.args.id
    ++ (codes ",\"error\":{\"code\":-32803,\"message\":\"type is not known: " ++ l))) (place-parts file line (codes "\"}}") (omega arith))
    ∙ error-text c.args.id RequestFailed (codes "type is not known: ") (file ++ (codes ":" ++ decimal line)))
    c.put_message.ensures
