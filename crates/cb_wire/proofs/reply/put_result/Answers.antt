use Rattle.std.proofs.Common.{subst, ap, sym, ◌++◌, append_assoc}
use Rattle.std.specs.Prelude.{codes}
use Rattle.cb_tags.specs.Writing.{Puts}
use Rattle.cb_wire.specs.Texts.{frame, id_text}
use Rattle.cb_wire.proofs.reply.put_result.Goals as goal

pub returns : goal.returns
returns g c =
    let id = id_text c.args.id in
    let end = c.args.value.now ++ codes "}" in
    subst (λ t. Puts c.args.out.now c.put_message.new.out c.put_message.result (frame t))
    (ap (λ l. codes "{\"jsonrpc\":\"2.0\",\"id\":" ++ l)
    (sym (append_assoc id (codes ",\"result\":") end))) c.put_message.ensures
