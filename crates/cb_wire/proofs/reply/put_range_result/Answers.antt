use Rattle.std.proofs.Common.{subst, ap, sym, ◌++◌, append_assoc}
use Rattle.std.specs.Prelude.{codes}
use Rattle.cb_tags.specs.Writing.{Puts}
use Rattle.cb_wire.specs.Texts.{frame, id_text}
use Rattle.cb_wire.specs.Values.{range_tree, value_text}
use Rattle.cb_wire.proofs.reply.put_range_result.Goals as goal

pub returns : goal.returns
returns g c =
    let id = id_text c.args.id in
    let end = value_text (range_tree c.args.range) ++ codes "}" in
    subst (λ t. Puts c.args.out.now c.put_message.new.out c.put_message.result (frame t))
    (ap (λ l. codes "{\"jsonrpc\":\"2.0\",\"id\":" ++ l)
    (sym (append_assoc id (codes ",\"result\":") end))) c.put_message.ensures
