use Rattle.std.proofs.Common.{subst, ◌++◌}
use Rattle.std.specs.Prelude.{codes}
use Rattle.json.specs.Print.{escape}
use Rattle.cb_tags.specs.Writing.{Puts}
use Rattle.cb_wire.specs.Texts.{frame, id_text}
use Rattle.cb_wire.proofs.reply.put_error.Goals as goal

pub returns : goal.returns
returns g c =
    subst (λ d. Puts c.args.out.now c.put_message.new.out c.put_message.result
    (frame (codes "{\"jsonrpc\":\"2.0\",\"id\":" ++ (id_text c.args.id
    ++ (codes ",\"error\":{\"code\":" ++ (d ++ (codes ",\"message\":\""
    ++ (escape c.args.text.now ++ (escape c.args.more.now ++ codes "\"}}")))))))))
    c.code_text.ensures c.put_message.ensures
