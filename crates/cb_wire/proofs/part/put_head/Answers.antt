use Rattle.std.proofs.Common.{subst, ◌∙◌, ◌++◌}
use Rattle.std.specs.Prelude.{codes}
use Rattle.cb_tags.specs.Writing.{Puts}
use Rattle.cb_wire.proofs.part.put_head.Goals as goal

pub returns : goal.returns
returns g c =
    subst (λ d. Puts c.args.out.now c.put_texts.new.out c.put_texts.result
    (codes "Content-Length: " ++ (d ++ codes "\r\n\r\n")))
    (c.as_bytes-digits.ensures.value ∙ c.format.ensures.text) c.put_texts.ensures
