use Rattle.std.proofs.Common.{subst, sym, ◌∙◌}
use Rattle.cb_tags.specs.Writing.{Puts}
use Rattle.cb_wire.proofs.Ranges.{range-numbers, range_by}
use Rattle.cb_wire.proofs.range.put_range.Goals as goal

pub returns : goal.returns
returns g c =
    let r = c.args.range in
    subst (Puts c.args.out.now c.put_texts.new.out c.put_texts.result)
    ((λ i. range_by ((c.as_bytes-first_line.ensures.value ∙ c.format.ensures.text) i)
    ((c.as_bytes-first_character.ensures.value ∙ c.format-2.ensures.text) i)
    ((c.as_bytes-last_line.ensures.value ∙ c.format-3.ensures.text) i)
    ((c.as_bytes-last_character.ensures.value ∙ c.format-4.ensures.text) i))
    ∙ sym (range-numbers r)) c.put_texts.ensures
