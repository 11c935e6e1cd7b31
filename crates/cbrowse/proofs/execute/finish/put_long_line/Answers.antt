use Rattle.std.proofs.Common.{◌∙◌, ◌++◌, codes, subst}
use Rattle.cb_tags.specs.Writing.{Puts}
use Rattle.cbrowse.proofs.execute.finish.put_long_line.Goals as goal

pub returns : goal.returns
returns g c =
    subst (λ digits. Puts c.args.errors.now c.put_texts.new.out c.put_texts.result
    (codes "cbrowse: line over " ++ digits ++ codes " bytes\n"))
    (c.as_bytes-digits.ensures.value ∙ c.format.ensures.text) c.put_texts.ensures
