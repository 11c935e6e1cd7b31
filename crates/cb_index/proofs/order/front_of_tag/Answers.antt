use Rattle.std.proofs.Common.{◌∙◌, sym, ap}
use Rattle.std.specs.Str.{bytes_eq}
use Rattle.cb_index.proofs.PrefixLemmas.{front_of_main, front_of_other}
use Rattle.cb_index.proofs.order.front_of_tag.Goals as goal

pub returns-then-eq : goal.returns-then-eq
returns-then-eq c =
    sym (front_of_main c.args.name.now
    (ap (bytes_eq c.args.name.now) (sym c.as_slice.ensures) ∙ sym c.eq.ensures ∙ c.if-eq.true))

pub returns-else-eq : goal.returns-else-eq
returns-else-eq c =
    c.tag_front.ensures
    ∙ sym (front_of_other c.args.name.now
    (ap (bytes_eq c.args.name.now) (sym c.as_slice.ensures) ∙ sym c.eq.ensures ∙ c.if-eq.false))
