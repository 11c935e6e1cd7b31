use Rattle.std.proofs.Common.{◌∙◌, sym, ap}
use Rattle.std.specs.Str.{bytes_eq}
use Rattle.cb_index.proofs.PrefixLemmas.{own_name}
use Rattle.cb_index.proofs.order.plain_name.Goals as goal

pub returns-else-eq : goal.returns-else-eq
returns-else-eq c =
    λ file. own_name c.args.name.now file
    (ap (bytes_eq c.args.name.now) (sym c.as_slice.ensures) ∙ sym c.eq.ensures ∙ c.if-eq.false)
