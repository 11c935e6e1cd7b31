use Rattle.std.proofs.Common.{◌∙◌, sym, ap}
use Rattle.std.specs.Option.{option_copied}
use Rattle.cb_index.proofs.NumberLemmas.{known_put, known_stays}
use Rattle.cb_index.proofs.columns.first_known.Goals as goal

pub returns-in-Some-clause-known : goal.returns-in-Some-clause-known
returns-in-Some-clause-known c = λ q.
    known_stays c.args.known.now c.args.name q c.in-Some.first.now c.args.item
    (sym (sym (ap option_copied c.in-Some.is) ∙ c.get.ensures.value))

pub returns-in-Ok-clause-known : goal.returns-in-Ok-clause-known
returns-in-Ok-clause-known c = λ q.
    known_put c.args.known.now c.insert.new.self c.args.name q c.args.item
    (sym (sym (ap option_copied c.in_default.is) ∙ c.get.ensures.value))
    (c.in-Ok.ensures.updates.0 q)
