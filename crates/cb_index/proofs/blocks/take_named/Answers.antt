use Rattle.std.proofs.Common.{rules}
use Rattle.std.proofs.lemmas.Fn.{filter_same}
use Rattle.std.specs.Prelude.{not}
use Rattle.cb_index.specs.Names.{is_among, names_of}
use Rattle.cb_index.proofs.blocks.take_named.Goals as goal

pub returns-clause-items : goal.returns-clause-items
returns-clause-items t c =
    filter_same _ (λ e. not (is_among (names_of c.args.files.now) (t.T.Named.number_of e))) _
    (λ e r f k. (search (rules, k), search (rules, k))) _ _ c.retain.ensures.filtered
