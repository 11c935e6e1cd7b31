use Rattle.std.proofs.Common.{rules, ◌∙◌}
use Rattle.std.proofs.lemmas.Fn.{always_returns_same}
use Rattle.std.specs.Ordering.{nat_cmp}
use Rattle.cb_index.specs.Names.{names_of}
use Rattle.cb_index.proofs.NameLemmas.{among_is, found_by_name}
use Rattle.cb_index.proofs.blocks.Names.has.Goals as goal

pub returns : goal.returns
returns c =
    let files = c.args.self.now.files.now in
    c.is_ok.ensures.value
    ∙ among_is (names_of files) c.args.number c.binary_search_by.result
    (found_by_name files c.args.number c.binary_search_by.result c.binary_search_by.ensures.bound
    (c.binary_search_by.ensures.position (λ s. nat_cmp s.name c.args.number)
    (always_returns_same _ _ _ (λ x r q k. (search (rules, k), search rules)))))
    c.args.self.now.rising
