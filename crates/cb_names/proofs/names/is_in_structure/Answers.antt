use Rattle.std.proofs.Common.{◌∙◌, arith, sym}
use Rattle.cb_names.proofs.BracketLemmas.{top_is}
use Rattle.cb_names.proofs.names.is_in_structure.Goals as goal

pub opens_structure-requires-clause-within : goal.opens_structure-requires-clause-within
opens_structure-requires-clause-within c =
    let xs = c.args.shape.now.items.items in
    let top = top_is xs c.args.at c.in-Some.bracket (sym c.around.ensures ∙ c.in-Some.is) in
    omega (arith, top.less, c.requires.within)
