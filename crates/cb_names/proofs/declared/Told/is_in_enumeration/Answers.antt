use Rattle.std.proofs.Common.{◌∙◌, arith, sym}
use Rattle.cb_names.proofs.BracketLemmas.{top_is}
use Rattle.cb_names.proofs.declared.Told.is_in_enumeration.Goals as goal

pub opens_enumeration-requires-clause-within : goal.opens_enumeration-requires-clause-within
opens_enumeration-requires-clause-within c =
    let xs = c.args.self.now.shape.now.items.items in
    let top = top_is xs c.args.index c.in-Some.bracket (sym c.around.ensures ∙ c.in-Some.is) in
    omega (arith, top.less, c.requires.within)
