use Rattle.std.proofs.Common.{ap, not, rules, tests}
use Rattle.std.proofs.lemmas.Iterator.Search.{all_from_yields_List}
use Rattle.std.proofs.lemmas.Iterator.Splits.{YieldsList-from_slice_split}
use Rattle.cb_lsp.specs.Names.{leads_down}
use Rattle.cb_lsp.proofs.rename.is_outside.Goals as goal

pub returns : goal.returns
returns c =
    ap not (all_from_yields_List leads_down _ _ c.all.result c.all.ensures.ran
    (YieldsList-from_slice_split _ _ c.args.name.now c.split.ensures.rest c.split.ensures.done
    c.split.ensures.closure (λ x r q k. search (rules, tests))) (λ x r q k. search (rules, tests)))
