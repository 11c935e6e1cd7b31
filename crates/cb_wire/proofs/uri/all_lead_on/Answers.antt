use Rattle.std.proofs.Common.{rules, tests}
use Rattle.std.proofs.lemmas.Iterator.Search.{all_from_yields_List}
use Rattle.std.proofs.lemmas.Iterator.Splits.{YieldsList-from_slice_split}
use Rattle.cb_wire.specs.Uris.{leads_on}
use Rattle.cb_wire.proofs.uri.all_lead_on.Goals as goal

pub returns : goal.returns
returns c =
    all_from_yields_List leads_on _ _ c.all.result c.all.ensures.ran
    (YieldsList-from_slice_split _ _ c.args.path.now c.split.ensures.rest c.split.ensures.done
    c.split.ensures.closure (λ x r q k. search (rules, tests))) (λ x r q k. search (rules, tests))
