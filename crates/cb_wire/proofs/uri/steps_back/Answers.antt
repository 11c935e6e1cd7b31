use Rattle.std.proofs.Common.{rules, tests}
use Rattle.std.specs.Prelude.{codes}
use Rattle.std.specs.Str.{bytes_eq}
use Rattle.std.proofs.lemmas.Iterator.Search.{any_from_yields_List}
use Rattle.std.proofs.lemmas.Iterator.Splits.{YieldsList-from_slice_split}
use Rattle.cb_wire.proofs.uri.steps_back.Goals as goal

pub returns : goal.returns
returns c =
    any_from_yields_List (λ segment. bytes_eq segment (codes "..")) _ _ c.any.result c.any.ensures.ran
    (YieldsList-from_slice_split _ _ c.args.path.now c.split.ensures.rest c.split.ensures.done
    c.split.ensures.closure (λ x r q k. search (rules, tests))) (λ x r q k. search (rules, tests))
