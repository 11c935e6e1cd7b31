use Rattle.std.proofs.Common.{rules, ◌≡◌, ◌∙◌, ◌<◌, [], length, get_or}
use Rattle.cb_index.proofs.BlockLemmas.{get_or_any}
use Rattle.cb_index.proofs.CompactLemmas.{among_joined}
use Rattle.cb_index.proofs.shown.at_place.Goals as goal

pub returns : goal.returns
returns c =
    let bs = c.args.blocks.now in
    let low : c.args.place.block < length bs = search rules in
    let here : c.items-items.result.now ≡ get_or bs c.args.place.block [] =
    c.items-items.ensures.value
    ∙ c.index-blocks-place.is ∙ get_or_any bs c.args.place.block c.index-blocks-place.result [] low in
    among_joined bs c.args.place.block c.args.place.at c.items-items.result.now _ low here (search rules)
