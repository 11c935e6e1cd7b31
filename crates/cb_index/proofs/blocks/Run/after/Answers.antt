use Rattle.std.proofs.Common.{rules, ◌≡◌, ◌∙◌, ◌<◌, ◌++◌, [], ap, length, drop, get_or}
use Rattle.cb_index.specs.Blocks.{before, joined}
use Rattle.cb_index.proofs.BlockLemmas.{get_or_any}
use Rattle.cb_index.proofs.RunLemmas.{from_place, rest_fits}
use Rattle.cb_index.proofs.blocks.Run.after.Goals as goal

-- no more entries than all
pub parts-requires : goal.parts-requires
parts-requires t c =
    let bs = c.args.blocks.now in
    let k = c.args.from.block in
    let f = c.args.from.at in
    let low : k < length bs = search rules in
    let start : c.items.result.now ≡ get_or bs k [] =
    c.items.ensures.value ∙ c.index-blocks-from.is
    ∙ get_or_any bs k c.index-blocks-from.result [] low in
    rest_fits (before bs k f) (joined bs) _ _
    ((λ i. (c.split_at.ensures.back ∙ ap (drop f) start) i
    ++ (joined (c.split_at-2.ensures.back i) ++ []))
    ∙ from_place bs k f low c.requires.from.1) c.requires.fits

pub returns : goal.returns
returns t c =
    let bs = c.args.blocks.now in
    let k = c.args.from.block in
    let f = c.args.from.at in
    let low : k < length bs = search rules in
    let start : c.items.result.now ≡ get_or bs k [] =
    c.items.ensures.value ∙ c.index-blocks-from.is
    ∙ get_or_any bs k c.index-blocks-from.result [] low in
    c.parts.ensures
    ∙ (λ i. (c.split_at.ensures.back ∙ ap (drop f) start) i
    ++ (joined (c.split_at-2.ensures.back i) ++ []))
    ∙ from_place bs k f low c.requires.from.1
