use Rattle.std.proofs.Common.{rules, ◌≡◌, ◌∙◌, ◌<◌, ◌+◌, ◌++◌, [], sym, ap, length, take, drop}
use Rattle.std.proofs.Common.{get_or, arith}
use Rattle.std.specs.Prelude.{min}
use Rattle.cb_index.specs.Blocks.{before, joined}
use Rattle.cb_index.proofs.BlockLemmas.{get_or_any}
use Rattle.cb_index.proofs.RunLemmas.{across_between, between_fits, inside_between, turned_between}
use Rattle.cb_index.proofs.blocks.Run.between.Goals as goal
use Rattle.cb_index.proofs.blocks.Run.between.Goals.{After-whole-1}

-- it would end before it begins
pub returns-then-to-from : goal.returns-then-to-from
returns-then-to-from t c =
    let bs = c.args.blocks.now in
    let low : c.args.to.block < length bs = omega (arith, c.requires.from.0, c.if-to-from.true) in
    c.whole-then-to-from.ensures ∙ turned_between bs c.args.to.block c.args.to.at c.args.from.block
    c.args.from.at c.if-to-from.true low c.requires.to.1

-- in one block
pub returns-then-from-to : goal.returns-then-from-to
returns-then-from-to t c =
    let bs = c.args.blocks.now in
    let k = c.args.to.block in
    let f = c.args.from.at in
    let t = c.args.to.at in
    let low : k < length bs = search rules in
    let here : c.items.result.now ≡ get_or bs k [] =
    c.items.ensures.value ∙ c.index-blocks-to.is
    ∙ get_or_any bs k c.index-blocks-to.result [] low in
    c.parts.ensures
    ∙ ap (λ l. l ++ (joined [] ++ []))
    (c.split_at-then-from-to.ensures.back ∙ (λ i.
    drop (c.min.ensures i) (c.split_at.ensures.front i)) ∙ ap (λ b. drop (min f t) (take t b)) here)
    ∙ inside_between bs k f t low c.requires.to.1
    ∙ ap (λ n. drop (before bs n f) (take (before bs k t) (joined bs))) (sym c.if-from-to.true)

-- in two blocks
across : (t : _) (c : After-whole-1 t)
    → c.split_at-2.result.1.now ++ (joined c.split_at-4.result.1.now ++ c.split_at.result.0.now)
    ≡ drop (before c.args.blocks.now c.args.from.block c.args.from.at)
    (take (before c.args.blocks.now c.args.to.block c.args.to.at) (joined c.args.blocks.now))
across t c =
    let bs = c.args.blocks.now in
    let k = c.args.from.block in
    let m = c.args.to.block in
    let f = c.args.from.at in
    let t = c.args.to.at in
    let low : m < length bs = search rules in
    let first : k < length bs = search rules in
    let less : k < m = omega (arith, c.if-to-from.false, c.if-from-to.false) in
    let start : c.items-2.result.now ≡ get_or bs k [] =
    c.items-2.ensures.value ∙ c.index-blocks-from.is
    ∙ get_or_any bs k c.index-blocks-from.result [] first in
    let end : c.items.result.now ≡ get_or bs m [] =
    c.items.ensures.value ∙ c.index-blocks-to.is
    ∙ get_or_any bs m c.index-blocks-to.result [] low in
    (λ i. (c.split_at-2.ensures.back ∙ ap (drop f) start) i
    ++ (joined ((c.split_at-4.ensures.back ∙ ap (drop (k + 1)) c.split_at-3.ensures.front) i)
    ++ (c.split_at.ensures.front ∙ ap (take t) end) i))
    ∙ across_between bs k f m t less low c.requires.from.1 c.requires.to.1

-- no more elements than all
pub parts-requires-2 : goal.parts-requires-2
parts-requires-2 t c =
    between_fits (before c.args.blocks.now c.args.from.block c.args.from.at)
    (before c.args.blocks.now c.args.to.block c.args.to.at) (joined c.args.blocks.now) _ _
    (across t c) c.requires.fits

pub returns : goal.returns
returns t c = c.parts-2.ensures ∙ across t c.before
