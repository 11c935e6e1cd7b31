use Rattle.std.proofs.Common.{◌≡◌, ◌∙◌, ◌≤◌, ◌<◌, ◌-◌, true, false, [], suc, refl, sym, subst}
use Rattle.std.proofs.Common.{length, get_or, arith}
use Rattle.std.specs.List.Sorted.{IsPartitionPoint, IsPartitionedBy}
use Rattle.cb_index.specs.Blocks.{head_is}
use Rattle.cb_index.proofs.BlockLemmas.{all_dropped, block_parts, get_or_any, heads_parted}
use Rattle.cb_index.proofs.BlockLemmas.{place_ahead, place_behind, place_inside}
use Rattle.cb_index.proofs.SortedLemmas.{parts_places}
use Rattle.cb_index.proofs.blocks.lower_bound.Goals as goal

pub count_begun-begun-requires : goal.count_begun-begun-requires
count_begun-begun-requires t c =
    let p = t.B.Bound.is_ahead c.args.bound.now in
    heads_parted p c.args.blocks.now c.requires.filled
    c.requires.parted

pub count_ahead-at-requires : goal.count_ahead-at-requires
count_ahead-at-requires t c =
    let p = t.B.Bound.is_ahead c.args.bound.now in
    let bs = c.args.blocks.now in
    let k = c.count_begun-begun.result - 1 in
    let low : k < length bs =
    omega (arith, c.if-begun-eq0.false, c.count_begun-begun.ensures.bound) in
    let here : c.items.result.now ≡ get_or bs k [] =
    c.items.ensures.value ∙ c.index-blocks-block.is
    ∙ get_or_any bs k c.index-blocks-block.result [] low in
    subst (IsPartitionedBy p) (sym here)
    (parts_places p (get_or bs k [])
    (block_parts p bs k low c.requires.parted))

-- where no block begins ahead of it, nothing stands ahead of it
pub returns-then-begun-eq0 : goal.returns-then-begun-eq0
returns-then-begun-eq0 t c =
    let p = t.B.Bound.is_ahead c.args.bound.now in
    let bs = c.args.blocks.now in
    record {
      place = (omega arith, omega arith);
      ahead = tt;
      behind =
          all_dropped p bs 0 c.requires.filled c.requires.parted
          (λ below.
          c.count_begun-begun.ensures.parted.1 0 [] (omega (arith, c.if-begun-eq0.true)) below);
      start = λ none. refl;
    }

-- an element of the last block that begins ahead of it stands ahead
pub returns : goal.returns
returns t c =
    let p = t.B.Bound.is_ahead c.args.bound.now in
    let bs = c.args.blocks.now in
    let k = c.count_begun-begun.result - 1 in
    let j = c.count_ahead-at.result in
    let low : k < length bs =
    omega (arith, c.if-begun-eq0.false, c.count_begun-begun.ensures.bound) in
    let next : c.count_begun-begun.result ≡ suc k = omega (arith, c.if-begun-eq0.false) in
    let here : c.items.result.now ≡ get_or bs k [] =
    c.items.ensures.value ∙ c.index-blocks-block.is
    ∙ get_or_any bs k c.index-blocks-block.result [] low in
    let begun =
    subst (λ n. IsPartitionPoint (λ b. head_is p b ≡ true) (λ b. head_is p b ≡ false) bs n) next
    c.count_begun-begun.ensures.parted in
    let within = subst (λ b. j ≤ length b) here c.count_ahead-at.ensures.bound in
    let point =
    subst (λ b. IsPartitionPoint (λ e. p e ≡ true) (λ e. p e ≡ false) b j) here
    c.count_ahead-at.ensures.parted in
    record {
      place = (omega (arith, c.count_begun-begun.ensures.bound), within);
      ahead = place_ahead p bs k j low c.requires.filled c.requires.parted begun within point;
      behind = place_behind p bs k j low c.requires.filled c.requires.parted begun within point;
      start = λ none.
          let some =
          place_inside p bs k j low c.requires.filled c.requires.parted begun within point in
          absurd (omega (arith, some, none));
    }
