use Rattle.std.proofs.Common.{rules, ◌≡◌, ◌∙◌, ◌<◌, ◌+◌, ◌++◌, [], suc, sym, ap, subst}
use Rattle.std.proofs.Common.{length, drop, get_or, arith, inl, inr}
use Rattle.std.proofs.lemmas.List.{drop-append-le, length-append, length-drop}
use Rattle.std.proofs.Math.Seq.{drop-append-add}
use Rattle.std.specs.List.{AllByRecursion}
use Rattle.cb_index.specs.Blocks.{IsFilled, before, joined}
use Rattle.cb_index.specs.steps.Bounds.{is_below}
use Rattle.cb_index.proofs.BlockLemmas.{back_at, before_fits, get_or_any}
use Rattle.cb_index.proofs.SortedLemmas.{parts_left, parts_places, parts_right}
use Rattle.cb_index.proofs.ShownLemmas.{all_later, below_parts, from_blocks, from_first}
use Rattle.cb_index.proofs.ShownLemmas.{nil_joined}
use Rattle.cb_index.proofs.files.ShownFiles.from_name.Goals as goal
use Rattle.cb_index.proofs.files.ShownFiles.from_name.Goals.{
  then-at-self-via-then-at-self,
  then-at-self-via-else-at-self+then-is_empty,
}

pub count_ahead-at-requires : goal.count_ahead-at-requires
count_ahead-at-requires c =
    let a = c.args.archive.now in
    let first = c.args.self.first.now in
    let rest = joined c.args.self.blocks.now in
    let p = is_below a c.args.name.now in
    parts_places p first
    (parts_left p first rest (below_parts a c.args.name.now (first ++ rest) c.requires))

pub lower_bound-place-requires-clause-parted : goal.lower_bound-place-requires-clause-parted
lower_bound-place-requires-clause-parted c =
    let a = c.args.archive.now in
    let first = c.args.self.first.now in
    let rest = joined c.args.self.blocks.now in
    let p = is_below a c.args.name.now in
    parts_right p first rest (below_parts a c.args.name.now (first ++ rest) c.requires)

-- in the rest of a block, or behind it where no block is left
pub returns-then-at-self : goal.returns-then-at-self
returns-then-at-self c =
    let a = c.args.archive.now in
    let first = c.args.self.first.now in
    let rest = joined c.args.self.blocks.now in
    let at = c.count_ahead-at.result in
    let p = is_below a c.args.name.now in (
      at,
      from_first p at first rest (below_parts a c.args.name.now (first ++ rest) c.requires)
          c.count_ahead-at.ensures.bound c.count_ahead-at.ensures.parted
          (elim c.then-at-self.branch [
            | then-at-self-via-then-at-self w ↦ inl w.if-at-self.true
            | then-at-self-via-else-at-self+then-is_empty w ↦
                inr (nil_joined c.args.self.blocks.now (search rules))
          ]),
      ap (λ l. l ++ rest) c.split_at.ensures.back
          ∙ sym (drop-append-le at first rest c.count_ahead-at.ensures.bound),
    )

-- in a block behind it
pub invariant_of-result-2 : goal.invariant_of-result-2
invariant_of-result-2 c =
    let first = c.args.self.first.now in
    let bs = c.args.self.blocks.now in
    let k = c.lower_bound-place.result.block in
    let j = c.lower_bound-place.result.at in
    let some : 0 < length bs = search rules in
    let low : k < length bs = omega (arith, some, c.lower_bound-place.ensures.place.0) in
    let next : k + 1 ≡ suc k = omega arith in
    let here : c.items.result.now ≡ get_or bs k [] =
    c.items.ensures.value
    ∙ get_or_any bs k c.index-self-place.result [] low in
    let rest = (λ i. (c.split_at-2.ensures.back ∙ ap (drop j) here) i
    ++ joined ((c.split_at-3.ensures.back ∙ ap (λ n. drop n bs) next) i))
    ∙ sym (back_at bs k j low c.lower_bound-place.ensures.place.1) in
    let fewer = length-drop (before bs k j) (joined bs) in
    let size = ap length rest in
    let whole = length-append first (joined bs) in
    let fits = c.args.self.fits in record {
      fits = omega (arith, size, fewer, whole, fits);
      filled = subst (AllByRecursion IsFilled) (sym c.split_at-3.ensures.back)
          (all_later IsFilled (k + 1) bs c.args.self.filled);
    }

pub returns : goal.returns
returns c =
    let a = c.args.archive.now in
    let first = c.args.self.first.now in
    let bs = c.args.self.blocks.now in
    let k = c.lower_bound-place.result.block in
    let j = c.lower_bound-place.result.at in
    let some : 0 < length bs = search rules in
    let low : k < length bs = omega (arith, some, c.lower_bound-place.ensures.place.0) in
    let next : k + 1 ≡ suc k = omega arith in
    let here : c.items.result.now ≡ get_or bs k [] =
    c.items.ensures.value
    ∙ get_or_any bs k c.index-self-place.result [] low in
    let within = c.lower_bound-place.ensures.place.1 in (
      length first + before bs k j,
      from_blocks (is_below a c.args.name.now) c.count_ahead-at.result (before bs k j) first
          (joined bs) (omega (arith, c.if-at-self.false, c.count_ahead-at.ensures.bound))
          (before_fits bs k j low within) c.count_ahead-at.ensures.parted
          c.lower_bound-place.ensures.ahead c.lower_bound-place.ensures.behind,
      (λ i. (c.split_at-2.ensures.back ∙ ap (drop j) here) i
          ++ joined ((c.split_at-3.ensures.back ∙ ap (λ n. drop n bs) next) i))
          ∙ sym (back_at bs k j low within)
          ∙ sym (drop-append-add first (joined bs) (before bs k j)),
    )
