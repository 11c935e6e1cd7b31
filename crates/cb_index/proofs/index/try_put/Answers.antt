use Rattle.std.proofs.Common.{◌≡◌, ◌∙◌, sym, subst}
use Rattle.cb_scan.specs.Order.{in_order}
use Rattle.cb_index.specs.Blocks.{IsPlaceOf, before, joined}
use Rattle.cb_index.specs.Entries.{sort_key}
use Rattle.cb_index.specs.declared.order.Side.TheVariants.{Behind}
use Rattle.cb_index.specs.steps.Bounds.{is_ahead}
use Rattle.cb_index.proofs.RangeLemmas.{ahead_parts, behind_inserted}
use Rattle.cb_index.specs.Kinds.{keyer_of}
use Rattle.cb_index.proofs.index.try_put.Goals as goal

pub lower_bound-place-requires-clause-parted : goal.lower_bound-place-requires-clause-parted
lower_bound-place-requires-clause-parted c =
    let keyer = keyer_of c.args.kind in
    let a = c.args.archive.now in
    ahead_parts keyer a (Behind c.args.one) (joined c.used.result.now)
    (subst (λ bs. joined bs ≡ in_order (sort_key keyer a) (joined bs)) (sym c.used.ensures.value)
    c.requires)

pub returns-clause-put : goal.returns-clause-put
returns-clause-put c = λ is.
    let keyer = keyer_of c.args.kind in
    let a = c.args.archive.now in
    let one = c.args.one in
    let k = c.lower_bound-place.result.block in
    let j = c.lower_bound-place.result.at in
    let held = c.args.blocks.now.used in
    let place =
    subst (λ bs. IsPlaceOf (is_ahead keyer a (Behind one)) bs k j) c.used.ensures.value
    c.lower_bound-place.ensures in
    c.try_insert.ensures.put is
    ∙ behind_inserted keyer a one (before held k j) (joined held) c.requires place.ahead
    place.behind
