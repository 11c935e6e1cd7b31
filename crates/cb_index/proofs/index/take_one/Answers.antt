use Rattle.std.proofs.Common.{◌≡◌, ◌∙◌, ◌<◌, ◌-◌, true, false, ◌∷◌, suc, sym, subst, take, drop}
use Rattle.std.proofs.Common.{arith}
use Rattle.std.proofs.lemmas.Bool.{true≢false}
use Rattle.std.specs.List.{AllByRecursion}
use Rattle.cb_scan.specs.Order.{in_order}
use Rattle.cb_index.specs.Blocks.{IsPlaceOf, before, joined}
use Rattle.cb_index.specs.Entries.{sort_key}
use Rattle.cb_index.specs.declared.order.Side.TheVariants.{Behind}
use Rattle.cb_index.specs.steps.Bounds.{is_ahead}
use Rattle.cb_index.proofs.BlockLemmas.{before_fits, place_there}
use Rattle.cb_index.proofs.EntryLemmas.{sort_exact}
use Rattle.cb_index.proofs.PutLemmas.{again_in_order}
use Rattle.cb_index.proofs.RangeLemmas.{ahead_parts, behind_some, behind_taken}
use Rattle.cb_index.specs.Kinds.{keyer_of}
use Rattle.cb_index.proofs.index.take_one.Goals as goal

pub lower_bound-place-requires-clause-parted : goal.lower_bound-place-requires-clause-parted
lower_bound-place-requires-clause-parted c =
    let keyer = keyer_of c.args.kind in
    let a = c.args.archive.now in
    ahead_parts keyer a (Behind c.args.one) (joined c.used.result.now)
    (subst (λ bs. joined bs ≡ in_order (sort_key keyer a) (joined bs)) (sym c.used.ensures.value)
    (again_in_order (sort_key keyer a) (sort_exact keyer a) (joined c.args.blocks.now.used)
    (c.args.one ∷ c.requires.0) c.requires.1))

-- an entry that is there does not stand behind the bound
pub unreachable-requires : goal.unreachable-requires
unreachable-requires c =
    let keyer = keyer_of c.args.kind in
    let a = c.args.archive.now in
    let one = c.args.one in
    let k = c.lower_bound-place.result.block in
    let j = c.lower_bound-place.result.at in
    let held = c.args.blocks.now.used in
    let place =
    subst (λ bs. IsPlaceOf (is_ahead keyer a (Behind one)) bs k j) c.used.ensures.value
    c.lower_bound-place.ensures in
    true≢false (behind_some keyer a one c.requires.0 (joined held) c.requires.1
    (subst (λ n. AllByRecursion (λ e. is_ahead keyer a (Behind one) e ≡ false)
    (drop (before held n 0) (joined held))) (place.start c.if-place-eq0.true)
    (subst (λ n. AllByRecursion (λ e. is_ahead keyer a (Behind one) e ≡ false)
    (drop (before held k n) (joined held))) c.if-place-eq0.true place.behind)))

pub returns-clause-taken : goal.returns-clause-taken
returns-clause-taken c = λ rest is.
    let keyer = keyer_of c.args.kind in
    let a = c.args.archive.now in
    let one = c.args.one in
    let k = c.lower_bound-place.result.block in
    let j = c.lower_bound-place.result.at in
    let held = c.args.blocks.now.used in
    let some : 0 < j = omega (arith, c.if-place-eq0.false) in
    let place =
    subst (λ bs. IsPlaceOf (is_ahead keyer a (Behind one)) bs k j) c.used.ensures.value
    c.lower_bound-place.ensures in
    let fits = before_fits held k j (place_there held k j place.place some) place.place.1 in
    let next : before held k j ≡ suc (before held k (j - 1)) = omega (arith, some) in
    c.remove.ensures.taken
    ∙ behind_taken keyer a one (before held k (j - 1)) rest (joined held) is
    (omega (arith, fits, next))
    (subst
    (λ n. AllByRecursion (λ e. is_ahead keyer a (Behind one) e ≡ true) (take n (joined held))) next
    place.ahead)
    (subst
    (λ n. AllByRecursion (λ e. is_ahead keyer a (Behind one) e ≡ false) (drop n (joined held))) next
    place.behind)
