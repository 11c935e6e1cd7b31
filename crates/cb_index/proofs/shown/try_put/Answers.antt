use Rattle.std.proofs.Common.{◌≡◌, ◌∙◌, true, sym, ap, subst, length, arith}
use Rattle.cb_scan.specs.Order.{put}
use Rattle.cb_index.specs.Blocks.{IsPlaceOf, before, joined}
use Rattle.cb_index.specs.Files.{AreAscending, shown_name}
use Rattle.cb_index.specs.steps.Bounds.{is_below}
use Rattle.cb_index.proofs.InOrderLemmas.{length_put}
use Rattle.cb_index.proofs.ShownLemmas.{below_parts, put_between}
use Rattle.cb_index.proofs.shown.try_put.Goals as goal
use Rattle.cb_index.proofs.shown.try_put.Goals.{After-try_insert}

pub lower_bound-place-requires-clause-parted : goal.lower_bound-place-requires-clause-parted
lower_bound-place-requires-clause-parted c =
    let a = c.args.archive.now in
    below_parts a c.name.result.now (joined c.used.result.now)
    (subst (λ bs. AreAscending a (joined bs)) (sym c.used.ensures.value) c.requires)

placed : (c : After-try_insert) → c.try_insert.result ≡ true
    → joined c.try_insert.new.self.used
    ≡ put (shown_name c.args.archive.now) c.args.one (joined c.args.blocks.now.used)
placed c is =
    let a = c.args.archive.now in
    let k = c.lower_bound-place.result.block in
    let j = c.lower_bound-place.result.at in
    let held = c.args.blocks.now.used in
    let place =
    subst (λ n. IsPlaceOf (is_below a n) held k j) c.name.ensures
    (subst (λ bs. IsPlaceOf (is_below a c.name.result.now) bs k j) c.used.ensures.value
    c.lower_bound-place.ensures) in
    c.try_insert.ensures.put is
    ∙ put_between a c.args.one (before held k j) (joined held) place.ahead place.behind

pub returns-clause-put : goal.returns-clause-put
returns-clause-put c = placed c

pub returns-clause-len : goal.returns-clause-len
returns-clause-len c = λ is.
    let size = ap length (placed c is) in
    let more = length_put (shown_name c.args.archive.now) c.args.one (joined
    c.args.blocks.now.used) in
    omega (arith, size, more)
