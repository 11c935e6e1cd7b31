use Rattle.std.proofs.Common.{◌∙◌, length, ap, arith}
use Rattle.std.proofs.lemmas.List.Sums.{count_by-le-length, length-filter}
use Rattle.cb_index.specs.Blocks.{joined}
use Rattle.cb_index.proofs.ShownLemmas.{stays}
use Rattle.cb_index.proofs.shown.BlockList+Shown.take_under.Goals as goal

pub invariant_of-self : goal.invariant_of-self
invariant_of-self c =
    let held = joined c.self.inside.blocks.used in
    let p = stays c.args.archive.now c.args.name in
    let size = ap length c.take.ensures.taken.1 ∙ length-filter p held in
    let fewer = count_by-le-length p held in
    let count = c.take.ensures.count in
    let fits = c.self.invariant in
    (omega (arith, size, fewer, fits.0), omega (arith, size, fewer, count, fits.1))
