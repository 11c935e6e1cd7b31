use Rattle.std.proofs.Common.{◌∙◌, sym}
use Rattle.std.specs.Cmp.Lexicographic.{slice_cmp}
use Rattle.std.specs.Ordering.{nat_cmp, ordering_then}
use Rattle.cb_index.specs.Entries.{bytes_key, sort_key}
use Rattle.cb_index.specs.Kinds.{keyer_of}
use Rattle.cb_index.proofs.OrderingLemmas.{settled}
use Rattle.cb_index.proofs.order.compare.Goals as goal

pub returns-in_default : goal.returns-in_default
unfolding sort_key
returns-in_default c =
    let keyer = keyer_of c.args.kind in
    let a = c.args.archive.now in
    settled c.cmp.result
    (slice_cmp nat_cmp (bytes_key keyer a c.args.a) (bytes_key keyer a c.args.b))
    c.in_default.not-Equal c.cmp.ensures

pub returns-in-Equal : goal.returns-in-Equal
unfolding sort_key
returns-in-Equal c =
    let keyer = keyer_of c.args.kind in
    let archive = c.args.archive.now in
    let e = c.args.a in
    let f = c.args.b in
    λ i. ordering_then ((sym c.in-Equal.is ∙ c.cmp.ensures) i) (c.compare_bytes.ensures i)
