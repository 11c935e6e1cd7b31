use Rattle.std.proofs.Common.{◌∙◌, sym}
use Rattle.std.specs.Cmp.Lexicographic.{slice_cmp}
use Rattle.std.specs.Ordering.{nat_cmp, ordering_then}
use Rattle.cb_index.specs.Entries.{file_key}
use Rattle.cb_index.proofs.EntryLemmas.{bytes_cmp}
use Rattle.cb_index.specs.Kinds.{keyer_of}
use Rattle.cb_index.proofs.OrderingLemmas.{settled}
use Rattle.cb_index.proofs.order.compare_bytes.Goals as goal

pub returns-in_default : goal.returns-in_default
returns-in_default c =
    let a = c.args.archive.now in
    settled c.compare_keys.result
    (slice_cmp nat_cmp (file_key a c.args.a) (file_key a c.args.b)) c.in_default.not-Equal
    c.compare_keys.ensures
    ∙ bytes_cmp (keyer_of c.args.kind) a c.args.a c.args.b

pub returns-in-Equal : goal.returns-in-Equal
returns-in-Equal c =
    let keyer = keyer_of c.args.kind in
    let archive = c.args.archive.now in
    let e = c.args.a in
    let f = c.args.b in
    (λ i. ordering_then ((sym c.in-Equal.is ∙ c.compare_keys.ensures) i)
    (c.compare_files.ensures i)) ∙ bytes_cmp keyer archive e f
