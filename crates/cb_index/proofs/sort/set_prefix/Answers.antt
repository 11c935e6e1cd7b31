use Rattle.std.proofs.Common.{rules, slice_index_or}
use Rattle.std.proofs.lemmas.List.Edits.{map_over_more}
use Rattle.cb_index.specs.steps.Quick.{with_prefix}
use Rattle.cb_index.proofs.sort.set_prefix.Goals as goal

pub loop-entry-preserved : goal.loop-entry-preserved
loop-entry-preserved c =
    let es = c.loop-entry.entries in
    let i = c.loop-entry.entry-index in
    let e = slice_index_or es i (record { prefix = 0; name = 0; version = 0; number = 0; rows = 0 }) in
    rw c.with_prefix.ensures
    (map_over_more (with_prefix c.args.prefix) c.args.entries.now es i e c.loop-entry-test.true
    c.loop-entry.invariant (search rules))
