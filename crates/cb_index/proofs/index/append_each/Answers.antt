use Rattle.std.proofs.Common.{arith}
use Rattle.std.proofs.Math.Nat.{le_trans}
use Rattle.cb_index.specs.declared.entry.Shown.{Shown}
use Rattle.cb_index.proofs.IndexLemmas.{next_fits}
use Rattle.cb_index.specs.Kinds.{lister_of}
use Rattle.cb_index.proofs.index.append_each.Goals as goal

-- the room is for all of them
pub append-requires : goal.append-requires
append-requires c =
    let none : Shown = record { name = 0; version = 0 } in
    let fits =
    next_fits (lister_of c.args.kind) c.args.archive.now c.args.shown.now c.loop-one.one-index none
    c.loop-one.entries.items c.args.entries.now.items _ c.loop-one-test.true
    c.loop-one.invariant.entries
    (le_trans c.requires c.loop-one.invariant.grown) in
    omega (arith, c.loop-one.entries.ok.0, fits)
