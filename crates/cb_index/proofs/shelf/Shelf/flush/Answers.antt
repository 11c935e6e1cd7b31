use Rattle.std.proofs.Common.{◌<◌, refl, sym, subst, length, slice_index_or}
use Rattle.cb_index.specs.Held.{Indexed}
use Rattle.cb_index.specs.Shelved.{HasRoom, IsIndex}
use Rattle.cb_index.proofs.EachLemmas.{all_at, place_below}
use Rattle.cb_index.proofs.KeptLemmas.{flush_fits, in_its_order, kept_flushed, within_flushed}
use Rattle.cb_index.proofs.shelf.Shelf.flush.Goals as goal

pub flush-requires-clause-order : goal.flush-requires-clause-order
flush-requires-clause-order c =
    let s = c.self.inside in
    let n = c.place_of.result in
    let d = c.index-self-place_of.result in
    let below : n < length s.indexes =
    subst (λ m. m < length s.indexes) (sym c.place_of.ensures)
    (place_below c.args.by_tag_name s.indexes c.self.invariant.0.kinds) in
    let x : Indexed = slice_index_or s.indexes n d in
    in_its_order x.kind s.archive s.shown.items x refl
    (all_at (IsIndex s.archive s.shown.items) s.indexes n d below c.self.invariant.0.each)

pub flush-requires-clause-room : goal.flush-requires-clause-room
flush-requires-clause-room c =
    let s = c.self.inside in
    let n = c.place_of.result in
    let d = c.index-self-place_of.result in
    let below : n < length s.indexes =
    subst (λ m. m < length s.indexes) (sym c.place_of.ensures)
    (place_below c.args.by_tag_name s.indexes c.self.invariant.0.kinds) in
    let x : Indexed = slice_index_or s.indexes n d in
    flush_fits s.archive s.shown.items s.shown.room s.totals s.room s.indexes x
    c.self.invariant.1 c.self.invariant.2
    (all_at (HasRoom s.room) s.indexes n d below c.self.invariant.2.each)
    (all_at (IsIndex s.archive s.shown.items) s.indexes n d below c.self.invariant.0.each)

pub invariant_of-self : goal.invariant_of-self
invariant_of-self c =
    let s = c.self.inside in
    let n = c.place_of.result in
    let d = c.index-self-place_of.result in
    let below : n < length s.indexes =
    subst (λ m. m < length s.indexes) (sym c.place_of.ensures)
    (place_below c.args.by_tag_name s.indexes c.self.invariant.0.kinds) in
    let y = c.flush.new.self in
    let done = c.flush.ensures in (
      kept_flushed s.archive s.shown.items s.indexes n y d below done.itself done.held done.pending
          c.self.invariant.0,
      c.self.invariant.1,
      within_flushed s.archive s.shown.items s.indexes n y d below done.itself
          s.shown.room s.totals s.room c.self.invariant.2,
    )
