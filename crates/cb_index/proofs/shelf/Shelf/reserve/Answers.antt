use Rattle.std.proofs.Common.{rules, refl, ap, length, arith}
use Rattle.std.proofs.Math.Nat.{le_trans}
use Rattle.cb_index.specs.steps.Moves.{StaysSame}
use Rattle.cb_index.proofs.KeptLemmas.{kept_as, kept_list, kept_moved, larger_fits, rooms_stay}
use Rattle.cb_index.proofs.TotalLemmas.{totals_moved}
use Rattle.cb_index.proofs.shelf.Shelf.reserve.Goals as goal

-- the archive was refused
pub invariant_of-self : goal.invariant_of-self
invariant_of-self c =
    let x = c.self.inside in (
      kept_moved x.archive c.reserve.new.self x.shown.items x.indexes c.reserve.ensures.same_profile
          c.reserve.ensures.same_names
          c.reserve.ensures.same_texts c.self.invariant.0,
      totals_moved x.archive c.reserve.new.self x.shown.items _ x.totals
          c.reserve.ensures.same_profile c.reserve.ensures.same_texts refl c.self.invariant.1,
      c.self.invariant.2,
    )

-- the list was refused
pub invariant_of-self-in_err-reserve : goal.invariant_of-self-in_err-reserve
invariant_of-self-in_err-reserve c =
    let x = c.self.inside in
    let items = c.reserve-2.ensures.items in
    let within = c.self.invariant.2 in (
      kept_moved x.archive c.reserve.new.self c.reserve-2.new.self.items x.indexes
          c.reserve.ensures.same_profile c.reserve.ensures.same_names c.reserve.ensures.same_texts
          (kept_list x.archive x.shown.items c.reserve-2.new.self.items x.indexes
          items c.self.invariant.0),
      totals_moved x.archive c.reserve.new.self x.shown.items _ x.totals
          c.reserve.ensures.same_profile c.reserve.ensures.same_texts items c.self.invariant.1,
      record {
        entries = let count = ap length items in omega (arith, within.entries, count);
        defs = within.defs;
        uses = within.uses;
        calls = within.calls;
        listed = omega (arith, within.listed, c.reserve-2.ensures.room);
        each = within.each;
      },
    )

-- an index was refused
pub invariant_of-self-in_err-reserve_each : goal.invariant_of-self-in_err-reserve_each
invariant_of-self-in_err-reserve_each c =
    let x = c.self.inside in
    let items = c.reserve-2.ensures.items in
    let same = c.reserve_each.ensures.same in
    let within = c.self.invariant.2 in (
      kept_moved x.archive c.reserve.new.self c.reserve-2.new.self.items c.reserve_each.new.indexes
          c.reserve.ensures.same_profile c.reserve.ensures.same_names c.reserve.ensures.same_texts
          (kept_as x.archive x.shown.items c.reserve-2.new.self.items x.indexes
          c.reserve_each.new.indexes items same c.self.invariant.0),
      totals_moved x.archive c.reserve.new.self x.shown.items _ x.totals
          c.reserve.ensures.same_profile c.reserve.ensures.same_texts items c.self.invariant.1,
      record {
        entries = let count = ap length items in omega (arith, within.entries, count);
        defs = within.defs;
        uses = within.uses;
        calls = within.calls;
        listed = omega (arith, within.listed, c.reserve-2.ensures.room);
        each =
            rooms_stay StaysSame (λ x y way. way.itself) x.room x.indexes c.reserve_each.new.indexes
            same within.each;
      },
    )

pub invariant_of-self-2 : goal.invariant_of-self-2
invariant_of-self-2 c =
    let x = c.self.inside in
    let items = c.reserve-2.ensures.items in
    let same = c.reserve_each.ensures.same in
    let within = c.self.invariant.2 in
    let larger = larger_fits c.larger-room.result x.room c.args.room.now c.larger-room.ensures in (
      kept_moved x.archive c.reserve.new.self c.reserve-2.new.self.items c.reserve_each.new.indexes
          c.reserve.ensures.same_profile c.reserve.ensures.same_names c.reserve.ensures.same_texts
          (kept_as x.archive x.shown.items c.reserve-2.new.self.items x.indexes
          c.reserve_each.new.indexes items same c.self.invariant.0),
      totals_moved x.archive c.reserve.new.self x.shown.items _ x.totals
          c.reserve.ensures.same_profile c.reserve.ensures.same_texts items c.self.invariant.1,
      record {
        entries =
            let count = ap length items in omega (arith, within.entries, count, larger.entries);
        defs = le_trans within.defs larger.defs;
        uses = le_trans within.uses larger.uses;
        calls = le_trans within.calls larger.calls;
        listed = search rules;
        each = search rules;
      },
    )
