use Rattle.std.proofs.Common.{◌≡◌, ◌∙◌, ◌+◌, ◌++◌, suc, sym, ap, drop, drop-cons, get_or, length}
use Rattle.std.proofs.Common.{arith}
use Rattle.std.proofs.Math.Nat.{le_trans}
use Rattle.std.proofs.lemmas.List.{length-append}
use Rattle.std.proofs.lemmas.List.{length-map}
use Rattle.cb_scan.specs.Order.{in_order}
use Rattle.cb_index.specs.Entries.{sort_key}
use Rattle.cb_index.specs.Held.{all_entries, entries_of, entry_of, listed_of}
use Rattle.cb_index.specs.declared.entry.Shown.{Shown}
use Rattle.cb_index.proofs.EntryLemmas.{sort_exact}
use Rattle.cb_index.proofs.PutLemmas.{again_in_order, order_front, parts_same}
use Rattle.cb_index.specs.Kinds.{keyer_of, lister_of}
use Rattle.cb_index.proofs.index.BlockList+Posting.put_each.Goals as goal

-- the room is for all of them
pub put_all-requires-clause-room : goal.put_all-requires-clause-room
put_all-requires-clause-room c =
    let lister = lister_of c.args.kind in
    let a = c.args.archive.now in
    let key = sort_key (keyer_of c.args.kind) a in
    let none : Shown = record { name = 0; version = 0 } in
    let i = c.loop-one.one-index in
    let one = get_or c.args.shown.now i none in
    let later = all_entries lister a (drop (suc i) c.args.shown.now) in
    let size =
    parts_same key c.loop-one.self.items (all_entries lister a (drop i c.args.shown.now))
    c.args.self.now.items (all_entries lister a c.args.shown.now) c.loop-one.invariant.same in
    let next : length (all_entries lister a (drop i c.args.shown.now))
    ≡ length (entries_of lister a one ++ later) =
    ap (λ l. length (all_entries lister a l))
    (drop-cons c.args.shown.now i none c.loop-one-test.true) in
    let parts = length-append (entries_of lister a one) later in
    let count = length-map (listed_of lister a one.version) (entry_of one) in
    omega (arith, size, next, parts, count, c.requires.room, c.loop-one.invariant.room)

pub loop-one-preserved : goal.loop-one-preserved
loop-one-preserved c =
    let lister = lister_of c.args.kind in
    let keyer = keyer_of c.args.kind in
    let a = c.args.archive.now in
    let key = sort_key keyer a in
    let none : Shown = record { name = 0; version = 0 } in
    let i = c.loop-one.one-index in
    let shown = c.args.shown.now in
    let held = c.loop-one.self.items in
    let more = entries_of lister a (get_or shown i none) in
    let later = all_entries lister a (drop (suc i) shown) in
    let step : i + 1 ≡ suc i = omega arith in
    record {
      order =
          again_in_order key (sort_exact keyer a) c.put_all.new.self.items
          (held ++ more) c.put_all.ensures.entries;
      same =
          ap (λ n. in_order key (c.put_all.new.self.items ++ all_entries lister a (drop n shown)))
          step
          ∙ ap (λ l. in_order key (l ++ later)) c.put_all.ensures.entries
          ∙ order_front key (sort_exact keyer a) held more later
          ∙ ap (λ l. in_order key (held ++ all_entries lister a l))
          (sym (drop-cons shown i none c.loop-one-test.true))
          ∙ c.loop-one.invariant.same;
      room = le_trans c.loop-one.invariant.room c.put_all.ensures.room;
    }
