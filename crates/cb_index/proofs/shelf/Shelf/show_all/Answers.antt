use Rattle.std.proofs.Common.{◌∙◌, ◌++◌, refl, sym, ap, length, subst, arith}
use Rattle.std.proofs.lemmas.List.{length-append}
use Rattle.cb_scan.specs.Order.{in_order}
use Rattle.cb_index.specs.Files.{shown_name}
use Rattle.cb_index.specs.Shelved.{AreKept, CanShow, Shelved}
use Rattle.cb_index.specs.steps.Moves.{TakesIn}
use Rattle.cb_index.proofs.InOrderLemmas.{length_in_order}
use Rattle.cb_index.proofs.KeptLemmas.{all_can_take, kept_each, rooms_stay}
use Rattle.cb_index.proofs.ListedLemmas.{apart_both}
use Rattle.cb_index.proofs.TotalLemmas.{totals_each}
use Rattle.cb_index.proofs.shelf.Shelf.show_all.Goals as goal

-- no file name stands twice
pub put_all-requires : goal.put_all-requires
put_all-requires c =
    let asked =
    subst (λ (s : Shelved). CanShow s c.args.news.now) (sym c.self.view_is) c.requires in
    let within = c.self.invariant.2 in record {
      ascending = c.self.invariant.0.ascending;
      apart =
          apart_both c.self.inside.archive c.self.inside.shown.items c.args.news.now
          c.self.invariant.0.ascending asked.apart asked.other;
      room = omega (arith, asked.entries, within.listed);
    }

pub put_in_each-requires : goal.put_in_each-requires
put_in_each-requires c =
    let x = c.self.inside in
    all_can_take _ c.args.news.now
    (subst (λ (s : Shelved). CanShow s c.args.news.now) (sym c.self.view_is) c.requires)
    x.room refl x.indexes c.self.invariant.2.each c.self.invariant.0.each

-- the indexes are those of what is shown now
pub invariant_of-self : goal.invariant_of-self
invariant_of-self c =
    let x = c.self.inside in
    let a = x.archive in
    let asked =
    subst (λ (s : Shelved). CanShow s c.args.news.now) (sym c.self.view_is) c.requires in
    let are = c.self.invariant.1 in
    let within = c.self.invariant.2 in
    let more = c.with-self-inside.ensures in
    let items = c.put_all.ensures.files in
    let count =
    ap length items ∙ length_in_order (shown_name a) (x.shown.items ++ c.args.news.now) in
    let parts = length-append x.shown.items c.args.news.now in (
      subst (λ l. AreKept a l c.put_in_each.new.indexes) (sym items)
          (kept_each a x.shown.items c.args.news.now asked.apart asked.other
          c.self.invariant.0.ascending
          x.indexes c.put_in_each.new.indexes asked.there c.put_in_each.ensures c.self.invariant.0),
      totals_each a (shown_name a) x.shown.items c.args.news.now c.put_all.new.self.items
          x.totals c.with-self-inside.result
          (record { defs = more.defs; uses = more.uses; calls = more.calls }) items are,
      record {
        entries = omega (arith, count, parts, asked.entries);
        defs = omega (arith, asked.defs, are.defs, more.defs);
        uses = omega (arith, asked.uses, are.uses, more.uses);
        calls = omega (arith, asked.calls, are.calls, more.calls);
        listed = omega (arith, within.listed, c.put_all.ensures.room);
        each =
            rooms_stay (TakesIn c.args.news.now) (λ x y way. way.itself) x.room x.indexes
            c.put_in_each.new.indexes c.put_in_each.ensures within.each;
      },
    )

pub returns-clause-shown : goal.returns-clause-shown
returns-clause-shown c =
    c.put_all.ensures.files
    ∙ ap (λ (s : Shelved). in_order (shown_name s.archive) (s.shown ++ c.args.news.now))
    c.self.view_is
