-- A stable sort by the keys of places puts them in order.
use Rattle.std.proofs.Common.{rules}
use Rattle.cb_desk.specs.steps.Plans.{key_then}
use Rattle.cb_desk.proofs.TagOrder.{in_order-from_sort_by}
use Rattle.cb_desk.proofs.present.files.sort_places.Goals as goal

pub returns : goal.returns
returns c =
    let sort = c.in_ok-sort_by.ensures in
    in_order-from_sort_by (key_then c.args.archive.now c.args.number c.args.new.now)
    c.args.places.now.items c.sort_by.new.self.items
    sort.sorted sort.stable (λ a r f k. search (rules, k))
