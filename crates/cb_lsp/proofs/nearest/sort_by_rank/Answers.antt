use Rattle.std.proofs.Common.{rules, ◌∙◌, ap, map}
use Rattle.cb_desk.proofs.TagOrder.{in_order-from_sort_by, map-in_order}
use Rattle.cb_tags.specs.TagLines.{tag_of}
use Rattle.cb_tags.specs.declared.row.TagRow.{TagRow}
use Rattle.cb_lsp.specs.Nearest.{rank}
use Rattle.cb_lsp.specs.steps.Closures.{is_held}
use Rattle.cb_lsp.proofs.nearest.sort_by_rank.Goals as goal

pub returns : goal.returns
returns c =
    let key = rank c.args.from.now (is_held c.args.closure.now) in
    let sorted = c.in_ok-sort_by.ensures in
    ap (map tag_of) (in_order-from_sort_by (λ (r : TagRow). key (tag_of r))
    c.args.rows.now.items c.sort_by.new.self.items sorted.sorted sorted.stable
    (λ a r f k. search (rules, k)))
    ∙ map-in_order key tag_of c.args.rows.now.items
