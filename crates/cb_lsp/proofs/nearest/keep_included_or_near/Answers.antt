use Rattle.std.proofs.Common.{rules, ◌≡◌, ◌∙◌, ap, sym, false, filter, map, if◌then◌else◌}
use Rattle.std.specs.List.{list_any}
use Rattle.cb_scan.specs.Order.{in_order}
use Rattle.cb_tags.specs.TagLines.{Tag, tag_of}
use Rattle.cb_lsp.specs.Nearest.{as_near, counts, is_included_function, is_object, narrowed, rank}
use Rattle.cb_lsp.specs.steps.Closures.{is_held}
use Rattle.cb_lsp.proofs.nearest.keep_included_or_near.Goals as goal

pub returns : goal.returns
returns c =
    let ts = map tag_of c.args.rows.now.items in
    let from = c.args.from.now in
    let inside = is_held c.args.closure.now in
    let object = λ (t : Tag). is_object t.kind in
    let ordered = in_order (rank from inside) in
    let none : list_any (λ (t : Tag). inside t.file) ts ≡ false = search rules in
    c.keep_as_near.ensures
    ∙ ap (as_near from) (c.in_ok-sort_by_rank.ensures ∙ ap ordered c.narrow.ensures)
    ∙ ap (λ b. if b then ordered (filter (counts inside (list_any (is_included_function inside) ts)) ts)
    else as_near from (ordered (narrowed object ts))) (sym none)
