use Rattle.std.proofs.Common.{rules, ◌∙◌, ap, map}
use Rattle.std.proofs.lemmas.Fn.{filter_same}
use Rattle.cb_desk.proofs.Placed.{map-filter}
use Rattle.cb_tags.specs.TagLines.{tag_of}
use Rattle.cb_lsp.specs.steps.Nearby.{passes}
use Rattle.cb_lsp.proofs.nearest.Test.keep.Goals as goal

pub returns : goal.returns
returns c =
    ap (map tag_of) (filter_same _ (λ r. passes c.args.self (tag_of r)) _
    (λ e r f k. (search (rules, k), search (rules, k))) _ _ c.retain.ensures.filtered)
    ∙ map-filter tag_of (passes c.args.self) c.args.rows.now.items
