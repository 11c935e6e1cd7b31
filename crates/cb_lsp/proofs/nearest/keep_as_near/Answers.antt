use Rattle.std.proofs.Common.{rules, ◌≡◌, ◌∙◌, ◌∷◌, ap, map}
use Rattle.cb_tags.specs.TagLines.{tag_of}
use Rattle.cb_lsp.proofs.NearestShown.{as_near-front}
use Rattle.cb_lsp.proofs.nearest.keep_as_near.Goals as goal

pub returns : goal.returns
returns c =
    let first = c.in-Some.first.now in
    let split : c.args.rows.now.items ≡ first ∷ c.in-Some.more.now = search rules in
    ap (map tag_of) c.truncate.ensures.items
    ∙ as_near-front tag_of c.args.from.now c.args.rows.now.items first c.in-Some.more.now
    c.count_as_near-count.result split c.count_as_near-count.ensures.value
