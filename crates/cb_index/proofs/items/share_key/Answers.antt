use Rattle.std.proofs.Common.{◌≡◌, ◌∙◌, sym, ap}
use Rattle.cb_scan.specs.TextFacts.{TextFacts}
use Rattle.cb_index.specs.Items.{item_span}
use Rattle.cb_index.proofs.ColumnLemmas.{one_key}
use Rattle.cb_index.proofs.items.share_key.Goals as goal

pub returns-then-have_one_place : goal.returns-then-have_one_place
returns-then-have_one_place c =
    let sort = c.args.sort in
    let a = c.args.a in
    let b = c.args.b in
    let f = c.facts.result.now in
    let same : item_span sort f a ≡ item_span sort f b =
    c.have_one_place.ensures c.if-have_one_place.true in
    c.if-have_one_place.true ∙ one_key c.args.text.now sort a b
    (sym (ap (λ (t : TextFacts). item_span sort t a) c.facts.ensures) ∙ same
    ∙ ap (λ (t : TextFacts). item_span sort t b) c.facts.ensures)
