use Rattle.std.proofs.Common.{rules, ◌∙◌, sym, ap, length, map, subst}
use Rattle.std.specs.List.{AllByRecursion, flat_map}
use Rattle.cb_index.specs.Files.{IsThere}
use Rattle.cb_index.specs.Rows.{file_facts}
use Rattle.cb_index.specs.Shelved.{files}
use Rattle.cb_index.specs.steps.Left.{spots_left}
use Rattle.cb_desk.specs.Answer.{field_rows}
use Rattle.cb_desk.specs.steps.Lent.{asked_by, is_named, row_shown}
use Rattle.cb_desk.proofs.CountLemmas.{facts-distinct, few-distinct, index-counts}
use Rattle.cb_desk.proofs.RowsFew.{fact-rows-few}
use Rattle.cb_desk.proofs.answers.rows.fact_rows.Goals as goal

pub new-requires-clause-counted : goal.new-requires-clause-counted
new-requires-clause-counted c =
    let kind = c.args.kind in
    c.spots.ensures.counted ∙ c.facts.ensures.counted
    ∙ index-counts kind (file_facts c.args.shelf.now.archive.profile kind c.args.pattern.now) (files
    c.args.shelf.now)
    ∙ ap length (sym (c.spots.ensures.rows ∙ c.facts.ensures.new))

pub new-requires-clause-few : goal.new-requires-clause-few
new-requires-clause-few c =
    let kind = c.args.kind in
    let by = c.args.shelf.now.archive.profile in
    let fs = files c.args.shelf.now in
    let p = c.args.pattern.now in
    let shown = row_shown (is_named kind) in
    few-distinct shown (spots_left c.spots.result) (flat_map (field_rows by (asked_by kind) p) fs)
    (ap (map shown) (c.spots.ensures.rows ∙ c.facts.ensures.new)
    ∙ facts-distinct by p fs c.requires.valid.ascending kind)
    (fact-rows-few kind p c.args.shelf.now.archive c.args.shelf.now.shown c.totals-totals.result
    (subst (AllByRecursion (IsThere c.args.shelf.now.archive)) c.shown-shown.ensures.value
    c.shown-shown.ensures.there) c.totals-totals.ensures (search rules) (search rules))

pub returns : goal.returns
returns c =
    let kind = c.args.kind in
    let by = c.args.shelf.now.archive.profile in
    let fs = files c.args.shelf.now in
    let p = c.args.pattern.now in
    c.new.ensures ∙ ap (λ b. map (row_shown b) (spots_left c.spots.result)) c.is_named.ensures
    ∙ ap (map (row_shown (is_named kind))) (c.spots.ensures.rows ∙ c.facts.ensures.new)
    ∙ facts-distinct by p fs c.requires.valid.ascending kind
