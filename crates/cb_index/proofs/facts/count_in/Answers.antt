use Rattle.std.proofs.Common.{◌∙◌, ap, false, length}
use Rattle.cb_index.specs.Archived.{name_of}
use Rattle.cb_index.specs.steps.Searched.{searched_in_text}
use Rattle.cb_index.proofs.SearchLemmas.{searched_rows}
use Rattle.cb_index.proofs.facts.count_in.Goals as goal

pub returns-in-Some-first_with_key : goal.returns-in-Some-first_with_key
returns-in-Some-first_with_key c =
    let file = name_of c.args.archive.now c.args.shown.name in
    let found = c.in-Some-first_with_key in
    c.row_count.ensures
    ∙ searched_rows c.args.sort c.in-Some.version.now c.args.key.now file found.item
    found.ensures.first found.ensures.items
    ∙ ap (λ t. length (searched_in_text false c.args.sort file c.args.key.now t)) c.in-Some.ensures
