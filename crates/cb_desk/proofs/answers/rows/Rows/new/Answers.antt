use Rattle.std.proofs.Common.{◌∙◌, sym, ap, subst}
use Rattle.std.specs.List.{flat_map}
use Rattle.cb_index.specs.Shelved.{files}
use Rattle.cb_desk.specs.Answer.{distinct, field_rows, text_rows_in}
use Rattle.cb_desk.specs.World.{AreValidFiles, widest_bounds}
use Rattle.cb_desk.specs.steps.LookBack.{HaveLineTexts}
use Rattle.cb_desk.proofs.LineTexts.{line-texts}
use Rattle.cb_desk.proofs.TextRowsApart.{text_rows-distinct}
use Rattle.cb_desk.proofs.TextRowsFew.{rows-few}
use Rattle.cb_desk.proofs.answers.rows.Rows.new.Goals as goal

pub new-requires-clause-few : goal.new-requires-clause-few
new-requires-clause-few c =
    rows-few c.args.pattern.now c.new-files.result
    (subst (AreValidFiles widest_bounds) (sym c.new-files.ensures.value) c.requires.valid)

pub new-requires-in_default-clause-texts : goal.new-requires-in_default-clause-texts
new-requires-in_default-clause-texts c =
    subst HaveLineTexts (sym c.found_rows.ensures.rows)
    (line-texts c.args.shelf.now.archive.profile c.args.field c.args.pattern.now (files
    c.args.shelf.now)
    c.new-files.ensures.ascending)

pub returns-in-Text : goal.returns-in-Text
returns-in-Text c =
    let p = c.args.pattern.now in
    let fs = files c.args.shelf.now in
    c.new.ensures ∙ ap (flat_map (text_rows_in p)) c.new-files.ensures.value
    ∙ sym (text_rows-distinct p fs c.new-files.ensures.ascending)
    ∙ ap (λ field. distinct (flat_map (field_rows c.args.shelf.now.archive.profile field p) fs))
    (sym c.in-Text.is)
