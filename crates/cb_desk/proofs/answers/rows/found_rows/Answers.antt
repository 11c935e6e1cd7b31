use Rattle.std.proofs.Common.{◌∙◌, sym, ap, filter, length, map, not, arith, Bool}
use Rattle.std.specs.List.{flat_map}
use Rattle.std.proofs.lemmas.List.{length-map}
use Rattle.cb_scan.specs.Profiles.{is_declaration}
use Rattle.cb_tags.specs.TagLines.{Tag}
use Rattle.cb_index.specs.Rows.{Fact}
use Rattle.cb_index.specs.Shelved.{ShownFile, files}
use Rattle.cb_index.specs.steps.Left.{tags_left}
use Rattle.cb_desk.specs.Answer.{field_rows, file_rows, is_header}
use Rattle.cb_desk.specs.steps.Lent.{row_around, row_of_tag}
use Rattle.cb_desk.proofs.AnswerRows.{definition-rows, including-rows, name-rows}
use Rattle.cb_desk.proofs.RowsFew.{including-rows-few, name-rows-few}
use Rattle.cb_desk.proofs.Valid.{length-kept}
use Rattle.cb_desk.proofs.answers.rows.found_rows.Goals as goal

abbrev is_kept : Tag → Bool
is_kept t = not (is_declaration t.kind)

pub returns-in-Definition : goal.returns-in-Definition
returns-in-Definition c =
    let by = c.args.shelf.now.archive.profile in
    let fs = files c.args.shelf.now in
    let p = c.args.pattern.now in
    let count = c.len-count.ensures in
    record {
      rows = ap (λ ts. map row_of_tag (filter is_kept ts)) c.defs-rest.ensures
          ∙ definition-rows by p fs
          ∙ ap (λ field. flat_map (field_rows by field p) fs) (sym c.in-Definition.is);
      few =
          omega (
            arith,
            count,
            length-map (filter is_kept (tags_left c.defs-rest.result)) row_of_tag,
            length-kept is_kept (tags_left c.defs-rest.result),
          );
    }

pub returns-in-Including : goal.returns-in-Including
returns-in-Including c =
    let by = c.args.shelf.now.archive.profile in
    let fs = files c.args.shelf.now in
    let p = c.args.pattern.now in
    let rows =
    ap (λ facts. map row_around (filter (λ (f : Fact). is_header p f.name) facts))
    c.includes.ensures ∙ including-rows by p fs in
    let long = ap length rows in
    record {
      rows = rows ∙ ap (λ field. flat_map (field_rows by field p) fs) (sym c.in-Including.is);
      few = omega (arith, long, including-rows-few by p fs c.requires.valid);
    }

pub returns-in-File : goal.returns-in-File
returns-in-File c =
    let by = c.args.shelf.now.archive.profile in
    let fs = files c.args.shelf.now in
    let p = c.args.pattern.now in
    let rows =
    ap (flat_map (λ (f : ShownFile). file_rows p f.name)) c.entries.ensures ∙ name-rows by p fs in
    let long = ap length rows in
    record {
      rows = rows ∙ ap (λ field. flat_map (field_rows by field p) fs) (sym c.in-File.is);
      few = omega (arith, long, name-rows-few by p fs c.requires.valid);
    }
