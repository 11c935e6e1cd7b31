use Rattle.std.proofs.Common.{rules, ◌≡◌, ◌∙◌, ◌∷◌, length}
use Rattle.cb_index.specs.Archived.{name_of}
use Rattle.cb_index.specs.steps.ShownIn.{shown_in}
use Rattle.cb_desk.proofs.MarkedFiles.{files_on, found_is, marks_on, more_ascend, none_left}
use Rattle.cb_desk.proofs.MarkedFiles.{passed_is}
use Rattle.cb_desk.proofs.present.marked_files.first_marked.Goals as goal

pub returns-in-Some-split_named-clause-files : goal.returns-in-Some-split_named-clause-files
returns-in-Some-split_named-clause-files c =
    let from = c.from_name-here.ensures in
    let split : c.loop-mark.left.now ≡ c.in-Some.mark.now ∷ c.in-Some.field-0-1.now =
    search rules in
    let named : c.name-name.result.now ≡ name_of c.args.archive.now c.in-Some.mark.now.name =
    search rules in
    c.loop-mark.invariant.same
    ∙ found_is c.args.archive.now c.loop-mark.left.now (shown_in c.loop-mark.rest)
    c.loop-mark.invariant.marks c.loop-mark.invariant.files
    c.in-Some.mark.now c.in-Some.field-0-1.now split c.name-name.result.now named
    from.0 c.count_in.result from.1.0 from.1.1 c.count_in.ensures.value
    c.in-Some-split_named.file (shown_in c.in-Some-split_named.more)
    (shown_in c.from_name-here.result) c.split_at.result.1.now
    from.2 c.split_at.ensures.back c.in-Some-split_named.ensures

pub returns-in-Some-split_named-clause-ascending : goal.returns-in-Some-split_named-clause-ascending
returns-in-Some-split_named-clause-ascending c =
    let from = c.from_name-here.ensures in (
      more_ascend c.args.archive.now c.name-name.result.now c.in-Some-split_named.file
          (shown_in c.in-Some-split_named.more) (shown_in c.from_name-here.result)
          c.in-Some-split_named.ensures
          (files_on c.args.archive.now (shown_in c.loop-mark.rest)
          (shown_in c.from_name-here.result) from.0 from.2 c.loop-mark.invariant.files),
      marks_on c.args.archive.now c.loop-mark.left.now c.split_at.result.1.now c.count_in.result
          c.split_at.ensures.back c.loop-mark.invariant.marks,
    )

pub loop-mark-preserved : goal.loop-mark-preserved
loop-mark-preserved c =
    let from = c.from_name-here.ensures in
    let split : c.loop-mark.left.now ≡ c.in-Some.mark.now ∷ c.in-Some.field-0-1.now =
    search rules in
    let named : c.name-name.result.now ≡ name_of c.args.archive.now c.in-Some.mark.now.name =
    search rules in
    record {
      same = c.loop-mark.invariant.same
          ∙ passed_is c.args.archive.now c.loop-mark.left.now (shown_in c.loop-mark.rest)
          c.loop-mark.invariant.marks c.loop-mark.invariant.files
          c.in-Some.mark.now c.in-Some.field-0-1.now split c.name-name.result.now named
          from.0 c.count_in.result from.1.0 from.1.1 c.count_in.ensures.value
          (shown_in c.from_name-here.result) c.split_at.result.1.now
          from.2 c.split_at.ensures.back c.in_default-split_named.ensures;
      files = files_on c.args.archive.now (shown_in c.loop-mark.rest)
          (shown_in c.from_name-here.result) from.0 from.2 c.loop-mark.invariant.files;
      marks = marks_on c.args.archive.now c.loop-mark.left.now c.split_at.result.1.now
          c.count_in.result c.split_at.ensures.back c.loop-mark.invariant.marks;
    }

pub returns-clause-files : goal.returns-clause-files
returns-clause-files c =
    let none : length c.loop-mark.left.now ≡ 0 = search rules in
    c.loop-mark.invariant.same
    ∙ none_left c.args.archive.now c.loop-mark.left.now (shown_in c.loop-mark.rest) none
