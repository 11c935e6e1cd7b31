use Rattle.std.proofs.Common.{◌≡◌, ◌++◌, ◌∙◌, ap, length, subst}
use Rattle.std.specs.List.{flat_map}
use Rattle.cb_desk.specs.World.{Place}
use Rattle.cb_desk.specs.Models.{place_at}
use Rattle.cb_tags.specs.Writing.{PutsAll, PutsPrefix}
use Rattle.cb_session.specs.Output.{count_line, row_line}
use Rattle.cb_session.specs.Places.{place_row}
use Rattle.cb_session.specs.Writing.{Puts}
use Rattle.cb_session.proofs.Puts.{Puts-unfinished, WrittenAfter-all, WrittenAfter-fault}
use Rattle.cb_session.proofs.Puts.{WrittenAfter-more}
use Rattle.cb_session.proofs.Shown.{marks-shown}
use Rattle.cb_session.proofs.reply.put_marks.Goals as goal

pub returns-in_err-put_count : goal.returns-in_err-put_count
returns-in_err-put_count g c =
    let k = c.in_err-put_count.ensures in
    let w = c.args.desk.now.timeline.present in
    let counted : c.len.result ≡ length w.marks = c.len.ensures ∙ ap length c.marks.ensures in
    subst (Puts c.args.out.now c.put_count.new.out c.from_residual.result)
    (ap (λ n. count_line n ++ flat_map (λ (p : Place). row_line (place_row w.files p)) w.marks)
    counted ∙ marks-shown w.files w.marks)
    (Puts-unfinished _ _ _ _ _ _ c.from_residual.ensures.1 k.1 k.0)

pub loop-file-preserved : goal.loop-file-preserved
loop-file-preserved g c =
    let k = c.in_ok-put_row.ensures in
    WrittenAfter-more _
    (λ (p : Place). row_line (place_row c.args.desk.now.timeline.present.files p)) _ _ _ _ _ _
    (place_at (c.in-Some.file, c.in-Some.line)) c.loop-file.invariant c.in-Some.ensures.steps
    (subst (λ row. PutsAll c.loop-file.out c.put_row.new.out (row_line row))
    c.place_row.ensures k.0)

pub returns-in_err-put_row : goal.returns-in_err-put_row
returns-in_err-put_row g c =
    let k = c.in_err-put_row.ensures in
    let w = c.args.desk.now.timeline.present in
    subst (Puts c.args.out.now c.put_row.new.out c.from_residual-in_err-put_row.result)
    (marks-shown w.files w.marks)
    (WrittenAfter-fault _ (λ (p : Place). row_line (place_row w.files p)) _ _ _ _ _ _
    (place_at (c.in-Some.file, c.in-Some.line)) _ _ c.loop-file.invariant c.in-Some.ensures.steps
    c.from_residual-in_err-put_row.ensures.1 k.1
    (subst (λ row. PutsPrefix c.loop-file.out c.put_row.new.out (row_line row))
    c.place_row.ensures k.0))

pub returns : goal.returns
returns g c =
    let w = c.args.desk.now.timeline.present in (
      subst (PutsAll c.args.out.now c.loop-file.out) (marks-shown w.files w.marks)
          (WrittenAfter-all _ (λ (p : Place). row_line (place_row w.files p)) _ _ _ _
          c.loop-file.invariant c.in-None.ensures.steps.0),
      tt,
    )
