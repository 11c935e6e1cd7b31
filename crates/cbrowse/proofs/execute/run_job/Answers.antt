-- The pattern of a search is the bytes of its text.
use Rattle.std.proofs.Common.{refl, string_bytes, subst}
use Rattle.std.specs.List.{flat_map}
use Rattle.cb_desk.specs.Answer.{answer}
use Rattle.cb_session.specs.Output.{row_line}
use Rattle.cb_words.specs.declared.job.Job.TheVariants.{Find, Lsp}
use Rattle.cbrowse.specs.Program.{DoesJob, RunsServer}
use Rattle.cbrowse.specs.Writes.{WritesText}
use Rattle.cbrowse.specs.declared.execute.finish.Finish.TheVariants.{Ran, Served}
use Rattle.cbrowse.proofs.execute.run_job.Goals as goal

pub returns-in-Find : goal.returns-in-Find
returns-in-Find g c =
    let put : WritesText (flat_map row_line (answer c.args.session.timeline.present c.in-Find.field
    (string_bytes c.in-Find.pattern))) c.args.out.now c.find_in.new.out c.find_in.result =
    subst (λ p. WritesText (flat_map row_line (answer c.args.session.timeline.present
    c.in-Find.field p)) c.args.out.now c.find_in.new.out c.find_in.result) c.as_bytes.ensures.value
    c.find_in.ensures in
    let does : DoesJob (g.D.Disk.finds c.args.disk.now) (Find c.in-Find.bounds c.in-Find.rules c.in-Find.field c.in-Find.pattern
    c.in-Find.list c.in-Find.files) c.args.limits.now.lines c.args.limits.now.line c.args.session
    c.args.feed.now c.args.feed.now c.args.out.now c.find_in.new.out (Ran c.find_in.result) =
    (refl, put) in
    rw c.in-Find.is does

pub returns-in-Lsp : goal.returns-in-Lsp
returns-in-Lsp g c =
    let does : DoesJob (g.D.Disk.finds c.args.disk.now) (Lsp c.in-Lsp.bounds c.in-Lsp.rules c.in-Lsp.root c.in-Lsp.list
    c.in-Lsp.files) c.args.limits.now.lines c.args.limits.now.line c.args.session c.args.feed.now
    c.serve_editor.new.feed c.args.out.now c.serve_editor.new.out (Served c.serve_editor.result) =
    subst (λ root. RunsServer (g.D.Disk.finds c.args.disk.now) root c.args.session.timeline.present c.args.feed.now
    c.serve_editor.new.feed c.args.out.now c.serve_editor.new.out c.serve_editor.result)
    c.as_deref.ensures.value c.serve_editor.ensures in
    rw c.in-Lsp.is does
