use Rattle.std.proofs.Common.{◌≡◌, subst, string_bytes, map}
use Rattle.std.specs.Option.{option_map}
use Rattle.cbrowse.specs.Files.{Does, disk_over}
use Rattle.cbrowse.specs.Messages.{files_of, force_of, tagsfile_of}
use Rattle.cbrowse.specs.Program.{file_text}
use Rattle.cbrowse.specs.Tagsfile.{Begins, Settles}
use Rattle.cbrowse.proofs.Tagsfiles.{into_file, settled}
use Rattle.cbrowse.proofs.execute.do_job.Goals as goal

pub returns : goal.returns
returns g c =
    let does = g.D.Storage.does in
    let name : c.in-Some.name.now ≡ tagsfile_of c.args.job.now = c.in-Some.ensures.1 in
    let draft = option_map string_bytes c.in-Ok.begun.1 in
    let begins : Begins (g.D.Storage.shows c.args.disk.now)
    (λ steps. Does does c.args.disk.now steps c.begin.new.disk) (tagsfile_of c.args.job.now)
    (files_of c.args.job.now) (force_of c.args.job.now) draft =
    subst (λ n. Begins (g.D.Storage.shows c.args.disk.now)
    (λ steps. Does does c.args.disk.now steps c.begin.new.disk) n
    (files_of c.args.job.now) (force_of c.args.job.now) draft) name
    (subst (λ fs. Begins (g.D.Storage.shows c.args.disk.now)
    (λ steps. Does does c.args.disk.now steps c.begin.new.disk) c.in-Some.name.now
    fs (force_of c.args.job.now) draft) c.files_of.ensures
    (subst (λ f. Begins (g.D.Storage.shows c.args.disk.now)
    (λ steps. Does does c.args.disk.now steps c.begin.new.disk) c.in-Some.name.now
    (map string_bytes c.files_of.result.now) f draft) c.force_of.ensures c.in-Ok.ensures)) in
    let settles : Settles (λ steps. Does does c.run_job_into-end.new.disk steps c.settle.new.disk)
    (tagsfile_of c.args.job.now) draft c.run_job_into-end.result c.settle.result =
    subst (λ n. Settles (λ steps. Does does c.run_job_into-end.new.disk steps c.settle.new.disk)
    n draft c.run_job_into-end.result c.settle.result) name
    (subst (λ d. Settles (λ steps. Does does c.run_job_into-end.new.disk steps c.settle.new.disk)
    c.in-Some.name.now d c.run_job_into-end.result c.settle.result) c.as_deref.ensures.value
    c.settle.ensures) in
    into_file (disk_over g.D.Disk.finds g.D.Storage.shows does c.args.disk.now c.settle.new.disk)
    c.args.session c.args.job.now c.args.feed.now c.run_job_into-end.new.feed c.args.out.now
    c.settle.result c.in-Some.ensures.0
    (settled g.D.Disk.finds g.D.Storage.shows does c.args.disk.now c.begin.new.disk
    c.run_job_into-end.new.disk c.settle.new.disk c.args.job.now (file_text c.args.job.now c.args.session.timeline.present)
    draft _ c.run_job_into-end.ensures.written.0 c.run_job_into-end.result c.settle.result begins
    c.run_job_into-end.ensures.written.1 c.run_job_into-end.ensures.written.2 settles)
    c.run_job_into-end.ensures.feed
