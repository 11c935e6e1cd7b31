use Rattle.cbrowse.proofs.Editors.{has_served, not_begun}
use Rattle.cbrowse.proofs.execute.serve_editor.Goals as goal

pub returns-in-Err : goal.returns-in-Err
returns-in-Err g c = not_begun (g.D.Disk.finds c.args.disk.now) _ _ _ _

pub returns : goal.returns
returns g c =
    has_served (g.D.Disk.finds c.args.disk.now) _ _ _ _ _ c.args.feed.now c.serve-end.new.feed
    c.args.out.now c.serve-end.new.out _ c.in-Ok.ensures c.into_desk.ensures c.serve-end.ensures
