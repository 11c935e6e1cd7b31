use Rattle.std.proofs.Common.{◌∙◌, true, false, length, Some, refl, sym}
use Rattle.cb_wire.specs.Uris.{path_below}
use Rattle.cb_lsp.specs.Documents.{gone}
use Rattle.cb_lsp.specs.Models.{found_in}
use Rattle.cb_lsp.specs.declared.rename.Unedited.TheVariants.{NotOpen}
use Rattle.cb_lsp.specs.steps.Located.{client_in}
use Rattle.cb_lsp.specs.steps.Renames.{work_in}
use Rattle.cb_lsp.specs.steps.Works.{one_change}
use Rattle.cb_lsp.proofs.Notices.{looked-so}
use Rattle.cb_lsp.proofs.Unedited.{check-found, check-never}
use Rattle.cb_lsp.proofs.rename.Renaming.unedited.Goals as goal

pub returns-then-is_never_edited : goal.returns-then-is_never_edited
returns-then-is_never_edited g c =
    let f = c.args.self.now in (
      false,
      gone,
      check-never (g.D.Disk.finds c.args.disk.now) (one_change false gone)
          (client_in f.asked.forms) (work_in f) c.args.file.now (Some (NotOpen c.args.file))
          c.args.all_open (sym c.is_never_edited.ensures ∙ c.if-is_never_edited.true) refl,
    )

pub returns-then-is_open : goal.returns-then-is_open
returns-then-is_open g c =
    let f = c.args.self.now in
    let w = work_in f in
    let found = found_in c.read-found.result in
    let finds = g.D.Disk.finds c.args.disk.now in
    let path = path_below f.asked.forms.root.now.path c.args.file.now in (
      false,
      found,
      check-found finds found (client_in f.asked.forms) w c.args.file.now c.unless_linked.result
          c.args.all_open true (sym c.is_never_edited.ensures ∙ c.if-is_never_edited.false)
          c.if-all_open.false (sym c.is_open.ensures ∙ c.if-is_open.true) c.unless_linked.ensures
          (looked-so finds (length c.args.file.now) w.world w.world.bounds path _ _ found
          (c.as_slice.ensures.value ∙ c.in-Ok.ensures) c.most_read-most.ensures.value refl
          c.read-found.ensures),
    )

pub returns : goal.returns
returns g c =
    let f = c.args.self.now in
    let w = work_in f in
    let found = found_in c.read-found.result in
    let finds = g.D.Disk.finds c.args.disk.now in
    let path = path_below f.asked.forms.root.now.path c.args.file.now in (
      false,
      found,
      check-found finds found (client_in f.asked.forms) w c.args.file.now c.unless_found.result
          c.args.all_open false (sym c.is_never_edited.ensures ∙ c.if-is_never_edited.false)
          c.if-all_open.false (sym c.is_open.ensures ∙ c.if-is_open.false) c.unless_found.ensures
          (looked-so finds (length c.args.file.now) w.world w.world.bounds path _ _ found
          (c.as_slice.ensures.value ∙ c.in-Ok.ensures) c.most_read-most.ensures.value refl
          c.read-found.ensures),
    )
