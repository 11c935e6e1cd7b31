use Rattle.std.proofs.Common.{◌∙◌, ap, subst, sym}
use Rattle.cb_index.specs.declared.entry.FactKind.TheVariants.{Uses}
use Rattle.cb_index.proofs.FactOrderLemmas.{by_place}
use Rattle.cb_lsp.specs.steps.References.{AreByPlace, UsesAreByPlace}
use Rattle.cb_lsp.specs.References.{references}
use Rattle.cb_lsp.specs.Same.{same_uses}
use Rattle.cb_lsp.proofs.RenameSteps.{same-by-place}
use Rattle.cb_lsp.proofs.TagsByPlace.{tags_named-by_place}
use Rattle.cb_lsp.proofs.answers.FileAsked.uses_of_sort.Goals as goal

pub new-uses-requires : goal.new-uses-requires
new-uses-requires c =
    let w = c.args.self.now.desk.now.timeline.present in
    let up = c.files-files.ensures.valid.files.ascending in
    let name = c.bytes_of-name.result.now in
    record {
      rows = subst AreByPlace (sym c.definitions.ensures)
          (tags_named-by_place w.profile name w.files up);
      uses = subst UsesAreByPlace (sym c.uses.ensures) (by_place w.profile Uses name w.files up);
    }

pub returns-in-Ok-clause-order : goal.returns-in-Ok-clause-order
returns-in-Ok-clause-order c =
    let f = c.args.self.now in
    let w = f.desk.now.timeline.present in
    let name = c.bytes_of-name.result.now in
    subst UsesAreByPlace
    (sym (c.in-Ok.ensures ∙ ap (same_uses w c.args.sort name) (c.new-uses.ensures
    ∙ ap (references c.definitions.result f.name.now c.args.declarations) c.uses.ensures)))
    (same-by-place w c.args.sort c.definitions.result f.name.now name c.args.declarations
    c.files-files.ensures.valid.files.ascending)
