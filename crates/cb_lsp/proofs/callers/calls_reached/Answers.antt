use Rattle.std.proofs.Common.{subst, sym}
use Rattle.cb_index.specs.declared.entry.FactKind.TheVariants.{Callees}
use Rattle.cb_index.proofs.FactOrderLemmas.{by_place}
use Rattle.cb_lsp.specs.steps.References.{AreByPlace, UsesAreByPlace}
use Rattle.cb_lsp.proofs.TagsByPlace.{tags_named-by_place}
use Rattle.cb_lsp.proofs.callers.calls_reached.Goals as goal

pub new-rest-requires : goal.new-rest-requires
new-rest-requires c =
    let w = c.args.desk.now.timeline.present in
    let up = c.files-files.ensures.valid.files.ascending in
    let name = c.args.name.now in
    record {
      rows = subst AreByPlace (sym c.definitions.ensures)
          (tags_named-by_place w.profile name w.files up);
      uses = subst UsesAreByPlace (sym c.calls_of.ensures)
          (by_place w.profile Callees name w.files up);
    }
