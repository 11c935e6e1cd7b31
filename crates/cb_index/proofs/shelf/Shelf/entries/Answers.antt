use Rattle.std.proofs.Common.{◌∙◌, ap, map}
use Rattle.cb_index.specs.Shelved.{Shelved, files, with_facts}
use Rattle.cb_index.specs.steps.Left.{entries_in}
use Rattle.cb_index.proofs.RowLemmas.{entries_are}
use Rattle.cb_index.proofs.shelf.Shelf.entries.Goals as goal

pub returns : goal.returns
returns c =
    ap (entries_in c.self.inside.archive) c.files.ensures
    ∙ entries_are c.self.inside.archive c.self.inside.shown.items c.self.invariant.0.there
    ∙ ap (λ (s : Shelved). map (with_facts s.archive.profile) (files s)) c.self.view_is
