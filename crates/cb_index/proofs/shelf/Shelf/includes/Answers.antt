use Rattle.std.proofs.Common.{◌∙◌, ap}
use Rattle.cb_index.specs.Shelved.{files}
use Rattle.cb_index.specs.steps.Includes.{includes_in}
use Rattle.cb_index.proofs.IncludeLemmas.{includes_are}
use Rattle.cb_index.proofs.shelf.Shelf.includes.Goals as goal

pub returns : goal.returns
returns c = ap includes_in c.entries.ensures ∙ includes_are c.args.self.now.archive.profile (files
    c.args.self.now)
