use Rattle.std.proofs.Common.{◌∙◌, ap}
use Rattle.cb_index.specs.Scanned.{facts_of}
use Rattle.cb_index.proofs.archive.ScannedSource.facts.Goals as goal

pub returns : goal.returns
returns c = c.self.invariant ∙ ap facts_of c.self.view_is
