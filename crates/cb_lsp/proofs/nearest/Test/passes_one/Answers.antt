use Rattle.std.proofs.Common.{◌∙◌}
use Rattle.cb_tags.specs.TagLines.{tag_of}
use Rattle.cb_lsp.specs.steps.Nearby.{passes}
use Rattle.cb_lsp.proofs.NearestShown.{any-map}
use Rattle.cb_lsp.proofs.nearest.Test.passes_one.Goals as goal

pub returns : goal.returns
returns c = c.passes_row.ensures ∙ any-map tag_of (passes c.args.self) c.args.rows.now
