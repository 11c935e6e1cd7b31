use Rattle.std.proofs.Common.{◌∙◌, ap, map}
use Rattle.cb_index.specs.Orders.{tag_key, tags_listed}
use Rattle.cb_index.specs.Rows.{tags_by_tag_name}
use Rattle.cb_index.specs.Shelved.{Shelved, files}
use Rattle.cb_index.specs.steps.Found.{tag_at}
use Rattle.cb_index.proofs.CoverLemmas.{covers_read}
use Rattle.cb_index.proofs.RowLemmas.{rows_by_tag_name}
use Rattle.cb_index.proofs.shelf.Shelf.tags.Goals as goal

pub returns : goal.returns
returns c =
    let s = c.self.inside in
    let kept = c.self.invariant.0 in
    let none = ap (λ (v : Shelved). v.pending.tags) c.self.view_is ∙ c.requires in
    let held = covers_read tag_key tags_listed s.archive s.shown.items s.tags none kept.tags in
    ap (map (tag_at s.archive)) c.entries.ensures
    ∙ rows_by_tag_name s.archive s.shown.items kept.there kept.ascending s.tags.held c.read_texts.ensures held
    ∙ ap (λ (v : Shelved). tags_by_tag_name (files v)) c.self.view_is
