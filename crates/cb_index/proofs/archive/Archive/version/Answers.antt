use Rattle.std.proofs.Common.{rules, ◌≡◌, ◌∙◌, ap}
use Rattle.std.specs.Prelude.{slice_get}
use Rattle.cb_index.specs.Archived.{Archived, text_at}
use Rattle.cb_index.proofs.TextLemmas.{item_got, version_at}
use Rattle.cb_index.proofs.archive.Archive.version.Goals as goal

-- each version is its bytes, scanned by the profile
pub returns : goal.returns
returns c =
    let kept = c.self.inside.versions.items in
    let n = c.args.version in
    let same : c.deref.result.now ≡ kept = search rules in
    item_got c.deref.result.now n c.get.result c.get.ensures.lookup
    ∙ ap (λ l. slice_get l n) same
    ∙ version_at c.self.inside.profile kept c.self.invariant n
    ∙ ap (λ (a : Archived). text_at a n) c.self.view_is
