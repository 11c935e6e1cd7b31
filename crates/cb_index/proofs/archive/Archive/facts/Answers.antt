use Rattle.std.proofs.Common.{◌<◌, ◌∙◌, ap, arith, length, subst, sym}
use Rattle.std.proofs.lemmas.List.{length-map}
use Rattle.cb_index.specs.Archived.{Archived, text_of}
use Rattle.cb_index.specs.Scanned.{Scanned, facts_of}
use Rattle.cb_index.proofs.TextLemmas.{version_indexed}
use Rattle.cb_index.proofs.archive.Archive.facts.Goals as goal

-- the version is its bytes, scanned by the profile
pub returns : goal.returns
returns c =
    let kept = c.self.inside.versions.items in
    let n = c.args.version in
    let many = length-map kept (λ (v : Scanned). v.bytes) in
    let among = subst (λ (a : Archived). n < length a.texts) (sym c.self.view_is) c.requires in
    let below : n < length kept = omega (arith, many, among) in
    c.facts.ensures
    ∙ ap facts_of (c.index.ensures
    ∙ version_indexed c.self.inside.profile kept c.self.invariant n _ below)
    ∙ ap (λ (a : Archived). facts_of (text_of a n)) c.self.view_is
