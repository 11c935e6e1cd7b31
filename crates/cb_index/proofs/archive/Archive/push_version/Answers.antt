use Rattle.std.proofs.Common.{◌≡◌, ◌<◌, ◌∙◌, ◌∷◌, ◌++◌, [], true, false, sym, ap, subst}
use Rattle.std.specs.Prelude.{cond, is_ok}
use Rattle.std.specs.List.{AllByRecursion}
use Rattle.cb_scan.proofs.KeyOrder.{by_recursion}
use Rattle.cb_scan.proofs.WithinLemmas.{all-append}
use Rattle.cb_index.specs.Archived.{Archived, AreBytes, IsVersionBy}
use Rattle.cb_index.proofs.archive.Archive.push_version.Goals as goal

-- the new text is scanned by the same profile, and is a list of bytes too
pub invariant_of-self : goal.invariant_of-self
invariant_of-self c =
    let profile = c.self.inside.profile in
    let kept = c.self.inside.versions.items in
    let text : c.bytes.result.now ≡ c.args.version.bytes =
    c.bytes.ensures.value ∙ c.source.ensures in
    let bytes : AreBytes c.args.version.bytes =
    subst AreBytes text (by_recursion (λ b. b < 256) c.bytes.result.now c.read_bytes.ensures) in
    let by : c.args.version.profile ≡ profile =
    c.requires.profile ∙ sym (ap (λ (a : Archived). a.profile) c.self.view_is) in
    subst (AllByRecursion (IsVersionBy profile)) (sym c.push.ensures.items)
    (elim (is_ok c.push.result) as
    (λ b. AllByRecursion (IsVersionBy profile) (cond b (kept ++ c.args.version ∷ []) kept)) [
      | true ↦ all-append (IsVersionBy profile) kept (c.args.version ∷ []) c.self.invariant
          ((by, bytes), tt)
      | false ↦ c.self.invariant
    ])
