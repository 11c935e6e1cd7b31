use Rattle.std.proofs.Common.{rules, ◌<◌, ◌-◌, arith, ◌∙◌, [], map, length, set, get_or, sym, ap, subst, swap_remove}
use Rattle.std.proofs.lemmas.List.{length-map}
use Rattle.std.specs.List.{AllByRecursion}
use Rattle.cb_index.specs.Archived.{Archived, IsVersionBy}
use Rattle.cb_index.specs.Scanned.{Scanned}
use Rattle.cb_index.proofs.BlockLemmas.{all_set}
use Rattle.cb_index.proofs.CompactLemmas.{all_at, all_first, map_left}
use Rattle.cb_index.proofs.archive.Archive.remove.Goals as goal

-- all that stay are versions of the profile
pub invariant_of-self : goal.invariant_of-self
invariant_of-self c =
    let kept = c.self.inside.versions.items in
    let gone = c.swap_remove-gone.result in
    subst (AllByRecursion (IsVersionBy c.self.inside.profile)) (sym c.swap_remove-gone.ensures.items)
    (all_first (IsVersionBy c.self.inside.profile) (length kept - 1)
    (set kept c.args.version (get_or kept (length kept - 1) gone))
    (all_set (IsVersionBy c.self.inside.profile) kept c.args.version
    (get_or kept (length kept - 1) gone) c.self.invariant
    (all_at (IsVersionBy c.self.inside.profile) kept (length kept - 1) gone
    (search rules) c.self.invariant)))

pub returns-clause-texts : goal.returns-clause-texts
returns-clause-texts c =
    ap (map (λ (v : Scanned). v.bytes)) c.swap_remove-gone.ensures.items
    ∙ map_left (λ (v : Scanned). v.bytes) c.self.inside.versions.items c.args.version
    c.swap_remove-gone.result (let e = length-map c.self.inside.versions.items (λ (v : Scanned). v.bytes) in
    let there = subst (λ (a : Archived). c.args.version < length a.texts) (sym c.self.view_is) c.requires in
    omega (arith, e, there))
    ∙ ap (λ (a : Archived). swap_remove a.texts c.args.version []) c.self.view_is
