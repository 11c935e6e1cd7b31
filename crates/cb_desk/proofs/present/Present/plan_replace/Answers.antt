use Rattle.std.proofs.Common.{rules, ◌≡◌, ◌∙◌, ap, filter, sym, subst, arith, Some}
use Rattle.std.specs.List.{AllByRecursion}
use Rattle.cb_index.specs.Files.{IsThere}
use Rattle.cb_index.specs.steps.ShownIn.{shown_in}
use Rattle.cb_index.proofs.InOrderLemmas.{all_filter}
use Rattle.cb_desk.specs.Desk.{IsBetween, bytes_in, counted, new_texts}
use Rattle.cb_desk.specs.Marks.{replaced_files, replaced_on_marks, with_files}
use Rattle.cb_desk.specs.steps.Plans.{IsPlan}
use Rattle.cb_desk.specs.steps.Records.{Kept, world_in}
use Rattle.cb_desk.specs.steps.Replaced.{files_changed, files_then, has_mark}
use Rattle.cb_desk.proofs.Counted.{counts_any, counts_between}
use Rattle.cb_desk.proofs.FilesReplaced.{world_changed}
use Rattle.cb_desk.proofs.PlacePlans.{ok_along}
use Rattle.cb_desk.proofs.present.Present.plan_replace.Goals as goal

-- the files with a mark are there
pub versions_then-requires : goal.versions_then-requires
versions_then-requires c =
    let a = c.replacing-replacing.result.archive.now in
    let marks = c.replacing-replacing.result.marks.now in
    let shown = shown_in c.shown.result in
    let marked : c.as_slice-2.result.now ≡ filter (has_mark a marks) shown = search rules in
    let there : AllByRecursion (IsThere a) shown =
    subst (λ b. AllByRecursion (IsThere b) shown) (ap (λ (p : Kept). p.archive) c.self.view_is
    ∙ sym c.replacing-replacing.ensures.archive) c.shown.ensures.there in
    subst (AllByRecursion (IsThere a)) (sym marked)
    (all_filter (has_mark a marks) (IsThere a) shown there)

pub returns-in_err-versions-clause-meter : goal.returns-in_err-versions-clause-meter
returns-in_err-versions-clause-meter c =
    let k = c.args.self.now in
    let made = c.replacing-replacing.result in
    let a = made.archive.now in
    let marks = made.marks.now in
    let wanted : k.now.wanted ≡ Some made.old.now = search rules in
    let shown : shown_in c.shown.result ≡ k.now.shown = search rules in
    let marked : c.as_slice-2.result.now ≡ filter (has_mark a marks) (shown_in c.shown.result) =
    search rules in
    let same : files_then a marks made.old.now made.new.now c.as_slice-2.result.now
    ≡ new_texts (world_in k.archive k.now) c.args.text.now =
    ap (files_then a marks made.old.now made.new.now) marked
    ∙ (λ i.
    files_changed (c.replacing-replacing.ensures.archive i) (c.replacing-replacing.ensures.marks i)
    made.old.now (c.replacing-replacing.ensures.new i) (shown i))
    ∙ sym (world_changed k.archive k.now made.old.now c.args.text.now wanted) in
    counts_between c.from_residual-in_err-versions.result
    (bytes_in (new_texts (world_in k.archive k.now) c.args.text.now)) c.args.meter.now
    c.versions_then.new.meter
    c.from_residual-in_err-versions.ensures.0
    (subst (λ fs. IsBetween c.args.meter.now (bytes_in fs) c.versions_then.new.meter) same
    c.in_err-versions.ensures.meter)

pub returns-clause-plan : goal.returns-clause-plan
returns-clause-plan c =
    let k = c.args.self.now in
    let old = c.replacing-replacing.result.old.now in
    let new = c.replacing-replacing.result.new.now in
    let w = world_in k.archive k.now in
    let wanted : k.now.wanted ≡ Some old = search rules in
    let world : with_files w (replaced_files old new w)
    ≡ replaced_on_marks w k.now.wanted c.args.text.now =
    ap (λ t. with_files w (replaced_files old t w)) c.replacing-replacing.ensures.new
    ∙ ap (λ o. replaced_on_marks w o c.args.text.now) (sym wanted) in
    ok_along (λ p. IsPlan k p (with_files w (replaced_files old new w)))
    (λ p. IsPlan k p (replaced_on_marks w k.now.wanted c.args.text.now))
    c.plan_renewed.result (λ p is. subst (IsPlan k p) world is) c.plan_renewed.ensures

pub returns-clause-meter : goal.returns-clause-meter
returns-clause-meter c =
    let k = c.args.self.now in
    let made = c.replacing-replacing.result in
    let a = made.archive.now in
    let marks = made.marks.now in
    let wanted : k.now.wanted ≡ Some made.old.now = search rules in
    let shown : shown_in c.shown.result ≡ k.now.shown = search rules in
    let marked : c.as_slice-2.result.now ≡ filter (has_mark a marks) (shown_in c.shown.result) =
    search rules in
    let same : files_then a marks made.old.now made.new.now c.as_slice-2.result.now
    ≡ new_texts (world_in k.archive k.now) c.args.text.now =
    ap (files_then a marks made.old.now made.new.now) marked
    ∙ (λ i.
    files_changed (c.replacing-replacing.ensures.archive i) (c.replacing-replacing.ensures.marks i)
    made.old.now (c.replacing-replacing.ensures.new i) (shown i))
    ∙ sym (world_changed k.archive k.now made.old.now c.args.text.now wanted) in
    let read = c.read-counted.ensures in
    let few = c.read-counted.type_inv in
    counts_any c.plan_renewed.result
    (bytes_in (new_texts (world_in k.archive k.now) c.args.text.now)) c.args.meter.now
    c.versions_then.new.meter (omega (arith, read, few))
    (c.in_ok-versions.ensures.meter ∙ ap (λ fs. counted c.args.meter.now (bytes_in fs)) same)
