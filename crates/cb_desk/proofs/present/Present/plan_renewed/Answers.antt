use Rattle.std.proofs.Common.{rules, ◌≡◌, ◌∙◌, ap, length, sym, subst}
use Rattle.std.proofs.lemmas.List.{length-map}
use Rattle.cb_index.specs.Files.{AreAscending}
use Rattle.cb_desk.specs.steps.Edits.{IsDifference}
use Rattle.cb_desk.specs.steps.Plans.{NewTexts}
use Rattle.cb_desk.specs.steps.Replaced.{files_then, has_mark, remaining, staying}
use Rattle.cb_desk.proofs.MarkedFiles.{some_ascend}
use Rattle.cb_desk.proofs.ReplacePlans.{replace_planned}
use Rattle.cb_desk.proofs.StayingPlaces.{staying_remaining}
use Rattle.cb_desk.proofs.present.Present.plan_renewed.Goals as goal

pub edits_staying-requires-clause-ascending : goal.edits_staying-requires-clause-ascending
edits_staying-requires-clause-ascending c =
    let k = c.args.self.now in
    subst (λ a. AreAscending a c.args.marked.now) (sym c.requires.archive)
    (subst (AreAscending k.archive) (sym c.requires.marked)
    (some_ascend k.archive (has_mark k.archive k.now.marks) k.now.shown c.requires.ascending))

-- as many versions are made as there are files with a mark
pub sorted_renewals-requires : goal.sorted_renewals-requires
sorted_renewals-requires c =
    let many =
    ap length c.requires.versions ∙ length-map _ _ ∙ length-map _ _
    ∙ ap length (sym c.requires.marked) in
    search (rules, many)

pub returns : goal.returns
returns c =
    let k = c.args.self.now in
    let r = c.args.replacing in
    let frames = c.in_ok-frames.frames in
    let then = files_then k.archive k.now.marks r.old.now r.new.now k.now.shown in
    let left = remaining k.archive then k.now.frames in
    let new_files = files_then r.archive.now r.marks.now r.old.now r.new.now c.args.marked.now in
    let places : c.as_slice-places.result.now ≡ k.now.frames = search rules in
    let stay : staying r.archive.now new_files c.as_slice-places.result.now ≡ left =
    (λ i. staying (c.requires.archive i)
    (files_then (c.requires.archive i) (c.requires.marks i) r.old.now r.new.now
    (c.requires.marked i)) (places i))
    ∙ staying_remaining k.archive k.now.marks r.old.now r.new.now k.now.shown k.now.frames
    c.requires.valid.frames in
    let are_frames : IsDifference frames k.now.frames left =
    subst (λ ps. IsDifference frames ps left) places
    (subst (IsDifference frames c.as_slice-places.result.now) stay c.in_ok-frames.ensures) in
    replace_planned k _ r.old.now r.new.now c.in_ok-renewals.renewals.items
    c.in_ok-marks.marks frames c.in_ok-versions.versions
    c.requires.kept c.requires.ascending
    (ap (λ (n : NewTexts). n.profile) c.made.view_is ∙ c.requires.profile) (search rules)
    (ap (λ (n : NewTexts). n.texts) c.made.view_is ∙ c.requires.versions) (search rules)
    (search rules) (search rules) (search rules) (search rules) are_frames
