use Rattle.std.proofs.Common.{◌∙◌, sym}
use Rattle.cb_desk.specs.World.{place_key}
use Rattle.cb_desk.specs.steps.Lent.{found_left, spot_row}
use Rattle.cb_desk.proofs.LookBackLemmas.{group-begun, group-goes-on, seen-more}
use Rattle.cb_desk.proofs.answers.rows.pass.Goals as goal

pub returns-in-Less-clause-kept : goal.returns-in-Less-clause-kept
returns-in-Less-clause-kept c =
    let l = c.args.left.now in
    group-begun (found_left l.all) (found_left l.group) (found_left l.rest) l.first l.passed
    (place_key (record { file = l.file.now; line = l.line })) c.requires.kept
    (spot_row c.args.row.now) (found_left c.args.rest)
    c.requires.next (sym c.requires.order ∙ c.in-Less.is)

pub returns-in-Less-clause-seen : goal.returns-in-Less-clause-seen
returns-in-Less-clause-seen c =
    let l = c.args.left.now in
    seen-more (found_left l.all) (found_left l.group) (found_left l.rest) l.first l.passed
    (place_key (record { file = l.file.now; line = l.line })) c.requires.kept
    (spot_row c.args.row.now) (found_left c.args.rest)
    c.requires.next

pub returns-in_default-clause-kept : goal.returns-in_default-clause-kept
returns-in_default-clause-kept c =
    let l = c.args.left.now in
    group-goes-on (found_left l.all) (found_left l.group) (found_left l.rest) l.first l.passed
    (place_key (record { file = l.file.now; line = l.line })) c.requires.kept
    (spot_row c.args.row.now) (found_left c.args.rest)
    c.requires.next (λ less. c.in_default.not-Less (c.requires.order ∙ less))

pub returns-in_default-clause-seen : goal.returns-in_default-clause-seen
returns-in_default-clause-seen c =
    let l = c.args.left.now in
    seen-more (found_left l.all) (found_left l.group) (found_left l.rest) l.first l.passed
    (place_key (record { file = l.file.now; line = l.line })) c.requires.kept
    (spot_row c.args.row.now) (found_left c.args.rest)
    c.requires.next
