use Rattle.std.proofs.Common.{◌∙◌, sym, ap, not}
use Rattle.cb_desk.specs.World.{place_key}
use Rattle.cb_desk.specs.steps.Lent.{found_left, spot_row}
use Rattle.cb_desk.proofs.LookBackLemmas.{in-all, in-group, is-new-after}
use Rattle.cb_desk.proofs.answers.rows.is_new.Goals as goal

pub returns-in-Less : goal.returns-in-Less
returns-in-Less c =
    let l = c.args.left.now in
    sym (ap not
    (is-new-after (found_left l.all) (found_left l.group) (found_left l.rest) l.first l.passed
    (place_key (record { file = l.file.now; line = l.line })) c.requires.kept
    (spot_row c.args.row.now) (found_left c.args.rest.now)
    c.requires.next (sym c.requires.order ∙ c.in-Less.is)))

pub returns-in-Equal : goal.returns-in-Equal
returns-in-Equal c =
    let l = c.args.left.now in
    ap not (c.has_like.ensures
    ∙ in-group (found_left l.all) (found_left l.group) (found_left l.rest) l.first l.passed
    (place_key (record { file = l.file.now; line = l.line })) c.requires.kept
    (spot_row c.args.row.now) (found_left c.args.rest.now)
    c.requires.next (sym c.requires.order ∙ c.in-Equal.is))

pub returns-in-Greater : goal.returns-in-Greater
returns-in-Greater c =
    let l = c.args.left.now in
    ap not (c.has_like-in-Greater.ensures
    ∙ in-all (found_left l.all) (found_left l.group) (found_left l.rest) l.first l.passed
    (place_key (record { file = l.file.now; line = l.line })) c.requires.kept
    (spot_row c.args.row.now) (found_left c.args.rest.now)
    c.requires.next)
