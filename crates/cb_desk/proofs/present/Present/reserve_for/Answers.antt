use Rattle.std.proofs.Common.{rules, ◌≤◌, ◌+◌, length}
use Rattle.cb_desk.specs.steps.Edits.{more}
use Rattle.cb_desk.specs.steps.Room.{IsRoomFor}
use Rattle.cb_desk.proofs.RoomLemmas.{has_room, on_ok_along}
use Rattle.cb_desk.proofs.present.Present.reserve_for.Goals as goal

pub returns-clause-fits : goal.returns-clause-fits
returns-clause-fits c =
    let k = c.args.self.now in
    let p = c.args.plan.now in
    let is : IsRoomFor k p c.in_ok-room.room = search rules in
    let marks : length k.now.marks + more p.turn.marks ≤ c.reserve_more.new.self.room =
    search rules in
    on_ok_along _ _ c.reserve_more-2.result
    (λ frames. has_room k p c.in_ok-room.room _ is (search rules) (search rules) (search rules)
    (search rules) marks frames)
    (search rules)
