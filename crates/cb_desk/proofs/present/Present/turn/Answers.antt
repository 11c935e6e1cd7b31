use Rattle.std.proofs.Common.{rules, ◌≡◌, ap}
use Rattle.cb_desk.specs.steps.Records.{Turn}
use Rattle.cb_desk.proofs.TurnLemmas.{can_turn}
use Rattle.cb_desk.proofs.present.Present.turn.Goals as goal

pub turn_shown-requires-clause-shows : goal.turn_shown-requires-clause-shows
turn_shown-requires-clause-shows c =
    let hides : c.way.inside.hides.items ≡ c.args.way.now.hides =
    ap (λ (t : Turn). t.hides) c.way.view_is in
    let shows : c.way.inside.shows.items ≡ c.args.way.now.shows =
    ap (λ (t : Turn). t.shows) c.way.view_is in
    rw (hides, shows)
    (can_turn c.self.inside.shelf c.args.way.now c.args.self.now.now c.args.self.now.rooms
    (search rules) (search rules) (search rules)
    (search rules) (search rules) (search rules) (search rules) (search rules))
