use Rattle.std.proofs.Common.{rules}
use Rattle.cb_desk.specs.steps.Texts.{bytes_if_other}
use Rattle.cb_desk.proofs.PlacePlans.{places_planned}
use Rattle.cb_desk.proofs.present.Present.plan_places.Goals as goal

pub returns : goal.returns
returns c =
    places_planned c.args.self.now _ (bytes_if_other c.args.wanted) c.args.marks c.args.frames
    c.requires.kept (search rules) (search rules) (search rules) (search rules)
    (search rules) c.requires.marks c.requires.frames
