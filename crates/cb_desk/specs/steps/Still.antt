-- What stays where something is put in order.
use Rattle.std.specs.Prelude.{◌≡◌}
use Rattle.cb_desk.specs.steps.Records.{Kept, KeepsRooms}
use Rattle.cb_desk.specs.steps.Walks.{Recorded, timeline_in}

-- the world is as before, and the room is as large
pub record IsStill (old new : Kept) : Type 0 where
  pub archive : new.archive ≡ old.archive
  pub now : new.now ≡ old.now
  pub turns : new.turns ≡ old.turns
  pub rooms : KeepsRooms old.rooms new.rooms

-- all worlds are as before
pub record AreStill (old new : Recorded) : Type 0 where
  pub timeline : timeline_in new ≡ timeline_in old
  pub turns : new.kept.turns ≡ old.kept.turns
