-- The present world in an archive that holds nothing for other worlds.
use Rattle.std.specs.Prelude.{◌≡◌}
use Rattle.cb_desk.specs.steps.Records.{Kept, world_in}
use Rattle.cb_desk.specs.steps.Walks.{IsKept, ShowsItsVersions, UsesAll}

-- the same world is within reach, in other numbers: it uses all of the archive, and shows each
-- version of it
pub record IsCompacted (old new : Kept) : Type 0 where
  pub world : world_in new.archive new.now ≡ world_in old.archive old.now
  pub turns : new.turns ≡ old.turns
  pub kept : IsKept new.rooms new.archive new.now
  pub shows : ShowsItsVersions new.now
  pub all : UsesAll new.archive new.now
