-- Places with the line feeds before them.
use Rattle.std.specs.Prelude.{◌≡◌, ◌≤◌, ◌<◌, ◌⊎◌, ℕ, List, length, take}
use Rattle.cb_wire.specs.Positions.{line_feeds}

-- so many line feeds stand before the place
pub record IsLineMark (text : List ℕ) (place feeds : ℕ) : Type 0 where
  pub within : place ≤ length text
  pub counted : feeds ≡ line_feeds (take place text)

-- a line begins behind a place with so many line feeds before it, or the place is the start
abbrev pub IsBefore : (place feeds line : ℕ) → Type 0
IsBefore place feeds line = (place ≡ 0) ⊎ (feeds < line)
