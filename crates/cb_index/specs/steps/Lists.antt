-- The room of a list in blocks.
use Rattle.std.specs.Prelude.{ℕ, ◌≤◌, ◌*◌}
use Rattle.cb_index.specs.declared.blocks.TheConstants.{HALF}

-- so many elements fit into a second list and into so many blocks
abbrev pub Fit : ℕ → ℕ → ℕ → Type 0
Fit n room count = (n ≤ room) × (n ≤ HALF * count)
