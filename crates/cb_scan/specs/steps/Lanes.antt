-- The bits of a mask, one for each byte of those that are looked at together.
use Rattle.std.specs.Prelude.{ℕ, Bool, ◌==◌, ◌||◌, ◌&&◌, not, nat_lt, if◌then◌else◌}
use Rattle.std.specs.Int.{w64, trailing_zeros}
use Rattle.cb_scan.specs.declared.lex.lanes.TheConstants.{LANES}
use Rattle.cb_scan.specs.Bytes.{backslash, line_feed, space, tab}

-- the place of the lowest bit that is set, or the number of lanes
abbrev pub first_set : ℕ → ℕ
first_set mask = if mask == 0 then LANES else trailing_zeros w64 mask

-- a space or a tab: most blanks are made of these
abbrev pub is_space : ℕ → Bool
is_space b = b == space || b == tab

-- no blank goes on with this byte, and no join begins with it
abbrev pub ends_blank : ℕ → Bool
ends_blank b = (nat_lt space b && not (b == backslash)) || b == line_feed
