-- Versions that are let go, and the last one in the place of another.
use Rattle.std.specs.Prelude.{ℕ, ◌≡◌, ◌⊎◌, List, [], ◌∷◌, nat_eq, if◌then◌else◌}
use Rattle.cb_index.specs.declared.entry.Shown.{Shown}

-- a file is one of those that are shown
abbrev pub IsAmong : List Shown → Shown → Type 0
IsAmong [] s = ⊥
IsAmong (t ∷ shown) s = (t ≡ s) ⊎ IsAmong shown s

-- what is shown, where the last version has got another number
abbrev pub renumbered : (last version : ℕ) → Shown → Shown
renumbered last version s = if nat_eq s.version last then record s { version = version } else s
