-- Texts in memory that may be there.
use Rattle.std.specs.Prelude.{ℕ, List, Option, None, Some}
use Rattle.std.specs.Global.{Global}
use Rattle.std.specs.declared.vec.Vec.{Vec}

-- the bytes of a text, if there is one
abbrev pub bytes_if : Option (Vec ℕ Global) → Option (List ℕ)
bytes_if None = None
bytes_if (Some text) = Some text.items

-- the same where there may be another one
abbrev pub bytes_if_other : Option (Option (Vec ℕ Global)) → Option (Option (List ℕ))
bytes_if_other None = None
bytes_if_other (Some text) = Some (bytes_if text)
