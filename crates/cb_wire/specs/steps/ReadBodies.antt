-- What reading a body does to a reader.
use Rattle.std.specs.Prelude.{◌≡◌, ◌<◌, ◌≤◌, List, ℕ, Bool, true, false, length, take, drop, Some}
use Rattle.std.specs.Prelude.{Result, Ok, Err}
use Rattle.cb_tags.specs.declared.feed.ReadFault.{ReadFault}
use Rattle.cb_tags.specs.declared.feed.Stage.TheVariants.{Failed}
use Rattle.cb_tags.specs.Readers.{Reader}

-- so many bytes were passed over; or the input ended before; or the reader failed
abbrev pub Skips : ℕ → List ℕ → Reader → Result Bool ReadFault → Type 0
Skips count bytes left (Ok true) = (count ≤ length bytes) × (left.bytes ≡ Some (drop count bytes))
Skips count bytes left (Ok false) = length bytes < count
Skips count bytes left (Err e) = left.stage ≡ Failed

-- so many bytes were read and kept
abbrev pub ReadsBody : ℕ → List ℕ → Reader → List ℕ → Result Bool ReadFault → Type 0
ReadsBody count bytes left kept (Ok true) =
    (kept ≡ take count bytes) × Skips count bytes left (Ok true)
ReadsBody count bytes left kept (Ok false) = Skips count bytes left (Ok false)
ReadsBody count bytes left kept (Err e) = Skips count bytes left (Err e)
