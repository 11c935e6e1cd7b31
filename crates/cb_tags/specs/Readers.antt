-- What is known of a reader, and what a call does to it.
use Rattle.std.specs.Prelude.{◌≡◌, ◌≢◌, ◌<◌, ◌≤◌, ℕ, Bool, true, false, List, [], ◌∷◌, ◌++◌, length}
use Rattle.std.specs.Prelude.{Option, None, Some, Result, Ok, Err}
use Rattle.std.specs.Io.KnownBytes.{Consumes, Keeps, IsAtEnd}
use Rattle.cb_tags.specs.declared.feed.ReadFault.{ReadFault}
use Rattle.cb_tags.specs.declared.feed.Stage.{Stage}
use Rattle.cb_tags.specs.declared.feed.Stage.TheVariants.{Open, Ended, Failed}

-- a reader: the bytes that it has left, where it tells them, and how far it is
pub record Reader : Type 0 where
  pub bytes : Option (List ℕ)
  pub stage : Stage

-- after the end of input nothing is left, whatever the reader would tell
abbrev pub left_at : Stage → Option (List ℕ) → Option (List ℕ)
left_at Ended known = Some []
left_at Open known = known
left_at Failed known = known

-- a reader has failed only where it had failed before
abbrev pub HoldsOut : Reader → Reader → Type 0
HoldsOut old new = new.stage ≡ Failed → old.stage ≡ Failed

-- the next byte; or the end, for good; or a fault, for good and never after the end
abbrev pub GivesByte : Reader → Reader → Result (Option ℕ) ReadFault → Type 0
GivesByte old new (Ok (Some b)) =
    (old.stage ≡ Open) × (new.stage ≡ Open) × Consumes old.bytes new.bytes (b ∷ [])
GivesByte old new (Ok None) =
    (old.stage ≢ Failed) × (new.stage ≡ Ended) × IsAtEnd old.bytes × (new.bytes ≡ Some [])
GivesByte old new (Err e) = (old.stage ≢ Ended) × (new.stage ≡ Failed) × Keeps old.bytes new.bytes

-- some bytes, put behind those that are kept, up to so many in all; or, with nothing kept, the end
-- or a fault
abbrev pub GivesPiece : Reader → Reader → ℕ → List ℕ → List ℕ → Result Bool ReadFault → Type 0
GivesPiece old new count kept more (Ok true) =
    (old.stage ≡ Open) × (new.stage ≡ Open) × (length kept < length more) × (length more ≤ count)
    × ((read : List ℕ) × (more ≡ kept ++ read) × Consumes old.bytes new.bytes read)
GivesPiece old new count kept more (Ok false) = GivesByte old new (Ok None) × (more ≡ kept)
GivesPiece old new count kept more (Err e) = GivesByte old new (Err e) × (more ≡ kept)

-- bytes were read, the first of those that were left; after the end of input none are read, and the
-- end stays
abbrev pub HasRead : Reader → Reader → List ℕ → Type 0
HasRead old new read =
    Consumes old.bytes new.bytes read × (old.stage ≡ Ended → (read ≡ []) × (new.stage ≡ Ended))

-- what may follow where a reader stands: nothing after the end of input
abbrev pub MayFollow : Reader → List ℕ → Type 0
MayFollow feed rest = feed.stage ≡ Ended → rest ≡ []

-- a reader that is as far, and has these bytes left
abbrev pub leaving : Reader → List ℕ → Reader
leaving feed rest = record { bytes = Some rest; stage = feed.stage }

-- whatever follows the bytes that were read: what holds of every input that begins with them, and
-- of a reader that has the rest of it left
abbrev pub WhateverFollows : Reader → Reader → (List ℕ → Reader → Type 0) → Type 0
WhateverFollows old new P =
    (read : List ℕ) × HasRead old new read
    × ((rest : List ℕ) → MayFollow new rest → P (read ++ rest) (leaving new rest))
