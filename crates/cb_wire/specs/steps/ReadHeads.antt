-- What reading a head does to a reader.
use Rattle.std.specs.Prelude.{◌≡◌, ◌≢◌, List, ℕ, [], Some, Result, Ok, Err}
use Rattle.cb_tags.specs.declared.feed.ReadFault.{ReadFault}
use Rattle.cb_tags.specs.declared.feed.Stage.TheVariants.{Ended, Failed}
use Rattle.cb_tags.specs.Readers.{Reader}
use Rattle.cb_wire.specs.declared.head.HeadRead.{HeadRead}
use Rattle.cb_wire.specs.declared.head.HeadRead.TheVariants.{End, Ended as EndedInside, Bad, Whole}
use Rattle.cb_wire.specs.Heads.{head, whole, bad, ended}

-- a reader that is at the end of input has nothing left
abbrev pub EndsKnown : Reader → Type 0
EndsKnown feed = feed.stage ≡ Ended → feed.bytes ≡ Some []

-- the head of a stream was read and kept; or there is none; or the reader failed
abbrev pub ReadsHead : List ℕ → Reader → List ℕ → Result HeadRead ReadFault → Type 0
ReadsHead bytes left kept (Ok End) = (bytes ≡ []) × (left.bytes ≡ Some [])
ReadsHead bytes left kept (Ok EndedInside) = (bytes ≢ []) × (head bytes ≡ ended)
ReadsHead bytes left kept (Ok Bad) = head bytes ≡ bad
ReadsHead bytes left kept (Ok Whole) =
    (rest : List ℕ) × (head bytes ≡ whole kept rest) × (left.bytes ≡ Some rest)
ReadsHead bytes left kept (Err e) = left.stage ≡ Failed
