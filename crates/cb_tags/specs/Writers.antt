-- What is known of a writer, and what a call does to it.
use Rattle.std.specs.Prelude.{◌≡◌, ℕ, ◌≤◌, Bool, true, false, List, length, take, Option, Result}
use Rattle.std.specs.Prelude.{Ok, Err}
use Rattle.std.specs.Io.KnownBytes.{Appends, Keeps}
use Rattle.cb_tags.specs.declared.sink.WriteFault.{WriteFault}

-- a writer: the bytes that it has taken, where it tells them, whether it has failed, and whether it
-- has taken bytes since they were last handed on
pub record Writer : Type 0 where
  pub bytes : Option (List ℕ)
  pub failed : Bool
  pub pending : Bool

-- the first `n` bytes were taken, at least one; or the writer failed, and took none
abbrev pub TakesBytes : Writer → Writer → Result ℕ WriteFault → List ℕ → Type 0
TakesBytes old new (Ok n) text =
    (old.failed ≡ false) × (new.failed ≡ false) × (1 ≤ n) × (n ≤ length text)
    × Appends old.bytes new.bytes (take n text) × (new.pending ≡ true)
TakesBytes old new (Err e) text =
    (new.failed ≡ true) × Keeps old.bytes new.bytes × (new.pending ≡ old.pending)

-- a flush takes no bytes and leaves none pending, or fails
abbrev pub Flushes : Writer → Writer → Result (Unit {0}) WriteFault → Type 0
Flushes old new (Ok _) =
    (old.failed ≡ false) × (new.failed ≡ false) × Keeps old.bytes new.bytes × (new.pending ≡ false)
Flushes old new (Err e) =
    (new.failed ≡ true) × Keeps old.bytes new.bytes × (new.pending ≡ old.pending)
