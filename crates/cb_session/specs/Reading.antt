-- What reading an input does to a reader.
use Rattle.std.specs.Prelude.{◌≡◌, List, ℕ, Bool, true, false, Some, Result, Ok, Err, IsTrue}
use Rattle.cb_desk.specs.Step.{load, reload}
use Rattle.cb_tags.specs.declared.feed.Stage.TheVariants.{Failed}
use Rattle.cb_session.specs.declared.input.Fault.{Fault}
use Rattle.cb_session.specs.declared.input.Fault.TheVariants.{Read, Write, Memory, LongLine}
use Rattle.cb_session.specs.declared.input.Fault.TheVariants.{ManyLines}
use Rattle.cb_session.specs.declared.input.Input.{Input}
use Rattle.cb_tags.specs.Readers.{Reader, HasRead, HoldsOut}
use Rattle.cb_session.specs.Inputs.{First, HoldNone, is_cut}
use Rattle.cb_session.specs.Models.{request_of}
use Rattle.cb_session.specs.Requests.{Request, change, refused, overlong}

-- a request that has a block after its line
abbrev pub has_block : Request → Bool
has_block (change (load name bytes)) = true
has_block (change (reload name bytes)) = true
has_block (refused r) = is_cut r
has_block _ = false

-- the first request was read, and the bytes after it are left; or its line is too long for the run;
-- or memory for its block was refused; or the reader failed
abbrev pub Reads : First → Reader → Result Input Fault → Type 0
Reads f new (Ok input) = (request_of input ≡ f.request) × (new.bytes ≡ Some f.rest)
Reads f new (Err LongLine) = f.request ≡ overlong
Reads f new (Err Memory) = IsTrue (has_block f.request)
Reads f new (Err Read) = new.stage ≡ Failed
Reads f new (Err Write) = ⊥
Reads f new (Err ManyLines) = ⊥

-- the reader failed before an input was whole
abbrev pub IsUnread : ℕ → Reader → Reader → Type 0
IsUnread limit old new = (read : List ℕ) × HasRead old new read × HoldNone limit read

-- reading has three faults: the reader has failed, memory for a block was refused, or a line is too
-- long; only by the first has the reader failed
abbrev pub IsReadFault : Reader → Reader → Fault → Type 0
IsReadFault old new Read = new.stage ≡ Failed
IsReadFault old new Memory = HoldsOut old new
IsReadFault old new LongLine = HoldsOut old new
IsReadFault old new Write = ⊥
IsReadFault old new ManyLines = ⊥
