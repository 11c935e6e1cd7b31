-- What a run leaves.
use Rattle.std.specs.Prelude.{◌≡◌, ◌⊎◌, ◌∷◌, ◌++◌, ℕ, Bool, true, false, List, Option, None, Some}
use Rattle.std.specs.Prelude.{IsTrue, Result}
use Rattle.std.specs.Io.KnownBytes.{Appends, Keeps}
use Rattle.cb_tags.specs.declared.feed.Stage.TheVariants.{Failed}
use Rattle.cb_session.specs.declared.input.Ended.{Ended}
use Rattle.cb_session.specs.declared.input.Ended.TheVariants.{Fault, Operand}
use Rattle.cb_session.specs.declared.input.Fault.TheVariants.{Read, Write, Memory, LongLine}
use Rattle.cb_session.specs.declared.input.Fault.{Fault as Reason}
use Rattle.cb_tags.specs.Writers.{Writer}
use Rattle.cb_tags.specs.Readers.{Reader, HasRead, HoldsOut, WhateverFollows}
use Rattle.cb_session.specs.Inputs.{HoldWhole, Inputs, inputs}
use Rattle.cb_session.specs.Output.{outcome, output, prompt}
use Rattle.cb_session.specs.Reading.{has_block}
use Rattle.cb_session.specs.Requests.{Request}
use Rattle.cb_session.specs.States.{LeadTo, Leads, State}
use Rattle.cb_tags.specs.Writing.{AppendsPrefix}
use Rattle.cb_session.specs.Writing.{Puts}

-- an input is done: the session is led on, and the reply is written
abbrev pub Does : {A : Type 0} → Bool → State → Request → State → Writer → Writer
    → Result A Reason → Type 0
Does out_of_memory s e next old new result =
    Leads out_of_memory s e next × Puts old new result (outcome out_of_memory s.timeline e).reply

-- after a fault of a device or of memory a prefix of the text is written (of memory, the one that
-- `StopsForMemory` says); else the whole text is,
-- the ending is the one meant, and the bytes that are left are still to be read; of a line that is
-- too long for the run they are not known
abbrev pub Leaves : List ℕ → Option Ended → List ℕ → Reader → Writer → Writer → Ended → Type 0
Leaves text meant rest feed old new (Fault Read) = AppendsPrefix old.bytes new.bytes text
Leaves text meant rest feed old new (Fault Write) = AppendsPrefix old.bytes new.bytes text
Leaves text meant rest feed old new (Fault Memory) = AppendsPrefix old.bytes new.bytes text
Leaves text meant rest feed old new (Fault LongLine) =
    (meant ≡ Some (Fault LongLine)) × Appends old.bytes new.bytes text
Leaves text meant rest feed old new ended =
    (meant ≡ Some ended) × (feed.bytes ≡ Some rest) × Appends old.bytes new.bytes text

-- the first of these inputs lead to a state
abbrev pub FirstLeadTo : List Bool → State → List Request → State → Type 0
FirstLeadTo refusals s es next =
    (done later : List Request) × (es ≡ done ++ later) × LeadTo refusals s done next

-- where a run that ends so leaves the session: behind all inputs; after a fault of a device or of
-- memory behind the first ones
abbrev pub IsLeft : List Bool → State → List Request → Ended → State → Type 0
IsLeft refusals s es (Fault Read) next = FirstLeadTo refusals s es next
IsLeft refusals s es (Fault Write) next = FirstLeadTo refusals s es next
IsLeft refusals s es (Fault Memory) next = FirstLeadTo refusals s es next
IsLeft refusals s es ended next = LeadTo refusals s es next

-- memory was refused for the block of an input: those before it are answered, and behind their
-- replies there is its prompt alone
abbrev pub StopsAtBlock : List Bool → (s next : State) → List Request → Writer → Writer → Type 0
StopsAtBlock refusals s next es old new =
    (done later : List Request) × (e : Request) × (es ≡ done ++ e ∷ later) × IsTrue (has_block e)
    × LeadTo refusals s done next
    × Appends old.bytes new.bytes (output refusals s.timeline done ++ prompt)

-- a run that memory ends has stopped at a block, or before its first prompt
abbrev pub StopsForMemory : List Bool → (s next : State) → List Request → Writer → Writer → Ended
    → Type 0
StopsForMemory refusals s next es old new (Fault Memory) =
    ((next ≡ s) × Keeps old.bytes new.bytes) ⊎ StopsAtBlock refusals s next es old new
StopsForMemory refusals s next es old new ended = Unit {0}

-- a run over these inputs, for some list that says which of them memory refused: its output, its
-- ending, no byte read behind its last request, where it leaves the session, and where it stops if
-- memory ends it
abbrev pub LeavesSession : Inputs → (s next : State) → Reader → Writer → Writer → Ended → Type 0
LeavesSession i s next feed old new ended =
    (refusals : List Bool)
    × Leaves (output refusals s.timeline i.requests) (Some i.ending) i.rest feed old new ended
    × IsLeft refusals s i.requests ended next
    × StopsForMemory refusals s next i.requests old new ended

-- the same, wherever it leaves the session
abbrev pub LeavesRun : Inputs → State → Reader → Writer → Writer → Ended → Type 0
LeavesRun i s feed old new ended = (next : State) × LeavesSession i s next feed old new ended

-- a run that a read fault ends: what was read holds the inputs whole that are answered, and no
-- more; they are the first ones, whatever follows; and after their replies one prompt is written
-- and handed on
pub record IsCutShort (lines limit : ℕ) (s next : State) (feed feed' : Reader)
    (out out' : Writer) : Type 0 where
  pub refusals : List Bool
  pub done : List Request
  pub read : List ℕ
  pub reads : HasRead feed feed' read
  pub whole : HoldWhole limit done read
  pub are_first : (rest : List ℕ)
      → (later : List Request) × ((inputs lines limit (read ++ rest)).requests ≡ done ++ later)
  pub led : LeadTo refusals s done next
  pub wrote : Appends out.bytes out'.bytes (output refusals s.timeline done ++ prompt)
  pub handed_on : out'.pending ≡ false

-- a run that ends has handed on all that was written, unless the writer failed; one that stops at
-- an operand has not begun
abbrev pub HandsOn : Writer → Ended → Type 0
HandsOn out (Fault Write) = Unit {0}
HandsOn out (Operand place why) = Unit {0}
HandsOn out ended = out.pending ≡ false

-- a fault of a device is answered only where that device has failed
abbrev pub HasFailed : Reader → Writer → Reason → Type 0
HasFailed feed out Read = feed.stage ≡ Failed
HasFailed feed out Write = out.failed ≡ true
HasFailed feed out _ = Unit {0}

-- the fault that ends a run
abbrev pub fault_of : Ended → Option Reason
fault_of (Fault fault) = Some fault
fault_of _ = None

-- a device that fails is told: the reader by a fault of reading, the writer by one of writing; each
-- is else as it was
abbrev pub Tells : Reader → Reader → Writer → Writer → Option Reason → Type 0
Tells feed feed' out out' (Some Read) = out'.failed ≡ out.failed
Tells feed feed' out out' (Some Write) = HoldsOut feed feed'
Tells feed feed' out out' _ = HoldsOut feed feed' × (out'.failed ≡ out.failed)

-- what holds of a fault that ends a run
abbrev pub IfFault : Ended → (Reason → Type 0) → Type 0
IfFault (Fault fault) P = P fault
IfFault _ P = Unit {0}

-- the inputs of a run that leads from one state to the next, within so many lines and so many bytes
-- of each: it is a run over the bytes of the reader, where these are known, and over whatever
-- follows those that it has read; a read fault cuts it short between two inputs; a fault of a
-- device is answered only where that has failed, and a device that fails is told
pub record ServesInputs (lines limit : ℕ) (s next : State) (feed feed' : Reader)
    (out out' : Writer) (ended : Ended) : Type 0 where
  pub output : (bytes : List ℕ) → feed.bytes ≡ Some bytes
      → LeavesSession (inputs lines limit bytes) s next feed' out out' ended
  pub every_input : WhateverFollows feed feed'
      (λ bytes left. LeavesSession (inputs lines limit bytes) s next left out out' ended)
  pub cut_short : ended ≡ Fault Read → IsCutShort lines limit s next feed feed' out out'
  pub failed : IfFault ended (HasFailed feed' out')
  pub told : Tells feed feed' out out' (fault_of ended)

-- such a run, and its last flush
abbrev pub Serves : (lines limit : ℕ) (s next : State) (feed feed' : Reader)
    (out out' : Writer) → Ended → Type 0
Serves lines limit s next feed feed' out out' ended =
    ServesInputs lines limit s next feed feed' out out' ended × HandsOn out' ended
