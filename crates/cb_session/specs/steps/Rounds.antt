-- What a round of a run leaves, and the replies to moves.
use Rattle.std.specs.Prelude.{◌≡◌, ◌⊎◌, Bool, List, ℕ, Option, None, Some, Result, Ok, Err, true}
use Rattle.std.specs.Prelude.{IsTrue, false}
use Rattle.std.specs.Io.KnownBytes.{Appends}
use Rattle.cb_desk.specs.declared.change.Refusal.{Refusal}
use Rattle.cb_session.specs.declared.input.Ended.{Ended}
use Rattle.cb_session.specs.declared.input.Ended.TheVariants.{Fault}
use Rattle.cb_session.specs.declared.input.Fault.{Fault as Reason}
use Rattle.cb_session.specs.declared.input.Fault.TheVariants.{Read, Write, Memory}
use Rattle.cb_session.specs.Requests.{Request}
use Rattle.cb_tags.specs.declared.feed.Stage.TheVariants.{Failed}
use Rattle.cb_tags.specs.Readers.{Reader, WhateverFollows}
use Rattle.cb_session.specs.Inputs.{First, ending_of, first}
use Rattle.cb_session.specs.Reading.{IsUnread, has_block}
use Rattle.cb_session.specs.Serving.{Leaves}
use Rattle.cb_session.specs.Output.{refused_line, exchange, prompt}
use Rattle.cb_session.specs.States.{Leads, State}
use Rattle.cb_tags.specs.Writers.{Writer}

-- the reply to a move of the timeline, by that of one that is done
abbrev pub move_line : List ℕ → Result (Unit {0}) Refusal → List ℕ
move_line done (Ok _) = done
move_line done (Err r) = refused_line r

-- the fault that a call answers
abbrev pub fault_in : {A : Type 0} → Result A Reason → Option Reason
fault_in (Ok _) = None
fault_in (Err fault) = Some fault

-- a read fault ended the run
abbrev pub is_unread : Ended → Bool
is_unread (Fault Read) = true
is_unread ended = false

-- the session after a round that ends the run: an input that was answered has led it on; after a
-- fault of reading it is as it was; after one of writing or of memory it may be
abbrev pub IsMoved : Bool → State → Request → Ended → State → Type 0
IsMoved out_of_memory s e (Fault Read) next = next ≡ s
IsMoved out_of_memory s e (Fault Write) next = (next ≡ s) ⊎ Leads out_of_memory s e next
IsMoved out_of_memory s e (Fault Memory) next = (next ≡ s) ⊎ Leads out_of_memory s e next
IsMoved out_of_memory s e ended next = Leads out_of_memory s e next

-- a round that memory ends has prompted for a request with a block, and done nothing else
abbrev pub IsBlocked : Request → (s next : State) → Writer → Writer → Ended → Type 0
IsBlocked e s next old new (Fault Memory) =
    IsTrue (has_block e) × (next ≡ s) × Appends old.bytes new.bytes prompt
IsBlocked e s next old new ended = Unit {0}

-- a round that ends the run
abbrev pub EndsRound : Bool → First → (s next : State) → Reader → Writer → Writer → Ended → Type 0
EndsRound out_of_memory f s next feed old new ended =
    Leaves (exchange out_of_memory s.timeline f.request) (ending_of f.request) f.rest
    feed old new ended
    × IsMoved out_of_memory s f.request ended next
    × IsBlocked f.request s next old new ended

-- one round: the exchange of a prompt and the reply to the first input, and the ending of the run
-- if it has one
abbrev pub LeavesRound : Bool → First → State → State → Reader → Writer → Writer
    → Result (Option Ended) Reason → Type 0
LeavesRound out_of_memory f s next feed old new (Ok None) =
    (ending_of f.request ≡ None) × (feed.bytes ≡ Some f.rest)
    × Leads out_of_memory s f.request next
    × Appends old.bytes new.bytes (exchange out_of_memory s.timeline f.request)
LeavesRound out_of_memory f s next feed old new (Ok (Some ended)) =
    EndsRound out_of_memory f s next feed old new ended
LeavesRound out_of_memory f s next feed old new (Err fault) =
    EndsRound out_of_memory f s next feed old new (Fault fault)

-- a round by what it read: one whole request is answered; or no read fault ends the run; or the
-- reader failed before a request was whole, and only a prompt was written, and handed on
abbrev pub ReadsRound : ℕ → State → State → Reader → Reader → Writer → Writer
    → Result (Option Ended) Reason → Type 0
ReadsRound limit s next feed feed' old new (Ok None) =
    (out_of_memory : Bool) × (e : Request)
    × WhateverFollows feed feed' (λ bytes left. (e ≡ (first limit bytes).request)
    × (left.bytes ≡ Some (first limit bytes).rest))
    × (ending_of e ≡ None) × Leads out_of_memory s e next
    × Appends old.bytes new.bytes (exchange out_of_memory s.timeline e)
ReadsRound limit s next feed feed' old new (Ok (Some ended)) = is_unread ended ≡ false
ReadsRound limit s next feed feed' old new (Err Read) =
    IsUnread limit feed feed' × (feed'.stage ≡ Failed) × (next ≡ s)
    × Appends old.bytes new.bytes prompt × (new.pending ≡ false)
ReadsRound limit s next feed feed' old new (Err fault) = Unit {0}
