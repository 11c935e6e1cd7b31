-- Devices that fail are told of, from call to call.
use Rattle.std.proofs.Common.{◌≡◌, false, Option, Some, None, ◌∙◌}
use Rattle.cb_session.specs.declared.input.Ended.{Ended}
use Rattle.cb_session.specs.declared.input.Ended.TheVariants.{Done, Cut, Fault, Operand}
use Rattle.cb_session.specs.declared.input.Fault.{Fault as Reason}
use Rattle.cb_session.specs.declared.input.Fault.TheVariants.{Read, Write, Memory, LongLine}
use Rattle.cb_session.specs.declared.input.Fault.TheVariants.{ManyLines}
use Rattle.cb_tags.specs.Writers.{Writer}
use Rattle.cb_tags.specs.Readers.{Reader, HoldsOut}
use Rattle.cb_session.specs.Serving.{Tells, fault_of}
use Rattle.cb_session.specs.steps.Rounds.{is_unread}

-- no device failed, and so any fault is told
pub Tells-none : (feed feed' : Reader) (out out' : Writer) (fault : Option Reason)
    → Tells feed feed' out out' None → Tells feed feed' out out' fault
Tells-none feed feed' out out' None p = p
Tells-none feed feed' out out' (Some Read) p = p.1
Tells-none feed feed' out out' (Some Write) p = p.0
Tells-none feed feed' out out' (Some Memory) p = p
Tells-none feed feed' out out' (Some LongLine) p = p
Tells-none feed feed' out out' (Some ManyLines) p = p

-- no device failed, and then a call that tells of its fault
pub Tells-after : (feed mid feed' : Reader) (out between out' : Writer) (fault : Option Reason)
    → Tells feed mid out between None
    → Tells mid feed' between out' fault → Tells feed feed' out out' fault
Tells-after feed mid feed' out between out' None p q = (λ h. p.0 (q.0 h), q.1 ∙ p.1)
Tells-after feed mid feed' out between out' (Some Read) p q = q ∙ p.1
Tells-after feed mid feed' out between out' (Some Write) p q = λ h. p.0 (q h)
Tells-after feed mid feed' out between out' (Some Memory) p q = (λ h. p.0 (q.0 h), q.1 ∙ p.1)
Tells-after feed mid feed' out between out' (Some LongLine) p q = (λ h. p.0 (q.0 h), q.1 ∙ p.1)
Tells-after feed mid feed' out between out' (Some ManyLines) p q = (λ h. p.0 (q.0 h), q.1 ∙ p.1)

-- a run that no read fault ended has not failed the reader
pub Tells-held : (feed feed' : Reader) (out out' : Writer) (ended : Ended) → is_unread ended ≡ false
    → Tells feed feed' out out' (fault_of ended)
    → HoldsOut feed feed'
Tells-held feed feed' out out' (Fault Read) n p = cc
Tells-held feed feed' out out' (Fault Write) n p = p
Tells-held feed feed' out out' (Fault Memory) n p = p.0
Tells-held feed feed' out out' (Fault LongLine) n p = p.0
Tells-held feed feed' out out' (Fault ManyLines) n p = p.0
Tells-held feed feed' out out' Done n p = p.0
Tells-held feed feed' out out' Cut n p = p.0
Tells-held feed feed' out out' (Operand place why) n p = p.0
