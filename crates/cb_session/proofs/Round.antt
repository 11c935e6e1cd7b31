-- One round of a run.
use Rattle.std.proofs.Common.{◌≡◌, ℕ, Bool, true, false, if◌then◌else◌, List, Option, Some, None}
use Rattle.std.proofs.Common.{Result, Ok, Err, refl, sym, ap, ◌∙◌, subst, inl, inr}
use Rattle.std.specs.Prelude.{IsErrAnd}
use Rattle.std.specs.Io.KnownBytes.{Appends}
use Rattle.std.proofs.KnownBytes.{Appends-trans}
use Rattle.cb_session.specs.declared.input.Ended.{Ended}
use Rattle.cb_session.specs.declared.input.Ended.TheVariants.{Done, Cut, Fault, Operand}
use Rattle.cb_session.specs.declared.input.Fault.{Fault as Reason}
use Rattle.cb_session.specs.declared.input.Fault.TheVariants.{Read, Write, Memory, LongLine}
use Rattle.cb_session.specs.declared.input.Fault.TheVariants.{ManyLines}
use Rattle.cb_tags.specs.Writers.{Writer}
use Rattle.cb_tags.specs.Readers.{Reader, WhateverFollows}
use Rattle.cb_session.specs.Inputs.{First, first, ending_of, is_cut}
use Rattle.cb_session.specs.Reading.{IsReadFault, IsUnread, Reads}
use Rattle.cb_session.specs.Requests.{Request, query, change, undo, redo, rebuild, tags_file}
use Rattle.cb_session.specs.Requests.{listing, marks, stack, refused, nothing, quit, overlong}
use Rattle.cb_session.specs.Serving.{Does, Leaves}
use Rattle.cb_session.specs.steps.Rounds.{EndsRound, IsBlocked, IsMoved, LeavesRound, ReadsRound}
use Rattle.cb_session.specs.steps.Rounds.{is_unread}
use Rattle.cb_session.specs.Output.{prompt, outcome, exchange}
use Rattle.cb_session.specs.States.{Leads, State}
use Rattle.cb_tags.specs.Writing.{AppendsPrefix}
use Rattle.cb_session.proofs.Blocks.{IsRead}
use Rattle.cb_tags.proofs.Follows.{Follows-nothing, Follows-so}
use Rattle.cb_tags.proofs.Prefixes.{AppendsPrefix-more, AppendsPrefix-after, AppendsPrefix-whole}

-- a whole text with the ending that is meant
Leaves-whole : (text : List ℕ) (meant : Option Ended) (rest : List ℕ) (feed : Reader)
    (old new : Writer) (ended : Ended) → meant ≡ Some ended → feed.bytes ≡ Some rest
    → Appends old.bytes new.bytes text
    → Leaves text meant rest feed old new ended
Leaves-whole text meant rest feed old new (Fault Read) e left p =
    AppendsPrefix-whole old.bytes new.bytes text p
Leaves-whole text meant rest feed old new (Fault Write) e left p =
    AppendsPrefix-whole old.bytes new.bytes text p
Leaves-whole text meant rest feed old new (Fault Memory) e left p =
    AppendsPrefix-whole old.bytes new.bytes text p
Leaves-whole text meant rest feed old new (Fault LongLine) e left p = (e, p)
Leaves-whole text meant rest feed old new (Fault ManyLines) e left p = (e, left, p)
Leaves-whole text meant rest feed old new Done e left p = (e, left, p)
Leaves-whole text meant rest feed old new Cut e left p = (e, left, p)
Leaves-whole text meant rest feed old new (Operand place why) e left p = (e, left, p)

-- a fault that is passed on
passed_on : (out_of_memory : Bool) (f : First) (s next : State) (feed : Reader) (old new : Writer)
    (r : Result (Option Ended) Reason) (fault : Reason)
    → IsErrAnd r (λ e. e ≡ fault) → EndsRound out_of_memory f s next feed old new (Fault fault)
    → LeavesRound out_of_memory f s next feed old new r
passed_on out_of_memory f s next feed old new (Ok x) fault e p = absurd e
passed_on out_of_memory f s next feed old new (Err x) fault e p =
    subst (λ k. EndsRound out_of_memory f s next feed old new (Fault k)) (sym e) p

-- the prompt could not be written
pub Round-unprompted : (f : First) (s : State) (feed : Reader) (old new : Writer)
    (r : Result (Option Ended) Reason) (fault : Reason)
    → IsErrAnd r (λ e. e ≡ fault) → fault ≡ Write → AppendsPrefix old.bytes new.bytes prompt
    → (out_of_memory : Bool) × LeavesRound out_of_memory f s s feed old new r
Round-unprompted f s feed old new r fault e w p = (
  false,
  passed_on false f s s feed old new r Write (subst (λ k. IsErrAnd r (λ x. x ≡ k)) w e) (
    AppendsPrefix-more old.bytes new.bytes prompt (outcome false s.timeline f.request).reply p,
    inl refl,
    tt,
  ),
)

-- a line that is too long for the run has a prompt and no reply
overlong_exchange : (s : State) (e : Request) → e ≡ overlong → exchange false s.timeline e ≡ prompt
unfolding outcome
overlong_exchange s e h = ap (exchange false s.timeline) h

-- and leaves the session alone
overlong_leads : (s : State) (e : Request) → e ≡ overlong → Leads false s e s
unfolding outcome
overlong_leads s e h =
    subst (λ x. Leads false s x s) (sym h) (record { moves = refl; scans = refl; shows = refl })

-- no input could be read
unread : (f : First) (s : State) (feed : Reader) (old new : Writer) (fault : Reason)
    → Reads f feed (Err fault) → Appends old.bytes new.bytes prompt
    → Leaves (exchange false s.timeline f.request) (ending_of f.request) f.rest feed old new
    (Fault fault)
unread f s feed old new Read h p =
    AppendsPrefix-more old.bytes new.bytes prompt (outcome false s.timeline f.request).reply
    (AppendsPrefix-whole old.bytes new.bytes prompt p)
unread f s feed old new Write h p = absurd h
unread f s feed old new Memory h p =
    AppendsPrefix-more old.bytes new.bytes prompt (outcome false s.timeline f.request).reply
    (AppendsPrefix-whole old.bytes new.bytes prompt p)
unread f s feed old new LongLine h p = (
  ap ending_of h,
  subst (λ l. Appends old.bytes new.bytes l) (sym (overlong_exchange s f.request h)) p,
)
unread f s feed old new ManyLines h p = absurd h

unmoved : (f : First) (s : State) (feed : Reader) (fault : Reason) → Reads f feed (Err fault)
    → IsMoved false s f.request (Fault fault) s
unmoved f s feed Read h = refl
unmoved f s feed Write h = absurd h
unmoved f s feed Memory h = inl refl
unmoved f s feed LongLine h = overlong_leads s f.request h
unmoved f s feed ManyLines h = absurd h

blocked : (f : First) (s : State) (feed : Reader) (old new : Writer) (fault : Reason)
    → Reads f feed (Err fault) → Appends old.bytes new.bytes prompt
    → IsBlocked f.request s s old new (Fault fault)
blocked f s feed old new Read h p = tt
blocked f s feed old new Write h p = absurd h
blocked f s feed old new Memory h p = (h, refl, p)
blocked f s feed old new LongLine h p = tt
blocked f s feed old new ManyLines h p = absurd h

pub Round-unread : (f : First) (s : State) (feed : Reader) (old new : Writer)
    (r : Result (Option Ended) Reason) (fault : Reason)
    → IsErrAnd r (λ e. e ≡ fault) → Reads f feed (Err fault) → Appends old.bytes new.bytes prompt
    → (out_of_memory : Bool) × LeavesRound out_of_memory f s s feed old new r
Round-unread f s feed old new r fault e h p = (
  false,
  passed_on false f s s feed old new r fault e (
    unread f s feed old new fault h p,
    unmoved f s feed fault h,
    blocked f s feed old new fault h p,
  ),
)

-- the reply could not be written
pub Round-unanswered : (A : Type 0) (f : First) (s next : State) (feed : Reader)
    (old mid new : Writer) (r : Result (Option Ended) Reason) (fault : Reason) (request : Request)
    → IsErrAnd r (λ e. e ≡ fault) → request ≡ f.request → Appends old.bytes mid.bytes prompt
    → (out_of_memory : Bool) × Does {A = A} out_of_memory s request next mid new (Err fault)
    → (out_of_memory : Bool) × LeavesRound out_of_memory f s next feed old new r
Round-unanswered A f s next feed old mid new r fault request e same p d =
    let text : AppendsPrefix old.bytes new.bytes (exchange d.0 s.timeline request) =
    AppendsPrefix-after old.bytes mid.bytes new.bytes prompt
    (outcome d.0 s.timeline request).reply p d.1.1.0.2 in (
      d.0,
      passed_on d.0 f s next feed old new r Write (subst (λ k. IsErrAnd r (λ x. x ≡ k)) d.1.1.1 e) (
        subst (λ x. AppendsPrefix old.bytes new.bytes (exchange d.0 s.timeline x)) same text,
        inr (subst (λ x. Leads d.0 s x next) same d.1.0),
        tt,
      ),
    )

-- no request ends a run by a read fault
cut_or_not : (fault : Reason) (b : Bool) → (if b then Some Cut else None) ≡ Some (Fault fault) → ⊥
cut_or_not fault true e = cc
cut_or_not fault false e = cc

ends_unread : (e : Request) → ending_of e ≡ Some (Fault Read) → ⊥
ends_unread (query field pattern) h = cc
ends_unread (change s) h = cc
ends_unread undo h = cc
ends_unread redo h = cc
ends_unread rebuild h = cc
ends_unread (tags_file format) h = cc
ends_unread listing h = cc
ends_unread marks h = cc
ends_unread stack h = cc
ends_unread (refused r) h = cut_or_not Read (is_cut r) h
ends_unread nothing h = cc
ends_unread quit h = cc
ends_unread overlong h = cc

-- and none by want of memory
ends_in_memory : (e : Request) → ending_of e ≡ Some (Fault Memory) → ⊥
ends_in_memory (query field pattern) h = cc
ends_in_memory (change s) h = cc
ends_in_memory undo h = cc
ends_in_memory redo h = cc
ends_in_memory rebuild h = cc
ends_in_memory (tags_file format) h = cc
ends_in_memory listing h = cc
ends_in_memory marks h = cc
ends_in_memory stack h = cc
ends_in_memory (refused r) h = cut_or_not Memory (is_cut r) h
ends_in_memory nothing h = cc
ends_in_memory quit h = cc
ends_in_memory overlong h = cc

not_blocked : (e : Request) (s next : State) (old new : Writer) (ended : Ended)
    → ending_of e ≡ Some ended → IsBlocked e s next old new ended
not_blocked e s next old new (Fault Read) is = tt
not_blocked e s next old new (Fault Write) is = tt
not_blocked e s next old new (Fault Memory) is = absurd (ends_in_memory e is)
not_blocked e s next old new (Fault LongLine) is = tt
not_blocked e s next old new (Fault ManyLines) is = tt
not_blocked e s next old new Done is = tt
not_blocked e s next old new Cut is = tt
not_blocked e s next old new (Operand place why) is = tt

-- what was answered has led the session on
moved_whole : (out_of_memory : Bool) (s : State) (e : Request) (ended : Ended) (next : State)
    → ending_of e ≡ Some ended → Leads out_of_memory s e next → IsMoved out_of_memory s e ended next
moved_whole out_of_memory s e (Fault Read) next is h = absurd (ends_unread e is)
moved_whole out_of_memory s e (Fault Write) next is h = inr h
moved_whole out_of_memory s e (Fault Memory) next is h = inr h
moved_whole out_of_memory s e (Fault LongLine) next is h = h
moved_whole out_of_memory s e (Fault ManyLines) next is h = h
moved_whole out_of_memory s e Done next is h = h
moved_whole out_of_memory s e Cut next is h = h
moved_whole out_of_memory s e (Operand place why) next is h = h

-- the reply was written
pub Round-answered : (A : Type 0) (f : First) (s next : State) (feed : Reader)
    (old mid new : Writer) (ending : Option Ended) (x : A) (request : Request)
    → request ≡ f.request → feed.bytes ≡ Some f.rest → ending ≡ ending_of request
    → Appends old.bytes mid.bytes prompt
    → (out_of_memory : Bool) × Does {A = A} out_of_memory s request next mid new (Ok x)
    → (out_of_memory : Bool) × LeavesRound out_of_memory f s next feed old new (Ok ending)
Round-answered A f s next feed old mid new None x request same left e p d =
    let text : Appends old.bytes new.bytes (exchange d.0 s.timeline request) =
    Appends-trans old.bytes mid.bytes new.bytes prompt
    (outcome d.0 s.timeline request).reply p d.1.1.0.2 in (
      d.0,
      (
        sym (e ∙ ap ending_of same),
        left,
        subst (λ y. Leads d.0 s y next) same d.1.0,
        subst (λ y. Appends old.bytes new.bytes (exchange d.0 s.timeline y)) same text,
      ),
    )
Round-answered A f s next feed old mid new (Some ended) x request same left e p d =
    let text : Appends old.bytes new.bytes (exchange d.0 s.timeline request) =
    Appends-trans old.bytes mid.bytes new.bytes prompt
    (outcome d.0 s.timeline request).reply p d.1.1.0.2 in (
      d.0,
      (
        Leaves-whole (exchange d.0 s.timeline f.request)
            (ending_of f.request) f.rest feed old new ended (sym (e ∙ ap ending_of same)) left
            (subst (λ y. Appends old.bytes new.bytes (exchange d.0 s.timeline y)) same text),
        moved_whole d.0 s f.request ended next (sym (e ∙ ap ending_of same))
            (subst (λ y. Leads d.0 s y next) same d.1.0),
        not_blocked f.request s next old new ended (sym (e ∙ ap ending_of same)),
      ),
    )

-- one round, whatever follows what was read: what `round` promises
abbrev FollowsRound : ℕ → State → State → Writer → Writer → Result (Option Ended) Reason
    → List ℕ → Reader → Type 0
FollowsRound limit s next old new r bytes left =
    (out_of_memory : Bool) × LeavesRound out_of_memory (first limit bytes) s next left old new r

pub Follows-unprompted : (limit : ℕ) (s : State) (feed : Reader) (old new : Writer)
    (r : Result (Option Ended) Reason) (fault : Reason)
    → IsErrAnd r (λ e. e ≡ fault) → fault ≡ Write → AppendsPrefix old.bytes new.bytes prompt
    → WhateverFollows feed feed (λ bytes left.
    (out_of_memory : Bool) × LeavesRound out_of_memory (first limit bytes) s s left old new r)
Follows-unprompted limit s feed old new r fault e w p =
    Follows-nothing feed (FollowsRound limit s s old new r)
    (λ bytes left known. Round-unprompted (first limit bytes) s left old new r fault e w p)

pub Follows-unread : (limit : ℕ) (s : State) (feed after : Reader) (old new : Writer)
    (r : Result (Option Ended) Reason) (fault : Reason)
    → IsErrAnd r (λ e. e ≡ fault)
    → WhateverFollows feed after (λ bytes left. Reads (first limit bytes) left (Err fault))
    → Appends old.bytes new.bytes prompt
    → WhateverFollows feed after (λ bytes left.
    (out_of_memory : Bool) × LeavesRound out_of_memory (first limit bytes) s s left old new r)
Follows-unread limit s feed after old new r fault e h p =
    Follows-so feed after (λ bytes left. Reads (first limit bytes) left (Err fault))
    (FollowsRound limit s s old new r) h
    (λ bytes left reads. Round-unread (first limit bytes) s left old new r fault e reads p)

pub Follows-unanswered : (A : Type 0) (limit : ℕ) (s next : State) (feed after : Reader)
    (old mid new : Writer) (r : Result (Option Ended) Reason) (fault : Reason) (request : Request)
    → IsErrAnd r (λ e. e ≡ fault)
    → WhateverFollows feed after (λ bytes left. IsRead (first limit bytes) request left)
    → Appends old.bytes mid.bytes prompt
    → (out_of_memory : Bool) × Does {A = A} out_of_memory s request next mid new (Err fault)
    → WhateverFollows feed after (λ bytes left.
    (out_of_memory : Bool) × LeavesRound out_of_memory (first limit bytes) s next left old new r)
Follows-unanswered A limit s next feed after old mid new r fault request e h p d =
    Follows-so feed after (λ bytes left. IsRead (first limit bytes) request left)
    (FollowsRound limit s next old new r) h
    (λ bytes left is.
    Round-unanswered A (first limit bytes) s next left old mid new r fault request e is.0 p d)

pub Follows-answered : (A : Type 0) (limit : ℕ) (s next : State) (feed after : Reader)
    (old mid new : Writer) (ending : Option Ended) (x : A) (request : Request)
    → WhateverFollows feed after (λ bytes left. IsRead (first limit bytes) request left)
    → ending ≡ ending_of request → Appends old.bytes mid.bytes prompt
    → (out_of_memory : Bool) × Does {A = A} out_of_memory s request next mid new (Ok x)
    → WhateverFollows feed after (λ bytes left. (out_of_memory : Bool)
    × LeavesRound out_of_memory (first limit bytes) s next left old new (Ok ending))
Follows-answered A limit s next feed after old mid new ending x request h e p d =
    Follows-so feed after (λ bytes left. IsRead (first limit bytes) request left)
    (FollowsRound limit s next old new (Ok ending)) h
    (λ bytes left is.
    Round-answered A (first limit bytes) s next left old mid new ending x request is.0 is.1 e p d)

-- ---- a round by what it read

-- no prompt was written
pub Reading-unprompted : (limit : ℕ) (s : State) (feed : Reader) (old new : Writer)
    (r : Result (Option Ended) Reason) (fault : Reason)
    → IsErrAnd r (λ e. e ≡ fault) → fault ≡ Write → ReadsRound limit s s feed feed old new r
Reading-unprompted limit s feed old new (Ok x) fault e w = absurd e
Reading-unprompted limit s feed old new (Err x) fault e w =
    subst (λ k. ReadsRound limit s s feed feed old new (Err k)) (sym (e ∙ w)) tt

-- no input could be read
Reading-failed : (limit : ℕ) (s : State) (feed after : Reader) (old new : Writer) (fault : Reason)
    → (fault ≡ Read → IsUnread limit feed after) → IsReadFault feed after fault
    → Appends old.bytes new.bytes prompt → new.pending ≡ false
    → ReadsRound limit s s feed after old new (Err fault)
Reading-failed limit s feed after old new Read none failed p q = (none refl, failed, refl, p, q)
Reading-failed limit s feed after old new Write none failed p q = tt
Reading-failed limit s feed after old new Memory none failed p q = tt
Reading-failed limit s feed after old new LongLine none failed p q = tt
Reading-failed limit s feed after old new ManyLines none failed p q = tt

pub Reading-unread : (limit : ℕ) (s : State) (feed after : Reader) (old new : Writer)
    (r : Result (Option Ended) Reason) (fault : Reason)
    → IsErrAnd r (λ e. e ≡ fault) → (fault ≡ Read → IsUnread limit feed after)
    → IsReadFault feed after fault
    → Appends old.bytes new.bytes prompt → new.pending ≡ false
    → ReadsRound limit s s feed after old new r
Reading-unread limit s feed after old new (Ok x) fault e none failed p q = absurd e
Reading-unread limit s feed after old new (Err x) fault e none failed p q =
    subst (λ k. ReadsRound limit s s feed after old new (Err k)) (sym e)
    (Reading-failed limit s feed after old new fault none failed p q)

-- the reply could not be written
pub Reading-unanswered : (A : Type 0) (limit : ℕ) (s next : State) (feed after : Reader)
    (old mid new : Writer) (r : Result (Option Ended) Reason) (fault : Reason) (request : Request)
    → IsErrAnd r (λ e. e ≡ fault)
    → (out_of_memory : Bool) × Does {A = A} out_of_memory s request next mid new (Err fault)
    → ReadsRound limit s next feed after old new r
Reading-unanswered A limit s next feed after old mid new (Ok x) fault request e d = absurd e
Reading-unanswered A limit s next feed after old mid new (Err x) fault request e d =
    subst (λ k. ReadsRound limit s next feed after old new (Err k)) (sym (e ∙ d.1.1.1)) tt

-- the reply was written
not_unread : (e : Request) (ended : Ended) → Some ended ≡ ending_of e → is_unread ended ≡ false
not_unread e (Fault Read) is = absurd (ends_unread e (sym is))
not_unread e (Fault Write) is = refl
not_unread e (Fault Memory) is = refl
not_unread e (Fault LongLine) is = refl
not_unread e (Fault ManyLines) is = refl
not_unread e Done is = refl
not_unread e Cut is = refl
not_unread e (Operand place why) is = refl

pub Reading-answered : (A : Type 0) (limit : ℕ) (s next : State) (feed after : Reader)
    (old mid new : Writer) (ending : Option Ended) (x : A) (request : Request)
    → WhateverFollows feed after (λ bytes left. IsRead (first limit bytes) request left)
    → ending ≡ ending_of request → Appends old.bytes mid.bytes prompt
    → (out_of_memory : Bool) × Does {A = A} out_of_memory s request next mid new (Ok x)
    → ReadsRound limit s next feed after old new (Ok ending)
Reading-answered A limit s next feed after old mid new None x request h e p d = (
  d.0,
  request,
  h,
  sym e,
  d.1.0,
  Appends-trans old.bytes mid.bytes new.bytes prompt
      (outcome d.0 s.timeline request).reply p d.1.1.0.2,
)
Reading-answered A limit s next feed after old mid new (Some ended) x request h e p d =
    not_unread request ended e
