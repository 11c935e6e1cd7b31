-- Runs with operands, whatever follows what was read.
use Rattle.std.proofs.Common.{◌≡◌, ℕ, List, Some, Ok, Err, refl}
use Rattle.cb_desk.specs.World.{File, WorldBounds}
use Rattle.cb_session.specs.declared.input.Ended.{Ended}
use Rattle.cb_session.specs.declared.input.Ended.TheVariants.{Done, Cut, Fault, Operand}
use Rattle.cb_tags.specs.Readers.{Reader, WhateverFollows}
use Rattle.cb_session.specs.Inputs.{inputs}
use Rattle.cb_session.specs.Operands.{LoadsAll, Prepares, Runs}
use Rattle.cb_session.specs.Serving.{LeavesSession}
use Rattle.cb_session.specs.States.{State}
use Rattle.cb_tags.proofs.Follows.{Follows-nothing, Follows-so}
use Rattle.cb_session.proofs.Rounds.{session_run}
use Rattle.cb_tags.specs.Writers.{Writer}
use Rattle.cb_scan.specs.declared.profile.Profile.{Profile}

-- the operands were loaded
pub Follows-loaded : (by : Profile) (b : WorldBounds) (files : List File) (lines limit : ℕ)
    (t : State) (feed after : Reader)
    (old new : Writer) (ended : Ended) (next : State) → LoadsAll by b files (Ok t)
    → WhateverFollows feed after
    (λ bytes at. LeavesSession (inputs lines limit bytes) t next at old new ended)
    → WhateverFollows feed after (λ bytes at. Runs by b files lines limit bytes at old new ended)
Follows-loaded by b files lines limit t feed after old new ended next loads s =
    Follows-so feed after
    (λ bytes at. LeavesSession (inputs lines limit bytes) t next at old new ended)
    (λ bytes at. Runs by b files lines limit bytes at old new ended) s
    (λ bytes at run.
    (Ok t, loads, session_run (inputs lines limit bytes) t next at old new ended run))

-- an operand was refused
pub Runs-refused : (by : Profile) (b : WorldBounds) (files : List File) (lines limit : ℕ)
    (bytes : List ℕ) (at : Reader)
    (out : Writer) (ended : Ended) → Prepares by b files (Err ended)
    → at.bytes ≡ Some bytes → Runs by b files lines limit bytes at out out ended
Runs-refused by b files lines limit bytes at out (Operand place why) p known =
    (Err (record { place = place; why = why }), p, (refl, known, refl))
Runs-refused by b files lines limit bytes at out Done p known = absurd p
Runs-refused by b files lines limit bytes at out Cut p known = absurd p
Runs-refused by b files lines limit bytes at out (Fault fault) p known = absurd p

pub Follows-refused : (by : Profile) (b : WorldBounds) (files : List File) (lines limit : ℕ)
    (feed : Reader) (out : Writer)
    (ended : Ended) → Prepares by b files (Err ended)
    → WhateverFollows feed feed (λ bytes at. Runs by b files lines limit bytes at out out ended)
Follows-refused by b files lines limit feed out ended p =
    Follows-nothing feed (λ bytes at. Runs by b files lines limit bytes at out out ended)
    (λ bytes at. Runs-refused by b files lines limit bytes at out ended p)
