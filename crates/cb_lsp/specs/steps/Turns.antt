-- The parts of a turn.
use Rattle.std.specs.Prelude.{◌≡◌, Bool, true, false, Option, None, Some, Result, Ok, Err}
use Rattle.std.specs.Io.KnownBytes.{Keeps}
use Rattle.cb_tags.specs.declared.sink.WriteFault.{WriteFault}
use Rattle.cb_tags.specs.Writers.{Writer}
use Rattle.cb_wire.specs.declared.frame.FrameError.{FrameError}
use Rattle.cb_wire.specs.declared.frame.FrameError.TheVariants.{BadHeader, InputEnded, Read}
use Rattle.cb_lsp.specs.declared.server.Stage.{Stage}
use Rattle.cb_lsp.specs.declared.turn.Ending.{Ending}
use Rattle.cb_lsp.specs.declared.turn.Ending.TheVariants as ending
use Rattle.json.specs.Json.{Json}
use Rattle.cb_lsp.specs.Bodies.{IsValue, TakesBody}
use Rattle.cb_lsp.specs.Documents.{Looked}
use Rattle.cb_lsp.specs.Endings.{ending_at}
use Rattle.cb_lsp.specs.Messages.{Message, Serving}

-- a run goes on behind what was written
abbrev pub going_on : Result (Unit {0}) WriteFault → Result Bool WriteFault
going_on (Ok _) = Ok false
going_on (Err fault) = Err fault

-- the same of a body that was JSON
abbrev pub some_last : Result Bool WriteFault → Result (Option Bool) WriteFault
some_last (Ok last) = Ok (Some last)
some_last (Err fault) = Err fault

-- the message of a body that is JSON
abbrev pub IsJson : Option Json → Message → Type 0
IsJson None m = ⊥
IsJson (Some j) m = IsValue (Some j) m

-- a body is taken that has this value; where it has none, nothing is done
abbrev pub TakesJson : (finds : Looked → Type 0) → Option Json → (s next : Serving) → Writer
    → Writer → Result (Option Bool) WriteFault → Type 0
TakesJson finds j s next old new (Ok (Some last)) =
    TakesBody finds (IsJson j) s next old new (Ok last)
TakesJson finds j s next old new (Ok None) = (j ≡ None) × (next ≡ s) × (new ≡ old)
TakesJson finds j s next old new (Err fault) =
    TakesBody finds (IsJson j) s next old new (Err fault)

-- the ending where a message could not be read
abbrev pub ending_of : FrameError → Ending
ending_of BadHeader = ending.BadHeader
ending_of InputEnded = ending.InputEnded
ending_of Read = ending.Read

-- behind a message: the run ends, or what was written is handed on
abbrev pub GoesOn : Stage → Result Bool WriteFault → Writer → Writer
    → Result (Option Ending) WriteFault → Type 0
GoesOn stage (Ok true) old new result = (result ≡ Ok (Some (ending_at stage))) × (new ≡ old)
GoesOn stage (Ok false) old new (Ok None) = Keeps old.bytes new.bytes × (new.pending ≡ false)
GoesOn stage (Ok false) old new (Ok (Some how)) = ⊥
GoesOn stage (Ok false) old new (Err fault) = (new.failed ≡ true) × Keeps old.bytes new.bytes
GoesOn stage (Err fault) old new result = (result ≡ Err fault) × (new ≡ old)
