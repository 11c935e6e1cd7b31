-- How a run of a server goes on, message by message, and how its input ends.
use Rattle.std.specs.Prelude.{◌≡◌, ◌⊎◌, ℕ, true, false, List, [], Option, None, Some}
use Rattle.std.specs.Prelude.{Result, Ok, Err}
use Rattle.std.specs.Io.KnownBytes.{Appends}
use Rattle.std.specs.List.{AllByRecursion}
use Rattle.cb_tags.specs.declared.feed.Stage.TheVariants.{Failed}
use Rattle.cb_tags.specs.declared.sink.WriteFault.{WriteFault}
use Rattle.cb_tags.specs.Readers.{Reader}
use Rattle.cb_tags.specs.Writers.{Writer}
use Rattle.cb_tags.specs.Writing.{AppendsPrefix}
use Rattle.cb_wire.specs.Frames.{First, bad_header, body, cut_off, nothing, too_large as too_long}
use Rattle.cb_lsp.specs.declared.turn.Ending.{Ending}
use Rattle.cb_lsp.specs.declared.turn.Ending.TheVariants as ending
use Rattle.cb_lsp.specs.declared.server.Stage.{Stage}
use Rattle.cb_lsp.specs.declared.server.Stage.TheVariants.{Fresh, Running, Down}
use Rattle.cb_lsp.specs.Messages.{Serving, too_large}
use Rattle.cb_lsp.specs.Bodies.{IsMessage, Turn, after, is_last, read_in, refused, reply_text}
use Rattle.cb_lsp.specs.Bodies.{taken}
use Rattle.cb_lsp.specs.Documents.{Looked}

-- the first message of a stream, and what follows it
abbrev pub IsNext : First → Turn → List ℕ → Type 0
IsNext (body text after) (taken m o) rest = IsMessage text m × (rest ≡ after)
IsNext (body text after) refused rest = rest ≡ after
IsNext (too_long after) (taken m o) rest = (m ≡ too_large) × (rest ≡ after)
IsNext (too_long after) refused rest = ⊥
IsNext bad_header t rest = ⊥
IsNext cut_off t rest = ⊥
IsNext nothing t rest = ⊥

-- ---- the end

-- the ending by the client
abbrev pub ending_at : Stage → Ending
ending_at Fresh = ending.Early
ending_at Running = ending.Early
ending_at Down = ending.Down

-- the client ends the run: by a message, or at the end of input before one; what follows is not
-- read
abbrev pub IsClosed : First → Reader → Type 0
IsClosed f left =
    ((f ≡ nothing) × (left.bytes ≡ Some []))
    ⊎ ((t : Turn) × (rest : List ℕ) × IsNext f t rest × (is_last t ≡ true)
    × (left.bytes ≡ Some rest))

-- how a run ends where a stream begins so
abbrev pub IsEnd : First → Serving → Reader → Ending → Type 0
IsEnd f s left ending.Down = (ending.Down ≡ ending_at s.stage) × IsClosed f left
IsEnd f s left ending.Early = (ending.Early ≡ ending_at s.stage) × IsClosed f left
IsEnd f s left ending.BadHeader = f ≡ bad_header
IsEnd f s left ending.InputEnded = f ≡ cut_off
IsEnd f s left ending.Read = left.stage ≡ Failed

-- ---- one turn

-- a message is taken, what was read again is what is found there, and its reply is handed on; or
-- the run ends, with nothing done; or the writer fails
abbrev pub LeavesTurn : (finds : Looked → Type 0) → First → (s next : Serving) → Reader → Writer
    → Writer → Result (Option Ending) WriteFault → Type 0
LeavesTurn finds f s next left old new (Ok None) =
    (t : Turn) × (rest : List ℕ) × IsNext f t rest × (is_last t ≡ false)
    × (left.bytes ≡ Some rest) × (next ≡ after s t) × Appends old.bytes new.bytes (reply_text s t)
    × (new.pending ≡ false) × AllByRecursion finds (read_in s t)
LeavesTurn finds f s next left old new (Ok (Some how)) =
    IsEnd f s left how × (next ≡ s) × Appends old.bytes new.bytes []
    × (new.pending ≡ old.pending)
LeavesTurn finds f s next left old new (Err fault) =
    (new.failed ≡ true)
    × ((t : Turn) × (rest : List ℕ) × IsNext f t rest
    × AppendsPrefix old.bytes new.bytes (reply_text s t))
