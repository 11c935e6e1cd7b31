-- Runs of a server: the messages of a stream, one after another.
use Rattle.std.specs.Prelude.{◌≡◌, ◌^◌, ◌-◌, ℕ, true, false, List, [], ◌∷◌, ◌++◌, length}
use Rattle.std.specs.Prelude.{Some, Result, Ok, Err}
use Rattle.std.specs.Io.KnownBytes.{Appends}
use Rattle.std.specs.List.{AllByRecursion}
use Rattle.cb_tags.specs.Readers.{Reader}
use Rattle.cb_tags.specs.Writers.{Writer}
use Rattle.cb_tags.specs.Writing.{AppendsPrefix}
use Rattle.cb_wire.specs.Frames.{first}
use Rattle.cb_lsp.specs.declared.run.RunFault.{RunFault}
use Rattle.cb_lsp.specs.declared.run.RunFault.TheVariants.{Memory, Write, ManyMessages}
use Rattle.cb_lsp.specs.declared.turn.Ending.{Ending}
use Rattle.cb_lsp.specs.Messages.{Serving}
use Rattle.cb_lsp.specs.Bodies.{Turn, after, is_last, read_in, reply_text}
use Rattle.cb_lsp.specs.Documents.{Looked}
use Rattle.cb_lsp.specs.Endings.{IsEnd, IsNext}

-- messages lead from a stream and a server to what is left of the stream and the server then; none
-- of them is the last one, and what was read again is what is found there
unfoldable pub Leads : (finds : Looked → Type 0) → List ℕ → Serving → List Turn → List ℕ → Serving
    → Type 0
Leads finds bytes s [] rest next = (rest ≡ bytes) × (next ≡ s)
Leads finds bytes s (t ∷ ts) rest next =
    (mid : List ℕ) × IsNext (first bytes) t mid × (is_last t ≡ false)
    × AllByRecursion finds (read_in s t) × Leads finds mid (after s t) ts rest next

-- what is written on the way
unfoldable pub output : Serving → List Turn → List ℕ
output s [] = []
output s (t ∷ ts) = reply_text s t ++ output (after s t) ts

-- the most messages of a run
abbrev pub most_messages : ℕ
most_messages = 2 ^ 64 - 1

-- where nothing was pending nothing is: all that was written was handed on
abbrev pub HandsOn : Writer → Writer → Type 0
HandsOn old new = old.pending ≡ false → new.pending ≡ false

-- where messages have led a run: it ends; or the writer fails at the next one, and a prefix of what
-- is written is there; or memory was refused before the first one; or they are the most
abbrev pub LeavesRun : (finds : Looked → Type 0) → List ℕ → (s next : Serving) → Reader → Writer
    → Writer → Result Ending RunFault → Type 0
LeavesRun finds bytes s next left old new (Ok how) =
    (ts : List Turn) × (rest : List ℕ) × Leads finds bytes s ts rest next
    × IsEnd (first rest) next left how × Appends old.bytes new.bytes (output s ts)
    × HandsOn old new
LeavesRun finds bytes s next left old new (Err Write) =
    (ts : List Turn) × (rest : List ℕ) × (mid : Serving) × Leads finds bytes s ts rest mid
    × (new.failed ≡ true)
    × ((t : Turn) × (more : List ℕ) × IsNext (first rest) t more
    × AppendsPrefix old.bytes new.bytes (output s ts ++ reply_text mid t))
LeavesRun finds bytes s next left old new (Err Memory) =
    (left.bytes ≡ Some bytes) × (next ≡ s) × (new ≡ old)
LeavesRun finds bytes s next left old new (Err ManyMessages) =
    (ts : List Turn) × (rest : List ℕ) × Leads finds bytes s ts rest next × (left.bytes ≡ Some rest)
    × (length ts ≡ most_messages) × Appends old.bytes new.bytes (output s ts) × HandsOn old new
