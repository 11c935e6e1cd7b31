-- The inputs of a byte stream: the whole input cut into lines and blocks.
use Rattle.std.specs.Prelude.{◌≡◌, ℕ, zero, suc, ◌==◌, Bool, true, false, nat_lt, List, [], ◌∷◌}
use Rattle.std.specs.Prelude.{◌++◌}
use Rattle.std.specs.Prelude.{length, take, drop, Option, None, Some, if◌then◌else◌}
use Rattle.std.specs.List.{before_first, after_first}
use Rattle.cb_scan.specs.Bytes.{line_feed}
use Rattle.cb_desk.specs.declared.change.Refusal.{Refusal}
use Rattle.cb_desk.specs.declared.change.Refusal.TheVariants.{LineTooLong, InputEnded}
use Rattle.cb_desk.specs.Step.{Step, load, reload}
use Rattle.cb_session.specs.declared.input.Ended.{Ended}
use Rattle.cb_session.specs.declared.input.Ended.TheVariants.{Done, Cut, Fault}
use Rattle.cb_session.specs.declared.input.Fault.TheVariants.{LongLine, ManyLines}
use Rattle.cb_session.specs.declared.input.TheConstants.{MOST_LINE}
use Rattle.cb_session.specs.declared.line.Purpose.{Purpose}
use Rattle.cb_session.specs.declared.line.Purpose.TheVariants.{Load, Reload}
use Rattle.cb_session.specs.Commands.{short_line}
use Rattle.cb_session.specs.Requests.{Request, change, refused, quit, overlong}
use Rattle.cb_session.specs.Requests.{LineRequest, whole, block}

-- the byte that ends a line
abbrev pub is_line_feed : ℕ → Bool
is_line_feed b = b == line_feed

-- what a line asks for, where a run allows at most `limit` bytes in a line, and in a block
abbrev pub line_asks : ℕ → List ℕ → LineRequest
line_asks limit line =
    if nat_lt limit (length line) then whole overlong
    else (if nat_lt MOST_LINE (length line) then whole (refused LineTooLong)
    else short_line limit line)

-- a request, and the bytes that are left after it
pub record First : Type 0 where
  pub request : Request
  pub rest : List ℕ

-- the change that a block makes, by what it is for
abbrev pub change_with : Purpose → (name bytes : List ℕ) → Step
change_with Load name bytes = load name bytes
change_with Reload name bytes = reload name bytes

-- a request with its block, which is cut from the bytes after its line
abbrev pub with_block : LineRequest → List ℕ → First
with_block (whole e) rest = record { request = e; rest = rest }
with_block (block purpose name n) rest =
    if nat_lt (length rest) n then record { request = refused InputEnded; rest = [] }
    else record { request = change (change_with purpose name (take n rest)); rest = drop n rest }

-- the first request of a stream, whose line is the bytes before the first line feed; the end of
-- input where a line would begin ends the session
unfoldable pub first : ℕ → List ℕ → First
first limit [] = record { request = quit; rest = [] }
first limit (b ∷ bs) =
    with_block (line_asks limit (before_first is_line_feed (b ∷ bs)))
    (after_first is_line_feed (b ∷ bs))

-- the bytes of one request, whatever follows them
abbrev pub IsWhole : ℕ → Request → List ℕ → Type 0
IsWhole limit e bytes =
    (rest : List ℕ) → first limit (bytes ++ rest) ≡ record { request = e; rest = rest }

-- bytes that begin with no whole request
abbrev pub HoldNone : ℕ → List ℕ → Type 0
HoldNone limit bytes = (n : ℕ) (e : Request) → IsWhole limit e (take n bytes) → ⊥

-- bytes that hold these requests whole, one behind the other, and then no whole one
abbrev pub HoldWhole : ℕ → List Request → List ℕ → Type 0
HoldWhole limit [] bytes = HoldNone limit bytes
HoldWhole limit (e ∷ es) bytes =
    (text rest : List ℕ) × (bytes ≡ text ++ rest) × IsWhole limit e text
    × HoldWhole limit es rest

-- the refusal of a block that the input does not fill
abbrev pub is_cut : Refusal → Bool
is_cut InputEnded = true
is_cut _ = false

-- the ending of a run, where the request is its last
abbrev pub ending_of : Request → Option Ended
ending_of quit = Some Done
ending_of overlong = Some (Fault LongLine)
ending_of (refused r) = if is_cut r then Some Cut else None
ending_of _ = None

-- the requests of a run, its ending, and the bytes that are left after its last request
pub record Inputs : Type 0 where
  pub requests : List Request
  pub ending : Ended
  pub rest : List ℕ

-- the last request ends the inputs, and each other goes on with the inputs after it
abbrev pub begin_with : First → Option Ended → Inputs → Inputs
begin_with f (Some ended) after =
    record { requests = f.request ∷ []; ending = ended; rest = f.rest }
begin_with f None after = record after { requests = f.request ∷ after.requests }

-- the inputs of a byte stream, where a run allows so many lines and at most `limit` bytes in each
-- of them and in each block
unfoldable pub inputs : ℕ → ℕ → List ℕ → Inputs
inputs zero limit bytes = record { requests = []; ending = Fault ManyLines; rest = bytes }
inputs (suc lines) limit bytes =
    let f = first limit bytes in begin_with f (ending_of f.request) (inputs lines limit f.rest)
