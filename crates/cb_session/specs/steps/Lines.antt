-- What reading a line or a block does to a reader.
use Rattle.std.specs.Prelude.{◌≡◌, ℕ, ◌≤◌, ◌<◌, List, [], length, take, drop, Option, None, Some}
use Rattle.std.specs.Prelude.{Result, Ok, Err, Vec, nat_le, if◌then◌else◌}
use Rattle.cb_desk.specs.declared.change.Refusal.TheVariants.{LineTooLong}
use Rattle.cb_tags.specs.declared.feed.Stage.TheVariants.{Failed}
use Rattle.cb_session.specs.declared.input.Fault.{Fault}
use Rattle.cb_session.specs.declared.input.Fault.TheVariants.{Read, Memory, LongLine}
use Rattle.cb_session.specs.declared.input.LineRead.{LineRead}
use Rattle.cb_session.specs.declared.input.LineRead.TheVariants.{End, Line, Long}
use Rattle.cb_session.specs.declared.input.TheConstants.{MOST_LINE}
use Rattle.cb_session.specs.Commands.{short_line}
use Rattle.cb_session.specs.Inputs.{first, with_block}
use Rattle.cb_session.specs.Requests.{refused, quit, overlong}
use Rattle.cb_tags.specs.Readers.{Reader, HasRead}

-- a line of so many bytes, which a command may have or not
abbrev pub line_of_length : ℕ → LineRead
line_of_length n = if nat_le n MOST_LINE then Line else Long

-- a line was read, all of it kept where a command may be so long
abbrev pub ReadsLine : ℕ → List ℕ → Reader → List ℕ → Result LineRead Fault → Type 0
ReadsLine limit bytes new line (Ok End) =
    (first limit bytes ≡ record { request = quit; rest = [] }) × (new.bytes ≡ Some [])
ReadsLine limit bytes new line (Ok Line) =
    (rest : List ℕ) × (first limit bytes ≡ with_block (short_line limit line) rest)
    × (new.bytes ≡ Some rest)
ReadsLine limit bytes new line (Ok Long) =
    (rest : List ℕ) × (first limit bytes ≡ record { request = refused LineTooLong; rest = rest })
    × (new.bytes ≡ Some rest)
ReadsLine limit bytes new line (Err LongLine) = (first limit bytes).request ≡ overlong
ReadsLine limit bytes new line (Err Read) = new.stage ≡ Failed
ReadsLine limit bytes new line (Err _) = ⊥

-- the reader failed before so many bytes were read
abbrev pub StopsBefore : ℕ → Reader → Reader → Type 0
StopsBefore count old new = (read : List ℕ) × HasRead old new read × (length read < count)

-- a block was read; or the input ended before; or memory for it was refused; or the reader failed
abbrev pub ReadsBlock : {A : Type 0} → ℕ → List ℕ → Reader
    → Result (Option (Vec ℕ A)) Fault → Type 0
ReadsBlock count bytes new (Ok (Some block)) =
    (count ≤ length bytes) × (block.items ≡ take count bytes)
    × (new.bytes ≡ Some (drop count bytes))
ReadsBlock count bytes new (Ok None) = (length bytes < count) × (new.bytes ≡ Some [])
ReadsBlock count bytes new (Err Read) = new.stage ≡ Failed
ReadsBlock count bytes new (Err Memory) = Unit {0}
ReadsBlock count bytes new (Err _) = ⊥
