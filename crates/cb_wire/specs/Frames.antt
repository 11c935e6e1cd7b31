-- Messages as they come in a stream.
use Rattle.std.specs.Prelude.{◌≡◌, ℕ, nat_lt, cond, List, [], ◌∷◌, length, take}
use Rattle.std.specs.Prelude.{drop, Option, Some, None, Result, Ok, Err}
use Rattle.cb_tags.specs.declared.feed.Stage.TheVariants.{Failed}
use Rattle.cb_tags.specs.Readers.{Reader}
use Rattle.cb_wire.specs.declared.frame.TheConstants.{MOST_BODY}
use Rattle.cb_wire.specs.declared.frame.Frame.{Frame}
use Rattle.cb_wire.specs.declared.frame.Frame.TheVariants.{Body, TooLarge, OutOfMemory, End}
use Rattle.cb_wire.specs.declared.frame.FrameError.{FrameError}
use Rattle.cb_wire.specs.declared.frame.FrameError.TheVariants.{BadHeader, InputEnded, Read}
use Rattle.cb_wire.specs.Fields.{content_length}
use Rattle.cb_wire.specs.Heads.{Head, head, whole, bad, ended}

-- what a stream begins with: a body, and what follows it; one that is too large, and what follows
-- it; a bad head; an end inside a message; or nothing
pub data First : Type 0 where
  body : List ℕ → List ℕ → First
  too_large : List ℕ → First
  bad_header : First
  cut_off : First
  nothing : First

-- behind a head of a message with so many bytes
abbrev pub first_body : ℕ → List ℕ → First
first_body n bytes =
    cond (nat_lt (length bytes) n) cut_off
    (cond (nat_lt MOST_BODY n) (too_large (drop n bytes)) (body (take n bytes) (drop n bytes)))

abbrev pub of_length : Option ℕ → List ℕ → First
of_length None bytes = bad_header
of_length (Some n) bytes = first_body n bytes

abbrev pub of_head : Head → First
of_head ended = cut_off
of_head bad = bad_header
of_head (whole read bytes) = of_length (content_length read) bytes

unfoldable pub first : List ℕ → First
first [] = nothing
first (b ∷ bs) = of_head (head (b ∷ bs))

-- the first body was read; or one was dropped, since it is too large or memory for it was refused;
-- or the input is at its end, bad, cut off, or its reader has failed
abbrev pub ReadsFrame : First → Reader → Result Frame FrameError → Type 0
ReadsFrame f left (Ok (Body read)) =
    (rest : List ℕ) × (f ≡ body read.now rest) × (left.bytes ≡ Some rest)
ReadsFrame f left (Ok TooLarge) = (rest : List ℕ) × (f ≡ too_large rest) × (left.bytes ≡ Some rest)
ReadsFrame f left (Ok OutOfMemory) =
    (read rest : List ℕ) × (f ≡ body read rest) × (left.bytes ≡ Some rest)
ReadsFrame f left (Ok End) = (f ≡ nothing) × (left.bytes ≡ Some [])
ReadsFrame f left (Err BadHeader) = f ≡ bad_header
ReadsFrame f left (Err InputEnded) = f ≡ cut_off
ReadsFrame f left (Err Read) = left.stage ≡ Failed
