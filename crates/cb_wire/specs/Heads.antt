-- The head of a message.
use Rattle.std.specs.Prelude.{◌==◌, ◌++◌, ℕ, zero, suc}
use Rattle.std.specs.Prelude.{cond, List, [], ◌∷◌}
use Rattle.cb_wire.specs.declared.head.TheConstants.{MOST_HEAD}
use Rattle.cb_wire.specs.declared.head.Line.{Line}
use Rattle.cb_wire.specs.declared.head.Line.TheVariants.{Start, Return, Text, TextReturn}
use Rattle.cb_wire.specs.declared.head.Step.{Step}
use Rattle.cb_wire.specs.declared.head.Step.TheVariants.{On, End, Bad}

-- one byte more of a line: each ends in a carriage return and a line feed, and an empty one ends
-- the head
abbrev pub next : Line → ℕ → Step
next Start b = cond (b == 10) Bad (On (cond (b == 13) Return Text))
next Return b = cond (b == 10) End (On (cond (b == 13) TextReturn Text))
next Text b = cond (b == 10) Bad (On (cond (b == 13) TextReturn Text))
next TextReturn b = cond (b == 10) (On Start) (On (cond (b == 13) TextReturn Text))

-- what a stream begins with: a head, and what follows it; or no head; or the input ends before
pub data Head : Type 0 where
  whole : List ℕ → List ℕ → Head
  bad : Head
  ended : Head

-- what a step leads to: further on, or to the end of the head, behind which other bytes come
abbrev pub head_after : Step → (Line → Head) → List ℕ → List ℕ → Head
head_after (On line) go_on read bytes = go_on line
head_after End go_on read bytes = whole read bytes
head_after Bad go_on read bytes = bad

-- the head, of which some bytes were read, in at most `left` more
unfoldable pub head_from : ℕ → Line → List ℕ → List ℕ → Head
head_from zero line read bytes = bad
head_from (suc left) line read [] = ended
head_from (suc left) line read (b ∷ bs) =
    head_after (next line b) (λ more. head_from left more (read ++ b ∷ []) bs) (read ++ b ∷ []) bs

abbrev pub head : List ℕ → Head
head bytes = head_from MOST_HEAD Start [] bytes
