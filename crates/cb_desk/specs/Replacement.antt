-- A text with every match of a pattern replaced, on some of its lines.
use Rattle.std.specs.Prelude.{◌≡◌, ◌≢◌, ℕ, ◌==◌, Bool, List, [], ◌∷◌, ◌++◌, length, drop, map}
use Rattle.std.specs.Prelude.{Some, None, if◌then◌else◌}
use Rattle.std.specs.List.{flat_map, list_any, range_with_len, zip}
use Rattle.bstr.specs.Owned.{joined}
use Rattle.bstr.specs.Text.{lines_of, without_terminator, split_at}
use Rattle.memchr.specs.Find.{FindsNeedle, matches}

-- each gap but the last holds the pattern nowhere but at the end of the gap and the pattern; the
-- last one does not hold it
unfoldable pub AreGaps : List ℕ → List (List ℕ) → Type 0
AreGaps pattern [] = ⊥
AreGaps pattern (g ∷ []) = FindsNeedle g pattern 0 None
AreGaps pattern (g ∷ h ∷ gs) =
    FindsNeedle (g ++ pattern) pattern 0 (Some (length g)) × AreGaps pattern (h ∷ gs)

-- a text is cut into gaps at its leftmost matches that do not overlap
pub record IsCutInto (pattern text : List ℕ) (gaps : List (List ℕ)) : Type 0 where
  pub whole : text ≡ joined pattern gaps
  pub apart : AreGaps pattern gaps

-- the gaps between the matches
abbrev pub gaps_of : List ℕ → List ℕ → List (List ℕ)
gaps_of pattern text = split_at text (length pattern) 0 (matches text pattern 0)

-- a text with each match of the old text replaced by the new one
abbrev pub replaced : (old new text : List ℕ) → List ℕ
replaced old new text = joined new (gaps_of old text)

-- what ends a line and is not shown: its line feed with one carriage return before that
abbrev pub line_end : List ℕ → List ℕ
line_end line = drop (length (without_terminator line)) line

-- a line with its end, in which the old text is replaced in what is shown
abbrev pub replaced_line : (old new line : List ℕ) → List ℕ
replaced_line old new line = replaced old new (without_terminator line) ++ line_end line

-- some lines, each with whether its number is among those; the first has the number `first`
abbrev pub marked_from : (numbers : List ℕ) → (first : ℕ) → List (List ℕ) → List (List ℕ × Bool)
marked_from numbers first ls =
    map (λ l. (l.0, list_any (λ m. m == l.1) numbers)) (zip ls (range_with_len first (length ls)))

-- a line, replaced if it is marked
abbrev pub replaced_if_marked : (old new : List ℕ) → List ℕ × Bool → List ℕ
replaced_if_marked old new l = if l.1 then replaced_line old new l.0 else l.0

-- a text in which the old text is replaced on the lines of these numbers, from 1; the rest stays
unfoldable pub replaced_text : (old new : List ℕ) (numbers : List ℕ) (text : List ℕ) → List ℕ
replaced_text old new numbers text =
    flat_map (replaced_if_marked old new) (marked_from numbers 1 (lines_of text))

-- every text has a cut, which the matches give, and no other
pub record HasOneCut : Type 0 where
  pub cut : (pattern text : List ℕ) → pattern ≢ [] → IsCutInto pattern text (gaps_of pattern text)
  pub only : (pattern text : List ℕ) (gaps : List (List ℕ)) → pattern ≢ []
      → IsCutInto pattern text gaps → gaps ≡ gaps_of pattern text
