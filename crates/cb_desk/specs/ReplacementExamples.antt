-- Replacements that the check computes.
use Rattle.std.specs.Prelude.{◌≡◌, [], ◌∷◌, codes, refl}
use Rattle.bstr.proofs.Computing.{computing}
use Rattle.cb_desk.specs.Replacement.{gaps_of, replaced, replaced_text}

-- matches do not overlap: `aaa` holds one `aa`, at its front
pub no_overlap : gaps_of (codes "aa") (codes "aaa") ≡ [] ∷ codes "a" ∷ []
unfolding computing
no_overlap = refl

pub first_match_first : replaced (codes "aa") (codes "b") (codes "aaa") ≡ codes "ba"
unfolding computing
first_match_first = refl

-- what was put in is not searched again
pub not_searched_again : replaced (codes "a") (codes "aa") (codes "aba") ≡ codes "aabaa"
unfolding computing
not_searched_again = refl

-- each match goes, where the new text is empty
pub all_taken_away : replaced (codes "ab") [] (codes "xababy") ≡ codes "xy"
unfolding computing
all_taken_away = refl

-- a line keeps its end, and one that is not marked stays as it is
pub ends_kept : replaced_text (codes "a") (codes "b") (1 ∷ 3 ∷ []) (codes "a\r\na\na\n")
    ≡ codes "b\r\na\nb\n"
unfolding computing replaced_text
ends_kept = refl

-- a last line without a line feed is shown whole, with its carriage return
pub last_line_whole : replaced_text (codes "a\r") (codes "b") (1 ∷ 2 ∷ []) (codes "a\r\na\r")
    ≡ codes "a\r\nb"
unfolding computing replaced_text
last_line_whole = refl
