-- Rows of which equal ones are left out by looking back.
use Rattle.std.specs.Prelude.{◌≡◌, ℕ, ◌≤◌, ◌<◌, ◌^◌, ◌==◌, ◌&&◌, Bool, false, List, [], ◌∷◌, ◌++◌}
use Rattle.std.specs.Prelude.{length, take, drop, if◌then◌else◌}
use Rattle.std.specs.Cmp.Lexicographic.{slice_cmp}
use Rattle.std.specs.List.{AllByRecursion, list_any}
use Rattle.std.specs.Ordering.{is_gt, nat_cmp}
use Rattle.std.specs.Str.{bytes_eq}
use Rattle.std.specs.declared.cmp.Ordering.TheVariants.{Less}
use Rattle.cb_desk.specs.Answer.{AnswerRow, row_eq}
use Rattle.cb_desk.specs.World.{place_key}
use Rattle.cb_desk.specs.declared.answers.rows.LookBack.{LookBack}
use Rattle.cb_desk.specs.steps.Lent.{found_left}

-- the rows that are equal to none before them, nor to one of those that were seen
unfoldable pub fresh : (seen rows : List AnswerRow) → List AnswerRow
fresh seen [] = []
fresh seen (r ∷ rs) =
    let later = fresh (seen ++ r ∷ []) rs in
    if list_any (row_eq r) seen then later else r ∷ later

-- two rows are equal but for their texts
abbrev pub alike : AnswerRow → AnswerRow → Bool
alike r q = bytes_eq r.file q.file && bytes_eq r.function q.function && r.line == q.line

-- a row has the text of another if it is of the same file and on the same line
abbrev pub IsTextedLike : AnswerRow → AnswerRow → Type 0
IsTextedLike q r = r.file ≡ q.file → r.line ≡ q.line → r.text ≡ q.text

-- the rows of one line of a file have one text
abbrev pub HaveLineTexts : List AnswerRow → Type 0
HaveLineTexts rows =
    (text : List ℕ → ℕ → List ℕ)
    × AllByRecursion (λ (r : AnswerRow). r.text ≡ text r.file r.line) rows

-- what the line of a row is ordered by
abbrev pub row_key : AnswerRow → List ℕ
row_key r = place_key (record { file = r.file; line = r.line })

-- the rest is what is left of all rows after those that were passed; the group begins at the first
-- of these on the greatest line, which has that key
pub record IsGrouped (all group rest : List AnswerRow) (first passed : ℕ)
    (key : List ℕ) : Type 0 where
  pub order : first ≤ passed
  pub within : passed ≤ length all
  pub begins : group ≡ drop first all
  pub left : rest ≡ drop passed all
  pub before : AllByRecursion (λ r. slice_cmp nat_cmp (row_key r) key ≡ Less) (take first all)
  pub so_far : AllByRecursion
      (λ r. is_gt (slice_cmp nat_cmp (row_key r) key) ≡ false) (take passed all)
  pub texts : HaveLineTexts all
  pub few : length all < 2 ^ 64

abbrev pub IsLookBack : LookBack → Type 0
IsLookBack s =
    IsGrouped (found_left s.all) (found_left s.group) (found_left s.rest) s.first s.passed
    (place_key (record { file = s.file.now; line = s.line }))

-- the rows that were passed
abbrev pub seen : LookBack → List AnswerRow
seen s = take s.passed (found_left s.all)

-- those of the rest that are equal to none before
abbrev pub news_left : LookBack → List AnswerRow
news_left s = fresh (seen s) (found_left s.rest)
