-- No two rows of lines that hold a text are equal.
use Rattle.std.proofs.Common.{◌≡◌, ◌≢◌, ◌∙◌, sym, ap, refl, subst, ℕ, zero, suc, ◌+◌, ◌<◌, Bool}
use Rattle.std.proofs.Common.{true, false, not, cond, List, [], ◌∷◌, ◌++◌, map, filter, length}
use Rattle.std.proofs.Common.{arith, nat_cmp, is_eq, Less}
use Rattle.std.specs.Bool.{⊤}
use Rattle.std.specs.List.{AllByRecursion, flat_map, range_with_len}
use Rattle.std.specs.List.Sorted.{IsStrictlySortedBy}
use Rattle.std.specs.Cmp.Lexicographic.{slice_cmp}
use Rattle.std.proofs.lemmas.Bool.{false_from_ne_true, false≢true}
use Rattle.std.proofs.lemmas.Map.Text.{is_eq-slice_cmp}
use Rattle.std.proofs.lemmas.Slice.Eq.{bytes_eq-Decides}
use Rattle.cb_desk.specs.World.{File, IsAscending}
use Rattle.cb_scan.specs.Lines.{lines, line_text}
use Rattle.cb_desk.specs.Search.{holds, lines_with}
use Rattle.cb_desk.specs.Answer.{AnswerRow, row_eq, distinct, line_row, text_rows_in}
use Rattle.cb_desk.proofs.EqualRows.{row_same}
use Rattle.cb_desk.proofs.Valid.{all-join, all-along}

-- no two rows are equal
Apart : List AnswerRow → Type 0
Apart [] = ⊤
Apart (r ∷ rs) = AllByRecursion (λ q. r ≢ q) rs × Apart rs

kept-all : (r : AnswerRow) (rs : List AnswerRow) → AllByRecursion (λ q. r ≢ q) rs
    → filter (λ q. not (row_eq r q)) rs ≡ rs
kept-all r [] other = refl
kept-all r (q ∷ rs) other =
    let e : row_eq r q ≡ false =
    false_from_ne_true (row_eq r q) (λ yes. other.0 (row_same r q yes)) in
    rw e (ap (λ qs. q ∷ qs) (kept-all r rs other.1))

distinct-apart : (rs : List AnswerRow) → Apart rs → distinct rs ≡ rs
unfolding distinct Apart
distinct-apart [] apart = refl
distinct-apart (r ∷ rs) apart =
    ap (λ qs. r ∷ filter (λ q. not (row_eq r q)) qs) (distinct-apart rs apart.1)
    ∙ ap (λ qs. r ∷ qs) (kept-all r rs apart.0)

apart-join : (rs qs : List AnswerRow) → Apart rs → Apart qs
    → AllByRecursion (λ r. AllByRecursion (λ q. r ≢ q) qs) rs → Apart (rs ++ qs)
unfolding Apart
apart-join [] qs apart more other = more
apart-join (r ∷ rs) qs apart more other =
    (all-join (λ q. r ≢ q) rs qs apart.0 other.0, apart-join rs qs apart.1 more other.1)

-- ---- in a file the lines differ

above : (p : ℕ → Bool) (low first n : ℕ) → low < first
    → AllByRecursion (λ m. low < m) (filter p (range_with_len first n))
above p low first zero less = tt
above p low first (suc n) less =
    let later = above p low (first + 1) n (omega arith) in
    elim (p first) as (λ b. AllByRecursion (λ m. low < m) (cond b
    (first ∷ filter p (range_with_len (first + 1) n)) (filter p (range_with_len (first + 1) n)))) [
      | true ↦ (less, later)
      | false ↦ later
    ]

module _ (f : File) where
  abbrev row : ℕ → AnswerRow
  row n = line_row f.name f.bytes n

  others : (low : ℕ) (ns : List ℕ) → AllByRecursion (λ m. low < m) ns
      → AllByRecursion (λ q. row low ≢ q) (map row ns)
  others low [] all = tt
  others low (n ∷ ns) all =
      let less = all.0 in (
        λ same. let e : low ≡ n = ap (λ (r : AnswerRow). r.line) same in absurd (omega arith),
        others low ns all.1,
      )

  lines-apart : (p : ℕ → Bool) (first n : ℕ) → Apart (map row (filter p (range_with_len first n)))
  unfolding Apart
  lines-apart p first zero = tt
  lines-apart p first (suc n) =
      let later = lines-apart p (first + 1) n in
      elim (p first) as
      (λ b. Apart (map row (cond b (first ∷ filter p (range_with_len (first + 1) n))
      (filter p (range_with_len (first + 1) n))))) [
        | true ↦ (
          others first (filter p (range_with_len (first + 1) n))
              (above p first (first + 1) n (omega arith)),
          later,
        )
        | false ↦ later
      ]

  named : (P : List ℕ → Type 0) (ns : List ℕ) → P f.name
      → AllByRecursion (λ (q : AnswerRow). P q.file) (map row ns)
  named P [] is = tt
  named P (n ∷ ns) is = (is, named P ns is)

-- ---- rows of two files differ

pub not-below : (name : List ℕ) → slice_cmp nat_cmp name name ≢ Less
not-below name less =
    false≢true
    (sym (ap is_eq less) ∙ is_eq-slice_cmp name name ∙ (bytes_eq-Decides name name).1 refl)

-- the rows of files above a name
later-rows : (p name : List ℕ) (files : List File)
    → AllByRecursion (λ (g : File). slice_cmp nat_cmp name g.name ≡ Less) files
    → AllByRecursion (λ (q : AnswerRow). slice_cmp nat_cmp name q.file ≡ Less)
    (flat_map (text_rows_in p) files)
later-rows p name [] all = tt
later-rows p name (g ∷ files) all =
    all-join (λ (q : AnswerRow). slice_cmp nat_cmp name q.file ≡ Less) (text_rows_in p g)
    (flat_map (text_rows_in p) files)
    (named g (λ other. slice_cmp nat_cmp name other ≡ Less) (lines_with p g.bytes) all.0)
    (later-rows p name files all.1)

rows-apart : (p : List ℕ) (files : List File) → IsAscending files
    → Apart (flat_map (text_rows_in p) files)
unfolding Apart IsStrictlySortedBy
rows-apart p [] up = tt
rows-apart p (f ∷ files) up =
    let later = later-rows p f.name files up.0 in
    apart-join (text_rows_in p f) (flat_map (text_rows_in p) files)
    (lines-apart f (λ n. holds p (line_text f.bytes n)) 1 (length (lines f.bytes)))
    (rows-apart p files up.1)
    (all-along (λ (r : AnswerRow). r.file ≡ f.name)
    (λ r. AllByRecursion (λ q. r ≢ q) (flat_map (text_rows_in p) files)) (text_rows_in p f)
    (λ r is. all-along (λ (q : AnswerRow). slice_cmp nat_cmp f.name q.file ≡ Less) (λ q. r ≢ q)
    (flat_map (text_rows_in p) files)
    (λ q less same. not-below f.name (subst (λ name. slice_cmp nat_cmp f.name name ≡ Less)
    (ap (λ (s : AnswerRow). s.file) (sym same) ∙ is) less)) later)
    (named f (λ name. name ≡ f.name) (lines_with p f.bytes) refl))

-- the list without equal rows is that list
pub text_rows-distinct : (p : List ℕ) (files : List File) → IsAscending files
    → distinct (flat_map (text_rows_in p) files) ≡ flat_map (text_rows_in p) files
text_rows-distinct p files up =
    distinct-apart (flat_map (text_rows_in p) files) (rows-apart p files up)
