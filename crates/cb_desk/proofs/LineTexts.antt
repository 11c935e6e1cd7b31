-- Rows of one line of a file have one text.
use Rattle.std.proofs.Common.{◌≡◌, ◌∙◌, sym, ap, refl, ℕ, true, false, cond, List, [], ◌∷◌, map}
use Rattle.std.proofs.Common.{Less, is_eq, nat_cmp}
use Rattle.std.specs.Cmp.Lexicographic.{slice_cmp}
use Rattle.std.specs.List.{AllByRecursion, flat_map}
use Rattle.std.specs.List.Sorted.{IsStrictlySortedBy}
use Rattle.std.proofs.lemmas.Map.Text.{is_eq-slice_cmp}
use Rattle.std.proofs.lemmas.Slice.Eq.{bytes_eq-Decides}
use Rattle.cb_scan.specs.declared.profile.Profile.{Profile}
use Rattle.cb_scan.specs.Lines.{line_text}
use Rattle.cb_desk.specs.declared.rows.Found.{Found}
use Rattle.cb_desk.specs.declared.rows.Field.{Field}
use Rattle.cb_desk.specs.declared.rows.Field.TheVariants.{Symbol, Definition, Called, Calling, Text}
use Rattle.cb_desk.specs.declared.rows.Field.TheVariants.{File as FileName, Including}
use Rattle.cb_desk.specs.Answer.{AnswerRow, field_rows, file_row, file_rows, found_row, line_row}
use Rattle.cb_desk.specs.Answer.{text_rows_in, unindented, unknown}
use Rattle.cb_desk.specs.Search.{holds, lines_with}
use Rattle.cb_desk.specs.World.{File, IsAscending, text_of_file}
use Rattle.cb_desk.specs.steps.LookBack.{HaveLineTexts}
use Rattle.cb_desk.proofs.Valid.{all-join}

-- ---- each file has its own name
later-texts : (f : File) (fs gs : List File)
    → AllByRecursion (λ (g : File). slice_cmp nat_cmp f.name g.name ≡ Less) gs
    → AllByRecursion (λ (g : File). text_of_file fs g.name ≡ g.bytes) gs
    → AllByRecursion (λ (g : File). text_of_file (f ∷ fs) g.name ≡ g.bytes) gs
unfolding text_of_file
later-texts f fs [] up own = tt
later-texts f fs (g ∷ gs) up own = (
  ap (λ b. cond b f.bytes (text_of_file fs g.name))
      (sym (is_eq-slice_cmp f.name g.name) ∙ ap is_eq up.0) ∙ own.0,
  later-texts f fs gs up.1 own.1,
)

texts-own : (fs : List File) → IsAscending fs
    → AllByRecursion (λ (f : File). text_of_file fs f.name ≡ f.bytes) fs
unfolding text_of_file IsStrictlySortedBy
texts-own [] up = tt
texts-own (f ∷ fs) up = (
  ap (λ b. cond b f.bytes (text_of_file fs f.name)) ((bytes_eq-Decides f.name f.name).1 refl),
  later-texts f fs fs up.0 (texts-own fs up.1),
)

-- ---- the rows of a file
module _ (text : List ℕ → ℕ → List ℕ) where
  abbrev HasText : AnswerRow → Type 0
  HasText r = r.text ≡ text r.file r.line

  module _ (f : File) (own : (n : ℕ) → unindented (line_text f.bytes n) ≡ text f.name n) where
    facts-texted : (xs : List Found) → AllByRecursion HasText (map (found_row f) xs)
    facts-texted [] = tt
    facts-texted (x ∷ xs) = (own x.line, facts-texted xs)

    lines-texted : (ns : List ℕ) → AllByRecursion HasText (map (line_row f.name f.bytes) ns)
    lines-texted [] = tt
    lines-texted (n ∷ ns) = (own n, lines-texted ns)

module _ (all : List File) where
  abbrev shown_text : List ℕ → ℕ → List ℕ
  shown_text file line = unindented (line_text (text_of_file all file) line)

  abbrev Own : File → Type 0
  Own f = text_of_file all f.name ≡ f.bytes

  own-lines : (f : File) → Own f → (n : ℕ) → unindented (line_text f.bytes n) ≡ shown_text f.name n
  own-lines f own n = ap (λ bytes. unindented (line_text bytes n)) (sym own)

  rows-texted : (rows_of : File → List AnswerRow)
      → ((f : File) → Own f → AllByRecursion (HasText shown_text) (rows_of f))
      → (fs : List File) → AllByRecursion Own fs
      → AllByRecursion (HasText shown_text) (flat_map rows_of fs)
  rows-texted rows_of each [] own = tt
  rows-texted rows_of each (f ∷ fs) own =
      all-join (HasText shown_text) (rows_of f) (flat_map rows_of fs) (each f own.0)
      (rows-texted rows_of each fs own.1)

names-texted : (by : Profile) (p : List ℕ) (fs : List File)
    → AllByRecursion (HasText (λ file line. unknown)) (flat_map (field_rows by FileName p) fs)
names-texted by p [] = tt
names-texted by p (f ∷ fs) =
    all-join (HasText (λ file line. unknown)) (file_rows p f.name)
    (flat_map (field_rows by FileName p) fs)
    (elim (holds p f.name) as
    (λ b. AllByRecursion (HasText (λ file line. unknown)) (cond b (file_row f.name ∷ []) [])) [
      | true ↦ (refl, tt)
      | false ↦ tt
    ]) (names-texted by p fs)

pub line-texts : (by : Profile) (field : Field) (p : List ℕ) (fs : List File) → IsAscending fs
    → HaveLineTexts (flat_map (field_rows by field p) fs)
line-texts by Symbol p fs up = (
  shown_text fs,
  rows-texted fs (field_rows by Symbol p)
      (λ f own. facts-texted (shown_text fs) f (own-lines fs f own) _) fs (texts-own fs up),
)
line-texts by Definition p fs up = (
  shown_text fs,
  rows-texted fs (field_rows by Definition p)
      (λ f own. facts-texted (shown_text fs) f (own-lines fs f own) _) fs (texts-own fs up),
)
line-texts by Called p fs up = (
  shown_text fs,
  rows-texted fs (field_rows by Called p)
      (λ f own. facts-texted (shown_text fs) f (own-lines fs f own) _) fs (texts-own fs up),
)
line-texts by Calling p fs up = (
  shown_text fs,
  rows-texted fs (field_rows by Calling p)
      (λ f own. facts-texted (shown_text fs) f (own-lines fs f own) _) fs (texts-own fs up),
)
line-texts by Including p fs up = (
  shown_text fs,
  rows-texted fs (field_rows by Including p)
      (λ f own. facts-texted (shown_text fs) f (own-lines fs f own) _) fs (texts-own fs up),
)
line-texts by Text p fs up = (
  shown_text fs,
  rows-texted fs (text_rows_in p)
      (λ f own. lines-texted (shown_text fs) f (own-lines fs f own) (lines_with p f.bytes)) fs
      (texts-own fs up),
)
line-texts by FileName p fs up = ((λ file line. unknown), names-texted by p fs)
