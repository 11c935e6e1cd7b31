-- The rows of the marks and of the frames.
use Rattle.std.proofs.Common.{◌≡◌, ◌≤◌, ℕ, zero, suc, true, false, cond, Option, Some, None, List}
use Rattle.std.proofs.Common.{[], ◌∷◌, ◌++◌, map, reverse, length, codes, Result, refl, sym, ap}
use Rattle.std.proofs.Common.{◌∙◌, subst, append_assoc, arith, slice_index_or}
use Rattle.std.proofs.lemmas.List.{reverse-append, length-map, length-reverse}
use Rattle.std.specs.Prelude.{IsErrAnd}
use Rattle.std.specs.List.{flat_map}
use Rattle.cb_scan.specs.Lines.{lines}
use Rattle.cb_scan.proofs.LineTable.{lines-few}
use Rattle.cb_session.specs.declared.input.Fault.{Fault}
use Rattle.cb_desk.specs.World.{World, File, Place, has_file, text_of_file, text_named}
use Rattle.cb_desk.proofs.PlaceLemmas.{no-text}
use Rattle.cb_session.specs.declared.input.Fault.TheVariants.{Write}
use Rattle.cb_tags.specs.Writers.{Writer}
use Rattle.cb_tags.specs.Writing.{PutsAll, PutsPrefix}
use Rattle.cb_tags.proofs.Prefixes.{PutsAll-after, PutsPrefix-more, PutsPrefix-after}
use Rattle.cb_desk.specs.Answer.{AnswerRow, line_row, unindented}
use Rattle.cb_session.specs.Output.{row_line, count_line, answer_lines}
use Rattle.cb_session.specs.Places.{place_row, stack_rows}
use Rattle.cb_session.specs.Writing.{Puts}
use Rattle.cb_session.proofs.Puts.{Puts-fault}

-- the rows of frames, from the last back
abbrev rows_back : List File → List Place → List ℕ
rows_back files frames = flat_map row_line (map (place_row files) (reverse frames))

-- the row of the last frame comes first
rows_back-last : (files : List File) (rest : List Place) (f : Place)
    → rows_back files (rest ++ f ∷ []) ≡ row_line (place_row files f) ++ rows_back files rest
rows_back-last files rest f =
    ap (λ frames. flat_map row_line (map (place_row files) frames)) (reverse-append rest (f ∷ []))

-- a stack of which so many frames are left: the rows of the others were written
pub record Shown (w : World) (old : Writer) (left : List Place) (out : Writer) : Type 0 where
  pub so_far : List ℕ
  pub wrote : PutsAll old out so_far
  pub rest : so_far ++ rows_back w.files left ≡ flat_map row_line (stack_rows w)

pub Shown-more : (w : World) (old out new : Writer) (left rest : List Place) (f : Place)
    → Shown w old left out → left ≡ rest ++ f ∷ []
    → PutsAll out new (row_line (place_row w.files f)) → Shown w old rest new
Shown-more w old out new left rest f s is wrote = record {
  so_far = s.so_far ++ row_line (place_row w.files f);
  wrote = PutsAll-after old out new s.so_far (row_line (place_row w.files f)) s.wrote wrote;
  rest = append_assoc s.so_far (row_line (place_row w.files f)) (rows_back w.files rest)
      ∙ ap (λ l. s.so_far ++ l) (sym (rows_back-last w.files rest f))
      ∙ ap (λ l. s.so_far ++ rows_back w.files l) (sym is)
      ∙ s.rest;
}

-- a row that could not be written
pub Shown-fault : {A : Type 0} (w : World) (old out new : Writer) (left rest : List Place)
    (f : Place) (r : Result A Fault) (fault : Fault)
    → Shown w old left out → left ≡ rest ++ f ∷ [] → IsErrAnd r (λ e. e ≡ fault)
    → fault ≡ Write → PutsPrefix out new (row_line (place_row w.files f))
    → Puts old new r (flat_map row_line (stack_rows w))
Shown-fault w old out new left rest f r fault s is e why p =
    let row = row_line (place_row w.files f) in
    let whole : s.so_far ++ (row ++ rows_back w.files rest) ≡ flat_map row_line (stack_rows w) =
    ap (λ l. s.so_far ++ l) (sym (rows_back-last w.files rest f))
    ∙ ap (λ l. s.so_far ++ rows_back w.files l) (sym is) ∙ s.rest in
    subst (λ l. Puts old new r l) whole
    (Puts-fault old new r fault _ e why
    (PutsPrefix-after old out new s.so_far (row ++ rows_back w.files rest) s.wrote
    (PutsPrefix-more out new row (rows_back w.files rest) p)))

-- there are as many rows as frames
pub stack_rows-length : (w : World) → length (stack_rows w) ≡ length w.frames
stack_rows-length w = length-map (reverse w.frames) (place_row w.files) ∙ length-reverse w.frames

-- an empty text has no line
no_lines : lines [] ≡ []
no_lines =
    let none : (xs : List (List ℕ)) → length xs ≤ 0 → xs ≡ [] = λ xs.
    elim xs as (λ ys. length ys ≤ 0 → ys ≡ [])
    [ [] ↦ λ h. refl | y ∷ ys ↦ λ h. absurd (omega arith) ] in
    none (lines []) (subst (λ n. n ≤ 0) (sym (length-map _ _)) (lines-few []))

-- and so the row of a line of it shows no bytes
pub line_row-empty : (file : List ℕ) (line : ℕ) → line_row file [] line
    ≡ record { file = file; function = codes "<unknown>"; line = line; text = [] }
unfolding unindented
line_row-empty file zero = refl
line_row-empty file (suc n) =
    let row : List (List ℕ) → AnswerRow = λ ls.
    record {
      file = file;
      function = codes "<unknown>";
      line = suc n;
      text = unindented (slice_index_or ls n []);
    } in
    ap row no_lines

-- the text of a name, as it is looked up
pub text-found : (files : List File) (name text : List ℕ) → Some text ≡ text_named files name
    → text ≡ text_of_file files name
text-found files name text is =
    (elim (has_file files name) as (λ b. Some text ≡ cond {A = Option (List ℕ)} b
    (Some (text_of_file files name)) None → text ≡ text_of_file files name) [
      | true ↦ λ e. cc
      | false ↦ λ e. cc
    ]) is

-- a name that is not there has no text
pub no-text-found : (files : List File) (name : List ℕ) → None ≡ text_named files name
    → text_of_file files name ≡ []
no-text-found files name is =
    (elim (has_file files name) as (λ b. has_file files name ≡ b → None ≡ cond {A = Option (List ℕ)}
    b (Some (text_of_file files name)) None → text_of_file files name ≡ []) [
      | true ↦ λ h e. cc
      | false ↦ λ h e. no-text files name h
    ]) refl is

-- the reply that shows the marks, place by place
pub marks-shown : (files : List File) (marks : List Place)
    → count_line (length marks) ++ flat_map (λ (p : Place). row_line (place_row files p)) marks
    ≡ answer_lines (map (place_row files) marks)
marks-shown files marks =
    ap (λ n. count_line n ++ flat_map (λ (p : Place). row_line (place_row files p)) marks)
    (sym (length-map marks (place_row files)))
    ∙ ap (λ l. count_line (length (map (place_row files) marks)) ++ l) (rows-of marks)
  where
    rows-of : (ps : List Place) → flat_map (λ (p : Place). row_line (place_row files p)) ps
        ≡ flat_map row_line (map (place_row files) ps)
    rows-of [] = refl
    rows-of (p ∷ ps) = ap (λ l. row_line (place_row files p) ++ l) (rows-of ps)
