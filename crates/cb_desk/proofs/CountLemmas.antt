-- The rows of the facts that an index gives are those of all facts, equal ones once.
use Rattle.std.proofs.Common.{◌≡◌, ◌∙◌, sym, ap, refl, subst, ℕ, ◌+◌, ◌<◌, ◌^◌, arith, Bool, true}
use Rattle.std.proofs.Common.{false, not, ◌&&◌, ◌==◌, cond, List, [], ◌∷◌, ◌++◌, map, filter}
use Rattle.std.proofs.Common.{length, length-append, bytes_eq, nat_cmp, Less}
use Rattle.std.specs.Cmp.Lexicographic.{slice_cmp}
use Rattle.std.specs.List.{AllByRecursion, flat_map}
use Rattle.std.specs.List.Sorted.{IsStrictlySortedBy}
use Rattle.std.proofs.lemmas.Bool.{false_from_ne_true}
use Rattle.std.proofs.lemmas.Bool.Decides.{Decides-eqb}
use Rattle.std.proofs.lemmas.List.{length-map, map-append}
use Rattle.std.proofs.lemmas.List.Elements.{filter-append}
use Rattle.std.proofs.lemmas.List.Sums.{sum_by-cons}
use Rattle.std.proofs.lemmas.Slice.Eq.{bytes_eq-Decides}
use Rattle.cb_scan.specs.declared.profile.Profile.{Profile}
use Rattle.cb_scan.specs.Lines.{line_text}
use Rattle.cb_index.specs.Counts.{rows_in_files, same_row, unlike, unlike_in_files}
use Rattle.cb_index.specs.Rows.{Fact, call_in, calls_in, calls_of, file_calls_in, file_calls_of}
use Rattle.cb_index.specs.Rows.{file_facts, file_uses_of, use_in, uses_of}
use Rattle.cb_index.specs.declared.entry.FactKind.{FactKind}
use Rattle.cb_index.specs.declared.entry.FactKind.TheVariants.{Uses, Callees, Callers}
use Rattle.cb_desk.specs.Answer.{AnswerRow, distinct, field_rows, row_eq, unindented}
use Rattle.cb_desk.specs.World.{File, IsAscending}
use Rattle.cb_desk.specs.steps.Lent.{asked_by, is_named, row_around, row_named, row_shown}
use Rattle.cb_desk.proofs.AnswerRows.{called-rows, calling-rows, symbol-rows}
use Rattle.cb_desk.proofs.EqualRows.{row_same}
use Rattle.cb_desk.proofs.Fresh.{fresh-distinct, fresh-few}
use Rattle.cb_desk.proofs.TextRowsApart.{not-below}
use Rattle.cb_desk.proofs.Valid.{all-along, all-filter, all-join}

all-map : {X Y : Type 0} (P : Y → Type 0) (m : X → Y) (xs : List X)
    → AllByRecursion (λ x. P (m x)) xs → AllByRecursion P (map m xs)
all-map P m [] all = tt
all-map P m (x ∷ xs) all = (all.0, all-map P m xs all.1)

-- ---- rows of two lists, where none of one list is equal to one of the other
Others : AnswerRow → List AnswerRow → Type 0
Others r rs = AllByRecursion (λ q. row_eq r q ≡ false) rs

kept-others : (r : AnswerRow) (rs : List AnswerRow) → Others r rs
    → filter (λ q. not (row_eq r q)) rs ≡ rs
unfolding Others
kept-others r [] other = refl
kept-others r (q ∷ rs) other = rw other.0 (ap (λ l. q ∷ l) (kept-others r rs other.1))

all-distinct : (P : AnswerRow → Type 0) (rs : List AnswerRow) → AllByRecursion P rs
    → AllByRecursion P (distinct rs)
unfolding distinct
all-distinct P [] all = tt
all-distinct P (r ∷ rs) all =
    (all.0, all-filter P (λ q. not (row_eq r q)) (distinct rs) (all-distinct P rs all.1))

distinct-join : (xs ys : List AnswerRow) → AllByRecursion (λ x. Others x ys) xs
    → distinct (xs ++ ys) ≡ distinct xs ++ distinct ys
unfolding distinct Others
distinct-join [] ys other = refl
distinct-join (x ∷ xs) ys other =
    ap (λ l. x ∷ filter (λ q. not (row_eq x q)) l) (distinct-join xs ys other.1)
    ∙ ap (λ l. x ∷ l) (filter-append (λ q. not (row_eq x q)) (distinct xs) (distinct ys))
    ∙ ap (λ l. x ∷ filter (λ q. not (row_eq x q)) (distinct xs) ++ l)
    (kept-others x (distinct ys) (all-distinct (λ y. row_eq x y ≡ false) ys other.0))

-- ---- facts of one file
-- a fact has the name of its file, and the text of its line
abbrev IsIn : File → Fact → Type 0
IsIn file f = (f.file ≡ file.name) × (f.text ≡ line_text file.bytes f.line)

-- where the files are equal, and the texts if the lines are, two columns are left
two-columns : (file function line text : Bool) → file ≡ true → (line ≡ true → text ≡ true)
    → file && function && line && text ≡ line && function
two-columns file true true text here same = rw (here, same refl) refl
two-columns file false true text here same = rw here refl
two-columns file true false text here same = rw here refl
two-columns file false false text here same = rw here refl

texts-same : (file : File) (f g : Fact) → IsIn file f → IsIn file g → f.line == g.line ≡ true
    → bytes_eq (unindented f.text) (unindented g.text) ≡ true
texts-same file f g one other line =
    (bytes_eq-Decides (unindented f.text) (unindented g.text)).1
    (ap unindented
    (one.1 ∙ ap (line_text file.bytes) ((Decides-eqb f.line g.line).0 line) ∙ sym other.1))

files-same : (file : File) (f g : Fact) → IsIn file f → IsIn file g → bytes_eq f.file g.file ≡ true
files-same file f g one other = (bytes_eq-Decides f.file g.file).1 (one.0 ∙ sym other.0)

-- a sort of facts, and their rows
module _ (sort : FactKind) (row : Fact → AnswerRow)
    (files-kept : (f : Fact) → (row f).file ≡ f.file)
    (agree : (file : File) (f g : Fact) → IsIn file f → IsIn file g
    → row_eq (row f) (row g) ≡ same_row sort f g) where
  module _ (file : File) where
    unlike-in : (fs : List Fact) → AllByRecursion (IsIn file) fs
        → AllByRecursion (IsIn file) (unlike sort fs)
    unfolding unlike
    unlike-in [] all = tt
    unlike-in (f ∷ fs) all = (
      all.0,
      all-filter (IsIn file) (λ g. not (same_row sort f g)) (unlike sort fs) (unlike-in fs all.1),
    )

    kept-rows : (f : Fact) → IsIn file f → (gs : List Fact) → AllByRecursion (IsIn file) gs
        → filter (λ q. not (row_eq (row f) q)) (map row gs)
        ≡ map row (filter (λ g. not (same_row sort f g)) gs)
    kept-rows f one [] all = refl
    kept-rows f one (g ∷ gs) all =
        let later = kept-rows f one gs all.1 in
        ap (λ b. cond (not b) (row g ∷ filter (λ q. not (row_eq (row f) q)) (map row gs))
        (filter (λ q. not (row_eq (row f) q)) (map row gs))) (agree file f g one all.0)
        ∙ (elim (same_row sort f g) as (λ b. cond (not b) (row g ∷ filter (λ q.
        not (row_eq (row f) q)) (map row gs)) (filter (λ q. not (row_eq (row f) q)) (map row gs))
        ≡ map row (cond (not b) (g ∷ filter (λ h. not (same_row sort f h)) gs)
        (filter (λ h. not (same_row sort f h)) gs))) [
          | true ↦ later
          | false ↦ ap (λ l. row g ∷ l) later
        ])

    rows-unlike : (fs : List Fact) → AllByRecursion (IsIn file) fs
        → distinct (map row fs) ≡ map row (unlike sort fs)
    unfolding distinct unlike
    rows-unlike [] all = refl
    rows-unlike (f ∷ fs) all =
        ap (λ l. row f ∷ filter (λ q. not (row_eq (row f) q)) l) (rows-unlike fs all.1)
        ∙ ap (λ l. row f ∷ l) (kept-rows f all.0 (unlike sort fs) (unlike-in fs all.1))

  -- ---- facts of all files
  -- rows of two files differ
  other-files : (name : List ℕ) (f g : Fact) → f.file ≡ name → slice_cmp nat_cmp name g.file ≡ Less
      → row_eq (row f) (row g) ≡ false
  other-files name f g here less =
      false_from_ne_true (row_eq (row f) (row g))
      (λ yes. let same : g.file ≡ name = sym (files-kept g)
      ∙ ap (λ (r : AnswerRow). r.file) (sym (row_same (row f) (row g) yes)) ∙ files-kept f ∙ here in
      not-below name (subst (λ n. slice_cmp nat_cmp name n ≡ Less) same less))

  module _ (facts : File → List Fact)
      (in-file : (file : File) → AllByRecursion (IsIn file) (facts file)) where
    above : (name : List ℕ) (files : List File)
        → AllByRecursion (λ (g : File). slice_cmp nat_cmp name g.name ≡ Less) files
        → AllByRecursion (λ (g : Fact). slice_cmp nat_cmp name g.file ≡ Less) (flat_map facts files)
    above name [] all = tt
    above name (file ∷ files) all =
        all-join (λ (g : Fact). slice_cmp nat_cmp name g.file ≡ Less) (facts file)
        (flat_map facts files)
        (all-along (IsIn file) (λ (g : Fact). slice_cmp nat_cmp name g.file ≡ Less) (facts file)
        (λ g is. subst (λ n. slice_cmp nat_cmp name n ≡ Less) (sym is.0) all.0) (in-file file))
        (above name files all.1)

    pub files-distinct : (files : List File) → IsAscending files
        → map row (unlike_in_files sort facts files) ≡ distinct (map row (flat_map facts files))
    unfolding distinct Others IsStrictlySortedBy
    files-distinct [] up = refl
    files-distinct (file ∷ files) up =
        let later = above file.name files up.0 in
        let apart = all-map (λ r. Others r (map row (flat_map facts files))) row (facts file)
        (all-along (IsIn file) (λ f. Others (row f) (map row (flat_map facts files))) (facts file)
        (λ f is. all-map (λ q. row_eq (row f) q ≡ false) row (flat_map facts files)
        (all-along (λ (g : Fact). slice_cmp nat_cmp file.name g.file ≡ Less)
        (λ g. row_eq (row f) (row g) ≡ false) (flat_map facts files)
        (λ g less. other-files file.name f g is.0 less) later)) (in-file file)) in
        map-append row (unlike sort (facts file)) (unlike_in_files sort facts files)
        ∙ (λ i. sym (rows-unlike file (facts file) (in-file file)) i ++ files-distinct files up.1 i)
        ∙ sym (ap distinct (map-append row (facts file) (flat_map facts files))
        ∙ distinct-join (map row (facts file)) (map row (flat_map facts files)) apart)

-- ---- uses and calls
all-in : {X : Type 0} (file : File) (made : X → Fact) → ((x : X) → IsIn file (made x))
    → (xs : List X) → AllByRecursion (IsIn file) (map made xs)
all-in file made is [] = tt
all-in file made is (x ∷ xs) = (is x, all-in file made is xs)

agree-uses : (file : File) (f g : Fact) → IsIn file f → IsIn file g
    → row_eq (row_around f) (row_around g) ≡ same_row Uses f g
agree-uses file f g one other =
    two-columns _ _ _ _ (files-same file f g one other) (texts-same file f g one other)

agree-callees : (file : File) (f g : Fact) → IsIn file f → IsIn file g
    → row_eq (row_around f) (row_around g) ≡ same_row Callees f g
agree-callees file f g one other =
    two-columns _ _ _ _ (files-same file f g one other) (texts-same file f g one other)

agree-callers : (file : File) (f g : Fact) → IsIn file f → IsIn file g
    → row_eq (row_named f) (row_named g) ≡ same_row Callers f g
agree-callers file f g one other =
    two-columns _ _ _ _ (files-same file f g one other) (texts-same file f g one other)

module _ (by : Profile) (p : List ℕ) (files : List File) (up : IsAscending files) where
  uses-distinct : map row_around (unlike_in_files Uses (file_uses_of by p) files)
      ≡ distinct (map row_around (uses_of by p files))
  unfolding uses_of
  uses-distinct =
      files-distinct Uses row_around (λ f. refl) agree-uses (file_uses_of by p)
      (λ file. all-in file (use_in file) (λ u. (refl, refl)) _) files up

  callees-distinct : map row_around (unlike_in_files Callees (file_calls_of by p) files)
      ≡ distinct (map row_around (calls_of by p files))
  unfolding calls_of
  callees-distinct =
      files-distinct Callees row_around (λ f. refl) agree-callees (file_calls_of by p)
      (λ file. all-in file (call_in file) (λ c. (refl, refl)) _) files up

  callers-distinct : map row_named (unlike_in_files Callers (file_calls_in by p) files)
      ≡ distinct (map row_named (calls_in by p files))
  unfolding calls_in
  callers-distinct =
      files-distinct Callers row_named (λ f. refl) agree-callers (file_calls_in by p)
      (λ file. all-in file (call_in file) (λ c. (refl, refl)) _) files up

  -- by kind: of facts with equal rows only the first has one
  pub facts-distinct : (kind : FactKind)
      → map (row_shown (is_named kind)) (unlike_in_files kind (file_facts by kind p) files)
      ≡ distinct (flat_map (field_rows by (asked_by kind) p) files)
  facts-distinct Uses = uses-distinct ∙ ap distinct (symbol-rows by p files)
  facts-distinct Callees = callees-distinct ∙ ap distinct (calling-rows by p files)
  facts-distinct Callers = callers-distinct ∙ ap distinct (called-rows by p files)

-- ---- as many rows as an index counts, and few
pub index-counts : (sort : FactKind) (facts : File → List Fact) (files : List File)
    → rows_in_files sort facts files ≡ length (unlike_in_files sort facts files)
index-counts sort facts [] = refl
index-counts sort facts (file ∷ files) =
    sum_by-cons (λ (f : File). length (unlike sort (facts f))) file files
    ∙ ap (λ n. length (unlike sort (facts file)) + n) (index-counts sort facts files)
    ∙ sym (length-append (unlike sort (facts file)) (unlike_in_files sort facts files))

pub few-distinct : (row : Fact → AnswerRow) (facts : List Fact) (rows : List AnswerRow)
    → map row facts ≡ distinct rows
    → length rows < 2 ^ 64 → length facts < 2 ^ 64
few-distinct row facts rows is few =
    let same = ap length is in
    let long = length-map facts row in
    let less = fresh-few [] rows in
    let all = ap length (fresh-distinct rows) in
    omega (arith, same, long, less, all, few)
