-- The rows that a shelf lends are those of the facts of its files.
use Rattle.std.proofs.Common.{◌≡◌, ◌∙◌, ap, refl, ℕ, Bool, true, false, cond, List, [], ◌∷◌, ◌++◌}
use Rattle.std.proofs.Common.{map, filter, not, sym, Option, Some, None}
use Rattle.std.specs.List.{flat_map}
use Rattle.std.specs.Option.{option_map}
use Rattle.std.specs.Str.{bytes_eq}
use Rattle.std.proofs.lemmas.List.{map-append}
use Rattle.std.proofs.lemmas.List.Elements.{filter-append}
use Rattle.cb_scan.specs.declared.facts.Call.{Call}
use Rattle.cb_scan.specs.declared.facts.Def.{Def}
use Rattle.cb_scan.specs.declared.facts.Include.{Include}
use Rattle.cb_scan.specs.declared.facts.Use.{Use}
use Rattle.cb_scan.specs.declared.lex.piece.Span.{Span}
use Rattle.cb_scan.specs.declared.profile.Profile.{Profile}
use Rattle.cb_scan.specs.Profiles.{facts_in, is_declaration}
use Rattle.cb_tags.specs.TagLines.{Tag}
use Rattle.cb_index.specs.Counts.{column}
use Rattle.cb_index.specs.Includes.{all_includes, file_includes, include_in}
use Rattle.cb_index.specs.Rows.{Fact, call_in, calls_in, calls_of, file_calls_in, file_calls_of}
use Rattle.cb_index.specs.Rows.{file_tags_named, file_uses_of, tag_in, tags_named, use_in, uses_of}
use Rattle.cb_index.specs.Shelved.{ShownFile, with_facts}
use Rattle.cb_desk.specs.declared.rows.Found.{Found}
use Rattle.cb_desk.specs.declared.rows.Field.TheVariants.{Symbol, Definition, Called, Calling}
use Rattle.cb_desk.specs.declared.rows.Field.TheVariants.{File as FileName, Including}
use Rattle.cb_desk.specs.Answer.{AnswerRow, bytes_of, field_rows, file_rows, found_called}
use Rattle.cb_desk.specs.Answer.{found_calling, found_def, found_include, found_row, found_use}
use Rattle.cb_desk.specs.Answer.{function_name, is_asked, is_defined, is_header, row_on}
use Rattle.cb_desk.specs.World.{File}
use Rattle.cb_desk.specs.steps.Lent.{row_around, row_named, row_of_tag}
use Rattle.cb_desk.proofs.BytesEqual.{bytes-turned}

-- ---- of each file, of all files
rows-flat : {Y : Type 0} (row : Y → AnswerRow) (g : File → List Y) (h : File → List AnswerRow)
    → ((f : File) → map row (g f) ≡ h f)
    → (fs : List File) → map row (flat_map g fs) ≡ flat_map h fs
rows-flat row g h each [] = refl
rows-flat row g h each (f ∷ fs) =
    map-append row (g f) (flat_map g fs) ∙ (λ i. each f i ++ rows-flat row g h each fs i)

filter-flat : {Y : Type 0} (test : Y → Bool) (g : File → List Y) (fs : List File)
    → filter test (flat_map g fs) ≡ flat_map (λ f. filter test (g f)) fs
filter-flat test g [] = refl
filter-flat test g (f ∷ fs) =
    filter-append test (g f) (flat_map g fs)
    ∙ ap (λ l. filter test (g f) ++ l) (filter-flat test g fs)

module _ {X Y : Type 0} (made : X → Y) (row : Y → AnswerRow) (found : X → Found) (f : File)
    (test : X → Bool) (asked : Found → Bool)
    (same-test : (x : X) → test x ≡ asked (found x))
    (same-row : (x : X) → row (made x) ≡ found_row f (found x)) where
  kept-rows : (xs : List X)
      → map row (map made (filter test xs)) ≡ map (found_row f) (filter asked (map found xs))
  kept-rows [] = refl
  kept-rows (x ∷ xs) =
      ap (λ b. map row (map made (cond b (x ∷ filter test xs) (filter test xs)))) (same-test x)
      ∙ (elim (asked (found x)) as
      (λ b. map row (map made (cond b (x ∷ filter test xs) (filter test xs)))
      ≡ map (found_row f)
      (cond b (found x ∷ filter asked (map found xs)) (filter asked (map found xs)))) [
        | true ↦ (λ i. same-row x i ∷ kept-rows xs i)
        | false ↦ kept-rows xs
      ])

-- ---- the function column
column-is : (text : List ℕ) (scope : Option Span)
    → column (option_map (bytes_of text) scope) ≡ function_name text scope
column-is text None = refl
column-is text (Some span) = refl

module _ (by : Profile) (p : List ℕ) where
  use-row : (f : File) (u : Use) → row_around (use_in f u) ≡ found_row f (found_use u)
  use-row f u = ap (λ name. row_on f.name f.bytes name u.line) (column-is f.bytes u.scope)

  uses-in : (f : File) → map row_around (file_uses_of by p f) ≡ field_rows by Symbol p f
  uses-in f =
      kept-rows (use_in f) row_around found_use f
      (λ (u : Use). bytes_eq p (bytes_of f.bytes u.name))
      (λ (x : Found). is_asked Symbol p (bytes_of f.bytes x.key))
      (λ u. bytes-turned p (bytes_of f.bytes u.name)) (use-row f) (facts_in by f.bytes).uses

  pub symbol-rows : (fs : List File)
      → map row_around (uses_of by p fs) ≡ flat_map (field_rows by Symbol p) fs
  unfolding uses_of
  symbol-rows fs = rows-flat row_around (file_uses_of by p) (field_rows by Symbol p) uses-in fs

  -- ---- definitions, without what is only declared
  abbrev is-kept : Tag → Bool
  is-kept t = not (is_declaration t.kind)

  module _ (f : File) where
    abbrev is-asked : Found → Bool
    is-asked x = is_asked Definition p (bytes_of f.bytes x.key)

    abbrev is-named : Def → Bool
    is-named d = bytes_eq p (bytes_of f.bytes d.name)

    abbrev rows-of : List Def → List AnswerRow
    rows-of ds = map row_of_tag (filter is-kept (map (tag_in f) ds))

    abbrev found-of : List Def → List AnswerRow
    found-of ds = map (found_row f) (filter is-asked (map found_def ds))

    -- one definition more, which is asked for or not, and defined or not
    defs-step : (b c : Bool) (d : Def) (xs ys : List Def) → is_defined d ≡ c
        → is-asked (found_def d) ≡ b → rows-of xs ≡ found-of ys
        → rows-of (cond b (d ∷ xs) xs) ≡ found-of (cond c (d ∷ ys) ys)
    defs-step true true d xs ys kept asked later =
        ap (λ x. map row_of_tag (cond x (tag_in f d ∷ filter is-kept (map (tag_in f) xs))
        (filter is-kept (map (tag_in f) xs)))) kept
        ∙ ap (λ l. row_of_tag (tag_in f d) ∷ l) later
        ∙ sym (ap (λ x. map (found_row f) (cond x
        (found_def d ∷ filter is-asked (map found_def ys))
        (filter is-asked (map found_def ys)))) asked)
    defs-step true false d xs ys kept asked later =
        ap (λ x. map row_of_tag (cond x (tag_in f d ∷ filter is-kept (map (tag_in f) xs))
        (filter is-kept (map (tag_in f) xs)))) kept
        ∙ later
    defs-step false true d xs ys kept asked later =
        later
        ∙ sym (ap (λ x. map (found_row f) (cond x
        (found_def d ∷ filter is-asked (map found_def ys))
        (filter is-asked (map found_def ys)))) asked)
    defs-step false false d xs ys kept asked later = later

    defs-from : (ds : List Def)
        → rows-of (filter is-named ds) ≡ found-of (filter is_defined ds)
    defs-from [] = refl
    defs-from (d ∷ ds) =
        ap (λ b. rows-of (cond b (d ∷ filter is-named ds) (filter is-named ds)))
        (bytes-turned p (bytes_of f.bytes d.name))
        ∙ defs-step (is-asked (found_def d)) (is_defined d) d (filter is-named ds)
        (filter is_defined ds) refl refl (defs-from ds)

  defs-in : (f : File) → map row_of_tag (filter is-kept (file_tags_named by p f))
      ≡ field_rows by Definition p f
  defs-in f = defs-from f (facts_in by f.bytes).defs

  pub definition-rows : (fs : List File)
      → map row_of_tag (filter is-kept (tags_named by p fs))
      ≡ flat_map (field_rows by Definition p) fs
  unfolding tags_named
  definition-rows fs =
      ap (map row_of_tag) (filter-flat is-kept (file_tags_named by p) fs)
      ∙ rows-flat row_of_tag (λ f. filter is-kept (file_tags_named by p f))
      (field_rows by Definition p) defs-in fs

  called-in : (f : File) → map row_named (file_calls_in by p f) ≡ field_rows by Called p f
  called-in f =
      kept-rows (call_in f) row_named found_called f
      (λ (c : Call). bytes_eq p (bytes_of f.bytes c.caller))
      (λ (x : Found). is_asked Called p (bytes_of f.bytes x.key))
      (λ c. bytes-turned p (bytes_of f.bytes c.caller)) (λ c. refl) (facts_in by f.bytes).calls

  pub called-rows : (fs : List File)
      → map row_named (calls_in by p fs) ≡ flat_map (field_rows by Called p) fs
  unfolding calls_in
  called-rows fs = rows-flat row_named (file_calls_in by p) (field_rows by Called p) called-in fs

  calling-in : (f : File) → map row_around (file_calls_of by p f) ≡ field_rows by Calling p f
  calling-in f =
      kept-rows (call_in f) row_around found_calling f
      (λ (c : Call). bytes_eq p (bytes_of f.bytes c.callee))
      (λ (x : Found). is_asked Calling p (bytes_of f.bytes x.key))
      (λ c. bytes-turned p (bytes_of f.bytes c.callee)) (λ c. refl) (facts_in by f.bytes).calls

  pub calling-rows : (fs : List File)
      → map row_around (calls_of by p fs) ≡ flat_map (field_rows by Calling p) fs
  unfolding calls_of
  calling-rows fs = rows-flat row_around (file_calls_of by p) (field_rows by Calling p) calling-in
      fs

  -- ---- includes
  abbrev asked-header : Fact → Bool
  asked-header x = is_header p x.name

  filter-made : (f : File) (is : List Include) → filter asked-header (map (include_in f) is)
      ≡ map (include_in f) (filter (λ (i : Include). is_header p (bytes_of f.bytes i.header)) is)
  filter-made f [] = refl
  filter-made f (x ∷ is) =
      elim (is_header p (bytes_of f.bytes x.header)) as
      (λ b. cond b (include_in f x ∷ filter asked-header (map (include_in f) is))
      (filter asked-header (map (include_in f) is))
      ≡ map (include_in f)
      (cond b (x ∷ filter (λ (i : Include). is_header p (bytes_of f.bytes i.header)) is)
      (filter (λ (i : Include). is_header p (bytes_of f.bytes i.header)) is))) [
        | true ↦ ap (λ l. include_in f x ∷ l) (filter-made f is)
        | false ↦ filter-made f is
      ]

  include-row : (f : File) (i : Include)
      → row_around (include_in f i) ≡ found_row f (found_include i)
  include-row f i = ap (λ name. row_on f.name f.bytes name i.line) (column-is f.bytes i.scope)

  includes-in : (f : File)
      → map row_around (filter asked-header (file_includes by f)) ≡ field_rows by Including p f
  includes-in f =
      ap (map row_around) (filter-made f (facts_in by f.bytes).includes)
      ∙ kept-rows (include_in f) row_around found_include f
      (λ (i : Include). is_header p (bytes_of f.bytes i.header))
      (λ (x : Found). is_asked Including p (bytes_of f.bytes x.key)) (λ i. refl) (include-row f)
      (facts_in by f.bytes).includes

  pub including-rows : (fs : List File) → map row_around (filter asked-header (all_includes by fs))
      ≡ flat_map (field_rows by Including p) fs
  unfolding all_includes
  including-rows fs =
      ap (map row_around) (filter-flat asked-header (file_includes by) fs)
      ∙ rows-flat row_around (λ f. filter asked-header (file_includes by f))
      (field_rows by Including p) includes-in fs

  -- ---- names of files
  pub name-rows : (fs : List File)
      → flat_map (λ (f : ShownFile). file_rows p f.name) (map (with_facts by) fs)
      ≡ flat_map (field_rows by FileName p) fs
  name-rows [] = refl
  name-rows (f ∷ fs) = ap (λ l. file_rows p f.name ++ l) (name-rows fs)
