-- How many rows a question can have.
use Rattle.std.proofs.Common.{◌≡◌, ◌∙◌, ℕ, Bool, ◌≤◌, ◌<◌, ◌^◌, true, false, cond, List, [], ◌∷◌, map}
use Rattle.std.proofs.Common.{filter, length, length-append, arith, Some, subst, sym, ap}
use Rattle.std.specs.List.{AllByRecursion, flat_map}
use Rattle.std.proofs.lemmas.List.{length-map}
use Rattle.cb_scan.specs.declared.profile.Profile.{Profile}
use Rattle.cb_scan.specs.declared.profile.Rules.{Rules}
use Rattle.cb_scan.specs.declared.profile.Rules.TheVariants.{Standard}
use Rattle.cb_scan.specs.Definitions.{facts_of}
use Rattle.cb_scan.specs.Profiles.{all_facts, facts_in, kept}
use Rattle.cb_scan.specs.TextFacts.{TextFacts}
use Rattle.cb_index.specs.Archived.{Archived, text_at, text_of}
use Rattle.cb_index.specs.Files.{IsThere, count_for, file_of, files_of, total}
use Rattle.cb_index.specs.Shelved.{AreTotals}
use Rattle.cb_index.specs.declared.entry.Shown.{Shown}
use Rattle.cb_index.specs.declared.entry.FactKind.{FactKind}
use Rattle.cb_index.specs.declared.entry.IndexKind.TheVariants.{Facts}
use Rattle.cb_index.specs.declared.totals.Totals.{Totals}
use Rattle.cb_index.specs.declared.entry.FactKind.TheVariants.{Uses, Callees, Callers}
use Rattle.cb_desk.specs.steps.Lent.{asked_by}
use Rattle.cb_desk.specs.declared.rows.Found.{Found}
use Rattle.cb_desk.specs.declared.bounds.TheConstants.{MOST_BYTES}
use Rattle.cb_desk.specs.declared.rows.Field.{Field}
use Rattle.cb_desk.specs.declared.rows.Field.TheVariants.{Symbol, Called, Calling, File as FileName}
use Rattle.cb_desk.specs.declared.rows.Field.TheVariants.{Including}
use Rattle.cb_desk.specs.Answer.{bytes_of, field_rows, file_row, found_called, found_calling}
use Rattle.cb_desk.specs.Answer.{found_include, found_use, found_row, found_rows, is_asked}
use Rattle.cb_desk.specs.Search.{holds}
use Rattle.cb_desk.specs.World.{AreValidFiles, File, widest_bounds}
use Rattle.cb_scan.proofs.FactsFew.{flat-few, includes-few}
use Rattle.cb_scan.proofs.WideLaws.{include_alone, same_includes, standard_is}
use Rattle.cb_index.proofs.TextLemmas.{text_there}
use Rattle.cb_desk.proofs.Valid.{all-along, length-kept}

found-few : (field : Field) (p : List ℕ) (f : File) (xs : List Found)
    → length (found_rows field p f xs) ≤ length xs
found-few field p f xs =
    omega (
      arith,
      length-map (filter (λ (x : Found). is_asked field p (bytes_of f.bytes x.key)) xs)
          (found_row f),
      length-kept (λ (x : Found). is_asked field p (bytes_of f.bytes x.key)) xs,
    )

-- ---- uses and calls are no more than those that a shelf counts
module _ (by : Profile) (p : List ℕ) (f : File) where
  uses-below : length (field_rows by Symbol p f) ≤ length (facts_in by f.bytes).uses
  uses-below =
      omega (
        arith,
        found-few Symbol p f (map found_use (facts_in by f.bytes).uses),
        length-map (facts_in by f.bytes).uses found_use,
      )

  called-below : length (field_rows by Called p f) ≤ length (facts_in by f.bytes).calls
  called-below =
      omega (
        arith,
        found-few Called p f (map found_called (facts_in by f.bytes).calls),
        length-map (facts_in by f.bytes).calls found_called,
      )

  calling-below : length (field_rows by Calling p f) ≤ length (facts_in by f.bytes).calls
  calling-below =
      omega (
        arith,
        found-few Calling p f (map found_calling (facts_in by f.bytes).calls),
        length-map (facts_in by f.bytes).calls found_calling,
      )

facts-below : (kind : FactKind) (p : List ℕ) (a : Archived) (s : Shown)
    → length (field_rows a.profile (asked_by kind) p (file_of a s))
    ≤ count_for (Facts kind) (Some (text_of a s.version))
facts-below Uses p a s = uses-below a.profile p (file_of a s)
facts-below Callees p a s = calling-below a.profile p (file_of a s)
facts-below Callers p a s = called-below a.profile p (file_of a s)

rows-total : (kind : FactKind) (p : List ℕ) (a : Archived) (shown : List Shown)
    → AllByRecursion (IsThere a) shown
    → length (flat_map (field_rows a.profile (asked_by kind) p) (files_of a shown))
    ≤ total (count_for (Facts kind)) a shown
rows-total kind p a [] there = omega arith
rows-total kind p a (s ∷ shown) there =
    let here : length (field_rows a.profile (asked_by kind) p (file_of a s))
    ≤ count_for (Facts kind) (text_at a s.version) =
    subst (λ o. length (field_rows a.profile (asked_by kind) p (file_of a s))
    ≤ count_for (Facts kind) o)
    (sym (text_there a s.version there.0.1)) (facts-below kind p a s) in
    omega (
      arith,
      length-append (field_rows a.profile (asked_by kind) p (file_of a s))
          (flat_map (field_rows a.profile (asked_by kind) p) (files_of a shown)),
      here,
      rows-total kind p a shown there.1,
    )

pub fact-rows-few : (kind : FactKind) (p : List ℕ) (a : Archived) (shown : List Shown) (n : Totals)
    → AllByRecursion (IsThere a) shown
    → AreTotals a shown n → n.uses < 2 ^ 64 → n.calls < 2 ^ 64
    → length (flat_map (field_rows a.profile (asked_by kind) p) (files_of a shown)) < 2 ^ 64
fact-rows-few Uses p a shown n there are uses calls =
    let e = are.uses in omega (arith, e, uses, rows-total Uses p a shown there)
fact-rows-few Callees p a shown n there are uses calls =
    let e = are.calls in omega (arith, e, calls, rows-total Callees p a shown there)
fact-rows-few Callers p a shown n there are uses calls =
    let e = are.calls in omega (arith, e, calls, rows-total Callers p a shown there)

-- ---- includes, and names of files
-- all rules find as many includes as the standard ones
as-many : (rules : Rules) (text : List ℕ)
    → length (all_facts rules text).includes ≡ length (facts_of text).includes
as-many rules text =
    sym (length-map (all_facts rules text).includes include_alone)
    ∙ ap length (same_includes rules text)
    ∙ length-map (all_facts Standard text).includes include_alone
    ∙ ap (λ (f : TextFacts). length f.includes) (standard_is text)

wanted-few : {X : Type 0} (b : Bool) (xs : List X) → length (kept b xs) ≤ length xs
wanted-few true xs = omega arith
wanted-few false xs = omega arith

including-few : (by : Profile) (p : List ℕ) (f : File) → length f.bytes ≤ MOST_BYTES
    → length (field_rows by Including p f) ≤ MOST_BYTES
including-few by p f size =
    omega (
      arith,
      found-few Including p f (map found_include (facts_in by f.bytes).includes),
      length-map (facts_in by f.bytes).includes found_include,
      wanted-few by.wanted.includes (all_facts by.rules f.bytes).includes,
      as-many by.rules f.bytes,
      includes-few f.bytes,
      size,
    )

names-few : (by : Profile) (p : List ℕ) (f : File) → length f.bytes ≤ MOST_BYTES
    → length (field_rows by FileName p f) ≤ MOST_BYTES
names-few by p f size =
    elim (holds p f.name) as (λ b. length (cond b (file_row f.name ∷ []) []) ≤ MOST_BYTES)
    [ true ↦ omega arith | false ↦ omega arith ]

all-few : (by : Profile) (field : Field) (p : List ℕ)
    → ((f : File) → length f.bytes ≤ MOST_BYTES → length (field_rows by field p f) ≤ MOST_BYTES)
    → (fs : List File) → AreValidFiles widest_bounds fs
    → length (flat_map (field_rows by field p) fs) < 2 ^ 64
all-few by field p each fs valid =
    let count = valid.count in
    let few = flat-few (field_rows by field p) MOST_BYTES fs
    (all-along (λ (f : File). length f.bytes ≤ MOST_BYTES)
    (λ f. length (field_rows by field p f) ≤ MOST_BYTES) fs each valid.sizes) in
    omega (arith, count, few)

pub including-rows-few : (by : Profile) (p : List ℕ) (fs : List File)
    → AreValidFiles widest_bounds fs
    → length (flat_map (field_rows by Including p) fs) < 2 ^ 64
including-rows-few by p fs valid = all-few by Including p (including-few by p) fs valid

pub name-rows-few : (by : Profile) (p : List ℕ) (fs : List File) → AreValidFiles widest_bounds fs
    → length (flat_map (field_rows by FileName p) fs) < 2 ^ 64
name-rows-few by p fs valid = all-few by FileName p (names-few by p) fs valid
