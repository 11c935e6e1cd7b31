-- The file name plays no part in what tells rows apart.
use Rattle.std.proofs.Common.{◌≡◌, ℕ, List, Some, None, refl}
use Rattle.std.specs.Prelude.{◌&&◌, nat_eq, slice_get, Option}
use Rattle.std.specs.Str.{bytes_eq}
use Rattle.cb_scan.specs.declared.facts.Call.{Call}
use Rattle.cb_scan.specs.declared.facts.Use.{Use}
use Rattle.cb_index.specs.Scanned.{Scanned, facts_of}
use Rattle.cb_index.specs.Counts.{column, function_of, same_row}
use Rattle.cb_index.specs.steps.Found.{fact_at, fact_of_call, fact_of_use}
use Rattle.cb_index.specs.declared.entry.FactKind.{FactKind}
use Rattle.cb_index.specs.declared.entry.FactKind.TheVariants.{Uses, Callees, Callers}

module _ (file other : List ℕ) (text : Scanned) where
  use_line : (u : Option Use) → (fact_of_use file text.bytes u).line ≡ (fact_of_use other text.bytes
      u).line
  use_line None = refl
  use_line (Some u) = refl

  call_line : (c : Option Call) → (fact_of_call file text.bytes c).line ≡ (fact_of_call other
      text.bytes c).line
  call_line None = refl
  call_line (Some c) = refl

  pub line_is : (sort : FactKind) (item : ℕ)
      → (fact_at sort file text item).line ≡ (fact_at sort other text item).line
  line_is Uses item = use_line (slice_get (facts_of text).uses item)
  line_is Callees item = call_line (slice_get (facts_of text).calls item)
  line_is Callers item = call_line (slice_get (facts_of text).calls item)

  use_function : (u : Option Use)
      → column (fact_of_use file text.bytes u).scope ≡ column (fact_of_use other text.bytes u).scope
  use_function None = refl
  use_function (Some u) = refl

  callee_function : (c : Option Call)
      → column (fact_of_call file text.bytes c).scope ≡ column (fact_of_call other text.bytes
      c).scope
  callee_function None = refl
  callee_function (Some c) = refl

  caller_function : (c : Option Call)
      → (fact_of_call file text.bytes c).name ≡ (fact_of_call other text.bytes c).name
  caller_function None = refl
  caller_function (Some c) = refl

  pub function_is : (sort : FactKind) (item : ℕ) → function_of sort (fact_at sort file text item)
      ≡ function_of sort (fact_at sort other text item)
  function_is Uses item = use_function (slice_get (facts_of text).uses item)
  function_is Callees item = callee_function (slice_get (facts_of text).calls item)
  function_is Callers item = caller_function (slice_get (facts_of text).calls item)

  pub same_anywhere : (sort : FactKind) (x y : ℕ)
      → same_row sort (fact_at sort file text x) (fact_at sort file text y)
      ≡ same_row sort (fact_at sort other text x) (fact_at sort other text y)
  same_anywhere sort x y i =
      nat_eq (line_is sort x i) (line_is sort y i)
      && bytes_eq (function_is sort x i) (function_is sort y i)
