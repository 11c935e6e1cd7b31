-- Where the name in the function column of an item stands in the text.
use Rattle.std.specs.Prelude.{ℕ, slice_get, Option, Some, None}
use Rattle.cb_scan.specs.declared.facts.Use.{Use}
use Rattle.cb_scan.specs.declared.lex.piece.Span.{Span}
use Rattle.cb_scan.specs.TextFacts.{TextFacts}
use Rattle.cb_index.specs.Items.{callee_span, caller_span}
use Rattle.cb_index.specs.declared.entry.FactKind.{FactKind}
use Rattle.cb_index.specs.declared.entry.FactKind.TheVariants.{Uses, Callees, Callers}

-- of a use that may be there
abbrev pub scope_of : Option Use → Option Span
scope_of None = None
scope_of (Some u) = u.scope

-- of an item, if the name is there
abbrev pub function_span : FactKind → TextFacts → ℕ → Option Span
function_span Uses f item = scope_of (slice_get f.uses item)
function_span Callees f item = caller_span f item
function_span Callers f item = callee_span f item
