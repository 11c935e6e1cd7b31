-- What is asked of the definitions of a name, and where names are looked at.
use Rattle.std.specs.Prelude.{◌≡◌, ℕ, Bool, IfSome, List}
use Rattle.std.specs.Str.{bytes_eq}
use Rattle.cb_tags.specs.TagLines.{Tag}
use Rattle.cb_lsp.specs.Nearest.{counts, is_in_view, is_included_function, is_object, is_own}
use Rattle.cb_lsp.specs.Nearest.{is_preferred}
use Rattle.cb_lsp.specs.Calls.{is_callable}
use Rattle.cb_lsp.specs.Closures.{is_in_closure}
use Rattle.cb_lsp.specs.declared.nearest.Test.{Test}
use Rattle.cb_lsp.specs.declared.nearest.Test.TheVariants as test
use Rattle.cb_lsp.specs.declared.nearest.Viewer.{Viewer}
use Rattle.cb_lsp.specs.steps.Closures.{is_held}

-- a definition passes
abbrev pub passes : Test → Tag → Bool
passes (test.Beside from) t = bytes_eq t.file from.now
passes (test.Own from declarations) t = is_own from.now declarations t
passes (test.InView closure) t = is_in_view (is_held closure.now) t
passes (test.Preferred declarations) t = is_preferred declarations t.kind
passes (test.Included closure) t = is_held closure.now t.file
passes (test.IncludedFunction closure) t = is_included_function (is_held closure.now) t
passes (test.Counts closure function) t = counts (is_held closure.now) function t
passes test.Object t = is_object t.kind
passes test.Callable t = is_callable t.kind

-- what is in the closure of the file of a viewer
abbrev pub seen_by : Viewer → (name : List ℕ) → Bool
seen_by v = is_in_closure v.desk.now.timeline.present v.from.now

-- the closure of a viewer that has one is that of its file
abbrev pub IsKnown : Viewer → Type 0
IsKnown v = IfSome v.closure (λ c. (name : List ℕ) → is_held c name ≡ seen_by v name)
