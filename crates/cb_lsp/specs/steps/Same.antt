-- How the tokens of a text that are listed are found, a step at a time.
use Rattle.std.specs.Prelude.{◌≡◌, ℕ, Bool, ◌||◌, IfSome, List, map}
use Rattle.std.specs.BTreeSet as sorted
use Rattle.std.specs.List.{list_any}
use Rattle.std.specs.Ordering.{nat_cmp}
use Rattle.cb_index.specs.Rows.{Fact}
use Rattle.cb_index.specs.steps.Left.{fact_of_spot}
use Rattle.cb_scan.specs.declared.lex.piece.Span.{Span}
use Rattle.cb_lsp.specs.Same.{listed_in, starts_at}
use Rattle.cb_lsp.specs.declared.same.Judge.{Judge}
use Rattle.cb_lsp.specs.declared.same.Starts.{Starts}
use Rattle.cb_lsp.specs.declared.spots.Spots.{Spots}

-- a token begins at a place, as far as is known
abbrev pub has_start : Starts → ℕ → Bool
has_start s place = sorted.contains nat_cmp s.places place

-- what is known behind a step: also that tokens begin where a test passes
abbrev pub Adds : (test : ℕ → Bool) → (old new : Starts) → Type 0
Adds test old new = (place : ℕ) → has_start new place ≡ (has_start old place || test place)

-- tokens begin there, and nowhere else
abbrev pub AreStarts : List Span → Starts → Type 0
AreStarts ss s = (place : ℕ) → has_start s place ≡ list_any (starts_at place) ss

-- what is listed in the file of a judge, if there is one, is known
abbrev pub IsTold : Judge → Type 0
IsTold j =
    IfSome j.file (λ f. AreStarts
    (listed_in j.desk.now.timeline.present j.sort j.name.now f.now) j.starts)

-- the uses that are left
abbrev pub spots_left : Spots → List Fact
spots_left s = map fact_of_spot s.rest.now
