-- The order of uses and calls.
use Rattle.std.specs.Prelude.{◌≡◌, ◌≤◌, ◌⊎◌, List}
use Rattle.std.specs.Cmp.Lexicographic.{slice_cmp}
use Rattle.std.specs.List.Sorted.{IsStrictlySortedBy}
use Rattle.std.specs.Ordering.{nat_cmp}
use Rattle.std.specs.declared.cmp.Ordering.TheVariants.{Less}
use Rattle.cb_index.specs.Files.{File}
use Rattle.cb_index.specs.Rows.{Fact}

-- a fact comes before another: its file goes first, or both are in one file and its name begins no
-- later
abbrev pub ComesBefore : Fact → Fact → Type 0
ComesBefore f g =
    (slice_cmp nat_cmp f.file g.file ≡ Less) ⊎ ((f.file ≡ g.file) × (f.place ≤ g.place))

-- the names of files ascend strictly in the order of their bytes
abbrev pub NamesAscend : List File → Type 0
NamesAscend = IsStrictlySortedBy (λ (f g : File). slice_cmp nat_cmp f.name g.name)
