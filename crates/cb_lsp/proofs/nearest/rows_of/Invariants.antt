use Rattle.std.proofs.Common.{◌≡◌, ◌++◌, filter, length, map}
use Rattle.cb_tags.specs.TagLines.{Tag, tag_of}
use Rattle.cb_lsp.specs.Nearest.{takes}
use Rattle.cb_lsp.proofs.nearest.rows_of.Given as goal

abbrev pub invariant-rows : goal.invariant-rows
invariant-rows l =
    map tag_of l.found.items ++ filter (λ (t : Tag). takes l.kinds t.kind) l.left
    ≡ filter (λ (t : Tag). takes l.kinds t.kind) l.fn.rows

abbrev pub decreases-rows : goal.decreases-rows
decreases-rows l = length l.left
