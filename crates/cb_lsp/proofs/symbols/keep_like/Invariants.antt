use Rattle.std.proofs.Common.{◌≡◌, ◌≤◌, ◌-◌, ◌++◌, filter, length, map, take}
use Rattle.cb_index.specs.steps.Left.{tag_of_spot}
use Rattle.cb_lsp.specs.Searches.{is_like}
use Rattle.cb_lsp.proofs.symbols.keep_like.Given as goal

-- what is kept, and what is like the query behind it, stay together the same
abbrev pub invariant-kept : goal.invariant-kept
invariant-kept l =
    (1 ≤ l.count) × (l.count ≤ length l.kept) × (length l.kept ≡ length l.fn.kept)
    × (map tag_of_spot (take l.count l.kept) ++ filter (is_like l.query) l.rows
    ≡ map tag_of_spot (take 1 l.fn.kept) ++ filter (is_like l.query) l.fn.rows)

abbrev pub decreases-kept : goal.decreases-kept
decreases-kept l = length l.initial.kept - l.count
