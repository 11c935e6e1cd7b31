use Rattle.std.proofs.Common.{◌≡◌, filter, length}
use Rattle.cb_lsp.specs.Searches.{is_like}
use Rattle.cb_lsp.proofs.symbols.next_like.Given as goal

abbrev pub invariant-rows : goal.invariant-rows
invariant-rows l = filter (is_like l.query) l.rows ≡ filter (is_like l.query) l.fn.rows

abbrev pub decreases-rows : goal.decreases-rows
decreases-rows l = length l.rows
