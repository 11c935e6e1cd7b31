use Rattle.std.proofs.Common.{◌≡◌, length}
use Rattle.cb_lsp.specs.steps.References.{from_place}
use Rattle.cb_lsp.proofs.reach.from_place.Given as goal

abbrev pub invariant-rows : goal.invariant-rows
invariant-rows l = (l.left ≡ l.ahead)
    × (from_place l.file l.place l.left ≡ from_place l.file l.place l.rows)

abbrev pub decreases-rows : goal.decreases-rows
decreases-rows l = length l.ahead
