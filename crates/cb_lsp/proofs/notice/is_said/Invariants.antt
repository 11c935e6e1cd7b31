-- What is left decides.
use Rattle.std.proofs.Common.{◌≡◌, ◌≤◌, ◌-◌, drop}
use Rattle.json.specs.Value.{items_view}
use Rattle.cb_lsp.specs.FileEvents.{is_said}
use Rattle.cb_lsp.proofs.notice.is_said.Given as goal

abbrev pub invariant-loop-i : goal.invariant-loop-i
invariant-loop-i l =
    (l.i ≤ 64)
    × (is_said (64 - l.i) l.kind l.uri (items_view (drop l.i l.events))
    ≡ is_said 64 l.kind l.uri (items_view l.events))
