-- There is one among the tokens that are left, if there is one at all.
use Rattle.std.proofs.Common.{◌≡◌, ◌-◌}
use Rattle.std.specs.Prelude.{◌&&◌}
use Rattle.std.specs.List.{list_any, range_with_len}
use Rattle.cb_scan.specs.Bytes.{semicolon}
use Rattle.cb_names.specs.Pairs.{is_at}
use Rattle.cb_names.specs.Scoped.{is_behind}
use Rattle.cb_names.proofs.declared.has_stop.Given as goal

abbrev pub invariant-loop-at : goal.invariant-loop-at
invariant-loop-at l =
    list_any (λ k. is_at semicolon l.shape.items.items k && is_behind l.shape.items.items l.bracket k)
    (range_with_len l.at (l.body - l.at))
    ≡ list_any (λ k. is_at semicolon l.shape.items.items k && is_behind l.shape.items.items l.bracket k)
    (range_with_len 0 l.body)
