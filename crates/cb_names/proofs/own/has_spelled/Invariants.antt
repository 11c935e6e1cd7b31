-- What is left decides.
use Rattle.std.proofs.Common.{◌≡◌, ◌-◌, length}
use Rattle.std.specs.List.{list_any, range_with_len}
use Rattle.cb_names.specs.Labels.{is_spelled}
use Rattle.cb_names.proofs.own.has_spelled.Given as goal

abbrev pub invariant-loop-at : goal.invariant-loop-at
invariant-loop-at l =
    list_any (λ k. is_spelled l.text l.items k l.name) (range_with_len l.at (length l.items - l.at))
    ≡ list_any (λ k. is_spelled l.text l.items k l.name) (range_with_len 0 (length l.items))
