-- What is left decides.
use Rattle.std.proofs.Common.{◌≡◌, ◌-◌, length}
use Rattle.std.specs.Prelude.{◌&&◌, nat_lt}
use Rattle.std.specs.List.{list_any, range_with_len}
use Rattle.cb_names.specs.Parameters.{list_end}
use Rattle.cb_names.specs.SpacedNames.{is_behind_name}
use Rattle.cb_names.proofs.spaced.is_one_listed.Given as goal

abbrev pub invariant-loop-at : goal.invariant-loop-at
invariant-loop-at l =
    list_any (λ j. is_behind_name l.text l.items l.name j && nat_lt j (list_end l.items))
    (range_with_len l.at (length l.items - l.at))
    ≡ list_any (λ j. is_behind_name l.text l.items l.name j && nat_lt j (list_end l.items))
    (range_with_len 0 (length l.items))
