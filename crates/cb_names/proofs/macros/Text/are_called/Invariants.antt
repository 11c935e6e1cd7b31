-- The first tokens are looked at.
use Rattle.std.proofs.Common.{◌≡◌}
use Rattle.std.specs.List.{list_any, range_with_len}
use Rattle.cb_names.specs.Macros.{is_called}
use Rattle.cb_names.proofs.macros.Text.are_called.Given as goal

abbrev pub invariant-loop-at : goal.invariant-loop-at
invariant-loop-at l =
    l.called
    ≡ list_any (is_called l.self.bytes.now l.self.listed.now l.self.tokens.now)
    (range_with_len 0 l.at)
