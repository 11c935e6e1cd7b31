use Rattle.std.proofs.Common.{◌≡◌, ◌+◌, ◌-◌, length, find}
use Rattle.std.specs.List.{range_with_len}
use Rattle.std.specs.Str.{bytes_eq}
use Rattle.cb_scan.specs.Lines.{lines, line_text}
use Rattle.cb_tags.specs.Addresses.{finds}
use Rattle.cb_tags.proofs.address.Address.find.Given as goal

abbrev pub invariant-loop-index : goal.invariant-loop-index
invariant-loop-index l =
    find (λ n. bytes_eq l.self (line_text l.source n))
    (range_with_len (l.index + 1) (length (lines l.source) - l.index)) ≡ finds l.source l.self
