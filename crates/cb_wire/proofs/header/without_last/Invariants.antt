use Rattle.std.proofs.Common.{◌≡◌, ◌≤◌, ◌+◌, ◌-◌, length, take}
use Rattle.std.specs.List.{suffix_len}
use Rattle.cb_wire.specs.Fields.{is_blank}
use Rattle.cb_wire.proofs.header.without_last.Given as goal

abbrev pub invariant-blanks : goal.invariant-blanks
invariant-blanks l = record {
  within : l.end ≤ length l.text;
  counted : suffix_len is_blank l.text
      ≡ length l.text - l.end + suffix_len is_blank (take l.end l.text);
}

abbrev pub decreases-blanks : goal.decreases-blanks
decreases-blanks l = l.end
