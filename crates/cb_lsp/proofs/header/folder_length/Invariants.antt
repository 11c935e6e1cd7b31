use Rattle.std.proofs.Common.{◌≡◌, ◌+◌, ◌-◌, ◌≤◌, ◌==◌, not, length, take}
use Rattle.std.specs.List.{suffix_len}
use Rattle.cb_lsp.proofs.header.folder_length.Given as goal

abbrev pub invariant-bytes : goal.invariant-bytes
invariant-bytes l = record {
  counted : suffix_len (λ b. not (b == 47)) l.name
      ≡ length l.name - l.end + suffix_len (λ b. not (b == 47)) (take l.end l.name);
  within : l.end ≤ length l.name;
}

abbrev pub decreases-bytes : goal.decreases-bytes
decreases-bytes l = l.end
