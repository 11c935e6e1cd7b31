use Rattle.std.proofs.Common.{◌≡◌, ◌+◌, ◌≤◌, ◌==◌, not, length, take}
use Rattle.std.specs.List.{suffix_len}
use Rattle.cb_tags.proofs.tag_name.base_name.Given as goal

abbrev pub invariant-loop-start : goal.invariant-loop-start
invariant-loop-start l =
    (l.start ≤ length l.file) × (l.start + suffix_len (λ b. not (b == 47)) l.file
    ≡ length l.file + suffix_len (λ b. not (b == 47)) (take l.start l.file))

abbrev pub decreases-loop-start : goal.decreases-loop-start
decreases-loop-start l = l.start
