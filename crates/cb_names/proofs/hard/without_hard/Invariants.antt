-- The tokens up to here are kept or left out, and how far attributes reach is known.
use Rattle.std.proofs.Common.{◌≡◌, ◌≤◌, ℕ, length}
use Rattle.std.specs.List.{flat_map, list_any, range_with_len}
use Rattle.cb_names.specs.HardAttributes.{holds, kept_at}
use Rattle.cb_names.specs.steps.Hiding.{reaches}
use Rattle.cb_names.proofs.hard.without_hard.Given as goal

abbrev pub invariant-loop-at : goal.invariant-loop-at
invariant-loop-at l = record {
  kept : l.kept.items ≡ flat_map (kept_at l.items) (range_with_len 0 l.at);
  few : length l.kept.items ≤ l.at;
  last : (i : ℕ) → list_any (holds l.items i) (range_with_len 0 l.at) ≡ reaches l.last i;
}
