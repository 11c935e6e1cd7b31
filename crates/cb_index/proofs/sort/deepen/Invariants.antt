use Rattle.std.proofs.Common.{◌≡◌, ℕ, map, take}
use Rattle.std.specs.List.{AllByRecursion}
use Rattle.cb_index.specs.Kinds.{keyer_of}
use Rattle.cb_index.specs.steps.Quick.{IsDeep, with_prefix}
use Rattle.cb_index.proofs.sort.deepen.Given as goal

abbrev pub invariant-loop-entry : goal.invariant-loop-entry
invariant-loop-entry l = record {
  same : (p : ℕ) → map (with_prefix p) l.entries ≡ map (with_prefix p) l.initial.entries;
  deep : AllByRecursion (IsDeep (keyer_of l.kind) l.archive l.front) (take l.entry-index l.entries);
}
