use Rattle.std.proofs.Common.{◌≡◌, ◌≤◌, ◌+◌, ◌*◌, ℕ, Bool, List, map, length}
use Rattle.std.specs.List.{flat_map}
use Rattle.cb_desk.specs.declared.bounds.TheConstants.{MOST_BYTES}
use Rattle.cb_desk.specs.Replacement.{replaced_if_marked, replaced_text}
use Rattle.cb_desk.proofs.present.replacement.replaced_len.Given as goal

abbrev pub invariant-loop-line : goal.invariant-loop-line
invariant-loop-line l = record {
  sum : l.total + length (flat_map (replaced_if_marked l.old l.new) l.line-iterator)
      ≡ length (replaced_text l.old l.new (map (λ m. m.line) l.marks) l.source);
  bytes : length (flat_map (λ (x : List ℕ × Bool). x.0) l.line-iterator) ≤ MOST_BYTES;
  small : l.total + (MOST_BYTES + 1)
      * length (flat_map (λ (x : List ℕ × Bool). x.0) l.line-iterator)
      ≤ (MOST_BYTES + 1) * MOST_BYTES;
}
