-- The first arguments are looked at, and it is known from where on all spans are left.
use Rattle.std.proofs.Common.{◌≡◌, ◌≤◌, ℕ, take}
use Rattle.cb_lsp.specs.LocalRenames.{callers, first_from}
use Rattle.cb_lsp.proofs.renamed_text.callers.Given as goal

abbrev pub invariant-loop-i : goal.invariant-loop-i
invariant-loop-i l = record {
  found : l.found.items ≡ callers l.spans (take l.i l.arguments);
  left : (place : ℕ) → l.from ≤ place → first_from l.rest place ≡ first_from l.spans place;
}
