-- What is skipped is before the place.
use Rattle.std.proofs.Common.{◌≡◌, ◌≤◌, ℕ, length}
use Rattle.cb_lsp.specs.LocalRenames.{first_from}
use Rattle.cb_lsp.proofs.renamed_text.skip_before.Given as goal

abbrev pub invariant-spans : goal.invariant-spans
invariant-spans l = (place : ℕ) → l.fn.at ≤ place → first_from l.rest place ≡ first_from l.fn.spans place

abbrev pub decreases-spans : goal.decreases-spans
decreases-spans l = length l.rest
