-- What is left decides.
use Rattle.std.proofs.Common.{◌≡◌}
use Rattle.std.specs.Prelude.{drop, find}
use Rattle.cb_scan.specs.declared.facts.Include.{Include}
use Rattle.cb_lsp.specs.LocalRenames.{is_within}
use Rattle.cb_lsp.proofs.renamed_text.first_included.Given as goal

abbrev pub invariant-loop-i : goal.invariant-loop-i
invariant-loop-i l =
    find (λ (h : Include). is_within l.extent h.header.start) (drop l.i l.includes)
    ≡ find (λ (h : Include). is_within l.extent h.header.start) l.includes
