-- What is left decides.
use Rattle.std.proofs.Common.{◌≡◌}
use Rattle.std.specs.Prelude.{drop, find}
use Rattle.cb_names.specs.declared.local.LocalUse.{LocalUse}
use Rattle.cb_lsp.specs.LocalRenames.{is_beside_odd}
use Rattle.cb_lsp.proofs.renamed_text.first_odd.Given as goal

abbrev pub invariant-loop-i : goal.invariant-loop-i
invariant-loop-i l =
    find (λ (u : LocalUse). is_beside_odd l.text u.name) (drop l.i l.uses)
    ≡ find (λ (u : LocalUse). is_beside_odd l.text u.name) l.uses
