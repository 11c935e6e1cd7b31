use Rattle.std.proofs.Common.{◌≡◌, drop, fold, map}
use Rattle.cb_lsp.specs.Outgoing.{Called}
use Rattle.cb_lsp.specs.Refresh.{with_file}
use Rattle.cb_lsp.specs.steps.Outgoing.{called_rows}
use Rattle.cb_lsp.proofs.outgoing.add_files.Given as goal

-- what is left leads to what all of them lead to
abbrev pub invariant-loop-i : goal.invariant-loop-i
invariant-loop-i l =
    fold with_file l.files (map (λ (c : Called). c.0.file) (called_rows (drop l.i l.called)))
    ≡ fold with_file l.fn.files (map (λ (c : Called). c.0.file) (called_rows l.called))
